-- What always holds of a sender, after each thing that is done to its claims. Assumes nothing.
use Rattle.std.proofs.Common.{◌≡◌, ℕ, ◌+◌, ◌^◌, ◌<◌, ◌≤◌, Bool, false, length, get_or, set, sym, arith}
use Rattle.std.proofs.lemmas.List.{length-append, length-set}
use Rattle.std.proofs.lemmas.List.Sums.{length-filter, count_by-le-length}
use Rattle.protocol.specs.declared.segment.Claim.{Claim}
use Rattle.protocol.specs.declared.segment.Segment.{Segment}
use Rattle.protocol.specs.Calls.{State}
use Rattle.protocol.specs.Claims.{spend}
use Rattle.protocol.specs.Lists.{kept_by}
use Rattle.claims.specs.Tables.{marked, no_claim}
use Rattle.claims.proofs.Laid.{laid_kept, laid_marked, laid_push, spent_few, spent_push, spent_set, spend_set}
use Rattle.sender.specs.Parts.{entered}
use Rattle.sender.specs.Views.{Sound}

-- a sender that s stands for, with the claim at the place i marked
abbrev pub with_mark : {C : Type 0} → State C → ℕ → State C
with_mark s i = record s { claims = set s.claims i (marked (get_or s.claims i no_claim)); duplicates = s.duplicates + 1 }

module _ {C : Type 0} {s : State C} (sound : Sound s) where
  -- some claims go with an end proved, and no duplicate is left that was counted for one of them
  pub sound_kept : (p : Claim → Bool) (sum end : ℕ) → end ≤ s.sent → s.duplicates ≡ 0 → Sound (record s { claims = kept_by p s.claims; settled = sum; proved = end })
  sound_kept p sum end within none = record {
    within = within;
    limited = sound.limited;
    ordered = laid_kept p 0 s.claims s.sent sound.ordered;
    few = let f = sound.few in rw length-filter (omega (arith, count_by-le-length p s.claims));
    marked = omega (arith, none);
  }

  -- the claim of the next segment is entered
  pub sound_entered : (g : Segment) → g.start ≡ s.sent → 0 < g.length → s.sent + g.length ≤ 2 ^ 40 → length s.claims < 64 → Sound (entered s g)
  sound_entered g next some holds room = record {
    within = let w = sound.within in omega arith;
    limited = holds;
    ordered = laid_push 0 s.claims s.sent _ sound.ordered next some;
    few = rw length-append (omega (arith, room));
    marked = spent_push s.duplicates s.claims _ sound.marked;
  }

  -- there are no more duplicates than claims
  pub duplicates_few : s.duplicates ≤ length s.claims
  duplicates_few = let m = sound.marked in omega (arith, spent_few s.claims)

  module _ (i : ℕ) (there : i < length s.claims) where
    -- a duplicate is counted for a claim that was not spent, and marks it
    pub sound_marked : (get_or s.claims i no_claim).spent ≡ false → Sound (with_mark s i)
    sound_marked unspent = record {
      within = sound.within;
      limited = sound.limited;
      ordered = laid_marked 0 s.claims s.sent i sound.ordered there;
      few = rw length-set sound.few;
      marked = let m = sound.marked in omega (arith, spent_set s.claims i there unspent);
    }

    -- no other claim starts there, so that the mark of this one is what the rules say of its start
    pub marked_is_spent : set s.claims i (marked (get_or s.claims i no_claim)) ≡ spend (get_or s.claims i no_claim).segment.start s.claims
    marked_is_spent = sym (spend_set 0 s.claims s.sent i sound.ordered there)
