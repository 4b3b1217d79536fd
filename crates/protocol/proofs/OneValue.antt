-- Of the 2^64 values of a summed nonce, one gets the first acknowledgement past its segment's start accepted. Assumes nothing.
use Rattle.std.proofs.Common.{◌≡◌, ℕ, ◌+◌, ◌-◌, ◌*◌, ◌%◌, ◌^◌, ◌<◌, ◌≤◌, false, cond, ◌↔◌, eqb, List, [], ◌∷◌, ◌++◌, length, set, refl, ap, ◌∙◌, arith}
use Rattle.std.proofs.lemmas.Bool.Decides.{nat_tests}
use Rattle.congestion.specs.Control.{Control, Lawful}
use Rattle.protocol.specs.declared.segment.Segment.{Segment}
use Rattle.protocol.specs.Lists.{sum_of, count}
use Rattle.protocol.specs.Segments.{begun_before, ends_past, starts_at}
use Rattle.protocol.specs.Claims.{on, nonce}
use Rattle.protocol.specs.Calls.{Call, State}
use Rattle.protocol.specs.Calls.Call.{send, acknowledge}
use Rattle.protocol.specs.Calls.Answer.{sent}
use Rattle.protocol.specs.SenderRules.{true_sum, reply, opened}
use Rattle.protocol.specs.History.{History, segments, bytes}
use Rattle.protocol.specs.Duplicates.{starts_counted}
use Rattle.protocol.specs.Runs.{state, answer, history}
use Rattle.protocol.specs.Promises.{reaches, One, Unreached, Passes}
use Rattle.protocol.proofs.Lists.{sum_of-map, sum_apart, sum_agree, sum_kept}
use Rattle.protocol.proofs.Steps.{step}
use Rattle.protocol.proofs.ClaimTable.{ClaimTable, claim}
use Rattle.protocol.proofs.Invariant.{follows}
use Rattle.protocol.proofs.Refusals.{refusal_is}
use Rattle.protocol.proofs.Unreached.{Early, Held, unreached, earlier, drew, still_held}
use Rattle.protocol.proofs.OtherNonce.{renonced, other, left, other_reply}

-- a sum modulo 2^64 has one value for each of its terms
solve : (a m : ℕ) → m < 2 ^ 64 → One (λ v. m ≡ (a + v) % 2 ^ 64)
solve a m small = ((m + (2 ^ 64 - a % 2 ^ 64)) % 2 ^ 64, omega arith, omega arith, λ u below same. omega arith)

module _ {C : Type 0} (k : Control C) (c : C) (laws : Lawful k) (ws : List ℕ) where
  -- the sender after a list of calls, and its history
  abbrev now : List Call → State C
  now = state k (opened c ws)

  abbrev past : List Call → History
  past = history k (opened c ws)

  tabled : (calls : List Call) → ClaimTable ws (now calls) (segments (past calls)) (starts_counted (past calls))
  tabled calls = (follows k c laws ws calls).table

  -- with v for the word that the segment at o draws, after N segments, a run differs in that segment's claim only
  module _ (o v N : ℕ) (room : 2 * N < length ws) where
    abbrev Alike : List Call → Type 0
    Alike calls = state k (opened c (set ws (2 * N) v)) calls ≡ other o v (left k o v N ws room (past calls)) (now calls)

    alike_more : (x : Call) (calls : List Call) → eqb (length (segments (past calls))) N ≡ eqb (now calls).sent o → reaches o x (past calls) ≡ false → Alike calls → Alike (x ∷ calls)
    alike_more x calls placed short alike = ap (λ s. (reply k s x).state) alike ∙ other_reply k o v N ws room (past calls) (tabled calls) placed x short

    alike_before : (calls : List Call) → Early o N (length (segments (past calls))) (now calls).sent → Alike calls
    alike_before [] early = refl
    alike_before (x ∷ calls) early =
        let sooner = earlier (past calls) (step k (now calls) x) o N early in
        alike_more x calls sooner.2 (unreached o (past calls) x (omega (arith, (tabled calls).sent))) (alike_before calls sooner)

  -- the segment g of a send after the calls before
  module _ (before : List Call) (l : ℕ) (g : Segment) (is : answer k (opened c ws) before (send l) ≡ sent g) where
    abbrev N : ℕ
    N = length (segments (past before))

    abbrev calls : List Call → List Call
    calls after = after ++ (send l ∷ before)

    abbrev Quiet : List Call → Type 0
    Quiet after = Unreached k (opened c ws) before l g.start after

    drawn : ((now before).sent ≡ g.start) × (2 * N < length ws) × Held g.start N (segments (past (calls []))) (now (calls [])).sent (now (calls [])).proved
    drawn = drew (past before) (tabled before) (step k (now before) (send l)) is

    held : (after : List Call) → Quiet after → Held g.start N (segments (past (calls after))) (now (calls after)).sent (now (calls after)).proved
    held [] quiet = drawn.2
    held (x ∷ after) quiet = still_held (past (calls after)) (tabled (calls after)) (step k (now (calls after)) x) (held after quiet.1) quiet.0

    alike_after : (v : ℕ) (after : List Call) → Quiet after → Alike g.start v N drawn.1 (calls after)
    alike_after v [] quiet =
        let at = drawn.0 in
        alike_more g.start v N drawn.1 (send l) before (grind (arith, nat_tests)) refl (alike_before g.start v N drawn.1 before (omega arith, omega arith, grind (arith, nat_tests)))
    alike_after v (x ∷ after) quiet =
        let there = held after quiet.1 in
        alike_more g.start v N drawn.1 x (calls after) (grind (arith, nat_tests)) quiet.0 (alike_after v after quiet.1)

    -- an acknowledgement after all that, past the start of g and within the bytes sent
    module _ (after : List Call) (quiet : Quiet after) (e m x : ℕ) (reached : g.start < e) (within : e ≤ bytes (segments (past (calls after)))) where
      abbrev here : State C
      here = now (calls after)

      -- with v for the summed nonce of g
      abbrev having : ℕ → State C
      having v = other g.start v (left k g.start v N ws drawn.1 (past (calls after))) here

      one_claim : count (on (starts_at g.start)) here.claims ≡ 1
      one_claim =
          let gs = segments (past (calls after)) in
          let t = tabled (calls after) in
          let there = held after quiet in
          let unproved = there.unproved in
          let one = λ (f : Segment). cond {A = ℕ} (starts_at g.start f) 1 0 in
          let kept = sum_kept one (ends_past here.proved) gs ∙ sum_agree _ one gs (λ i d within. let lies = t.lie i d within in grind (arith, nat_tests)) in
          rw (t.claims, sum_of-map (claim (starts_counted (past (calls after)))) (on (starts_at g.start)) (λ d. 1), kept) there.one

      -- the true sum without that nonce
      rest : ℕ
      rest = here.settled + sum_of (on (begun_before e)) (λ d. cond (on (starts_at g.start) d) 0 (nonce d)) here.claims

      sum_having : (v : ℕ) → true_sum (having v) e ≡ (rest + v) % 2 ^ 64
      unfolding rest
      sum_having v =
          let apart = sum_apart (on (starts_at g.start)) (on (begun_before e)) (λ d at. grind (arith, nat_tests)) nonce v here.claims in
          rw (sum_of-map (renonced g.start v) (on (begun_before e)) nonce, apart, one_claim) (omega arith)

      abbrev Accepts : ℕ → Type 0
      Accepts = Passes k (opened c ws) before l after (acknowledge e m x)

      accepts : (v : ℕ) → Accepts v ↔ (m ≡ (rest + v) % 2 ^ 64)
      accepts v =
          let sum = sum_having v in
          let there = held after quiet in
          let all = (tabled (calls after)).sent in
          rw (refusal_is, alike_after v after quiet) (λ none. grind (arith, nat_tests), λ right. grind (arith, nat_tests))

      pub one_accepted : m < 2 ^ 64 → One Accepts
      one_accepted small =
          let (v, below, right, only) = solve rest m small in
          (v, below, (accepts v).1 right, λ u fits pass. only u fits ((accepts u).0 pass))
