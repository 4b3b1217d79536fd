-- What a duplicate is counted for, and how many there can be. Assumes nothing.
use Rattle.std.proofs.Common.{◌≡◌, ℕ, ◌+◌, ◌≤◌, Bool, true, false, cond, not, ◌&&◌, eqb, ltb, List, ◌∷◌, Some, arith}
use Rattle.std.proofs.lemmas.List.Sums.{sum_by_push}
use Rattle.std.proofs.lemmas.Bool.Decides.{nat_tests}
use Rattle.congestion.specs.Control.{Control}
use Rattle.protocol.specs.declared.segment.Segment.{Segment}
use Rattle.protocol.specs.Lists.{count, member}
use Rattle.protocol.specs.Segments.{starts_at}
use Rattle.protocol.specs.Calls.{Call, State, Reply}
use Rattle.protocol.specs.History.{History, noted, segments, farthest}
use Rattle.protocol.specs.Duplicates.{counted_for, starts_counted, beyond, Counted}
use Rattle.protocol.proofs.Lists.{any_wider, count_wider, count_more}
use Rattle.protocol.proofs.Steps.{Step, Found}
use Rattle.protocol.proofs.Steps.Step.{sends, counts}
use Rattle.protocol.proofs.ClaimTable.{ClaimTable, found_segment, found_new}

-- it starts beyond e, and a duplicate was counted for it
abbrev used : ℕ → List ℕ → Segment → Bool
used e os g = ltb e g.start && member g.start os

-- each of the duplicates has a segment of its own
abbrev pub Backed : {C : Type 0} → State C → History → Type 0
Backed s h = s.duplicates ≤ count (used s.proved (starts_counted h)) (segments h)

module _ {C : Type 0} {ws : List ℕ} {s : State C} (h : History) (t : ClaimTable ws s (segments h) (starts_counted h)) where
  -- the claim found is one more that is used
  one_more : (x o : ℕ) → Found s x o → Backed s h → s.duplicates + 1 ≤ count (used s.proved (o ∷ starts_counted h)) (segments h)
  one_more x o found backed =
      let before = used s.proved (starts_counted h) in
      let after = used s.proved (o ∷ starts_counted h) in
      let new = any_wider _ (λ g. after g && not (before g)) (λ g passes. grind (arith, nat_tests)) (segments h) (found_segment t x o found) in
      omega (arith, count_more before after (λ g passes. grind (arith, nat_tests)) (segments h) new)

  pub keeps_backed : {k : Control C} {x : Call} {r : Reply C} → Step k s x r → Backed s h → Backed r.state (noted x r.answer h)
  keeps_backed (sends some enough) backed = rw (sum_by_push (λ g. cond (used s.proved (starts_counted h) g) 1 0)) (omega arith)
  keeps_backed (counts {x} o true level found) backed = one_more x o found backed
  keeps_backed (counts {x} o false level found) backed = one_more x o found backed
  keeps_backed other backed = omega arith

  module _ (proved : s.proved ≡ farthest h) where
    pub duplicates_bounded : Backed s h → s.duplicates ≤ beyond h
    duplicates_bounded backed =
        omega (arith, count_wider (used s.proved (starts_counted h)) (λ g. ltb (farthest h) g.start) (λ g passes. grind (arith, nat_tests)) (segments h))

    pub counted_so : {k : Control C} {x : Call} {r : Reply C} → Step k s x r → (o : ℕ) → counted_for r.answer ≡ Some o → Counted h x o
    counted_so (counts {x} q third level found) o is =
        let same : q ≡ o = grind arith in
        let new = found_new t x q found in
        record {
          beyond_proved = omega arith;
          first_time = rw same at new.2;
          by_its_echo = any_wider _ (λ g. starts_at o g && eqb g.single x) (λ g passes. grind (arith, nat_tests)) (segments h) (found_segment t x q found);
        }
    counted_so other o is = grind arith
