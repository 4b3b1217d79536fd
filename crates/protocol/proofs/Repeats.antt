-- When a repeat is due, which segment an order names, and what a repeat answers. Assumes nothing.
use Rattle.std.proofs.Common.{◌≡◌, ℕ, Bool, true, List, [], ◌∷◌, map, Contains, refl, arith}
use Rattle.std.proofs.lemmas.List.Folds.{list_any-append}
use Rattle.std.proofs.lemmas.List.Elements.{Contains-append_right}
use Rattle.std.proofs.lemmas.Bool.{false≢true, cond_both}
use Rattle.std.proofs.lemmas.Bool.Decides.{nat_tests}
use Rattle.congestion.specs.Control.{Control}
use Rattle.protocol.specs.declared.segment.Segment.{Segment}
use Rattle.protocol.specs.declared.segment.Claim.{Claim}
use Rattle.protocol.specs.Lists.{any, leads, kept_by}
use Rattle.protocol.specs.Segments.{starts_at, ends_past}
use Rattle.protocol.specs.Claims.{on, oldest, segment_at}
use Rattle.protocol.specs.Calls.{Call, State, Reply}
use Rattle.protocol.specs.Calls.Call.{take, repeat}
use Rattle.protocol.specs.Calls.Answer.{ordered, repeated}
use Rattle.protocol.specs.SenderRules.{reply}
use Rattle.protocol.specs.History.{History, noted, segments, EndToEnd}
use Rattle.protocol.specs.Duplicates.{starts_counted}
use Rattle.protocol.proofs.Lists.{leads-map, any_wider}
use Rattle.protocol.proofs.Steps.{Step, orders_so, repeats_so}
use Rattle.protocol.proofs.Steps.Step.{sends, counts, expires, returns}
use Rattle.protocol.proofs.ClaimTable.{ClaimTable, claim, pending, found_segment}
use Rattle.protocol.proofs.Stream.{one_past}

-- a repeat is due only while a segment is outstanding
abbrev pub Waiting : {C : Type 0} → State C → History → Type 0
Waiting s h = s.due ≡ true → any (ends_past s.proved) (segments h) ≡ true

kept_some : {A : Type 0} (p r : A → Bool) (xs : List A) → leads p (kept_by r xs) ≡ true → any r xs ≡ true
kept_some p r [] first = absurd (false≢true first)
kept_some p r (x ∷ xs) first = let rest = kept_some p r xs in grind arith

module _ {C : Type 0} {ws : List ℕ} {s : State C} (h : History) (t : ClaimTable ws s (segments h) (starts_counted h)) (joined : EndToEnd 0 (segments h)) where
  pub keeps_waiting : {k : Control C} {x : Call} {r : Reply C} → Step k s x r → Waiting s h → Waiting r.state (noted x r.answer h)
  keeps_waiting (sends some enough) waiting = λ due. let before = waiting due in rw list_any-append (grind arith)
  keeps_waiting (counts {x} o third level found) waiting = λ due.
      let some = any_wider _ (ends_past s.proved) (λ g passes. grind (arith, nat_tests)) (segments h) (found_segment t x o found) in
      grind arith
  keeps_waiting (expires past) waiting = λ due. one_past s.proved 0 (segments h) joined (omega arith) (omega (arith, t.sent))
  keeps_waiting (returns {o}) waiting = λ due.
      let either = rw (t.claims, leads-map (claim (starts_counted h)) (on (starts_at o))) at due in
      let again = kept_some (starts_at o) (ends_past s.proved) (segments h) in
      grind arith
  keeps_waiting other waiting = λ due. grind arith

starts_there : (o : ℕ) (cs : List Claim) → (segment_at o cs).start ≡ o
starts_there o [] = refl
starts_there o (d ∷ cs) = let rest = starts_there o cs in grind (arith, nat_tests)

module _ (os : List ℕ) where
  -- the oldest claim is that of the first segment
  first_leads : (r : Segment → Bool) (fs : List Segment) → any r fs ≡ true → leads (starts_at (oldest (λ c. true) (map (claim os) (kept_by r fs)))) (kept_by r fs) ≡ true
  first_leads r [] some = absurd (false≢true some)
  first_leads r (f ∷ fs) some = let rest = first_leads r fs in grind (arith, nat_tests)

  -- a claim that is found is that of one of the segments
  segment_found : (o : ℕ) (fs : List Segment) → any (on (starts_at o)) (map (claim os) fs) ≡ true → Contains fs (segment_at o (map (claim os) fs))
  segment_found o [] some = absurd (false≢true some)
  segment_found o (f ∷ fs) some =
      cond_both (starts_at o f) _ _ (Contains (f ∷ fs)) (λ at. (0, omega arith, refl)) (λ off. Contains-append_right (f ∷ []) fs _ (segment_found o fs (grind arith)))

module _ {C : Type 0} (k : Control C) {ws : List ℕ} {s : State C} {gs : List Segment} {os : List ℕ} (t : ClaimTable ws s gs os) where
  -- an order names the oldest
  pub order_is : (s.due ≡ true → any (ends_past s.proved) gs ≡ true) → (o : ℕ) → (reply k s take).answer ≡ ordered o → leads (starts_at o) (pending t) ≡ true
  order_is waiting o is =
      let (due, named) = orders_so k s o is in
      let same : oldest (λ c. true) (map (claim os) (pending t)) ≡ o = rw (← t.claims) (cc) in
      rw same at (first_leads os (ends_past s.proved) gs (waiting due))

  -- a repeat answers an outstanding segment
  pub repeat_is : (o : ℕ) (g : Segment) → (reply k s (repeat o)).answer ≡ repeated g → Contains (pending t) g × (g.start ≡ o)
  repeat_is o g is =
      let (some, answered) = repeats_so k s o g is in
      let same : segment_at o (map (claim os) (pending t)) ≡ g = rw (← t.claims) (cc) in
      rw (← same) (segment_found os o _ (rw t.claims at some), starts_there o _)
