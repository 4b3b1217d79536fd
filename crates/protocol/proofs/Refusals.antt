-- A call is refused on the grounds that the history shows, and on no other, and then changes nothing. Assumes nothing.
use Rattle.std.proofs.Common.{◌≡◌, ℕ, List, Some, None, sym, refl, ap, ◌∙◌, arith}
use Rattle.std.proofs.lemmas.List.{length-map, length-drop}
use Rattle.std.proofs.lemmas.Bool.Decides.{nat_tests}
use Rattle.fault.specs.Refusals.{Refusal}
use Rattle.congestion.specs.Control.{Control}
use Rattle.protocol.specs.Segments.{starts_at, echoed_past}
use Rattle.protocol.specs.Claims.{on, unspent}
use Rattle.protocol.specs.Checks.{first_refusal}
use Rattle.protocol.specs.Calls.{Call, State, refusal_of}
use Rattle.protocol.specs.Calls.Call.{send, acknowledge, timeout, take, repeat, put_back}
use Rattle.protocol.specs.Calls.Answer.{refused}
use Rattle.protocol.specs.SenderRules.{checks, accepted, concluded, reply}
use Rattle.protocol.specs.History.{History}
use Rattle.protocol.specs.Duplicates.{starts_counted}
use Rattle.protocol.specs.Grounds.{grounds}
use Rattle.protocol.proofs.Lists.{any-map}
use Rattle.protocol.proofs.ClaimTable.{claim, true_sum_is, any_claim}
use Rattle.protocol.proofs.Invariant.{Follows, control_is}

module _ {C : Type 0} (k : Control C) (s : State C) where
  not_refused : (x : Call) → refusal_of (accepted k s x).answer ≡ None
  not_refused (acknowledge e m x) = grind arith
  not_refused other = refl

  -- the refusal in an answer is the first that the checks find
  pub refusal_is : (x : Call) → refusal_of (reply k s x).answer ≡ first_refusal (checks k s x)
  refusal_is x = elim (first_refusal (checks k s x)) as (λ f. refusal_of (concluded k s x f).answer ≡ f) [ None ↦ not_refused x | Some f ↦ refl ]

  -- an answer without one is that of the accepted call
  pub accepted_is : (x : Call) → refusal_of (reply k s x).answer ≡ None → reply k s x ≡ accepted k s x
  accepted_is x none = ap (concluded k s x) (sym (refusal_is x) ∙ none)

  pub refused_same : (x : Call) (f : Refusal) → (reply k s x).answer ≡ refused f → (reply k s x).state ≡ s
  refused_same x f is = ap (λ o. (concluded k s x o).state) (sym (refusal_is x) ∙ ap refusal_of is)

module _ {C : Type 0} {k : Control C} {c : C} {ws : List ℕ} {s : State C} {h : History} (i : Follows k c ws s h) where
  pub same_grounds : (x : Call) → first_refusal (checks k s x) ≡ first_refusal (grounds k c ws h x)
  same_grounds (send l) = rw (i.steered.size, control_is i, i.table.claims, length-map, i.table.words, length-drop, i.duplicates, i.table.sent, i.proved) (grind (arith, nat_tests))
  same_grounds (acknowledge e m x) =
      let known = any_claim i.table (on (echoed_past s.proved x)) (λ g passes. grind (arith, nat_tests)) in
      let fresh = any_claim i.table (unspent s.proved x) (λ g passes. grind (arith, nat_tests)) in
      let whole = rw i.proved at (true_sum_is i.table e) in
      rw (known, fresh, i.table.sent, i.proved) (grind (arith, nat_tests))
  same_grounds timeout = rw (i.table.sent, i.proved) (grind (arith, nat_tests))
  same_grounds take = rw (i.due, i.table.sent) refl
  same_grounds (repeat o) = rw (i.table.claims, any-map (claim (starts_counted h)) (on (starts_at o)), i.proved) refl
  same_grounds (put_back o) = refl
