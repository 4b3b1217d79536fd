-- What ties a state to the history that led to it, and that every call keeps it. Assumes nothing.
use Rattle.std.proofs.Common.{◌≡◌, ℕ, ◌+◌, ◌*◌, ◌<◌, ◌≤◌, List, [], ◌∷◌, sym, refl, mul-le-mul_left, arith}
use Rattle.std.proofs.lemmas.Bool.{false≢true}
use Rattle.std.proofs.lemmas.List.Elements.{All-nil}
use Rattle.std.proofs.lemmas.Bool.Decides.{nat_tests}
use Rattle.congestion.specs.Control.{Control, Lawful}
use Rattle.protocol.specs.Segments.{starts_at}
use Rattle.protocol.specs.Claims.{on}
use Rattle.protocol.specs.Calls.{Call, State, Reply}
use Rattle.protocol.specs.Calls.Call.{acknowledge}
use Rattle.protocol.specs.SenderRules.{allowance, opened}
use Rattle.protocol.specs.History.{History, noted, segments, EndToEnd, farthest}
use Rattle.protocol.specs.Signals.{signals, credited_once}
use Rattle.protocol.specs.Duplicates.{starts_counted, beyond, duplicates_since, repeat_due}
use Rattle.protocol.specs.Runs.{state, history}
use Rattle.protocol.proofs.Lists.{leads-map}
use Rattle.protocol.proofs.Steps.{Step, step}
use Rattle.protocol.proofs.Steps.Step.{refuses, advances, counts, returns}
use Rattle.protocol.proofs.ClaimTable.{ClaimTable, Lies, claim, true_sum_is, keeps_table}
use Rattle.protocol.proofs.Signals.{Steered, keeps_steered}
use Rattle.protocol.proofs.Duplicates.{Backed, keeps_backed, duplicates_bounded}
use Rattle.protocol.proofs.Stream.{keeps_end_to_end}
use Rattle.protocol.proofs.Repeats.{Waiting, keeps_waiting}

-- the sender in the state s, which started with the controller c and the words ws, has the history h
pub record Follows {C : Type 0} (k : Control C) (c : C) (ws : List ℕ) (s : State C) (h : History) : Type 0 where
  pub table : ClaimTable ws s (segments h) (starts_counted h)
  pub joined : EndToEnd 0 (segments h)
  pub proved : s.proved ≡ farthest h
  pub steered : Steered k c s.control s.proved (signals h)
  pub duplicates : s.duplicates ≡ duplicates_since h
  pub backed : Backed s h
  pub due : s.due ≡ repeat_due h
  pub waiting : Waiting s h

module _ {C : Type 0} {k : Control C} {c : C} {ws : List ℕ} {s : State C} {h : History} (i : Follows k c ws s h) where
  keeps_proved : {x : Call} {r : Reply C} → Step k s x r → r.state.proved ≡ farthest (noted x r.answer h)
  keeps_proved (refuses {x = acknowledge e m x} idle) = let same = true_sum_is i.table e in grind (arith, nat_tests)
  keeps_proved (advances {e} past within same) = let whole = true_sum_is i.table e in grind (arith, nat_tests)
  keeps_proved (counts o third level found) = grind (arith, nat_tests)
  keeps_proved other = i.proved

  keeps_duplicates : {x : Call} {r : Reply C} → Step k s x r → r.state.duplicates ≡ duplicates_since (noted x r.answer h)
  keeps_duplicates (counts o third level found) = grind (arith, i.duplicates)
  keeps_duplicates other = grind (arith, i.duplicates)

  keeps_due : {x : Call} {r : Reply C} → Step k s x r → r.state.due ≡ repeat_due (noted x r.answer h)
  keeps_due (returns {o}) = rw (i.due, i.table.claims, leads-map (claim (starts_counted h)) (on (starts_at o)), i.proved) refl
  keeps_due other = grind (arith, i.due)

  keeps : Lawful k → {x : Call} {r : Reply C} → Step k s x r → Follows k c ws r.state (noted x r.answer h)
  keeps laws st = record {
    table = keeps_table h i.table st;
    joined = keeps_end_to_end h i.table.sent st i.joined;
    proved = keeps_proved st;
    steered = keeps_steered laws s h i.steered i.proved i.table.sent st;
    duplicates = keeps_duplicates st;
    backed = keeps_backed h i.table st i.backed;
    due = keeps_due st;
    waiting = keeps_waiting h i.table i.joined st i.waiting;
  }

  pub control_is : s.control ≡ credited_once k c h
  control_is = rw i.proved at i.steered.credited

  pub allowance_bounded : allowance k s ≤ k.window s.control + k.segment c * beyond h
  allowance_bounded = rw i.steered.size (omega (arith, mul-le-mul_left (k.segment c) (duplicates_bounded h i.table i.proved i.backed)))

module _ {C : Type 0} (k : Control C) (c : C) (laws : Lawful k) (ws : List ℕ) where
  at_opening : Follows k c ws (opened c ws) []
  at_opening = record {
    table = record { sent = refl; words = refl; within = omega arith; lie = All-nil (Lies 0); seen = All-nil (λ o. o < 0); claims = refl; settled = refl };
    joined = tt;
    proved = refl;
    steered = record { risen = omega arith; credited = sym (laws.nothing c); size = refl };
    duplicates = refl;
    backed = omega arith;
    due = refl;
    waiting = λ due. absurd (false≢true due);
  }

  -- it holds after every list of calls
  pub follows : (calls : List Call) → Follows k c ws (state k (opened c ws) calls) (history k (opened c ws) calls)
  follows [] = at_opening
  follows (x ∷ before) = keeps (follows before) laws (step k (state k (opened c ws) before) x)
