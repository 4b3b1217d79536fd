-- What the answer to a take stands for in the rules, and what becomes of its order. Assumes nothing.
use Rattle.std.specs.Prelude.{ℕ, Ok, Err, Result}
use Rattle.congestion.specs.Control.{Control}
use Rattle.protocol.specs.Calls.{State, Answer, Reply}
use Rattle.protocol.specs.Calls.Call.{take, repeat}
use Rattle.protocol.specs.Calls.Answer.{sent, advanced, counted, lost, expired, ordered, repeated, returned, refused}
use Rattle.protocol.specs.Faults.{refusal}
use Rattle.protocol.specs.SenderRules.{reply}
use Rattle.protocol.specs.declared.faults.SenderFault.{SenderFault}
use Rattle.sender.specs.declared.order.Order.{Order}

abbrev pub to_take : Result Order SenderFault → Answer
to_take (Ok order) = ordered order
to_take (Err f) = refused (refusal f)

-- after a take: its order is used, or its refusal stands
abbrev pub with_order : {C : Type 0} → Reply C → (State C → ℕ → Reply C) → Reply C
with_order r used = elim r.answer [
  | sent g ↦ r
  | advanced ↦ r
  | counted o ↦ r
  | lost o ↦ r
  | expired ↦ r
  | ordered o ↦ used r.state o
  | repeated g ↦ r
  | returned o ↦ r
  | refused f ↦ r
]

-- a take, and a repeat of its order
abbrev pub repeat_taken : {C : Type 0} → Control C → State C → Reply C
repeat_taken k s = with_order (reply k s take) (λ t o. reply k t (repeat o))
