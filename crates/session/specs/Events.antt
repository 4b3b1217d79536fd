-- What an event does to a panel, by the rules of the sender. Assumes nothing.
use Rattle.std.specs.Prelude.{Option}
use Rattle.fault.specs.Refusals.{Refusal}
use Rattle.congestion.specs.Control.{Control}
use Rattle.protocol.specs.Calls.{State, Reply, refusal_of}
use Rattle.protocol.specs.Calls.Call.{send, acknowledge, timeout}
use Rattle.protocol.specs.SenderRules.{reply}
use Rattle.sender.specs.Orders.{repeat_taken}
use Rattle.session.specs.declared.events.Event.{Event}
use Rattle.session.specs.declared.events.Event.TheVariants.{Send, Acknowledge, Timeout, Again}

-- whether it was refused, and the state that it leaves
pub record Outcome (C : Type 0) : Type 0 where
  pub refusal : Option Refusal
  pub state : State C

abbrev pub ended : {C : Type 0} → Reply C → Outcome C
ended r = record { refusal = refusal_of r.answer; state = r.state }

abbrev pub outcome : {C : Type 0} → Control C → State C → Event → Outcome C
outcome k s (Send length) = ended (reply k s (send length))
outcome k s (Acknowledge end sum echo) = ended (reply k s (acknowledge end sum echo))
outcome k s Timeout = ended (reply k s timeout)
outcome k s Again = ended (repeat_taken k s)
