-- What the answers of the sender's calls stand for in the rules. Assumes nothing.
use Rattle.std.specs.Prelude.{Some, None, Ok, Err, Option, Result}
use Rattle.fault.specs.Refusals.{Refusal}
use Rattle.protocol.specs.declared.segment.Segment.{Segment}
use Rattle.protocol.specs.Calls.{State, Answer, Reply}
use Rattle.protocol.specs.Calls.Answer.{sent, advanced, counted, lost, expired, repeated, refused}
use Rattle.protocol.specs.Faults.{refusal}
use Rattle.protocol.specs.declared.answer.Acknowledged.{Acknowledged}
use Rattle.protocol.specs.declared.answer.Acknowledged.TheVariants.{Advanced, Counted, Lost}
use Rattle.protocol.specs.declared.faults.SenderFault.{SenderFault}

-- an answer, with the state that it leaves
abbrev pub told : {C : Type 0} → Answer → State C → Reply C
told a s = record { answer = a; state = s }

abbrev pub refusal_in : {A : Type 0} → Result A SenderFault → Option Refusal
refusal_in (Ok a) = None
refusal_in (Err f) = Some (refusal f)

abbrev pub to_send : Result Segment SenderFault → Answer
to_send (Ok g) = sent g
to_send (Err f) = refused (refusal f)

abbrev pub progress : Acknowledged → Answer
progress Advanced = advanced
progress (Counted start) = counted start
progress (Lost start) = lost start

abbrev pub to_acknowledge : Result Acknowledged SenderFault → Answer
to_acknowledge (Ok a) = progress a
to_acknowledge (Err f) = refused (refusal f)

abbrev pub to_timeout : Result (Unit {0}) SenderFault → Answer
to_timeout (Ok nothing) = expired
to_timeout (Err f) = refused (refusal f)

abbrev pub to_repeat : Result Segment SenderFault → Answer
to_repeat (Ok g) = repeated g
to_repeat (Err f) = refused (refusal f)
