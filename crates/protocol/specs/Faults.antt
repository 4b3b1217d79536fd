-- The number and the places of each refusal of the sender. Assumes nothing.
use Rattle.std.specs.Prelude.{[], ◌∷◌}
use Rattle.fault.specs.Refusals.{Refusal, refusal_at}
use Rattle.protocol.specs.declared.faults.SenderFault.{SenderFault}
use Rattle.protocol.specs.declared.faults.SenderFault.TheVariants.{Length, StreamFull, TableFull, Allowance, NonceShortage, BeyondSent, BelowProved, WrongSum, UnknownEcho, SpentEcho, NothingInFlight, NoRepeatDue, ClaimGone}

abbrev pub refusal : SenderFault → Refusal
refusal (Length sent) = refusal_at 2 sent
refusal (StreamFull sent) = refusal_at 3 sent
refusal (TableFull sent) = refusal_at 4 sent
refusal (Allowance sent) = refusal_at 5 sent
refusal (NonceShortage sent) = refusal_at 6 sent
refusal (BeyondSent end) = refusal_at 7 end
refusal (BelowProved end) = refusal_at 8 end
refusal (WrongSum proved end) = record { number = 9; places = proved ∷ end ∷ [] }
refusal (UnknownEcho end) = refusal_at 10 end
refusal (SpentEcho end) = refusal_at 11 end
refusal (NothingInFlight sent) = refusal_at 12 sent
refusal (NoRepeatDue sent) = refusal_at 13 sent
refusal (ClaimGone start) = refusal_at 14 start
