-- What becomes of an order that is put back, by the rules of the sender. Assumes nothing.
use Rattle.congestion.specs.Control.{Control}
use Rattle.protocol.specs.Calls.{State, Reply}
use Rattle.protocol.specs.Calls.Call.{take, put_back}
use Rattle.protocol.specs.SenderRules.{reply}
use Rattle.sender.specs.Orders.{with_order, repeat_taken}

-- a take, and a repeat of its order, but that the order is first put back and taken again
abbrev pub repeat_put_back : {C : Type 0} → Control C → State C → Reply C
repeat_put_back k s = with_order (reply k s take) (λ t o. repeat_taken k (reply k t (put_back o)).state)
