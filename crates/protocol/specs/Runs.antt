-- A sender after a list of calls. Assumes nothing.
use Rattle.std.specs.Prelude.{ℕ, List, [], ◌∷◌}
use Rattle.congestion.specs.Control.{Control}
use Rattle.protocol.specs.Calls.{State, Call, Answer}
use Rattle.protocol.specs.SenderRules.{reply}
use Rattle.protocol.specs.History.{History, noted}

-- s is the sender at first, and in a list of calls the last one stands first
module _ {C : Type 0} (k : Control C) (s : State C) where
  -- the state after the calls
  abbrev pub state : List Call → State C
  state [] = s
  state (x ∷ before) = (reply k (state before) x).state

  -- what is then answered to one call more
  abbrev pub answer : List Call → Call → Answer
  answer before x = (reply k (state before) x).answer

  -- the calls with their answers
  abbrev pub history : List Call → History
  history [] = []
  history (x ∷ before) = noted x (answer before x) (history before)

-- the same sender with other words to come
abbrev pub with_words : {C : Type 0} → State C → List ℕ → State C
with_words s ws = record s { words = ws }
