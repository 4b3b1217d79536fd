-- The signals that a controller was given, and where they and a single credit leave it. Assumes nothing.
use Rattle.std.specs.Prelude.{ℕ, ◌-◌, List, [], ◌∷◌, Some, None, Option}
use Rattle.congestion.specs.Control.{Control}
use Rattle.protocol.specs.Calls.{Answer}
use Rattle.protocol.specs.Calls.Answer.{sent, advanced, counted, lost, expired, ordered, repeated, returned, refused}
use Rattle.protocol.specs.History.{History, segments, bytes, farthest}

pub data Kind : Type 0 where
  loss : Kind
  expiry : Kind

-- the kind of signal that the controller was given with an answer
abbrev pub signal_kind : Answer → Option Kind
signal_kind (sent g) = None
signal_kind advanced = None
signal_kind (counted o) = None
signal_kind (lost o) = Some loss
signal_kind expired = Some expiry
signal_kind (ordered o) = None
signal_kind (repeated g) = None
signal_kind (returned o) = None
signal_kind (refused f) = None

-- a signal: its kind, and what E and the bytes sent were when it was given
pub record Signal : Type 0 where
  pub kind : Kind
  pub proved : ℕ
  pub sent : ℕ

-- the newest first
abbrev pub signals : History → List Signal
signals [] = []
signals (e ∷ past) =
    elim (signal_kind e.answer) [ None ↦ signals past | Some k ↦ record { kind = k; proved = farthest past; sent = bytes (segments past) } ∷ signals past ]

-- E at the last signal, or 0 where there was none
abbrev pub proved_then : List Signal → ℕ
proved_then [] = 0
proved_then (s ∷ earlier) = s.proved

module _ {C : Type 0} (k : Control C) where
  abbrev pub signalled : Kind → C → ℕ → C
  signalled loss = k.loss
  signalled expiry = k.timeout

  -- where a controller that starts as c stands right after the last of these signals: before each it had the single
  -- credit of E's rise since the one before, and with each it was told the bytes in flight
  abbrev pub after_signals : C → List Signal → C
  after_signals c [] = c
  after_signals c (s ∷ earlier) = signalled s.kind (k.credit (after_signals c earlier) (s.proved - proved_then earlier)) (s.sent - s.proved)

  -- and where it stands with the single credit of E's rise since then
  abbrev pub credited_once : C → History → C
  credited_once c h = k.credit (after_signals c (signals h)) (farthest h - proved_then (signals h))
