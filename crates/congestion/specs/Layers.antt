-- Layers over another controller: events go down to it unchanged, and only the window differs. Assumes nothing.
use Rattle.std.specs.Prelude.{ℕ, ◌*◌, ◌/◌, min, max}
use Rattle.congestion.specs.Control.{Control}
use Rattle.congestion.specs.declared.cap.AtMost.{AtMost}
use Rattle.congestion.specs.declared.narrowed.Narrowed.{Narrowed}
use Rattle.congestion.specs.declared.share.Eighths.{Eighths}

-- over the control k: as the rule bounds the window, and at least a segment
abbrev pub narrowed : {C R : Type 0} → Control C → (R → ℕ → ℕ) → Control (Narrowed C R)
narrowed k bound = record {
  segment = λ s. k.segment s.below;
  window = λ s. max (bound s.rule (k.window s.below)) (k.segment s.below);
  credit = λ s n. record s { below = k.credit s.below n };
  loss = λ s f. record s { below = k.loss s.below f };
  timeout = λ s f. record s { below = k.timeout s.below f };
}

-- a window of w bytes, but at most the cap
abbrev pub at_most : AtMost → ℕ → ℕ
at_most r w = min w r.cap

-- so many eighths, of 1 to 8, of a window of w bytes
abbrev pub some_eighths : Eighths → ℕ → ℕ
some_eighths r w = w * max 1 (min r.eighths 8) / 8

-- over the control k: at most the cap, and at least a segment
abbrev pub capped : {C : Type 0} → Control C → Control (Narrowed C AtMost)
capped k = narrowed k at_most

-- over the control k: so many eighths, of 1 to 8, and at least a segment
abbrev pub shared : {C : Type 0} → Control C → Control (Narrowed C Eighths)
shared k = narrowed k some_eighths

-- the controller c under a cap of n bytes
abbrev pub with_cap : {C : Type 0} → C → ℕ → Narrowed C AtMost
with_cap c n = record { below = c; rule = record { cap = n } }

-- the controller c under a share of n eighths
abbrev pub with_eighths : {C : Type 0} → C → ℕ → Narrowed C Eighths
with_eighths c n = record { below = c; rule = record { eighths = n } }
