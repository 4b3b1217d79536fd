-- Reno by bytes. Assumes nothing.
use Rattle.std.specs.Prelude.{◌≡◌, ℕ, ◌+◌, ◌*◌, ◌/◌, ◌^◌, ◌≤◌, min, max, cond, Result, nat_lt}
use Rattle.std.specs.Fn.{iterate}
use Rattle.std.proofs.Common.{arith}
use Rattle.congestion.specs.Choice.{choice}
use Rattle.congestion.specs.Control.{Control}
use Rattle.congestion.specs.Iterates.{iterate_keeps}
use Rattle.congestion.specs.Starts.{first_window, Makes}
use Rattle.congestion.specs.Growths.{Sizes, additive_limit, at, fresh, fill, Bounded, additive_never_zero, fill_bounded, fresh_bounded, one_segment_bounded}
use Rattle.congestion.specs.Views.{sizes, resized}
use Rattle.congestion.specs.declared.faults.ControllerFault.{ControllerFault}
use Rattle.congestion.specs.declared.reno.Reno.{Reno}

-- below the threshold: a byte wider
abbrev pub climb : Sizes → Sizes
climb g = at g (g.window + 1) g.carry

-- one credited byte, at the threshold t
abbrev pub byte : ℕ → Sizes → Sizes
byte t g = cond (nat_lt g.window t) (climb g) (fill additive_limit g)

-- after n credited bytes
abbrev pub credited : Reno → ℕ → Sizes
credited s n = iterate (byte s.threshold) n (sizes s.growth)

-- the threshold after a loss or a timeout: half of the f bytes in flight, but at least two segments of m bytes
abbrev pub halved : ℕ → ℕ → ℕ
halved m f = min (max (f / 2) (2 * m)) (2 ^ 24)

-- after a loss with f bytes in flight
abbrev pub lost : Reno → ℕ → Sizes
lost s f = fresh s.growth.segment (min s.growth.window (halved s.growth.segment f))

-- after a timeout
abbrev pub timed_out : Reno → Sizes
timed_out s = fresh s.growth.segment s.growth.segment

-- each of these is within the bounds, which a Reno carries with it
pub byte_bounded : (t : ℕ) → t ≤ 2 ^ 24 → (g : Sizes) → Bounded additive_limit g → Bounded additive_limit (byte t g)
byte_bounded t limited g b =
    choice (Bounded additive_limit) g.window t
    (λ below. (b.0, b.1, omega arith, omega arith, omega arith))
    (λ above. fill_bounded additive_limit additive_never_zero g b)

pub credited_bounded : (s : Reno) (n : ℕ) → Bounded additive_limit (credited s n)
credited_bounded s n = iterate_keeps (Bounded additive_limit) (byte s.threshold) (byte_bounded s.threshold s.limited) n (sizes s.growth) s.growth.bounded

pub halved_limited : (m f : ℕ) → halved m f ≤ 2 ^ 24
halved_limited m f = omega arith

pub lost_bounded : (s : Reno) (f : ℕ) → Bounded additive_limit (lost s f)
lost_bounded s f = let b = s.growth.bounded in fresh_bounded additive_limit additive_never_zero s.growth.segment (lost s f).window b.0 b.1 (omega arith) (omega arith)

pub timed_out_bounded : (s : Reno) → Bounded additive_limit (timed_out s)
timed_out_bounded s = one_segment_bounded additive_limit additive_never_zero (sizes s.growth) s.growth.bounded

abbrev pub reno : Control Reno
reno = record {
  segment = λ s. s.growth.segment;
  window = λ s. s.growth.window;
  credit = λ s n. record { growth = resized s.growth (credited s n) (credited_bounded s n); threshold = s.threshold; limited = s.limited };
  loss = λ s f. record { growth = resized s.growth (lost s f) (lost_bounded s f); threshold = halved s.growth.segment f; limited = halved_limited s.growth.segment f };
  timeout = λ s f. record { growth = resized s.growth (timed_out s) (timed_out_bounded s); threshold = halved s.growth.segment f; limited = halved_limited s.growth.segment f };
}

-- a new Reno, with no threshold below the widest window
abbrev pub RenoStarts : ℕ → Result Reno ControllerFault → Type 0
RenoStarts m = Makes (λ s. (sizes s.growth ≡ fresh m (first_window m)) × (s.threshold ≡ 2 ^ 24)) m
