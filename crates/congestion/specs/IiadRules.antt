-- IIAD: inverse increase, additive decrease. Assumes nothing.
use Rattle.std.specs.Prelude.{◌≡◌, ℕ, ◌-◌, max, Result}
use Rattle.std.specs.Fn.{iterate}
use Rattle.std.proofs.Common.{arith}
use Rattle.congestion.specs.Control.{Control}
use Rattle.congestion.specs.Iterates.{iterate_keeps}
use Rattle.congestion.specs.Starts.{first_window, Makes}
use Rattle.congestion.specs.Growths.{Sizes, inverse_limit, fresh, fill, Bounded, inverse_never_zero, fresh_bounded, one_segment_bounded, fill_bounded}
use Rattle.congestion.specs.Views.{sizes, resized}
use Rattle.congestion.specs.declared.faults.ControllerFault.{ControllerFault}
use Rattle.congestion.specs.declared.iiad.Iiad.{Iiad}

-- after n credited bytes
abbrev pub credited : Iiad → ℕ → Sizes
credited s n = iterate (fill inverse_limit) n (sizes s.growth)

-- after a loss: a segment narrower, but at least one segment
abbrev pub lost : Iiad → Sizes
lost s = fresh s.growth.segment (max (s.growth.window - s.growth.segment) s.growth.segment)

-- after a timeout
abbrev pub timed_out : Iiad → Sizes
timed_out s = fresh s.growth.segment s.growth.segment

-- each of these is within the bounds, which an Iiad carries with it
pub credited_bounded : (s : Iiad) (n : ℕ) → Bounded inverse_limit (credited s n)
credited_bounded s n = iterate_keeps (Bounded inverse_limit) (fill inverse_limit) (fill_bounded inverse_limit inverse_never_zero) n (sizes s.growth) s.growth.bounded

pub lost_bounded : (s : Iiad) → Bounded inverse_limit (lost s)
lost_bounded s = let b = s.growth.bounded in fresh_bounded inverse_limit inverse_never_zero s.growth.segment (lost s).window b.0 b.1 (omega arith) (omega arith)

pub timed_out_bounded : (s : Iiad) → Bounded inverse_limit (timed_out s)
timed_out_bounded s = one_segment_bounded inverse_limit inverse_never_zero (sizes s.growth) s.growth.bounded

abbrev pub iiad : Control Iiad
iiad = record {
  segment = λ s. s.growth.segment;
  window = λ s. s.growth.window;
  credit = λ s n. record { growth = resized s.growth (credited s n) (credited_bounded s n) };
  loss = λ s f. record { growth = resized s.growth (lost s) (lost_bounded s) };
  timeout = λ s f. record { growth = resized s.growth (timed_out s) (timed_out_bounded s) };
}

-- a new Iiad
abbrev pub IiadStarts : ℕ → Result Iiad ControllerFault → Type 0
IiadStarts m = Makes (λ s. sizes s.growth ≡ fresh m (first_window m)) m
