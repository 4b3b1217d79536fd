-- The refusals of a controller, by number and place. Assumes nothing.
use Rattle.fault.specs.Refusals.{Refusal, refusal_at}
use Rattle.congestion.specs.declared.faults.ControllerFault.{ControllerFault}
use Rattle.congestion.specs.declared.faults.ControllerFault.TheVariants.{Segment}

-- 1: a segment size outside 64 to 9000, at that size
abbrev pub refusal : ControllerFault → Refusal
refusal (Segment m) = refusal_at 1 m
