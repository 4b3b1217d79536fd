-- The loop over the returns of the carry: what it keeps, and why it ends. Assumes nothing.
use Rattle.std.proofs.Common.{◌≡◌, ◌-◌, ◌^◌}
use Rattle.std.specs.Fn.{iterate}
use Rattle.congestion.specs.Growths.{fill}
use Rattle.congestion.specs.Views.{sizes}
use Rattle.congestion.proofs.growth.Growth.credit.Given as goal

-- what is left leads to where all of it leads
abbrev pub invariant-loop-self : goal.invariant-loop-self
invariant-loop-self g l =
    let one = fill g.I.Increase.limit in
    iterate one l.left (sizes l.self) ≡ iterate one l.initial.left (sizes l.initial.self)

abbrev pub decreases-loop-self : goal.decreases-loop-self
decreases-loop-self g l = 2 ^ 24 - l.self.window
