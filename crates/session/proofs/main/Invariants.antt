use Rattle.std.proofs.Common.{◌≤◌}
use Rattle.session.proofs.main.Given as goal

-- no more events are refused than were played
abbrev pub invariant-loop-i : goal.invariant-loop-i
invariant-loop-i l = l.refused ≤ l.i
