use Rattle.std.proofs.Common.{◌≡◌, Bool, true, false, ◌||◌, take, drop}
use Rattle.protocol.specs.Claims.{on, unspent, oldest}
use Rattle.protocol.specs.Lists.{any}
use Rattle.protocol.specs.Segments.{echoed_past}
use Rattle.claims.specs.declared.faults.EchoFault.{EchoFault}
use Rattle.claims.specs.declared.faults.EchoFault.TheVariants.{Unknown, Spent}
use Rattle.claims.proofs.table.Table.find_echo.Given as goal

-- a claim with the echo was passed
abbrev seen : EchoFault → Bool
seen Unknown = false
seen Spent = true

-- the claims that are left tell of the echo what all claims tell, but for spent ones that were passed
abbrev pub invariant-loop-i : goal.invariant-loop-i
invariant-loop-i g l = record {
  known : (seen l.fault || any (on (echoed_past l.proved l.echo)) (drop l.i l.claims)) ≡ any (on (echoed_past l.proved l.echo)) l.claims;
  fresh : any (unspent l.proved l.echo) (drop l.i l.claims) ≡ any (unspent l.proved l.echo) l.claims;
  start : oldest (unspent l.proved l.echo) (drop l.i l.claims) ≡ oldest (unspent l.proved l.echo) l.claims;
  before : any (unspent l.proved l.echo) (take l.i l.claims) ≡ false;
}
