-- The search does not find this, with the lemma named on the function either.
use Rattle.std.proofs.Common.{ap}
use Rattle.claims.proofs.Tables.{entered}
use Rattle.sender.proofs.Sound.{sound_entered}
use Rattle.sender.proofs.sender.sends.Sender+C+N.enter.Goals as goal

pub invariant_of-self : goal.invariant_of-self
invariant_of-self g c =
    let sent = ap (λ t. t.sent) c.self.view_is in
    let same = ap (λ t. t.claims) c.self.view_is in
    rw (c.from.ensures, entered 64 _ _ _ _ c.push.ensures.free c.push.ensures.entered (rw same c.requires.room))
    (sound_entered c.self.invariant c.args.segment (rw sent c.requires.next) c.requires.some (rw sent c.requires.holds) (rw same c.requires.room))

pub returns-clause-sound : goal.returns-clause-sound
returns-clause-sound = invariant_of-self
