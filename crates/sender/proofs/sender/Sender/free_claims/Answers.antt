-- The search does not find this, with the lemma named on the function either.
use Rattle.std.proofs.Common.{ap}
use Rattle.sender.proofs.Sound.{sound_kept}
use Rattle.sender.proofs.sender.Sender.free_claims.Goals as goal

pub invariant_of-self : goal.invariant_of-self
invariant_of-self g c =
    let sent = ap (λ s. s.sent) c.self.view_is in
    let duplicates = ap (λ s. s.duplicates) c.self.view_is in
    rw c.retire-self-inside.ensures.left (sound_kept c.self.invariant _ _ c.args.end (rw sent c.requires.within) (rw duplicates c.requires.none))

pub returns-clause-sound : goal.returns-clause-sound
returns-clause-sound = invariant_of-self
