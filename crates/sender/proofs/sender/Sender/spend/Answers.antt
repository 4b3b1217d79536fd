-- The search finds the other goals, and not this one, with the lemma named on the function either.
use Rattle.std.proofs.Common.{ap}
use Rattle.sender.proofs.Sound.{sound_marked}
use Rattle.sender.proofs.sender.Sender.spend.Goals as goal

pub invariant_of-self : goal.invariant_of-self
invariant_of-self g c =
    let same = ap (λ s. s.claims) c.self.view_is in
    rw c.mark_spent.ensures.marks (sound_marked c.self.invariant c.args.place (rw same c.requires.there) (rw same c.requires.unspent))

pub returns-clause-sound : goal.returns-clause-sound
returns-clause-sound = invariant_of-self
