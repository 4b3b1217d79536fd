-- The search does not find this, with the lemma named on the function either.
use Rattle.protocol.proofs.Promises.{all_promises}
use Rattle.sender.proofs.sender.opening.Sender+C+N.new.Goals as goal

pub returns-clause-promises : goal.returns-clause-promises
returns-clause-promises g c =
    rw c.empty.ensures.state (all_promises g.C.Controller.control c.args.controller g.met.C.Controller.lawful (g.N.NonceSource.words c.args.nonces))
