-- The search does not find this, and the lemma has a name that cannot be written on the function.
use Rattle.std.proofs.Common.{filter, ap, ◌∙◌, rules}
use Rattle.protocol.specs.Claims.{on}
use Rattle.protocol.specs.Segments.{ends_past}
use Rattle.arrayvec.proofs.ArrayVecLemmas.{filter-from_retain}
use Rattle.claims.proofs.table.Table.retire.Goals as goal

pub returns-clause-left : goal.returns-clause-left
returns-clause-left g c = filter-from_retain _ (on (ends_past c.args.end)) _ (λ x b f' y called. search rules) _ _ c.retain.ensures.filtered ∙ ap (filter (on (ends_past c.args.end))) c.self.view_is
