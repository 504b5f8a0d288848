use Rattle.std.proofs.Common.{◌∙◌}
use Rattle.row_store.proofs.Deletions.{texts_tell}
use Rattle.row_store.proofs.known.Known.is_of.Goals as goal

pub returns-clause-text : goal.returns-clause-text
returns-clause-text g c =
    let own = rw c.name-own.ensures at c.has_names.ensures in
    let is = rw c.name-own.ensures at c.is.ensures in
    rw (← c.self.view_is) (is ∙ texts_tell _ c.args.name.now own.0 own.1 c.has_names-2.ensures.0 c.has_names-2.ensures.1)
