use Rattle.std.proofs.Common.{ap, ◌∙◌}
use Rattle.broker_dir.specs.Listing.{names_of}
use Rattle.broker_dir.proofs.Listed.{names-removed}
use Rattle.broker_dir.proofs.unloading.let_go.Goals as goal

pub returns-in_default : goal.returns-in_default
returns-in_default g c = ap names_of c.remove.ensures ∙ names-removed c.args.table.now.list.topics.entries c.args.unused.sole.place

pub returns : goal.returns
returns g c = ap names_of c.remove.ensures ∙ names-removed c.args.table.now.list.topics.entries c.args.unused.sole.place
