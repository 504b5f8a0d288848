use Rattle.std.proofs.Common.{ap, sym, ◌∙◌}
use Rattle.std.specs.Option.{option_copied_mut}
use Rattle.indexmap.specs.IndexMap.{set_value_at}
use Rattle.broker_dir.proofs.Listed.{same_there}
use Rattle.broker_dir.proofs.table.Listed+Arc+X.is_sole.Goals as goal

pub returns-in-Some-clause-same : goal.returns-in-Some-clause-same
returns-in-Some-clause-same g c =
    ap (set_value_at c.args.self.now.topics.entries c.args.place) c.is_sole.ensures
    ∙ same_there c.args.self.now.topics.entries c.args.place c.in-Some.topic.now (sym (ap option_copied_mut c.in-Some.is) ∙ c.get_index_mut.ensures.value)
