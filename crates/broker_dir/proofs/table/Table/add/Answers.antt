use Rattle.broker_dir.proofs.Listed.{added, stays_named}
use Rattle.broker_dir.proofs.table.Table.add.Goals as goal

pub invariant_of-self : goal.invariant_of-self
invariant_of-self g c = record {
  named = stays_named (λ topic. topic.value.name) c.insert.result c.args.self.now.list.topics.entries _ c.args.name c.args.topic c.args.self.now.named c.requires.named c.requires.new
      c.insert.ensures.entries c.insert.ensures.err;
}

pub returns-clause-added : goal.returns-clause-added
returns-clause-added g c = added c.insert.result c.is_ok.result _ _ c.args.name c.args.topic c.is_ok.ensures.value c.requires.new c.insert.ensures.entries
