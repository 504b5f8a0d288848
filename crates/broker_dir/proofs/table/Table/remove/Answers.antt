use Rattle.std.proofs.Common.{subst, sym}
use Rattle.broker_dir.specs.Listing.{AreNamed}
use Rattle.broker_dir.proofs.Listed.{removed}
use Rattle.broker_dir.proofs.table.Table.remove.Goals as goal

pub invariant_of-self : goal.invariant_of-self
invariant_of-self g c = record {
  named = subst (AreNamed (λ topic. topic.value.name)) (sym c.shift_remove_index.ensures.entries) (removed (λ topic. topic.value.name) c.args.self.now.list.topics.entries c.args.sole.place c.args.self.now.named);
}
