use Rattle.std.proofs.Common.{subst, sym}
use Rattle.broker_dir.specs.Listing.{AreNamed}
use Rattle.broker_dir.proofs.Listed.{taken_out}
use Rattle.broker_dir.proofs.table.Table.take_out.Goals as goal

pub invariant_of-self : goal.invariant_of-self
invariant_of-self g c = record {
  named = subst (AreNamed (λ topic. topic.value.name)) (sym c.shift_remove.ensures.entries) (taken_out (λ topic. topic.value.name) _ c.args.self.now.list.topics.entries c.args.self.now.named);
}
