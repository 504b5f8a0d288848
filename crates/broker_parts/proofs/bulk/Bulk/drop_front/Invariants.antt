use Rattle.std.proofs.Common.{◌≡◌, drop}
use Rattle.broker_parts.proofs.bulk.Bulk.drop_front.Given as goal

abbrev pub invariant-loop : goal.invariant-loop
invariant-loop l = record {
  sizes : l.self.sizes.items ≡ drop l.counter l.initial.self.sizes.items;
  others : (l.self.is_counted ≡ l.initial.self.is_counted) × (l.self.lasts ≡ l.initial.self.lasts) × (l.self.gone ≡ l.initial.self.gone);
}
