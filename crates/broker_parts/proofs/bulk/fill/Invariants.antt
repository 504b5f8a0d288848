use Rattle.std.proofs.Common.{◌≡◌, ◌≤◌, ◌*◌, map, take, sum}
use Rattle.broker_parts.specs.Bulks.{entry_size}
use Rattle.broker_parts.proofs.bulk.fill.Given as goal

abbrev pub invariant-each : goal.invariant-each
invariant-each l = record {
  sizes : l.sizes.items ≡ map entry_size (take l.place l.snapshot.log);
  bytes : l.bytes ≡ sum l.sizes.items;
  few : l.bytes ≤ 1131456 * l.place;
}
