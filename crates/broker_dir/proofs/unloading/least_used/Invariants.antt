use Rattle.std.proofs.Common.{◌≡◌, ◌<◌, length}
use Rattle.std.specs.Prelude.{IfSome}
use Rattle.broker_dir.proofs.unloading.least_used.Given as goal

abbrev pub invariant-loop-place : goal.invariant-loop-place
invariant-loop-place g l = record {
  same : l.table.list.topics.entries ≡ l.fn.table.list.topics.entries;
  there : IfSome l.least (λ unused. unused.sole.place < length l.fn.table.list.topics.entries);
}
