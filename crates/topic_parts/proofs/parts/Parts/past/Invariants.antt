use Rattle.std.proofs.Common.{◌≡◌, ℕ, ◌-◌, ◌<◌, ◌≤◌, Some, slice_get, true}
use Rattle.std.specs.Prelude.{nat_le}
use Rattle.position_core.specs.declared.message.Entry.{Entry}
use Rattle.topic_parts.specs.Parts.{log_of}
use Rattle.topic_parts.proofs.parts.Parts.past.Given as goal

abbrev pub invariant-each : goal.invariant-each
invariant-each l = record {
  within : l.past ≤ l.most;
  passed : (k : ℕ) (e : Entry) → k < l.past → slice_get (log_of l.self) k ≡ Some e → nat_le e.time l.before ≡ true;
}

abbrev pub decreases-each : goal.decreases-each
decreases-each l = l.most - l.past
