use Rattle.std.proofs.Common.{◌≡◌, take}
use Rattle.plain_lists.specs.Counted.{raised_entries}
use Rattle.plain_lists.proofs.counts.raised_entries.Given as goal

abbrev pub invariant-loop-position : goal.invariant-loop-position
invariant-loop-position l = l.raised.items ≡ raised_entries l.entries (take l.position-index l.positions)
