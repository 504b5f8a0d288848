use Rattle.std.proofs.Common.{◌≡◌, take}
use Rattle.delivery_machine.specs.Trimming.{with_authors}
use Rattle.plain_lists.proofs.authors.remember_all.Given as goal

abbrev pub invariant-each : goal.invariant-each
invariant-each l = l.authors.items ≡ with_authors l.index (take l.i l.messages) l.initial.authors.items
