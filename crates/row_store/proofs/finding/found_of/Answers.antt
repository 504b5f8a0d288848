use Rattle.std.proofs.Common.{refl}
use Rattle.row_reading.specs.Reading.{span_read}
use Rattle.row_store.proofs.Storing.{read_stands}
use Rattle.row_store.proofs.Unfound.{none_logged, none_whole}
use Rattle.row_store.proofs.finding.found_of.Goals as goal

pub returns-then-not-whole-clause-found : goal.returns-then-not-whole-clause-found
returns-then-not-whole-clause-found c =
    λ db these sorted has reads.
    none_logged c.args.name.now _ c.args.sides.now db refl these c.args.reader.head c.args.reader.front c.args.whole c.requires.head c.requires.front c.if-not-whole.true reads sorted

pub returns-in-Ok-Some-clause-found : goal.returns-in-Ok-Some-clause-found
returns-in-Ok-Some-clause-found c =
    λ db these sorted has reads.
    read_stands c.in-Ok-Some.snapshot c.args.name.now _ (span_read c.args.reader) c.args.sides.now db refl (rw c.in-Ok-Some.field-0-is at c.in-Ok-Some.ensures.name) (rw c.in-Ok-Some.field-0-is at c.in-Ok-Some.ensures.rows) these (has c.if-not-whole.false)

pub returns-in-Ok-None-clause-found : goal.returns-in-Ok-None-clause-found
returns-in-Ok-None-clause-found c =
    λ db these sorted has reads.
    none_whole c.args.name.now _ c.args.sides.now db refl these c.args.reader.front c.args.reader.log c.requires.front (has c.if-not-whole.false) (rw c.in-Ok-None.field-0-is at c.in-Ok-None.ensures.whole) sorted
