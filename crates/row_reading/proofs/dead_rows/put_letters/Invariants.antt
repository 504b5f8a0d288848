use Rattle.std.proofs.Common.{◌<◌, length}
use Rattle.std.specs.List.{All}
use Rattle.row_reading.specs.Places.{seen}
use Rattle.delivery_machine.specs.WellFormed.{AreDeadLettersOf}
use Rattle.row_reading.specs.Reading.{BeginsWithLetters, IsLetterOf, OrdinalsCame}
use Rattle.row_reading.proofs.Letters.{HasLeast, HasNoOthers, HavePlaces}
use Rattle.row_reading.proofs.dead_rows.put_letters.Given as goal

abbrev pub invariant-letters : goal.invariant-letters
invariant-letters l = record {
  rows : BeginsWithLetters l.name (seen l.deaths.kept) l.letters.items l.rows l.rest;
  dead : AreDeadLettersOf (seen l.deaths.kept).log l.letters.items;
  letters : All (IsLetterOf l.deaths.topic.now l.deaths.next_ordinal) l.letters.items;
  least : All (λ d. d.ordinal < l.least) l.letters.items;
  indexes : HavePlaces (seen l.deaths.kept).log l.indexes l.letters.items;
  least_below : HasLeast l.least l.letters.items;
  no_other_places : HasNoOthers (seen l.deaths.kept).log l.indexes l.letters.items;
  ordinals : OrdinalsCame l.letters.items l.fn.ordinals l.ordinals;
}

abbrev pub decreases-letters : goal.decreases-letters
decreases-letters l = length l.rest
