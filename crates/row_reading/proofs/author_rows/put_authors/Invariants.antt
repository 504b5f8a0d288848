use Rattle.std.proofs.Common.{◌≡◌, ◌≤◌, ℕ, List, map, take}
use Rattle.std.specs.List.{IsDistinct}
use Rattle.std.specs.Str.{bytes_eq}
use Rattle.delivery_machine.specs.WellFormed.{AreGiven}
use Rattle.row_forms.specs.Forms.{author_rows}
use Rattle.row_reading.specs.Reading.{RememberFromZero, put}
use Rattle.row_reading.proofs.AuthorsRead.{HasLeast, index_of, name_of}
use Rattle.row_reading.proofs.author_rows.put_authors.Given as goal

abbrev pub invariant-rows : goal.invariant-rows
invariant-rows l = record {
  rows : (topic : List ℕ) → put topic (take l.row-index l.rows) ≡ author_rows topic l.authors.items;
  names : IsDistinct bytes_eq (map name_of l.authors.items);
  given : AreGiven l.least (map index_of l.authors.items);
  low : l.least ≤ l.gone;
  from_zero : RememberFromZero l.authors.items;
  least_below : HasLeast l.least l.authors.items;
}
