-- Producers of messages that are gone and their rows.
use Rattle.std.proofs.Common.{◌≡◌, ℕ, List, ◌++◌, ap}
use Rattle.std.proofs.lemmas.List.{map-append}
use Rattle.delivery_machine.specs.State.{Author}
use Rattle.row_forms.specs.Changes.{author_cells}
use Rattle.row_forms.specs.Forms.{author_row, author_rows}
use Rattle.row_forms.proofs.Differences.{IsJoined}

pub author_is : (row author : Author) → row ≡ author → (topic : List ℕ) → author_cells topic row ≡ author_row topic author
author_is row author same topic = ap (author_row topic) same

pub author_rows-append : IsJoined author_rows
author_rows-append topic first second = map-append (author_row topic) first second
