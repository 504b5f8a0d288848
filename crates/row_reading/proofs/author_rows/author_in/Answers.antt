use Rattle.std.proofs.Common.{◌≡◌, length, ap, rules}
use Rattle.sqlite.specs.Order.{Row, column}
use Rattle.row_reading.proofs.AuthorsRead.{author_cells_are}
use Rattle.row_reading.proofs.author_rows.author_in.Goals as goal

pub returns-then-column_count-ne3-clause-all_read : goal.returns-then-column_count-ne3-clause-all_read
returns-then-column_count-ne3-clause-all_read c =
    λ a readable shown low below.
    let long : length c.args.row.now ≡ 3 = ap length (author_cells_are c.args.row.now a shown) in
    absurd (search (rules, long))

pub returns-in_default-clause-all_read : goal.returns-in_default-clause-all_read
returns-in_default-clause-all_read c =
    λ a readable shown low below.
    c.in_default.ensures.all_read a.index (ap (λ (r : Row). column r 0) (author_cells_are c.args.row.now a shown)) low below

pub returns-in_default-sequence_at-clause-all_read : goal.returns-in_default-sequence_at-clause-all_read
returns-in_default-sequence_at-clause-all_read c =
    λ a readable shown low below.
    c.in_default-sequence_at.ensures.all_read a.sequence readable.sequence (ap (λ (r : Row). column r 2) (author_cells_are c.args.row.now a shown))

pub returns-in-None-clause-all_read : goal.returns-in-None-clause-all_read
returns-in-None-clause-all_read c =
    λ a readable shown low below.
    let none = rw c.in-None.is at c.in_ok-name.ensures.all_read in
    none a.name readable.name (ap (λ (r : Row). column r 1) (author_cells_are c.args.row.now a shown))
