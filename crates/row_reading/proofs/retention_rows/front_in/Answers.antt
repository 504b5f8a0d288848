use Rattle.std.proofs.Common.{◌≡◌, ◌∷◌, [], List, length, subst, rules}
use Rattle.sqlite.specs.Order.{Row}
use Rattle.row_reading.specs.Reading.{IsFrontIn}
use Rattle.row_reading.proofs.Fronts.{front_row, front_short, if_none, one_only}
use Rattle.row_reading.proofs.retention_rows.front_in.Goals as goal

pub returns-in-len1-clause-all_read : goal.returns-in-len1-clause-all_read
returns-in-len1-clause-all_read c =
    let long : length c.args.rows.now ≡ 1 = search rules in
    let one : c.args.rows.now ≡ c.row-item.result ∷ [] = one_only c.args.rows.now c.row-item.result long c.row-item.is in
    if_none c.front_of.result _ _ (λ none front is. none front (front_row c.row-item.result front (subst (λ (l : List Row). IsFrontIn l front) one is))) c.front_of.ensures.all_read

pub returns-in_default-clause-all_read : goal.returns-in_default-clause-all_read
returns-in_default-clause-all_read c = λ front is. front_short c.args.rows.now front (search rules) is
