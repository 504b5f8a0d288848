use Rattle.std.proofs.Common.{◌≡◌, ◌+◌, arith, length, ap, rules, sym, true, true≢false, ◌∙◌}
use Rattle.std.specs.FinSet as set
use Rattle.sqlite.specs.declared.types.Value.TheVariants.{Text as Words}
use Rattle.sqlite.specs.Order.{Row, column}
use Rattle.row_reading.specs.Places.{seen}
use Rattle.row_forms.specs.Forms.{index_in}
use Rattle.row_reading.proofs.Counts.{count_cells_are}
use Rattle.row_reading.proofs.PlacesRead.{place_below, place_told}
use Rattle.row_reading.proofs.count_rows.counted_in.Goals as goal
use Rattle.row_reading.proofs.count_rows.counted_in.Goals.{then-column_count-ne3-via-then-column_count-ne3, then-column_count-ne3-via-else-column_count-ne3+then-not-is_text, then-contains-via-then-contains, then-contains-via-else-contains+then-contains-2}
use Rattle.row_forms.specs.Forms.{Span}

pub returns-then-column_count-ne3-clause-all_read : goal.returns-then-column_count-ne3-clause-all_read
returns-then-column_count-ne3-clause-all_read c =
    λ counted may shown.
    let is = count_cells_are c.args.name.now (seen c.args.done.kept) c.args.row.now counted shown in
    elim c.then-column_count-ne3.branch [
      | then-column_count-ne3-via-then-column_count-ne3 w ↦ let long : length c.args.row.now ≡ 3 = ap length is in absurd (search (rules, long))
      | then-column_count-ne3-via-else-column_count-ne3+then-not-is_text w ↦
          let at : column c.args.row.now 0 ≡ Words c.args.name.now = ap (λ (r : Row). column r 0) is in
          let yes : w.is_text.result ≡ true = w.is_text.ensures.all_read (at ∙ ap Words (sym w.as_str.ensures.value)) in
          absurd (cc)
    ]

pub returns-in_err-index-clause-all_read : goal.returns-in_err-index-clause-all_read
returns-in_err-index-clause-all_read c =
    rw c.from_residual.ensures (λ counted may shown.
    let is = count_cells_are c.args.name.now (seen c.args.done.kept) c.args.row.now counted shown in
    c.in_err-index.ensures.all_read _ (ap (λ (r : Row). column r 1) is))

pub returns-in_err-position-clause-all_read : goal.returns-in_err-position-clause-all_read
returns-in_err-position-clause-all_read c =
    rw c.from_residual-in_err-position.ensures (λ counted may shown.
    let span : Span = seen c.args.done.kept in
    let is = count_cells_are c.args.name.now span c.args.row.now counted shown in
    place_told span.gone span.log counted.0 c.in_ok-index.index _ (ap (λ (r : Row). column r 1) is) c.in_ok-index.ensures.shown (place_below span.log counted.0 may.message) c.in_err-position.ensures.all_read)

pub returns-in_err-times-clause-all_read : goal.returns-in_err-times-clause-all_read
returns-in_err-times-clause-all_read c =
    rw c.from_residual-in_err-times.ensures (λ counted may shown.
    let is = count_cells_are c.args.name.now (seen c.args.done.kept) c.args.row.now counted shown in
    c.in_err-times.ensures.all_read counted.1 (ap (λ (r : Row). column r 2) is) may.redelivered may.most)

pub returns-then-contains-clause-all_read : goal.returns-then-contains-clause-all_read
returns-then-contains-clause-all_read c =
    λ counted may shown.
    let span : Span = seen c.args.done.kept in
    let is = count_cells_are c.args.name.now span c.args.row.now counted shown in
    let at = ap (λ (r : Row). column r 1) is in
    let found = c.in_ok-index.ensures.shown in
    let same : span.gone + c.in_ok-index.index ≡ span.gone + index_in span.log counted.0 = cc in
    let place : c.in_ok-index.index ≡ index_in span.log counted.0 = omega (arith, same) in
    elim c.then-contains.branch [
      | then-contains-via-then-contains w ↦ true≢false (sym w.if-contains.true ∙ c.contains.ensures ∙ ap (set.contains c.args.done.acknowledged.now) place ∙ may.waits)
      | then-contains-via-else-contains+then-contains-2 w ↦ true≢false (sym w.if-contains-2.true ∙ w.contains-else-contains.ensures ∙ ap (set.contains c.args.done.dead.now) place ∙ may.lives)
    ]
