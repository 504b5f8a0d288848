use Rattle.std.proofs.Common.{◌≡◌, length, ap, rules, sym, true, ◌∙◌}
use Rattle.sqlite.specs.declared.types.Value.TheVariants.{Text as Words}
use Rattle.sqlite.specs.Order.{Row, column}
use Rattle.row_reading.specs.Places.{seen}
use Rattle.row_reading.proofs.Letters.{letter_row, letter_shown}
use Rattle.row_reading.proofs.PlacesRead.{place_below, place_told}
use Rattle.row_reading.proofs.dead_rows.letter_in.Goals as goal
use Rattle.row_reading.proofs.dead_rows.letter_in.Goals.{then-column_count-ne4-via-then-column_count-ne4, then-column_count-ne4-via-else-column_count-ne4+then-not-is_text}
use Rattle.row_forms.specs.Forms.{Span}

pub returns-then-column_count-ne4-clause-all_read : goal.returns-then-column_count-ne4-clause-all_read
returns-then-column_count-ne4-clause-all_read c =
    λ d ready shown.
    let is = letter_row c.args.name.now (seen c.args.deaths.kept) c.args.row.now d shown in
    elim c.then-column_count-ne4.branch [
      | then-column_count-ne4-via-then-column_count-ne4 w ↦ let long : length c.args.row.now ≡ 4 = ap length is in absurd (search (rules, long))
      | then-column_count-ne4-via-else-column_count-ne4+then-not-is_text w ↦
          let at : column c.args.row.now 0 ≡ Words c.args.name.now = ap (λ (r : Row). column r 0) is in
          let yes : w.is_text.result ≡ true = w.is_text.ensures.all_read (at ∙ ap Words (sym w.as_str.ensures.value)) in
          absurd (cc)
    ]

pub returns-in_default-clause-all_read : goal.returns-in_default-clause-all_read
returns-in_default-clause-all_read c =
    λ d ready shown.
    let is = letter_row c.args.name.now (seen c.args.deaths.kept) c.args.row.now d shown in
    c.in_default.ensures.all_read d.ordinal (ap (λ (r : Row). column r 1) is) ready.letter.given

pub returns-in_default-index_at-clause-all_read : goal.returns-in_default-index_at-clause-all_read
returns-in_default-index_at-clause-all_read c =
    λ d ready shown.
    let is = letter_row c.args.name.now (seen c.args.deaths.kept) c.args.row.now d shown in
    c.in_default-index_at.ensures.all_read _ (ap (λ (r : Row). column r 2) is)

pub returns-in_default-position_of-clause-all_read : goal.returns-in_default-position_of-clause-all_read
returns-in_default-position_of-clause-all_read c =
    λ d ready shown.
    let span : Span = seen c.args.deaths.kept in
    let is = letter_row c.args.name.now span c.args.row.now d shown in
    let at = ap (λ (r : Row). column r 2) is in
    let found = c.in-Some-index_at.ensures.shown in
    let below = place_below span.log d.position ready.message in
    place_told span.gone span.log d.position c.in-Some-index_at.index _ at found below c.in_default-position_of.ensures.all_read

pub returns-in_default-2-clause-all_read : goal.returns-in_default-2-clause-all_read
returns-in_default-2-clause-all_read c =
    λ d ready shown.
    let is = letter_row c.args.name.now (seen c.args.deaths.kept) c.args.row.now d shown in
    let none = rw c.in_default-2.is at c.in_ok-target.ensures.all_read in
    none d.target ready.letter.named ready.letter.elsewhere ready.text (ap (λ (r : Row). column r 3) is)

pub returns-clause-shown : goal.returns-clause-shown
returns-clause-shown c =
    let long : length c.args.row.now ≡ 4 = search rules in
    let sub : column c.args.row.now 0 ≡ Words c.args.name.now = c.is_text.ensures.shown (search rules) ∙ ap Words c.as_str.ensures.value in
    letter_shown c.args.name.now (seen c.args.deaths.kept) c.args.row.now c.in-Some-position_of.position c.in-Some-2.target c.in-Some.ordinal c.in-Some-index_at.index long sub
    c.in-Some.ensures.shown c.in-Some-index_at.ensures.shown (rw c.in-Some-2.is at c.in_ok-target.ensures.shown) c.in-Some-position_of.ensures.index
