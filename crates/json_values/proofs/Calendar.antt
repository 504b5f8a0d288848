-- Days after 1 January 1970.
use Rattle.std.proofs.Common.{◌≡◌, ℕ, ◌≤◌, ℤ, pos, ◌+ℤ◌, ◌-ℤ◌, ◌∙◌, ◌≤ℤ◌, inl, refl, arith}
use Rattle.std.proofs.lemmas.Int.{by_lt_z}
use Rattle.jiff_core.specs.declared.civil.date.Date.{Date}
use Rattle.jiff_core.specs.declared.span.Span.{Span}
use Rattle.jiff_core.specs.declared.unit.Unit.TheVariants.{Day}
use Rattle.jiff_core.specs.Span.{IsOnly}
use Rattle.jiff.specs.Words.{date_add, CanAddToDate}
use Rattle.jiff_core.specs.Calendar.{IsEpochDay, days_from_civil, day_count}
use Rattle.jiff_core.specs.Date.{epoch_day, IsYmd}
use Rattle.jiff.proofs.SpanFacts.{signed_arith, can_add-days, date_add-days}
use Rattle.jiff_core.proofs.DateLemmas.{epoch_day-lt}

none_between : (n : ℤ) → n -ℤ n ≡ pos 0
none_between n = omega (arith, signed_arith)

pub first_day : (d : Date) → IsYmd (pos 1970) (pos 1) (pos 1) d → epoch_day d ≡ pos 0
unfolding days_from_civil
first_day d (year, month, day) =
    let month_is : d.month ≡ 1 = cc in
    let day_is : d.day ≡ 1 = cc in
    rw (year, month_is, day_is, none_between (pos (day_count (pos 1970) 1 1))) refl

pub later_year : (first d : Date) → first.year ≡ pos 1970 → epoch_day first ≡ pos 0 → pos 0 ≤ℤ epoch_day d → pos 0 ≤ℤ d.year
later_year first d year zero later =
    by_lt_z d.year first.year (λ lt. absurd (omega (arith, signed_arith, epoch_day-lt d first (inl lt)))) (λ ge. omega (arith, signed_arith))

-- a span of days takes the first day to the day of that number
pub day_after : (first : Date) (days : ℕ) (span : Span) → epoch_day first ≡ pos 0 → days ≤ 2932896 → IsOnly Day (pos days) span
    → CanAddToDate first span × (date_add first span ≡ pos days)
day_after first days span zero within only =
    let sum : epoch_day first +ℤ pos days ≡ pos days = omega (arith, signed_arith) in
    let known : IsEpochDay (epoch_day first +ℤ pos days) = rw sum (omega (arith, signed_arith), omega (arith, signed_arith)) in
    ((can_add-days first (pos days) span only).1 known, date_add-days first (pos days) span only ∙ sum)
