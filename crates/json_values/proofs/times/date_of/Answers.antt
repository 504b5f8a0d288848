use Rattle.std.proofs.Common.{arith, w64, ◌∙◌}
use Rattle.std.proofs.lemmas.Int.{to_z_pos}
use Rattle.jiff.proofs.SpanFacts.{signed_arith}
use Rattle.json_values.proofs.Calendar.{day_after, first_day, later_year}
use Rattle.json_values.proofs.times.date_of.Goals as goal

pub returns-clause-day : goal.returns-clause-day
returns-clause-day c =
    let only = rw (to_z_pos w64 c.args.days (omega arith)) at c.days.ensures in
    let after = day_after c.date.result c.args.days c.days.result (first_day c.date.result c.date.ensures) c.requires only in
    c.saturating_add.ensures.fits after.0 ∙ after.1

pub returns-clause-year : goal.returns-clause-year
returns-clause-year c =
    let day = returns-clause-day c in
    later_year c.date.result c.saturating_add.result c.date.ensures.0 (first_day c.date.result c.date.ensures) (omega (arith, signed_arith))
