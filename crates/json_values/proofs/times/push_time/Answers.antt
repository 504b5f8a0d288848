use Rattle.std.proofs.Common.{refl}
use Rattle.json_values.proofs.times.push_time.Goals as goal

pub returns : goal.returns
returns c =
    rw (← c.millis-millis.ensures.value) (_, (c.date_of-date.result, c.date_of-date.ensures.day, refl), c.in_ok-push_date_and_clock.ensures)
