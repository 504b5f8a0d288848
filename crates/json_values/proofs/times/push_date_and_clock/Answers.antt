use Rattle.json_values.proofs.Appends.{after_four}
use Rattle.json_values.proofs.times.push_date_and_clock.Goals as goal

pub returns : goal.returns
returns c = after_four _ _ _ _ _ _ _ _ _ c.in_ok-push_date.ensures c.in_ok-push_str.ensures.bytes c.in_ok-push_clock.ensures c.in_ok-push_str-2.ensures.bytes
