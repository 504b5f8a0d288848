use Rattle.json_values.proofs.Appends.{after_three}
use Rattle.json_values.proofs.times.push_clock.Goals as goal

pub returns : goal.returns
returns c = after_three _ _ _ _ _ _ _ c.in_ok-push_hour.ensures c.in_ok-push_str.ensures.bytes c.in_ok-push_second.ensures
