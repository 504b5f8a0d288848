use Rattle.std.proofs.Common.{refl}
use Rattle.std.specs.Prelude.{codes}
use Rattle.json.specs.Print.{escape_byte}
use Rattle.json_values.proofs.Written.{plain_comma_pushed}
use Rattle.json_values.proofs.PlainTimes.{plain_time}
use Rattle.wire_json.proofs.deliveries.push_publish_time.Goals as goal

pub returns : goal.returns
unfolding escape_byte
returns c =
    let time = c.in_ok-push_time.ensures in
    (time.0, time.1, plain_comma_pushed (codes "publishTime") _ _ _ _ _ _ (plain_time _ _ time.1) refl c.in_ok-push_str.ensures.bytes time.2 c.in_ok-push_str-2.ensures.bytes)
