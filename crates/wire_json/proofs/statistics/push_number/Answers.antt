use Rattle.json_values.proofs.Written.{named_number_pushed}
use Rattle.wire_json.proofs.statistics.push_number.Goals as goal

pub returns : goal.returns
returns c =
    named_number_pushed _ _ _ _ _ _ _ c.in_ok-push_quoted.ensures.bytes c.in_ok-push_str.ensures.bytes c.in_ok-push_decimal.ensures c.in_ok-push_str-2.ensures.bytes
