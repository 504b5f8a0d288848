use Rattle.std.proofs.Common.{[]}
use Rattle.std.specs.Prelude.{codes}
use Rattle.json_values.proofs.Written.{finish}
use Rattle.wire_json.specs.Statistics.{result_field}
use Rattle.wire_json.proofs.statistics.done_text.Goals as goal

pub returns : goal.returns
returns c = finish [] [] (result_field (codes "ok")) _ _ c.in_ok-push_brace.ensures c.in_ok-push_result.ensures
