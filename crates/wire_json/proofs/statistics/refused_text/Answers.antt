use Rattle.std.proofs.Common.{[], ◌∷◌}
use Rattle.std.specs.Prelude.{codes}
use Rattle.position_core.specs.Fault.{number_of}
use Rattle.json_values.proofs.Written.{finish, follow}
use Rattle.wire_json.specs.Statistics.{number_field, result_field}
use Rattle.wire_json.proofs.statistics.refused_text.Goals as goal

pub returns : goal.returns
returns c =
    let number = rw (c.from.ensures, c.number.ensures) at c.in_ok-push_number.ensures in
    finish [] (number_field (codes "fault") (number_of c.args.fault) ∷ []) (result_field (codes "refused")) _ _ (follow [] [] (number_field (codes "fault") (number_of c.args.fault) ∷ []) _ _ c.in_ok-push_brace.ensures number) c.in_ok-push_result.ensures
