use Rattle.std.specs.Prelude.{[], ◌∷◌, codes}
use Rattle.json_values.proofs.Written.{leading_three_parts}
use Rattle.wire_json.specs.Statistics.{number_field, oldest_field}
use Rattle.wire_json.proofs.statistics.push_late.Goals as goal

pub returns : goal.returns
returns c =
    let of = c.args.of in
    leading_three_parts _ (number_field (codes "members") of.members ∷ []) (oldest_field of.gone of.oldest) (number_field (codes "pending") of.pending ∷ []) _ _ _
    c.in_ok-push_number.ensures c.in_ok-push_oldest.ensures c.in_ok-push_number-2.ensures
