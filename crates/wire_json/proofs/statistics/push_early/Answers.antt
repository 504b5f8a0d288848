use Rattle.std.specs.Prelude.{[], ◌∷◌, codes}
use Rattle.json_values.proofs.Written.{leading_three_parts, leading_two}
use Rattle.wire_json.specs.Statistics.{gone_field, kind_field, number_field}
use Rattle.wire_json.proofs.statistics.push_early.Goals as goal

pub returns : goal.returns
returns c =
    let of = c.args.of in
    let acknowledged = number_field (codes "acknowledged") of.acknowledged in
    let dead = number_field (codes "dead") of.dead in
    let live = number_field (codes "live") of.live in
    leading_three_parts _ (acknowledged ∷ dead ∷ []) (gone_field of.gone) (kind_field of.kind ∷ live ∷ []) _ _ _
    (leading_two _ acknowledged dead _ _ c.in_ok-push_number.ensures c.in_ok-push_number-2.ensures)
    c.in_ok-push_gone.ensures
    (leading_two _ (kind_field of.kind) live _ _ c.in_ok-push_kind.ensures c.in_ok-push_number-3.ensures)
