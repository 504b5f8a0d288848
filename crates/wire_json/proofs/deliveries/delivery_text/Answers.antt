use Rattle.std.proofs.Common.{[], ◌∷◌}
use Rattle.json_values.proofs.Written.{brace_after, finish}
use Rattle.wire_json.specs.Answers.{id_field}
use Rattle.wire_json.specs.Deliveries.{count_field, key_field, payload_field, properties_field, time_field}
use Rattle.wire_json.proofs.deliveries.delivery_text.Goals as goal

pub returns : goal.returns
returns c =
    let m = c.args.message.now in
    let begun = c.in_ok-begin_delivery.ensures in (
      begun.0,
      begun.1,
      finish (key_field m.body.key) (id_field m.position ∷ payload_field m.body.payload ∷ properties_field m.body.properties ∷ time_field begun.0 ∷ []) (count_field c.args.count) _ _ begun.2
          (brace_after _ _ _ _ c.in_ok-push_count.ensures c.in_ok-push_str.ensures.bytes),
    )
