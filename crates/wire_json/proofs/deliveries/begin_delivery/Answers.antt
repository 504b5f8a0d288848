use Rattle.std.proofs.Common.{◌≡◌, [], ◌∷◌, ◌++◌, append-nil}
use Rattle.std.specs.Prelude.{codes}
use Rattle.json_values.specs.Written.{leading}
use Rattle.json_values.proofs.Written.{follow}
use Rattle.wire_json.specs.Answers.{id_field}
use Rattle.wire_json.specs.Deliveries.{key_field, payload_field, properties_field, time_field}
use Rattle.wire_json.proofs.deliveries.begin_delivery.Goals as goal

pub returns : goal.returns
returns c =
    let m = c.args.message.now in
    let key = rw c.content-content.ensures at c.in_ok-push_key.ensures in
    let payload = rw (c.as_slice.ensures.value, c.content-content.ensures) at c.in_ok-push_payload.ensures in
    let properties = rw c.content-content.ensures at c.in_ok-push_properties.ensures in
    let time = c.in_ok-push_publish_time.ensures in
    let start = rw c.in_ok-begin.ensures at c.in_ok-push_str.ensures.bytes in
    let first = follow [] [] (key_field m.body.key) _ _ start key in
    let keyed : _ ≡ codes "{" ++ leading (key_field m.body.key ++ []) = rw append-nil first in
    let fields = key_field m.body.key in
    let one = follow fields [] (id_field m.position ∷ []) _ _ keyed c.in_ok-push_id.ensures in
    let two = follow fields (id_field m.position ∷ []) (payload_field m.body.payload ∷ []) _ _ one payload in
    let three = follow fields (id_field m.position ∷ payload_field m.body.payload ∷ []) (properties_field m.body.properties ∷ []) _ _ two properties in
    let four = follow fields (id_field m.position ∷ payload_field m.body.payload ∷ properties_field m.body.properties ∷ []) (time_field time.0 ∷ []) _ _ three time.2 in
    (time.0, time.1, four)
