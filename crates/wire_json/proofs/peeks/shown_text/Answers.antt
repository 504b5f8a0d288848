use Rattle.std.proofs.Common.{◌≡◌, ◌∷◌, [], ◌++◌, ◌∙◌, ap, append_assoc, of_z, string_bytes, sym, to_z, w64}
use Rattle.std.proofs.lemmas.Int.{to_z-of_z}
use Rattle.json_values.specs.Written.{field_text, object_text}
use Rattle.json_values.proofs.Written.{brace_after, comma_pushed, finish, follow}
use Rattle.wire_json.specs.Answers.{id_field}
use Rattle.wire_json.specs.Deliveries.{count_field, key_field, payload_field, properties_field, time_field}
use Rattle.wire_json.specs.Peeks.{producer_field, sequence_field}
use Rattle.wire_json.proofs.peeks.shown_text.Goals as goal

pub returns : goal.returns
returns c =
    let d = c.args.delivery.now in
    let m = d.message in
    let begun = rw c.entry-message.ensures at c.in_ok-begin_delivery.ensures in
    let producer = rw c.entry-message.ensures at c.in_ok-push_producer.ensures in
    let is = rw c.entry-message.ensures at c.sequence_of-sequence.ensures.value in
    let fits = rw c.entry-message.ensures at c.sequence_of-sequence.ensures.fits in
    let number : to_z w64 (of_z w64 c.sequence_of-sequence.result) ≡ m.sequence = ap (λ z. to_z w64 (of_z w64 z)) is ∙ to_z-of_z w64 m.sequence fits in
    let sequence = c.in_ok-push_sequence.ensures ∙ ap (λ n. string_bytes c.push_producer.new.out ++ field_text (sequence_field n)) number in
    let key = key_field m.body.key in
    let early = id_field m.position ∷ payload_field m.body.payload ∷ properties_field m.body.properties ∷ time_field begun.0 ∷ [] in
    let counted = follow key early (count_field d.count ∷ []) _ _ begun.2 (comma_pushed _ _ _ (count_field d.count) c.in_ok-push_count.ensures c.in_ok-push_str.ensures.bytes) in
    let named = follow key (early ++ count_field d.count ∷ []) (producer_field m.producer ∷ []) _ _ counted producer in
    let whole = finish key (early ++ count_field d.count ∷ producer_field m.producer ∷ []) (sequence_field m.sequence) _ _ named (brace_after _ _ _ _ sequence c.in_ok-push_str-2.ensures.bytes) in
    (begun.0, begun.1, whole ∙ ap object_text (sym (append_assoc key (early ++ count_field d.count ∷ []) (producer_field m.producer ∷ sequence_field m.sequence ∷ []))))
