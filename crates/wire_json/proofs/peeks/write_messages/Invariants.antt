use Rattle.std.proofs.Common.{◌≡◌, take, string_bytes}
use Rattle.wire_json.proofs.Peeked.{AllShown, none_in}
use Rattle.wire_json.proofs.peeks.write_messages.Given as goal

abbrev pub invariant-loop-delivery : goal.invariant-loop-delivery
invariant-loop-delivery l = record {
  first : l.is_first ≡ none_in (take l.delivery-index l.deliveries);
  shown : AllShown (take l.delivery-index l.deliveries) (string_bytes l.out);
}
