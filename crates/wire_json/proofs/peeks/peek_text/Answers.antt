use Rattle.wire_json.proofs.Peeked.{peeked}
use Rattle.wire_json.proofs.peeks.peek_text.Goals as goal

pub returns : goal.returns
returns c = peeked c.args.deliveries.now _ _ c.in_ok-begin_peek.ensures c.in_ok-push_str.ensures.bytes
