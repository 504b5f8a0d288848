use Rattle.wire_json.proofs.Returns.{deliveries_read_back}
use Rattle.wire_json.proofs.laws.deliveries_read_back.Goals as goal

pub returns : goal.returns
returns c = deliveries_read_back
