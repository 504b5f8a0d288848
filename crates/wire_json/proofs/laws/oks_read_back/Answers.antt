use Rattle.wire_json.proofs.Returns.{oks_read_back}
use Rattle.wire_json.proofs.laws.oks_read_back.Goals as goal

pub returns : goal.returns
returns c = oks_read_back
