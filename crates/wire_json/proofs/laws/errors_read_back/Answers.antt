use Rattle.wire_json.proofs.Returns.{errors_read_back}
use Rattle.wire_json.proofs.laws.errors_read_back.Goals as goal

pub returns : goal.returns
returns c = errors_read_back
