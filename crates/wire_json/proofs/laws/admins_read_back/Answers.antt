use Rattle.wire_json.proofs.Returns.{admins_read_back}
use Rattle.wire_json.proofs.laws.admins_read_back.Goals as goal

pub returns : goal.returns
returns c = admins_read_back
