use Rattle.wire_json.proofs.Ids.{id_is_read, read_is_id}
use Rattle.wire_json.proofs.laws.ids_are_read.Goals as goal

pub returns : goal.returns
returns c text position = (read_is_id text position, id_is_read text position)
