use Rattle.json_values.proofs.Base64.{payloads_are_base64}
use Rattle.json_values.proofs.laws.payloads_are_base64.Goals as goal

pub returns : goal.returns
returns c = payloads_are_base64
