use Rattle.std.proofs.Common.{◌≡◌, sym, ap, ◌∙◌, arith}
use Rattle.json_values.proofs.Parsed.{no_object}
use Rattle.json_glances.proofs.Opened.{object_of_text}
use Rattle.json_glances.proofs.objects.text_of.Goals as goal

pub returns-in-Ok : goal.returns-in-Ok
returns-in-Ok c = object_of_text c.args.bytes.now _ (omega arith) c.in-Ok.ensures.1 c.in-Ok.ensures.0

pub returns-in-Err : goal.returns-in-Err
returns-in-Err c = no_object c.args.bytes.now (omega arith) (λ is. absurd (c.in-Err.ensures is))
