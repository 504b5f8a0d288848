use Rattle.std.proofs.Common.{◌≡◌, IfOk, option_map, string_bytes, ap, subst, ◌∙◌}
use Rattle.json_values.specs.Objects.{object_of}
use Rattle.wire_json.specs.PublishFields.{reading_seen, seen_in}
use Rattle.wire_json.specs.Publishes.{Reading, publish_of}
use Rattle.wire_json.proofs.SeenPublishes.{reading_from, text_seen}
use Rattle.wire_json.proofs.publishes.read_publish.Goals as goal

pub returns-in-Some : goal.returns-in-Some
returns-in-Some c =
    let read = rw c.in-Some.is at c.in_ok-fields.ensures in
    let is : reading_seen (seen_in c.in-Some.fields) ≡ publish_of c.args.text.now = ap reading_from read ∙ text_seen (object_of c.args.text.now) in
    subst (λ (r : Reading). IfOk c.reading_in.result (λ said. r ≡ record { context = option_map string_bytes said.context; content = said.content })) is c.reading_in.ensures
