use Rattle.std.proofs.Common.{ap, ◌∙◌}
use Rattle.json_values.specs.Objects.{object_of}
use Rattle.wire_json.proofs.SeenCommands.{command_from_seen, text_seen}
use Rattle.wire_json.proofs.commands.read_command.Goals as goal

pub returns-in-Some : goal.returns-in-Some
returns-in-Some c =
    let read = rw c.in-Some.is at c.in_ok-fields.ensures in
    c.command_in.ensures ∙ ap command_from_seen read ∙ text_seen (object_of c.args.text.now)
