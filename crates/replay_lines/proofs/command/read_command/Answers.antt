use Rattle.std.proofs.Common.{◌∙◌, ap, sym, arith}
use Rattle.replay_lines.specs.Grammar.{command_text}
use Rattle.replay_lines.proofs.Commands.{stands}
use Rattle.replay_lines.proofs.command.read_command.Goals as goal

pub returns : goal.returns
returns c = λ command is.
    let at = stands command command in
    c.loop-command.invariant at.0 command (omega (arith, at.1)) (is ∙ ap command_text (sym at.2))
