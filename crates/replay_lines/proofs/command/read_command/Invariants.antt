use Rattle.std.proofs.Common.{◌≡◌, ℕ, ◌<◌, get_or}
use Rattle.replay_lines.specs.declared.command.Command.{Command}
use Rattle.replay_lines.specs.Grammar.{command_text}
use Rattle.replay_lines.proofs.command.read_command.Given as goal

abbrev pub invariant-loop-command : goal.invariant-loop-command
invariant-loop-command l = (k : ℕ) (d : Command) → k < l.command-index → l.word ≡ command_text (get_or l.command-items k d) → ⊥
