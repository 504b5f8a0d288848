-- The list of all commands.
use Rattle.std.proofs.Common.{◌≡◌, ℕ, ◌<◌, length, get_or, lit<, refl}
use Rattle.replay_lines.specs.declared.command.Command.{Command}
use Rattle.replay_lines.specs.declared.command.Command.TheVariants as commands
use Rattle.replay_lines.specs.declared.command.TheConstants.{ALL}

-- each command stands in the list
pub stands : (command d : Command) → (k : ℕ) × (k < length ALL) × (get_or ALL k d ≡ command)
stands commands.Producer d = (0, lit< tt, refl)
stands commands.DropProducer d = (1, lit< tt, refl)
stands commands.Publish d = (2, lit< tt, refl)
stands commands.Stored d = (3, lit< tt, refl)
stands commands.Progress d = (4, lit< tt, refl)
stands commands.Subscribe d = (5, lit< tt, refl)
stands commands.Leave d = (6, lit< tt, refl)
stands commands.Permit d = (7, lit< tt, refl)
stands commands.Ack d = (8, lit< tt, refl)
stands commands.AckUpTo d = (9, lit< tt, refl)
stands commands.Nack d = (10, lit< tt, refl)
stands commands.Tick d = (11, lit< tt, refl)
stands commands.Seek d = (12, lit< tt, refl)
stands commands.SeekTime d = (13, lit< tt, refl)
stands commands.Skip d = (14, lit< tt, refl)
stands commands.DropSubscription d = (15, lit< tt, refl)
stands commands.Stats d = (16, lit< tt, refl)
stands commands.Dispatch d = (17, lit< tt, refl)
stands commands.Collect d = (18, lit< tt, refl)
stands commands.DeadNext d = (19, lit< tt, refl)
stands commands.DeadDone d = (20, lit< tt, refl)
stands commands.Trim d = (21, lit< tt, refl)
stands commands.Restart d = (22, lit< tt, refl)
