use Rattle.std.proofs.Common.{◌==◌, ℕ, sym, ◌∙◌}
use Rattle.delivery_machine.proofs.Places.{none_passes}
use Rattle.replay_lines.proofs.Splits.{none_is, whole_is, first_is, apart_is}
use Rattle.replay_lines.proofs.splitting.split.Goals as goal

pub returns-in_err-place-clause-none : goal.returns-in_err-place-clause-none
returns-in_err-place-clause-none c = rw c.from_residual.ensures (none_is _ _ (sym c.place_of.ensures ∙ c.in_err-place.was))

pub returns-clause-whole : goal.returns-clause-whole
returns-clause-whole c = whole_is _ _ _ (sym c.place_of.ensures ∙ c.in_ok-place.was)

pub returns-clause-first : goal.returns-clause-first
returns-clause-first c = first_is _ _ _ (sym c.place_of.ensures ∙ c.in_ok-place.was)

pub returns-in_err-place-clause-nowhere : goal.returns-in_err-place-clause-nowhere
returns-in_err-place-clause-nowhere c = rw c.from_residual.ensures (none_passes (λ (byte : ℕ). byte == c.args.separator) c.args.text.now (sym (sym c.place_of.ensures ∙ c.in_err-place.was)))

pub returns-clause-apart : goal.returns-clause-apart
returns-clause-apart c = apart_is _ _ _ (sym c.place_of.ensures ∙ c.in_ok-place.was)
