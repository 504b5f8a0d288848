use Rattle.std.proofs.Common.{ap, ◌∙◌}
use Rattle.delivery_machine.specs.State.{DeadLetter}
use Rattle.delivery_machine.specs.WellFormed.{has_message}
use Rattle.topic_parts.proofs.Sought.{nowhere}
use Rattle.topic_parts.proofs.seeking.places_of.Goals as goal

pub returns-in_default-clause-stand : goal.returns-in_default-clause-stand
returns-in_default-clause-stand c =
    absurd (nowhere c.args.log.now.log.log c.letter.inside.position
    (ap (λ (l : DeadLetter). has_message c.args.log.now.log.log l.position) (c.letter.view_is ∙ c.letter-item.is) ∙ c.requires c.loop-letter.letter-index c.letter-item.result c.loop-letter-test.true) c.in_default.ensures)

pub returns-in_default-clause-small : goal.returns-in_default-clause-small
returns-in_default-clause-small c =
    absurd (nowhere c.args.log.now.log.log c.letter.inside.position
    (ap (λ (l : DeadLetter). has_message c.args.log.now.log.log l.position) (c.letter.view_is ∙ c.letter-item.is) ∙ c.requires c.loop-letter.letter-index c.letter-item.result c.loop-letter-test.true) c.in_default.ensures)
