use Rattle.std.proofs.Common.{◌∙◌, sym, ap, refl}
use Rattle.std.specs.List.{position}
use Rattle.delivery_machine.specs.Words.{is_named}
use Rattle.topic_subscriptions.specs.Placed.{is_placed, sub_in}
use Rattle.topic_parts.proofs.Mapped.{position_mapped}
use Rattle.topic_parts.proofs.parts.Parts.place_of.Goals as goal

pub returns-clause-value : goal.returns-clause-value
returns-clause-value c =
    c.place_of_subscription.ensures ∙ ap (position (is_placed c.args.name.now)) c.deref.ensures.value
    ∙ sym (position_mapped (sub_in c.args.self.now.log.log.log) (is_placed c.args.name.now) (is_named c.args.name.now) (λ _. refl) c.args.self.now.subscriptions.items)
