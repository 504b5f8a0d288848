use Rattle.std.proofs.Common.{rules, ◌≡◌, subst, ◌∙◌, refl}
use Rattle.delivery_machine.specs.declared.reply.Reply.TheVariants.{Durable}
use Rattle.delivery_machine.specs.Run.{Step}
use Rattle.topic_shared.proofs.Cells.{kept_stored}
use Rattle.topic_shared.proofs.cell.Cell.store_line.Goals as goal

pub invariant_of-self : goal.invariant_of-self
invariant_of-self g c =
    let is : c.event.result.now ≡ c.args.event = c.event.ensures ∙ c.in-Ok.ensures.value in
    let count = c.store_to-count.result in
    let step = subst (λ e. Step (g.T.Topic.state c.self.inside.topic) e (Durable count) (g.T.Topic.state c.store_to-count.new.topic)) is c.store_to-count.ensures in
    kept_stored _ _ _ _ _ _ c.args.event count c.self.invariant c.requires.storing
    (search rules)
    (record { step = step; line = search rules; others = refl })
    c.write.ensures.capacity
