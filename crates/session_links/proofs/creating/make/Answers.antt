use Rattle.std.proofs.Common.{◌∙◌, subst, sym}
use Rattle.delivery_machine.specs.declared.event.Event.{Event}
use Rattle.session_links.proofs.Staying.{joined}
use Rattle.session_links.proofs.creating.make.Goals as goal

pub move_on-requires-clause-there : goal.move_on-requires-clause-there
move_on-requires-clause-there g c =
    joined g.H.Hold.answers g.met.H.Hold.hears g.met.H.Hold.refuses _ _ c.requires.joins.0 c.hand-joined.result c.in-Some.consumer
    (subst (λ (e : Event). g.H.Hold.answers (g.H.Hold.state c.args.hold.now) e c.hand-joined.result (g.H.Hold.state c.hand-joined.new.self)) c.requires.joins.1 c.hand-joined.ensures.answers)
    (sym c.consumer_by.ensures ∙ c.in-Some.is)
