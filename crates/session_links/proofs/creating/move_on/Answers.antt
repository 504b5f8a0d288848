use Rattle.std.proofs.Common.{◌∙◌, refl, subst, sym}
use Rattle.session_links.specs.Creating.{is_done}
use Rattle.session_links.proofs.Staying.{moves_on, where_done, where_not_done}
use Rattle.session_links.proofs.creating.move_on.Goals as goal

pub returns-then-is_done : goal.returns-then-is_done
returns-then-is_done g c =
    moves_on g.H.Hold.answers g.met.H.Hold.hears g.met.H.Hold.refuses c.args.seeks c.args.drops _ _ _ _ c.hand-sought.result c.hand.result c.args.consumer c.requires.there c.requires.seeks c.hand-sought.ensures.answers c.hand.ensures.answers c.hand.ensures.leaves
    (where_done _ _ (is_done c.hand-sought.result) (sym c.is_done.ensures ∙ c.if-is_done.true) refl)

pub returns : goal.returns
returns g c =
    moves_on g.H.Hold.answers g.met.H.Hold.hears g.met.H.Hold.refuses c.args.seeks c.args.drops _ _ _ _ c.hand-sought.result c.hand.result c.args.consumer c.requires.there c.requires.seeks c.hand-sought.ensures.answers c.hand.ensures.answers c.hand.ensures.leaves
    (where_not_done _ _ (is_done c.hand-sought.result) (sym c.is_done.ensures ∙ c.if-is_done.false)
    (c.hand-2.result, subst (λ s. g.H.Hold.answers s c.args.drops c.hand-2.result (g.H.Hold.state c.hand-2.new.self)) c.spare.ensures c.hand-2.ensures.answers))
