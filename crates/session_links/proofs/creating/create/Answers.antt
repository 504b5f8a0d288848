use Rattle.std.proofs.Common.{refl, inl, inr, subst}
use Rattle.session_links.specs.Creating.{Creates, MayCreate}
use Rattle.session_links.specs.declared.creating.Making.{Making}
use Rattle.session_links.proofs.creating.create.Goals as goal

pub returns-in-Ok : goal.returns-in-Ok
unfolding MayCreate
returns-in-Ok g c = inr (subst (λ (m : Making). Creates g.H.Hold.answers m (g.H.Hold.state c.args.hold.now) c.create_by.result (g.H.Hold.state c.create_by.new.hold)) c.in-Ok.ensures c.create_by.ensures)

pub returns-in-Err : goal.returns-in-Err
unfolding MayCreate
returns-in-Err g c = inl (refl, refl)
