use Rattle.std.proofs.Common.{subst, sym}
use Rattle.delivery_machine.specs.Places.{KeptTopic}
use Rattle.row_forms.specs.Standing.{Stands}
use Rattle.row_store.proofs.planning.base_of.Goals as goal

pub returns-then-goes_on_from-clause-known : goal.returns-then-goes_on_from-clause-known
returns-then-goes_on_from-clause-known g c = λ db all.
    subst (λ (kept : KeptTopic). Stands kept db) (sym c.base-item.is) (all c.loop-base.base-index c.base-item.result c.loop-base-test.true)
