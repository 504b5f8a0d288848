use Rattle.std.proofs.Common.{[], ◌∷◌, refl, ap, arith}
use Rattle.position_core.specs.declared.flow.Flow.TheVariants.{Window}
use Rattle.position_core.specs.declared.kind.Kind.TheVariants.{Shared}
use Rattle.delivery_machine.specs.Words.{count_of, is_held_by}
use Rattle.delivery_machine.specs.Delivering.{holding, given}
use Rattle.delivery_machine.specs.Laws.{MayCome, IsPendingInShared}
use Rattle.delivery_machine.specs.declared.delivery.Delivery.{Delivery}
use Rattle.machine_laws.proofs.Example.{first, holder, pending, message, member, subscription, done, dispatch, to_one, sends_at_best_level, joins, answered, run}
use Rattle.machine_laws.proofs.laws.reached_example.Goals as goal

comes : MayCome IsPendingInShared
comes name body =
    let t = done name body Shared (Window 1) in
    let d : Delivery = record { message = message name body; count = count_of (subscription name body Shared) first } in (
      joins name body Shared (Window 1) (dispatch ∷ []),
      answered (to_one ∷ []),
      t,
      run name body Shared (Window 1) (dispatch ∷ []) (to_one ∷ []) t (t, sends_at_best_level name body (Window 1) refl, refl),
      (given d (member name body (Window 1)), holding first holder (subscription name body Shared), d, (0, omega arith, refl), refl, refl, refl, refl, ap (is_held_by 1) pending),
    )

pub returns : goal.returns
returns c = comes
