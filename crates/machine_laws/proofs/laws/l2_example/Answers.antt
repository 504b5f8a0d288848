use Rattle.std.proofs.Common.{ℕ, [], ◌∷◌, cond, refl, ap, ◌+◌}
use Rattle.position_core.specs.declared.flow.Flow.TheVariants.{Window, Credit}
use Rattle.position_core.specs.declared.kind.Kind.TheVariants.{Exclusive}
use Rattle.delivery_machine.specs.Words.{count_of, is_held_by}
use Rattle.delivery_machine.specs.Delivering.{holding, given}
use Rattle.delivery_machine.specs.Laws.{MayCome, IsSentByPermit, FillsWindow}
use Rattle.delivery_machine.specs.declared.event.Event.TheVariants.{Permit}
use Rattle.delivery_machine.specs.declared.reply.Reply.TheVariants.{Done}
use Rattle.machine_laws.proofs.Example.{first, holder, pending, message, member, subscription, joined, done, dispatch, to_one, sends_in_order, joins, answered, run}
use Rattle.machine_laws.proofs.laws.l2_example.Goals as goal

-- the consumer is permitted a message, and is sent it
pulls : MayCome IsSentByPermit
pulls name body =
    let t = done name body Exclusive (Credit 1) in (
      joins name body Exclusive (Credit 0) (Permit 1 1 ∷ dispatch ∷ []),
      answered (Done ∷ to_one ∷ []),
      t,
      run name body Exclusive (Credit 0) (Permit 1 1 ∷ dispatch ∷ []) (Done ∷ to_one ∷ []) t
          (joined name body Exclusive (Credit 1), (refl, (refl, refl)), (t, sends_in_order name body (Credit 1) refl, refl)),
      (1, message name body, refl, refl, refl, refl, refl),
    )

fills : MayCome FillsWindow
fills name body =
    let t = done name body Exclusive (Window 1) in (
      joins name body Exclusive (Window 1) (dispatch ∷ []),
      answered (to_one ∷ []),
      t,
      run name body Exclusive (Window 1) (dispatch ∷ []) (to_one ∷ []) t (t, sends_in_order name body (Window 1) refl, refl),
      (
        1,
        given (record { message = message name body; count = count_of (subscription name body Exclusive) first }) (member name body (Window 1)),
        holding first holder (subscription name body Exclusive),
        message name body,
        refl,
        refl,
        refl,
        refl,
        refl,
        ap (λ o. 0 + cond {A = ℕ} (is_held_by 1 o) 1 0) pending,
      ),
    )

pub returns : goal.returns
returns c = (pulls, fills)
