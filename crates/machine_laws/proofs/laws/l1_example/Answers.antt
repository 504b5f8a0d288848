use Rattle.std.proofs.Common.{◌≡◌, [], ◌∷◌, true, refl, arith, ◌∙◌, ap}
use Rattle.std.specs.Prelude.{codes, ◌||◌}
use Rattle.std.specs.FinSet as set
use Rattle.position_core.specs.declared.flow.Flow.TheVariants.{Window}
use Rattle.position_core.specs.declared.kind.Kind.TheVariants.{Exclusive}
use Rattle.position_core.specs.Position.{position_cmp, positions_total}
use Rattle.delivery_machine.specs.Acknowledging.{with_acknowledged}
use Rattle.delivery_machine.specs.Laws.{MayCome, IsSentAndAcknowledged}
use Rattle.delivery_machine.specs.declared.event.Event.TheVariants.{Ack}
use Rattle.delivery_machine.specs.declared.reply.Reply.TheVariants.{Done}
use Rattle.machine_laws.proofs.Example.{first, message, done, dispatch, to_one, sends_in_order, joins, answered, run}
use Rattle.machine_laws.proofs.laws.l1_example.Goals as goal

-- the consumer has acknowledged it
has : set.contains (set.union (set.empty {R = position_cmp}) (set.from_list (first ∷ []))) first ≡ true
has =
    set.contains-union positions_total set.empty (set.from_list (first ∷ [])) first
    ∙ ap (λ b. b || set.contains (set.from_list {R = position_cmp} (first ∷ [])) first) (set.contains-empty position_cmp first)
    ∙ set.contains-from_list positions_total (first ∷ []) first

comes : MayCome IsSentAndAcknowledged
comes name body =
    let before = done name body Exclusive (Window 1) in
    let t = with_acknowledged before (codes "s") (first ∷ []) in (
      joins name body Exclusive (Window 1) (dispatch ∷ Ack 1 first ∷ []),
      answered (to_one ∷ Done ∷ []),
      t,
      run name body Exclusive (Window 1) (dispatch ∷ Ack 1 first ∷ []) (to_one ∷ Done ∷ []) t
          (before, sends_in_order name body (Window 1) refl, (t, (refl, (refl, refl)), refl)),
      (codes "s", message name body, (0, omega arith, refl), refl, refl, has),
    )

pub returns : goal.returns
returns c = comes
