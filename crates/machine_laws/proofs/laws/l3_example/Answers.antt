use Rattle.std.proofs.Common.{refl}
use Rattle.position_core.specs.declared.kind.Kind.TheVariants.{Exclusive}
use Rattle.delivery_machine.specs.Shares.{no_shares}
use Rattle.delivery_machine.specs.Laws.{MayCome, ArePendingInOrder}
use Rattle.machine_laws.proofs.TwoMessages.{message, subscription, two_held, first-of-two, second-of-two, twice_given, in_order, events_in_order, replies_in_order, run_in_order}
use Rattle.machine_laws.proofs.laws.l3_example.Goals as goal

comes : MayCome ArePendingInOrder
comes name body = (
  events_in_order name body,
  replies_in_order name body,
  in_order name body,
  run_in_order name body,
  (
    twice_given name body,
    subscription Exclusive no_shares (two_held 1),
    message body 0,
    message body 1,
    refl,
    refl,
    refl,
    refl,
    refl,
    refl,
    refl,
    refl,
    rw (first-of-two 1, second-of-two 1) refl,
    rw (first-of-two 1) refl,
    rw (second-of-two 1) refl,
  ),
)

pub returns : goal.returns
returns c = comes
