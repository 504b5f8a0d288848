use Rattle.std.proofs.Common.{◌≡◌, List, Bool, refl}
use Rattle.std.specs.Prelude.{codes, not, nat_lt}
use Rattle.position_core.specs.declared.topic_name.TopicName.{TopicName}
use Rattle.position_core.specs.declared.body.Content.{Content}
use Rattle.murmur_core.specs.Sticky.{sticky_hash}
use Rattle.delivery_machine.specs.State.{State, fresh}
use Rattle.delivery_machine.specs.Run.{Run}
use Rattle.delivery_machine.specs.declared.event.Event.{Event}
use Rattle.delivery_machine.specs.declared.reply.Reply.{Reply}
use Rattle.delivery_machine.specs.Laws.{MayCome, ArePendingInKeyShared}
use Rattle.delivery_machine.proofs.Deciding.{itself}
use Rattle.machine_laws.proofs.TwoMessages.{message}
use Rattle.machine_laws.proofs.TwoHashes.{owner, differ, apart, keyed, three_held, first-of-three, second-of-three, third-of-three, other, done, events_by_hash, replies_by_hash, run_by_hash}
use Rattle.machine_laws.proofs.laws.l4_example.Goals as goal

by_half : (name : TopicName) (body : Content) (low : Bool) → nat_lt (sticky_hash body.key) 32768 ≡ low
    → (events : List Event) × (replies : List Reply) × (t : State) × Run (fresh name 1) events replies t × ArePendingInKeyShared body events replies t
by_half name body low half = (
  events_by_hash name body low,
  replies_by_hash name body low,
  done name body low,
  run_by_hash name body low half,
  (
    codes "s",
    keyed (three_held low),
    message body 0,
    message body 1,
    message (other name body low) 2,
    owner low,
    owner (not low),
    refl,
    refl,
    refl,
    refl,
    refl,
    refl,
    apart name body low half,
    differ low,
    rw (first-of-three low) (itself (owner low)),
    rw (second-of-three low) (itself (owner low)),
    rw (third-of-three low) (itself (owner (not low))),
  ),
)

comes : MayCome ArePendingInKeyShared
comes name body = by_half name body (nat_lt (sticky_hash body.key) 32768) refl

pub returns : goal.returns
returns c = comes
