-- Acknowledging: messages leave a subscription, whoever holds them.
use Rattle.std.specs.Prelude.{◌≡◌, ℕ, Bool, not, List, map, IsSomeAnd, if◌then◌else◌}
use Rattle.std.specs.List.{filter, find, list_any}
use Rattle.std.specs.Ordering.{is_le}
use Rattle.std.specs.FinSet as set
use Rattle.std.specs.FinMap as map_of
use Rattle.position_core.specs.declared.position.Position.{Position}
use Rattle.position_core.specs.declared.message.Entry.{Entry}
use Rattle.position_core.specs.Position.{position_cmp, same_position}
use Rattle.position_core.specs.Numbers.{ConsumerNumber}
use Rattle.delivery_machine.specs.State.{State, Member, Subscription}
use Rattle.delivery_machine.specs.Words.{changed, is_member, is_named, is_at}
use Rattle.delivery_machine.specs.declared.delivery.Delivery.{Delivery}
use Rattle.delivery_machine.specs.declared.reply.Reply.{Reply}
use Rattle.delivery_machine.specs.declared.reply.Reply.TheVariants.{Done}

abbrev pub is_one_of : List Position → Position → Bool
is_one_of positions position = list_any (same_position position) positions

abbrev pub without : List Position → List Delivery → List Delivery
without positions out = filter (λ d. not (is_one_of positions d.message.position)) out

-- what is acknowledged is neither pending nor counted
abbrev pub acknowledging : List Position → Subscription → Subscription
acknowledging positions sub = record sub {
  acknowledged = set.union sub.acknowledged (set.from_list positions);
  pending = map_of.retain_keys sub.pending (λ p. not (is_one_of positions p));
  counts = map_of.retain_keys sub.counts (λ p. not (is_one_of positions p));
}

-- a member of the subscription no longer has the messages among what it was sent
abbrev pub forgetting : List ℕ → List Position → Member → Member
forgetting name positions m = if is_at name m then record m { out = without positions m.out } else m

abbrev pub with_acknowledged : State → List ℕ → List Position → State
with_acknowledged s name positions = record s {
  subscriptions = changed (is_named name) (acknowledging positions) s.subscriptions;
  members = map (forgetting name positions) s.members;
}

-- the messages leave the subscription of the member that acknowledges them
abbrev pub Acks : State → ConsumerNumber → List Position → Reply → State → Type 0
Acks s consumer positions reply t =
    (reply ≡ Done) × IsSomeAnd (find (is_member consumer) s.members) (λ m. t ≡ with_acknowledged s m.subscription positions)

-- the position, and each before it in the log
abbrev pub positions_up_to : Position → List Entry → List Position
positions_up_to position log = map (λ e. e.position) (filter (λ e. is_le (position_cmp e.position position)) log)
