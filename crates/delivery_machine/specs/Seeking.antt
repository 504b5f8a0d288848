-- Where a subscription goes on from: seeking, by position or by time, and skipping. Dropping it.
use Rattle.std.specs.Prelude.{◌≡◌, ℕ, nat_le, List, map, take, length}
use Rattle.std.specs.List.{filter, position_or_len}
use Rattle.std.specs.FinSet as set
use Rattle.std.specs.FinMap as map_of
use Rattle.position_core.specs.declared.position.Position.{Position}
use Rattle.position_core.specs.declared.message.Entry.{Entry}
use Rattle.delivery_machine.specs.State.{State, Subscription}
use Rattle.delivery_machine.specs.Words.{changed, removed, is_named, is_live, has_position, visible, emptied_at}
use Rattle.delivery_machine.specs.Acknowledging.{with_acknowledged}
use Rattle.delivery_machine.specs.declared.event.Target.{Target}
use Rattle.delivery_machine.specs.declared.event.Target.TheVariants.{Earliest, Latest, At}
use Rattle.delivery_machine.specs.declared.reply.Reply.{Reply}
use Rattle.delivery_machine.specs.declared.reply.Reply.TheVariants.{Done}

-- ---- seeking

-- the messages before are acknowledged, and no others; nothing is pending or counted
abbrev pub seeking : List Entry → Subscription → Subscription
seeking before sub = record sub {
  acknowledged = set.from_list (map (λ e. e.position) before);
  pending = map_of.empty;
  counts = map_of.empty;
}

-- the subscription goes on after the first messages of the log, so many
abbrev pub sought : State → List ℕ → ℕ → State
sought s name count = record s {
  subscriptions = changed (is_named name) (seeking (take count s.log)) s.subscriptions;
  members = map (emptied_at name) s.members;
}

-- how many messages stand before the target
abbrev pub length_before : State → Target → ℕ
length_before s Earliest = 0
length_before s Latest = length s.log
length_before s (At position) = position_or_len (has_position position) s.log

abbrev pub Seeks : State → List ℕ → Target → Reply → State → Type 0
Seeks s name target reply t = (reply ≡ Done) × (t ≡ sought s name (length_before s target))

-- how many visible messages stand before the first that is not earlier
abbrev pub length_before_time : State → ℕ → ℕ
length_before_time s time = position_or_len (λ e. nat_le time e.time) (visible s)

abbrev pub SeeksTime : State → List ℕ → ℕ → Reply → State → Type 0
SeeksTime s name time reply t = (reply ≡ Done) × (t ≡ sought s name (length_before_time s time))

-- ---- skipping, dropping

-- the positions of the first live messages, so many
abbrev pub first_live_in : List Entry → Subscription → ℕ → List Position
first_live_in visible sub count = take count (map (λ e. e.position) (filter (is_live sub) visible))

abbrev pub first_live : State → Subscription → ℕ → List Position
first_live s sub count = first_live_in (visible s) sub count

abbrev pub Skips : State → List ℕ → ℕ → Subscription → Reply → State → Type 0
Skips s name count sub reply t = (reply ≡ Done) × (t ≡ with_acknowledged s name (first_live s sub count))

abbrev pub Drops : State → List ℕ → Reply → State → Type 0
Drops s name reply t = (reply ≡ Done) × (t ≡ record s { subscriptions = removed (is_named name) s.subscriptions })
