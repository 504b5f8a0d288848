-- Members: joining a subscription, which the first one makes, leaving it, and permits.
use Rattle.std.specs.Prelude.{◌≡◌, ℕ, ◌+◌, ◌==◌, Bool, not, ◌&&◌, List, [], ◌∷◌, ◌++◌, Option, map, IsSomeAnd, IfSome, if◌then◌else◌}
use Rattle.std.specs.List.{find, insert, position_or_len}
use Rattle.std.specs.Option.{option_eq}
use Rattle.std.specs.Ordering.{is_lt}
use Rattle.std.specs.FinSet as set
use Rattle.std.specs.FinMap as map_of
use Rattle.position_core.specs.declared.message.Entry.{Entry}
use Rattle.position_core.specs.declared.kind.Kind.{Kind}
use Rattle.position_core.specs.declared.ranges.HashRange.{HashRange}
use Rattle.position_core.specs.declared.kind.Kind.TheVariants.{Failover}
use Rattle.position_core.specs.Position.{position_cmp}
use Rattle.position_core.specs.Name.{name_order}
use Rattle.position_core.specs.Flow.{granted}
use Rattle.position_core.specs.Ranges.{AreRanges}
use Rattle.position_core.specs.Numbers.{ConsumerNumber}
use Rattle.delivery_machine.specs.State.{State, Member, Subscription}
use Rattle.delivery_machine.specs.Shares.{no_shares, shares_with, shares_without}
use Rattle.delivery_machine.specs.Words.{changed, removed, is_member, is_named, is_held_by, has_subscription, has_kind, active_at, emptied_at}
use Rattle.delivery_machine.specs.declared.event.Initial.{Initial}
use Rattle.delivery_machine.specs.declared.event.Initial.TheVariants.{Earliest, Latest}
use Rattle.delivery_machine.specs.declared.reply.Reply.{Reply}
use Rattle.delivery_machine.specs.declared.reply.Reply.TheVariants.{Subscribed, Done}

-- what a new subscription begins with as acknowledged
abbrev pub acknowledged_at_first : Initial → List Entry → set.FinSet position_cmp
acknowledged_at_first Earliest log = set.empty
acknowledged_at_first Latest log = set.from_list (map (λ e. e.position) log)

abbrev pub new_subscription : List ℕ → Kind → Option (List HashRange) → ConsumerNumber → Initial → List Entry → Subscription
new_subscription name kind ranges consumer initial log = record {
  name = name;
  kind = kind;
  acknowledged = acknowledged_at_first initial log;
  pending = map_of.empty;
  counts = map_of.empty;
  shares = shares_with kind ranges consumer no_shares;
  dead = [];
  safe = 0;
}

-- the subscription goes before the first of a greater name
abbrev pub placed : Subscription → List Subscription → List Subscription
placed sub subs = insert subs (position_or_len (λ other. is_lt (name_order sub.name other.name)) subs) sub

-- the subscription takes the kind of the new member, which gets its share
abbrev pub joining : Kind → Option (List HashRange) → ConsumerNumber → Subscription → Subscription
joining kind ranges consumer sub = record sub { kind = kind; shares = shares_with kind ranges consumer sub.shares }

abbrev pub joined : State → List ℕ → Kind → Option (List HashRange) → ConsumerNumber → Initial → List Subscription
joined s name kind ranges consumer initial =
    if has_subscription s name
    then changed (is_named name) (joining kind ranges consumer) s.subscriptions
    else placed (new_subscription name kind ranges consumer initial s.log) s.subscriptions

-- ---- takeover

abbrev pub releasing_all : Subscription → Subscription
releasing_all sub = record sub { pending = map_of.empty }

-- everything that is pending in the subscription waits again, and nothing is left to be collected
abbrev pub all_released : List ℕ → State → State
all_released name s = record s {
  subscriptions = changed (is_named name) releasing_all s.subscriptions;
  members = map (emptied_at name) s.members;
}

-- the Failover's active member is not the one of the number, which it was before
abbrev pub is_taken_over : List ℕ → Option ConsumerNumber → State → Bool
is_taken_over name before s = has_kind s name Failover && not (option_eq (λ a b. a == b) before (active_at s name))

-- the next active member begins with the first message that is not acknowledged
abbrev pub taken_over : List ℕ → Option ConsumerNumber → State → State
taken_over name before s = if is_taken_over name before s then all_released name s else s

-- ---- joining, leaving, permits

abbrev pub with_member : State → Kind → Option (List HashRange) → Initial → Member → State
with_member s kind ranges initial m =
    record s { subscriptions = joined s m.subscription kind ranges m.number initial; members = s.members ++ m ∷ []; next_consumer = s.next_consumer + 1 }

-- what a consumer asks for are ranges in their order
abbrev pub Subscribes : State → Kind → Option (List HashRange) → Initial → Member → Reply → State → Type 0
Subscribes s kind ranges initial m reply t =
    (reply ≡ Subscribed m.number) × (t ≡ taken_over m.subscription (active_at s m.subscription) (with_member s kind ranges initial m))
    × IfSome ranges AreRanges

-- what is pending at the consumer waits again, and its share goes from it; no count rises
abbrev pub leaving : ConsumerNumber → Subscription → Subscription
leaving consumer sub = record sub {
  pending = map_of.retain_keys sub.pending (λ p. not (is_held_by consumer (map_of.get sub.pending p)));
  shares = shares_without consumer sub.shares;
}

abbrev pub without_member : State → ConsumerNumber → List ℕ → State
without_member s consumer name = record s {
  subscriptions = changed (is_named name) (leaving consumer) s.subscriptions;
  members = removed (is_member consumer) s.members;
}

abbrev pub Leaves : State → ConsumerNumber → Reply → State → Type 0
Leaves s consumer reply t =
    (reply ≡ Done)
    × IsSomeAnd (find (is_member consumer) s.members) (λ m. t ≡ taken_over m.subscription (active_at s m.subscription) (without_member s consumer m.subscription))

abbrev pub permitted : ℕ → Member → Member
permitted n m = record m { flow = granted n m.flow }

abbrev pub Permits : State → ConsumerNumber → ℕ → Reply → State → Type 0
Permits s consumer n reply t = (reply ≡ Done) × (t ≡ record s { members = changed (is_member consumer) (permitted n) s.members })
