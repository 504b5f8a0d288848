-- Due moments: negative acknowledgements, and ticks, which release what is due, or let it die.
use Rattle.std.specs.Prelude.{◌≡◌, ℕ, ◌+◌, nat_le, min, Bool, false, not, List, [], ◌∷◌, Option, Some, None, map, length, IsTrue, IsSomeAnd}
use Rattle.std.specs.List.{filter, find, list_any}
use Rattle.std.specs.Option.{option_map_or, unwrap_or}
use Rattle.std.specs.FinMap as map_of
use Rattle.position_core.specs.declared.position.Position.{Position}
use Rattle.position_core.specs.declared.held.Held.{Held}
use Rattle.position_core.specs.Position.{position_cmp}
use Rattle.position_core.specs.Kind.{is_in_order}
use Rattle.position_core.specs.declared.message.Entry.{Entry}
use Rattle.position_core.specs.Numbers.{ConsumerNumber}
use Rattle.delivery_machine.specs.State.{State, Subscription}
use Rattle.delivery_machine.specs.Words.{changed, is_member, is_named}
use Rattle.delivery_machine.specs.Acknowledging.{is_one_of, forgetting}
use Rattle.delivery_machine.specs.Delivering.{holding}
use Rattle.delivery_machine.specs.Dying.{dying_at, died}
use Rattle.delivery_machine.specs.declared.reply.Reply.{Reply}
use Rattle.delivery_machine.specs.declared.reply.Reply.TheVariants.{Done, Released, Died, Rewound, Quiet}

-- ---- negative acknowledgement

-- the message falls due after the member's delay, and not when it was to before
abbrev pub Nacks : State → ConsumerNumber → Position → ℕ → Reply → State → Type 0
Nacks s consumer position now reply t =
    (reply ≡ Done)
    × IsSomeAnd (find (is_member consumer) s.members) (λ m. t ≡ record s {
      subscriptions = changed (is_named m.subscription) (holding position (record { consumer = consumer; due = Some (now + m.nack_delay) })) s.subscriptions;
    })

-- ---- redelivery

-- a count goes no further: 2^31-1
abbrev pub most_count : ℕ
most_count = 2147483647

-- a count rises by one, and stays at the last
abbrev pub counted_again : ℕ → ℕ
counted_again n = min (n + 1) most_count

-- the counts of the messages, each risen by one
abbrev pub recounted : List Position → map_of.FinMap position_cmp ℕ → map_of.FinMap position_cmp ℕ
recounted [] counts = counts
recounted (p ∷ ps) counts = map_of.insert (recounted ps counts) p (counted_again (unwrap_or (map_of.get counts p) 0))

-- the messages wait again, each counted once more
abbrev pub redelivering : List Position → Subscription → Subscription
redelivering positions sub = record sub {
  pending = map_of.retain_keys sub.pending (λ p. not (is_one_of positions p));
  counts = recounted positions sub.counts;
}

abbrev pub redelivered : State → List ℕ → List Position → State
redelivered s name positions = record s {
  subscriptions = changed (is_named name) (redelivering positions) s.subscriptions;
  members = map (forgetting name positions) s.members;
}

-- ---- ticks

abbrev pub is_due : ℕ → Option Held → Bool
is_due now held = option_map_or (λ h. option_map_or (λ due. nat_le due now) h.due false) held false

-- a pending message is due
abbrev pub any_due_in : List Entry → Subscription → ℕ → Bool
any_due_in log sub now = list_any (λ e. is_due now (map_of.get sub.pending e.position)) log

abbrev pub any_due : State → Subscription → ℕ → Bool
any_due s sub now = any_due_in s.log sub now

-- the positions of the log that are pending
abbrev pub pending_positions_in : List Entry → Subscription → List Position
pending_positions_in log sub = map (λ e. e.position) (filter (λ e. map_of.contains_key sub.pending e.position) log)

abbrev pub pending_positions : State → Subscription → List Position
pending_positions s sub = pending_positions_in s.log sub

-- where the order is kept, all pending messages are released when one is due; else any one that is due is released or dies
abbrev pub Ticks : State → List ℕ → ℕ → Subscription → Reply → State → Type 0
Ticks s name now sub Quiet t = (any_due s sub now ≡ false) × (t ≡ s)
Ticks s name now sub (Rewound count) t =
    IsTrue (is_in_order sub.kind) × IsTrue (any_due s sub now)
    × (count ≡ length (pending_positions s sub)) × (t ≡ redelivered s name (pending_positions s sub))
Ticks s name now sub (Released position) t =
    IsTrue (not (is_in_order sub.kind)) × IsTrue (is_due now (map_of.get sub.pending position))
    × (dying_at s sub position ≡ None) × (t ≡ redelivered s name (position ∷ []))
Ticks s name now sub (Died position ordinal) t =
    IsTrue (not (is_in_order sub.kind)) × IsTrue (is_due now (map_of.get sub.pending position))
    × (ordinal ≡ s.next_ordinal) × IsSomeAnd (dying_at s sub position) (λ m. t ≡ died s name position m)
Ticks s name now sub reply t = ⊥
