-- What is seen of a consumer: how many messages are pending at it, and how many more it takes.
use Rattle.std.specs.Prelude.{ℕ, ◌-◌, Option}
use Rattle.std.specs.List.{find}
use Rattle.std.specs.Option.{option_and_then, option_map}
use Rattle.position_core.specs.declared.flow.Flow.{Flow}
use Rattle.position_core.specs.declared.flow.Flow.TheVariants.{Window, Credit}
use Rattle.position_core.specs.Numbers.{ConsumerNumber}
use Rattle.delivery_machine.specs.State.{State, Member, Subscription}
use Rattle.delivery_machine.specs.Words.{is_member, is_named, pending_in}
use Rattle.delivery_machine.specs.declared.consumer_counts.ConsumerCounts.{ConsumerCounts}

-- what is left of a window where so many are pending, or the credit that is left
abbrev pub room_of : Flow → ℕ → ℕ
room_of (Window size) pending = size - pending
room_of (Credit left) pending = left

-- what the member has at its subscription
abbrev pub counts_in : State → Subscription → Member → ConsumerCounts
counts_in s sub m = record {
  pending = pending_in s.log sub m.number;
  room = room_of m.flow (pending_in s.log sub m.number);
}

-- what the consumer has at the subscription of its name; none where there is no such consumer
abbrev pub counts_of : State → ConsumerNumber → Option ConsumerCounts
counts_of s consumer =
    option_and_then
    (λ m. option_map (λ sub. counts_in s sub m) (find (is_named m.subscription) s.subscriptions))
    (find (is_member consumer) s.members)
