-- A subscription that goes on elsewhere.
use Rattle.std.specs.Prelude.{ℕ, nat_le, List}
use Rattle.std.specs.List.{filter}
use Rattle.std.specs.Ordering.{nat_cmp}
use Rattle.std.specs.FinSet as set
use Rattle.ack_ranges.specs.Ranges.{below}
use Rattle.pending_core.specs.Pending as pending
use Rattle.topic_subscriptions.specs.Placed.{Placed}

-- what became of its messages
pub record GoesOn : Type 0 where
  pub places : set.FinSet nat_cmp
  pub buried : set.FinSet nat_cmp
  pub pending : pending.Pending

-- after so many messages, where the dead ones stand at the places
abbrev pub going_on : ℕ → List ℕ → GoesOn
going_on end dead = record {
  places = below end;
  buried = set.from_list (filter (λ place. nat_le end place) dead);
  pending = pending.nothing_pending;
}

abbrev pub with_sought : GoesOn → Placed → Placed
with_sought s p = record p { places = s.places; buried = s.buried; pending = s.pending }

abbrev pub sought_of : Placed → GoesOn
sought_of p = record { places = p.places; buried = p.buried; pending = p.pending }
