-- Who may be sent a message is a member, and at the subscription.
use Rattle.std.proofs.Common.{◌≡◌, ℕ, Some, None, Option, true, Contains}
use Rattle.std.specs.Prelude.{◌&&◌}
use Rattle.std.specs.List.{find}
use Rattle.std.specs.Option.{option_and_then}
use Rattle.position_core.specs.declared.message.Entry.{Entry}
use Rattle.position_core.specs.declared.kind.Kind.{Kind}
use Rattle.position_core.specs.declared.kind.Kind.TheVariants.{Exclusive, Failover, Shared, KeyShared}
use Rattle.delivery_machine.specs.State.{State, Member, Subscription}
use Rattle.delivery_machine.specs.Shares.{owner_of}
use Rattle.delivery_machine.specs.Words.{members_of, active_of, is_at, is_member, has_room, hash_of, owner_at, ChoosesBy}
use Rattle.delivery_machine.proofs.Firsts.{found_contained, found_passes, filter_contained}
use Rattle.delivery_machine.proofs.Deciding.{and_first}
use Rattle.delivery_machine.proofs.Passes.{passes}
use Rattle.delivery_machine.proofs.Tended.{is_seat}
use Rattle.delivery_machine.proofs.Sending.{best_contained}

abbrev pub IsMemberAt : State → Subscription → Member → Type 0
IsMemberAt s sub m = Contains s.members m × (is_at sub.name m ≡ true)

active_member : (s : State) (sub : Subscription) (m : Member) → active_of (members_of s sub.name) ≡ Some m → IsMemberAt s sub m
active_member s sub m is =
    let there = best_contained (members_of s sub.name) m is in
    (filter_contained (is_at sub.name) s.members m there, passes (is_at sub.name) s.members m there)

owner_member : (s : State) (sub : Subscription) (hash : ℕ) (m : Member) → owner_at s sub hash ≡ Some m → IsMemberAt s sub m
owner_member s sub hash m is = by (owner_of sub.shares hash) is
  where
    by : (o : Option ℕ) → option_and_then (λ number. find (λ m. is_at sub.name m && is_member number m) s.members) o ≡ Some m → IsMemberAt s sub m
    by None is = cc
    by (Some number) is =
        (found_contained (is_seat sub.name number) s.members m is, and_first (is_at sub.name m) (is_member number m) (found_passes (is_seat sub.name number) s.members m is))

pub chosen_member : (kind : Kind) (s : State) (sub : Subscription) (e : Entry) (m : Member) → ChoosesBy kind s sub e m → IsMemberAt s sub m
chosen_member Exclusive s sub e m h = active_member s sub m h.1
chosen_member Failover s sub e m h = active_member s sub m h.1
chosen_member Shared s sub e m h = (
  filter_contained (λ n. is_at sub.name n && has_room s sub n) s.members m h.1,
  and_first (is_at sub.name m) (has_room s sub m) (passes (λ n. is_at sub.name n && has_room s sub n) s.members m h.1),
)
chosen_member KeyShared s sub e m h = owner_member s sub (hash_of e) m h.1
