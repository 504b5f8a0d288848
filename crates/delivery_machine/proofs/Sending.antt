-- Who may be sent a message: a member of the subscription, and in Key_Shared one beside whom its hash is at nobody.
use Rattle.std.proofs.Common.{◌≡◌, ℕ, List, [], ◌∷◌, Some, None, Option, Bool, true, false, cond, refl, ap, ◌∙◌, subst, arith, Contains, take, suc}
use Rattle.std.specs.Prelude.{◌&&◌}
use Rattle.std.specs.List.{find}
use Rattle.std.specs.Option.{option_map_or, option_and_then}
use Rattle.std.proofs.lemmas.List.Elements.{All-contains, All-take, All-contains_itself}
use Rattle.position_core.specs.declared.message.Entry.{Entry}
use Rattle.position_core.specs.declared.kind.Kind.{Kind}
use Rattle.position_core.specs.declared.kind.Kind.TheVariants.{Exclusive, Failover, Shared, KeyShared}
use Rattle.delivery_machine.specs.State.{State, Member, Subscription}
use Rattle.delivery_machine.specs.Shares.{owner_of}
use Rattle.delivery_machine.specs.Words.{earlier, comes_before, active_of, members_of, is_at, is_member, has_room, is_waiting, waits_with_hash, hash_of, visible, owner_at, ChoosesBy}
use Rattle.delivery_machine.proofs.Firsts.{found_contained, found_passes, any_contained, filter_contained}
use Rattle.delivery_machine.proofs.Passes.{passes}
use Rattle.delivery_machine.proofs.Tended.{is_seat, is_seated, NoneBeside}
use Rattle.delivery_machine.proofs.Deciding.{and_first, itself}

pub taken_contained : {A : Type 0} (n : ℕ) (xs : List A) (x : A) → Contains (take n xs) x → Contains xs x
taken_contained n xs x at = All-contains (Contains xs) (take n xs) x (All-take (Contains xs) n xs (All-contains_itself xs)) at

-- the first visible message that passes is a message of the log
pub visible_found : (s : State) (p : Entry → Bool) (e : Entry) → find p (visible s) ≡ Some e → Contains s.log e
visible_found s p e found = taken_contained s.durable s.log e (found_contained p (visible s) e found)

-- the best of a list is one of them
pub best_contained : (xs : List Member) (m : Member) → active_of xs ≡ Some m → Contains xs m
best_contained [] m is = cc
best_contained (x ∷ xs) m is = by (active_of xs) refl is (best_contained xs)
  where
    later : (n : Member) → Contains xs n → Contains (x ∷ xs) n
    later n at = let below = at.1 in (suc at.0, omega arith, at.2)

    either : (b : Bool) (n : Member) → Contains xs n → cond b n x ≡ m → Contains (x ∷ xs) m
    either true n at is = subst (Contains (x ∷ xs)) is (later n at)
    either false n at is = (0, omega arith, is)

    by : (o : Option Member) → active_of xs ≡ o → Some (option_map_or (earlier x) o x) ≡ Some m → ((n : Member) → active_of xs ≡ Some n → Contains xs n) → Contains (x ∷ xs) m
    by None e is rest = let same : x ≡ m = cc in (0, omega arith, same)
    by (Some n) e is rest =
        let same : earlier x n ≡ m = cc in
        either (comes_before n x) n (rest n e) same

seat_itself : (name : List ℕ) (m : Member) → is_at name m ≡ true → is_seat name m.number m ≡ true
seat_itself name m at = ap (λ b. b && is_member m.number m) at ∙ itself m.number

seated_at : (members : List Member) (name : List ℕ) (m : Member) → Contains members m → is_at name m ≡ true → is_seated members name m.number ≡ true
seated_at members name m there at = any_contained (is_seat name m.number) members m there (seat_itself name m at)

pub active_seated : (s : State) (name : List ℕ) (m : Member) → active_of (members_of s name) ≡ Some m → is_seated s.members name m.number ≡ true
active_seated s name m is =
    let there = best_contained (members_of s name) m is in
    seated_at s.members name m (filter_contained (is_at name) s.members m there) (passes (is_at name) s.members m there)

pub owner_seated : (s : State) (sub : Subscription) (hash : ℕ) (m : Member) → owner_at s sub hash ≡ Some m → is_seated s.members sub.name m.number ≡ true
owner_seated s sub hash m is = by (owner_of sub.shares hash) is
  where
    by : (o : Option ℕ) → option_and_then (λ number. find (λ m. is_at sub.name m && is_member number m) s.members) o ≡ Some m → is_seated s.members sub.name m.number ≡ true
    by None is = cc
    by (Some number) is =
        seated_at s.members sub.name m (found_contained (is_seat sub.name number) s.members m is)
        (and_first (is_at sub.name m) (is_member number m) (found_passes (is_seat sub.name number) s.members m is))

pub record IsChosen (s : State) (sub : Subscription) (kind : Kind) (e : Entry) (m : Member) : Type 0 where
  pub in_log : Contains s.log e
  pub seated : is_seated s.members sub.name m.number ≡ true
  pub alone : kind ≡ KeyShared → NoneBeside s.log sub.pending (hash_of e) m.number

pub chosen : (kind : Kind) (s : State) (sub : Subscription) (e : Entry) (m : Member) → ChoosesBy kind s sub e m → IsChosen s sub kind e m
chosen Exclusive s sub e m h = record { in_log = visible_found s (is_waiting sub) e h.0; seated = active_seated s sub.name m h.1; alone = λ is. cc }
chosen Failover s sub e m h = record { in_log = visible_found s (is_waiting sub) e h.0; seated = active_seated s sub.name m h.1; alone = λ is. cc }
chosen Shared s sub e m h = record {
  in_log = visible_found s (is_waiting sub) e h.0;
  seated = seated_at s.members sub.name m (filter_contained (λ n. is_at sub.name n && has_room s sub n) s.members m h.1)
      (and_first (is_at sub.name m) (has_room s sub m) (passes (λ n. is_at sub.name n && has_room s sub n) s.members m h.1));
  alone = λ is. cc;
}
chosen KeyShared s sub e m h = record {
  in_log = visible_found s (waits_with_hash sub (hash_of e)) e h.0;
  seated = owner_seated s sub (hash_of e) m h.1;
  alone = λ is. h.2;
}
