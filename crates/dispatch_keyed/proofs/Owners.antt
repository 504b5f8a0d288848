-- The owner of a hash, as the members and the log are gone through.
use Rattle.std.proofs.Common.{◌≡◌, ℕ, ◌+◌, ◌<◌, ◌≤◌, ◌∙◌, Bool, true, false, Option, Some, None, take, get_or, length, refl, sym, ap, arith, inl, inr, true≢false}
use Rattle.std.specs.Prelude.{◌==◌, ◌&&◌, ◌||◌, not}
use Rattle.std.specs.List.{find, list_any}
use Rattle.std.specs.Option.{option_map, option_map_or, option_and_then}
use Rattle.std.specs.FinMap as map_of
use Rattle.std.proofs.Math.Seq.{take-length}
use Rattle.std.proofs.lemmas.Bool.{eqb-true}
use Rattle.std.proofs.lemmas.List.{get_or-take, length-take}
use Rattle.std.proofs.lemmas.List.Folds.{list_any_more, list_any_at}
use Rattle.std.proofs.lemmas.Option.{slice_get_cases, slice_get-get_or, same_Some, none-some}
use Rattle.position_core.specs.declared.message.Entry.{Entry}
use Rattle.position_core.specs.declared.held.Held.{Held}
use Rattle.murmur_core.specs.Sticky.{sticky_hash}
use Rattle.delivery_machine.specs.State.{State, Subscription, Member}
use Rattle.delivery_machine.specs.Shares.{owner_of}
use Rattle.delivery_machine.specs.Words.{is_at, is_member, members_of, owner_at, hash_of, visible, is_held_beside, is_draining}
use Rattle.dispatch_core.specs.Log.{key_at, holder_at, holder_of}
use Rattle.dispatch_core.specs.Offers.{seen_of}
use Rattle.dispatch_core.specs.declared.view.Seen.{Seen}
use Rattle.hash_rows.specs.Hashes.{hash_at}
use Rattle.dispatch_keyed.specs.Hashes.{drains_at, IsRoomyOwner, HasNoRoomyOwner, IsFreeFor, NoneFree}
use Rattle.dispatch_keyed.proofs.Finding.{find-filter}
use Rattle.delivery_machine.proofs.Firsts.{found_somewhere}

-- ---- hashes at indexes

hash_at-log : (s : State) (i : ℕ) (d : Entry) → i < length s.log → hash_at s i ≡ hash_of (get_or s.log i d)
unfolding key_at
hash_at-log s i d within =
    ap (λ (o : Option Entry). sticky_hash (option_and_then (λ e. e.body.key) o)) (slice_get-get_or s.log i d within)

pub hash_at-visible : (s : State) (i : ℕ) (d : Entry) → i < length (visible s) → hash_at s i ≡ hash_of (get_or (visible s) i d)
hash_at-visible s i d seen =
    let within : (i < s.durable) × (i < length s.log) =
    let l = length-take s.durable s.log in (omega arith, omega arith) in
    hash_at-log s i d within.1 ∙ ap hash_of (sym (get_or-take s.durable s.log i d within.0))

-- ---- draining

-- the message has the hash, and is pending at another consumer
abbrev pub drains : Subscription → ℕ → ℕ → Entry → Bool
drains sub hash owner e = hash_of e == hash && is_held_beside owner (map_of.get sub.pending e.position)

held_beside : (owner : ℕ) (held : Option Held) → option_map_or (λ holder. not (holder == owner)) (option_map (λ h. h.consumer) held) false ≡ is_held_beside owner held
held_beside owner None = refl
held_beside owner (Some h) = refl

drains_at-log : (s : State) (sub : Subscription) (hash owner i : ℕ) (d : Entry) → i < length s.log → drains_at s sub hash owner i ≡ drains sub hash owner (get_or s.log i d)
unfolding holder_at
drains_at-log s sub hash owner i d within =
    ap (λ (h : ℕ). h == hash && option_map_or (λ holder. not (holder == owner)) (holder_at s sub i) false) (hash_at-log s i d within)
    ∙ ap (λ (o : Option Entry). hash_of (get_or s.log i d) == hash && option_map_or (λ holder. not (holder == owner)) (option_and_then (holder_of sub) o) false) (slice_get-get_or s.log i d within)
    ∙ ap (λ (b : Bool). hash_of (get_or s.log i d) == hash && b) (held_beside owner (map_of.get sub.pending (get_or s.log i d).position))

pub drains_more : (s : State) (sub : Subscription) (hash owner i : ℕ) → i < length s.log → drains_at s sub hash owner i ≡ false → list_any (drains sub hash owner) (take i s.log) ≡ false → list_any (drains sub hash owner) (take (i + 1) s.log) ≡ false
drains_more s sub hash owner i within here before =
    elim (slice_get_cases s.log i).1 [
      | inl at ↦
          list_any_more (drains sub hash owner) s.log i at.0 within
          ∙ ap (λ (b : Bool). b || drains sub hash owner (get_or s.log i at.0)) before
          ∙ sym (drains_at-log s sub hash owner i at.0 within)
          ∙ here
      | inr past ↦ absurd (omega (arith, past.0, within))
    ]

pub drains_here : (s : State) (sub : Subscription) (hash owner i : ℕ) → i < length s.log → drains_at s sub hash owner i ≡ true → is_draining s sub hash owner ≡ true
drains_here s sub hash owner i within here =
    elim (slice_get_cases s.log i).1 [
      | inl at ↦ list_any_at (drains sub hash owner) s.log i at.0 within (sym (drains_at-log s sub hash owner i at.0 within) ∙ here)
      | inr past ↦ absurd (omega (arith, past.0, within))
    ]

pub drains_nowhere : (s : State) (sub : Subscription) (hash owner i : ℕ) → length s.log ≤ i → i ≤ length s.log → list_any (drains sub hash owner) (take i s.log) ≡ false → is_draining s sub hash owner ≡ false
drains_nowhere s sub hash owner i past within none =
    let all : length s.log ≡ i = omega arith in
    ap (list_any (drains sub hash owner)) (sym (take-length s.log) ∙ ap (λ (n : ℕ). take n s.log) all) ∙ none

-- ---- the owner

owner_is : (s : State) (sub : Subscription) (hash owner : ℕ) → Some owner ≡ owner_of sub.shares hash → owner_at s sub hash ≡ find (is_member owner) (members_of s sub.name)
owner_is s sub hash owner owned =
    ap (option_and_then (λ (number : ℕ). find (λ m. is_at sub.name m && is_member number m) s.members)) (sym owned)
    ∙ find-filter (is_at sub.name) (is_member owner) s.members

number_of_found : (s : State) (sub : Subscription) (owner : ℕ) (m : Member) → find (is_member owner) (members_of s sub.name) ≡ Some m → m.number ≡ owner
number_of_found s sub owner m found =
    eqb-true m.number owner (found_somewhere (is_member owner) (members_of s sub.name) m found).3

pub roomy : (s : State) (sub : Subscription) (hash owner : ℕ) (seen : Seen) → Some owner ≡ owner_of sub.shares hash → Some seen ≡ option_map (seen_of s sub) (find (is_member owner) (members_of s sub.name)) → seen.room ≡ true → IsRoomyOwner s sub hash owner
roomy s sub hash owner seen owned there room = by_case (find (is_member owner) (members_of s sub.name)) refl there
  where
    by_case : (o : Option Member) → find (is_member owner) (members_of s sub.name) ≡ o → Some seen ≡ option_map (seen_of s sub) o → IsRoomyOwner s sub hash owner
    by_case None found e = absurd (none-some seen (sym e))
    by_case (Some m) found e = (
      m,
      number_of_found s sub owner m found,
      owner_is s sub hash owner owned ∙ found,
      ap (λ (x : Seen). x.room) (sym (same_Some _ _ e)) ∙ room,
      sym owned,
    )

pub owner_is_away : (s : State) (sub : Subscription) (hash owner : ℕ) → Some owner ≡ owner_of sub.shares hash → None ≡ option_map (seen_of s sub) (find (is_member owner) (members_of s sub.name)) → HasNoRoomyOwner s sub hash
owner_is_away s sub hash owner owned away m is _ =
    none-some (seen_of s sub m) (away ∙ ap (option_map (seen_of s sub)) (sym (owner_is s sub hash owner owned) ∙ is))

pub owner_is_full : (s : State) (sub : Subscription) (hash owner : ℕ) (seen : Seen) → Some owner ≡ owner_of sub.shares hash → Some seen ≡ option_map (seen_of s sub) (find (is_member owner) (members_of s sub.name)) → seen.room ≡ false → HasNoRoomyOwner s sub hash
owner_is_full s sub hash owner seen owned there full m is room =
    let found : find (is_member owner) (members_of s sub.name) ≡ Some m = sym (owner_is s sub hash owner owned) ∙ is in
    let same : seen ≡ seen_of s sub m = same_Some _ _ (there ∙ ap (option_map (seen_of s sub)) found) in
    true≢false (sym room ∙ sym (ap (λ (x : Seen). x.room) same) ∙ full)

-- the owner with room, of a hash that does not drain
pub free_for : (s : State) (sub : Subscription) (hash owner : ℕ) → IsRoomyOwner s sub hash owner → is_draining s sub hash owner ≡ false → IsFreeFor s sub hash owner
free_for s sub hash owner at not_draining =
    (at.0, at.1, record { owner = at.2; room = at.3; still = ap (is_draining s sub hash) at.1 ∙ not_draining })

pub not_roomy : (s : State) (sub : Subscription) (hash : ℕ) → HasNoRoomyOwner s sub hash → NoneFree s sub hash
not_roomy s sub hash none m take = none m take.owner take.room

pub not_still : (s : State) (sub : Subscription) (hash owner : ℕ) → IsRoomyOwner s sub hash owner → is_draining s sub hash owner ≡ true → NoneFree s sub hash
not_still s sub hash owner at draining m take =
    let same : at.0 ≡ m = same_Some _ _ (sym at.2 ∙ take.owner) in
    true≢false (sym draining ∙ ap (is_draining s sub hash) (sym at.1 ∙ ap (λ (x : Member). x.number) same) ∙ take.still)

-- a hash that somebody owns has a number in its share
pub owner_number : (s : State) (sub : Subscription) (hash : ℕ) (m : Member) → owner_at s sub hash ≡ Some m → owner_of sub.shares hash ≡ Some m.number
owner_number s sub hash m is = by (owner_of sub.shares hash) refl is
  where
    by : (o : Option ℕ) → owner_of sub.shares hash ≡ o → option_and_then (λ (number : ℕ). find (λ m. is_at sub.name m && is_member number m) s.members) o ≡ Some m → owner_of sub.shares hash ≡ Some m.number
    by None _ never = absurd (none-some m never)
    by (Some number) owned found =
        owned ∙ ap Some (sym (number_of_found s sub number m (sym (find-filter (is_at sub.name) (is_member number) s.members) ∙ found)))

-- of hashes with one owner all have an owner with room, or none
pub full_alike : (s : State) (sub : Subscription) (h k : ℕ) → owner_of sub.shares k ≡ owner_of sub.shares h → HasNoRoomyOwner s sub h → HasNoRoomyOwner s sub k
full_alike s sub h k same none m is =
    none m (ap (option_and_then (λ (number : ℕ). find (λ m. is_at sub.name m && is_member number m) s.members)) (sym same) ∙ is)
