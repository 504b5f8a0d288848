-- What dispatchers see of a topic that changes: its log, the line of a subscription's members, and its messages.
use Rattle.std.proofs.Common.{◌≡◌, ℕ, ◌≤◌, List, [], ◌∷◌, map, Some, None, Option, Bool, true, false, cond, length, refl, ap, ap₂, ◌∙◌, sym, subst}
use Rattle.std.specs.Prelude.{◌≢◌, slice_get, not, ◌&&◌, is_some}
use Rattle.std.specs.List.{filter, position}
use Rattle.std.specs.Option.{option_map, option_map_or, option_and_then}
use Rattle.std.specs.Str.{bytes_eq}
use Rattle.std.specs.FinSet as set
use Rattle.std.proofs.Math.ListN as list
use Rattle.std.specs.FinMap as map_of
use Rattle.std.proofs.lemmas.List.{length-set}
use Rattle.std.proofs.lemmas.Option.{get_or_from_slice_get, slice_get_within, same_Some}
use Rattle.position_core.specs.declared.position.Position.{Position}
use Rattle.position_core.specs.declared.message.Entry.{Entry}
use Rattle.position_core.specs.declared.held.Held.{Held}
use Rattle.delivery_machine.specs.State.{State, Subscription, Member}
use Rattle.delivery_machine.specs.Words.{changed, is_at, is_dead, is_named, is_waiting}
use Rattle.delivery_machine.specs.Acknowledging.{forgetting, without}
use Rattle.delivery_machine.proofs.Places.{changed-position}
use Rattle.machine_laws.proofs.Ranks.{Rank, rank_of, KeepsRanks, ranks_mapped, same_rank_if}
use Rattle.dispatch_core.specs.Log.{waits_at, holder_of, holder_at, line_of}
use Rattle.dispatch_core.specs.Changes.{StaysAt, Kept}
use Rattle.topic_served.specs.Happening.{AllKept, OthersKept, HappensAt}
use Rattle.topic_served.proofs.Spots.{set_at, set_other}

-- ---- the line

abbrev pub pair_of : Member → ℕ × ℕ
pair_of m = (m.number, m.level)

abbrev rank_pair : Rank → ℕ × ℕ
rank_pair r = (r.number, r.level)

-- it hangs on the members' numbers, levels and subscriptions alone
line_of_ranks : (name : List ℕ) (members : List Member) → map pair_of (filter (is_at name) members) ≡ map rank_pair (filter (λ (r : Rank). bytes_eq r.name name) (map rank_of members))
line_of_ranks name [] = refl
line_of_ranks name (m ∷ members) = by (is_at name m) (line_of_ranks name members)
  where
    pairs : List (ℕ × ℕ)
    pairs = map rank_pair (filter (λ (r : Rank). bytes_eq r.name name) (map rank_of members))

    by : (b : Bool) → map pair_of (filter (is_at name) members) ≡ map rank_pair (filter (λ (r : Rank). bytes_eq r.name name) (map rank_of members))
        → map pair_of (cond b (m ∷ filter (is_at name) members) (filter (is_at name) members))
        ≡ map rank_pair (cond b (rank_of m ∷ filter (λ (r : Rank). bytes_eq r.name name) (map rank_of members)) (filter (λ (r : Rank). bytes_eq r.name name) (map rank_of members)))
    by true rest = ap (λ (xs : List (ℕ × ℕ)). (m.number, m.level) ∷ xs) rest
    by false rest = rest

pub same_line : (s t : State) (sub new : Subscription) → new.name ≡ sub.name → KeepsRanks s.members t.members → line_of t new ≡ line_of s sub
unfolding line_of
same_line s t sub new name ranks =
    ap (λ (n : List ℕ). map pair_of (filter (is_at n) t.members)) name
    ∙ line_of_ranks sub.name t.members
    ∙ ap (λ (rs : List Rank). map rank_pair (filter (λ (r : Rank). bytes_eq r.name sub.name) rs)) ranks
    ∙ sym (line_of_ranks sub.name s.members)

-- where the members of the subscription are the same
pub line_of_those : (s t : State) (sub : Subscription) → filter (is_at sub.name) t.members ≡ filter (is_at sub.name) s.members → line_of t sub ≡ line_of s sub
unfolding line_of
line_of_those s t sub same = ap (λ (ms : List Member). map pair_of ms) same

pub forgetting_ranks : (name : List ℕ) (positions : List Position) (members : List Member) → KeepsRanks members (map (forgetting name positions) members)
forgetting_ranks name positions members = ranks_mapped (forgetting name positions) (λ m. same_rank_if (is_at name m) m (record m { out = without positions m.out }) refl) members

-- ---- messages

-- the message waits, and is held, as before
pub record IsSeenAlike (sub new : Subscription) (e : Entry) : Type 0 where
  pub waits : is_waiting new e ≡ is_waiting sub e
  pub holder : holder_of new e ≡ holder_of sub e

pub seen_alike : (sub new : Subscription) (e : Entry) → set.contains new.acknowledged e.position ≡ set.contains sub.acknowledged e.position → is_dead new e.position ≡ is_dead sub e.position
    → option_map (λ (h : Held). h.consumer) (map_of.get new.pending e.position) ≡ option_map (λ (h : Held). h.consumer) (map_of.get sub.pending e.position) → IsSeenAlike sub new e
seen_alike sub new e acknowledged dead held = record {
  waits = ap₂ (λ a b. a && not b) (ap₂ (λ a d. not a && not d) acknowledged dead)
      (sym (is_held (map_of.get new.pending e.position)) ∙ ap is_some held ∙ is_held (map_of.get sub.pending e.position));
  holder = held;
}
  where
    is_held : (o : Option Held) → is_some (option_map (λ (h : Held). h.consumer) o) ≡ is_some o
    is_held None = refl
    is_held (Some h) = refl

-- a message at an index, or none
pub stays_at : (s t : State) (sub new : Subscription) (k : ℕ) → t.log ≡ s.log → ((e : Entry) → slice_get s.log k ≡ Some e → IsSeenAlike sub new e) → StaysAt k s sub t new
unfolding waits_at holder_at
stays_at s t sub new k log alike = record {
  waits = ap (λ (es : List Entry). option_map_or (is_waiting new) (slice_get es k) false) log ∙ waits_by (slice_get s.log k) alike;
  holder = ap (λ (es : List Entry). option_and_then (holder_of new) (slice_get es k)) log ∙ holder_by (slice_get s.log k) alike;
}
  where
    waits_by : (o : Option Entry) → ((e : Entry) → o ≡ Some e → IsSeenAlike sub new e) → option_map_or (is_waiting new) o false ≡ option_map_or (is_waiting sub) o false
    waits_by None same = refl
    waits_by (Some e) same = (same e refl).waits

    holder_by : (o : Option Entry) → ((e : Entry) → o ≡ Some e → IsSeenAlike sub new e) → option_and_then (holder_of new) o ≡ option_and_then (holder_of sub) o
    holder_by None same = refl
    holder_by (Some e) same = (same e refl).holder

pub waits_is : (t : State) (new : Subscription) (k : ℕ) (e : Entry) → slice_get t.log k ≡ Some e → waits_at t new k ≡ is_waiting new e
unfolding waits_at
waits_is t new k e at = ap (λ o. option_map_or (is_waiting new) o false) at

pub holder_is : (t : State) (new : Subscription) (k : ℕ) (e : Entry) → slice_get t.log k ≡ Some e → holder_at t new k ≡ holder_of new e
unfolding holder_at
holder_is t new k e at = ap (λ o. option_and_then (holder_of new) o) at

-- ---- subscriptions that need not be told

-- it looks as before to its dispatcher
pub record LooksAlike (sub new : Subscription) : Type 0 where
  pub name : new.name ≡ sub.name
  pub kind : new.kind ≡ sub.kind
  pub shares : new.shares ≡ sub.shares
  pub messages : (e : Entry) → IsSeenAlike sub new e

pub looks_itself : (sub : Subscription) → LooksAlike sub sub
looks_itself sub = record { name = refl; kind = refl; shares = refl; messages = λ e. record { waits = refl; holder = refl } }

pub alike_kept : (s t : State) (sub new : Subscription) → t.log ≡ s.log → s.durable ≤ t.durable → line_of t new ≡ line_of s sub → LooksAlike sub new → Kept s sub t new
alike_kept s t sub new log durable line alike = record {
  kind = alike.kind;
  log = log;
  durable = durable;
  line = line;
  shares = alike.shares;
  messages = λ k. stays_at s t sub new k log (λ e _. alike.messages e);
}

-- where no subscription looks different, and no member
pub all_alike : (s t : State) → t.log ≡ s.log → s.durable ≤ t.durable → KeepsRanks s.members t.members → length t.subscriptions ≡ length s.subscriptions
    → ((k : ℕ) (sub new : Subscription) → slice_get s.subscriptions k ≡ Some sub → slice_get t.subscriptions k ≡ Some new → LooksAlike sub new) → AllKept s t
all_alike s t log durable ranks many alike = record {
  many = many;
  each = λ k sub new was is.
      let looks = alike k sub new was is in
      alike_kept s t sub new log durable (same_line s t sub new looks.name ranks) looks;
}

-- where the subscriptions are the same
pub same_subscriptions : (s t : State) → t.log ≡ s.log → s.durable ≤ t.durable → KeepsRanks s.members t.members → t.subscriptions ≡ s.subscriptions → AllKept s t
same_subscriptions s t log durable ranks same =
    all_alike s t log durable ranks (ap length same)
    (λ k sub new was is.
    let one : sub ≡ new = same_Some sub new (sym was ∙ ap (λ (xs : List Subscription). slice_get xs k) (sym same) ∙ is) in
    subst (λ (x : Subscription). LooksAlike sub x) one (looks_itself sub))

-- ---- the subscription of a name changes

module _ (s t : State) (name : List ℕ) (f : Subscription → Subscription) (i : ℕ) (sub : Subscription) (place : position (is_named name) s.subscriptions ≡ Some i) (was : slice_get s.subscriptions i ≡ Some sub) (changes : t.subscriptions ≡ changed (is_named name) f s.subscriptions) where
  pub written : t.subscriptions ≡ list.set s.subscriptions i (f sub)
  written =
      changes ∙ changed-position (is_named name) f s.subscriptions i sub place
      ∙ ap (λ (x : Subscription). list.set s.subscriptions i (f x)) (get_or_from_slice_get s.subscriptions i sub sub was)

  pub changed_is : slice_get t.subscriptions i ≡ Some (f sub)
  changed_is = ap (λ (xs : List Subscription). slice_get xs i) written ∙ set_at s.subscriptions i (f sub) (slice_get_within s.subscriptions i sub was)

  pub others_kept : t.log ≡ s.log → s.durable ≤ t.durable → ((k : ℕ) (other : Subscription) → k ≢ i → slice_get s.subscriptions k ≡ Some other → line_of t other ≡ line_of s other) → OthersKept i s t
  others_kept log durable line = record {
    many = ap length written ∙ length-set s.subscriptions i (f sub);
    each = λ k other new differs was_k is_k.
        let one : other ≡ new = same_Some other new (sym was_k ∙ sym (set_other s.subscriptions i k (f sub) differs) ∙ ap (λ (xs : List Subscription). slice_get xs k) (sym written) ∙ is_k) in
        subst (λ (x : Subscription). Kept s other t x) one (alike_kept s t other other log durable (line k other differs was_k) (looks_itself other));
  }

  -- with the change of the one, where members keep their ranks
  pub happens : (Changes : State → Subscription → State → Subscription → Type 0) → t.log ≡ s.log → s.durable ≤ t.durable → KeepsRanks s.members t.members → Changes s sub t (f sub) → HappensAt i Changes s sub t (f sub)
  happens Changes log durable ranks change = record {
    was = was;
    is = changed_is;
    change = change;
    others = others_kept log durable (λ k other _ _. same_line s t other other refl ranks);
  }
