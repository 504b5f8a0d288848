-- A pending message that is released: in the machine's words, and what of the machine's changes comes to the same then.
use Rattle.std.proofs.Common.{◌≡◌, ℕ, ◌<◌, ◌-◌, suc, zero, List, map, Some, None, Option, Bool, true, false, cond, All, get_or, set, slice_get, refl, ap, ◌∙◌, sym, subst, arith, true≢false}
use Rattle.std.specs.Prelude.{is_some}
use Rattle.std.specs.List.{position}
use Rattle.std.specs.Option.{option_map_or}
use Rattle.std.specs.FinMap as map_of
use Rattle.std.proofs.lemmas.List.{set-get_or}
use Rattle.std.proofs.lemmas.Option.{get_or_from_slice_get}
use Rattle.position_core.specs.declared.position.Position.{Position}
use Rattle.position_core.specs.declared.message.Entry.{Entry}
use Rattle.position_core.specs.declared.held.Held.{Held}
use Rattle.position_core.specs.Position.{position_cmp, exact_positions, positions_total}
use Rattle.log_pieces.specs.Pieces.{index_of}
use Rattle.delivery_machine.specs.State.{State, Member, Subscription}
use Rattle.delivery_machine.specs.Words.{changed, is_held_by, is_named}
use Rattle.delivery_machine.specs.Joining.{all_released, releasing_all, without_member}
use Rattle.delivery_machine.proofs.Places.{changed-position}
use Rattle.dispatch_core.specs.Changes.{Released}
use Rattle.topic_served.specs.Happening.{HappensAt}
use Rattle.topic_served.specs.Stepping.{freed, freeing}
use Rattle.topic_served.proofs.Chaining.{changed_twice, freed_first}
use Rattle.topic_served.proofs.Released.{IsHeldLive, released_freed}
use Rattle.topic_subscriptions.specs.Placed.{IsPlacedIn, IsRising, Placed, is_live_at, is_placed, released_at, sub_in}
use Rattle.topic_subscriptions.proofs.Changes.{released_placed, stands}
use Rattle.topic_parts.specs.declared.parts.Parts.{Parts}
use Rattle.topic_parts.specs.Parts.{AreTied, log_of, state_of}
use Rattle.topic_parts.proofs.Changing.{changed_sub, placed_there, tied_at}
use Rattle.topic_served.specs.declared.served.Served.{Served}
use Rattle.topic_served.specs.Served.{IsBound, state_in}
use Rattle.topic_served.proofs.Telling.{about, at_place, named_place}
use Rattle.member_events.specs.Places.{ComesToTheSame, KeepNames, number_pending}
use Rattle.member_events.proofs.Standing.{keep_itself, keep_on, still_named}

-- ---- one is released

module _ (log : List Entry) (subs : List Placed) (place : ℕ) (q : Position) (x y : Placed) (at : x ≡ get_or subs place x) (is : y ≡ released_at q x) where
  pub freed_there : (name : List ℕ) → Some place ≡ position (is_placed name) subs → map (sub_in log) (set subs place y) ≡ changed (is_named name) (freeing q) (map (sub_in log) subs)
  freed_there name named = changed_sub log subs name place named (freeing q) x y at (ap (sub_in log) is)

  pub tied_freed : (ms : List Member) (name : List ℕ) → Some place ≡ position (is_placed name) subs → All (IsPlacedIn log ms) subs → All (IsPlacedIn log ms) (set subs place y)
  tied_freed ms name named tied =
      tied_at log ms ms subs place y (λ _. refl) tied
      (subst (λ (p : Placed). IsPlacedIn log ms p) (sym is) (released_placed log ms x q (placed_there log subs name place named ms x tied at)))

-- a message that is pending is live, and stands in the log
pub held_live_there : (t : Parts) (place : ℕ) (x : Placed) (q : Position) (k : ℕ) → IsPlacedIn (log_of t) t.members.members x → map_of.contains_key x.pending.pending q ≡ true → index_of q (log_of t) ≡ Some k → IsHeldLive (state_of t) (sub_in (log_of t) x) q k
held_live_there t place x q k placed key index = by (map_of.get x.pending.pending q) refl key
  where
    some_is : (a b : ℕ) → ◌≡◌ {A = Option ℕ} (Some a) (Some b) → a ≡ b
    some_is a b e = cc

    by : (o : Option Held) → map_of.get x.pending.pending q ≡ o → is_some o ≡ true → IsHeldLive (state_of t) (sub_in (log_of t) x) q k
    by None is none = absurd (true≢false (sym none))
    by (Some h) is some =
        let l = placed.pending q key in
        let here = stands (log_of t) q k index in
        let same : k ≡ l.place = some_is k l.place (sym index ∙ l.there) in
        record {
          held = h;
          pending = is;
          message = here.0;
          stands = here.1;
          live = placed.live k here.0 here.1 ∙ ap (is_live_at x) same ∙ l.live;
        }

pub released_there : (t : Parts) (place : ℕ) (name : List ℕ) (x : Placed) (q : Position) (k : ℕ) → IsRising (log_of t) → AreTied t → Some place ≡ position (is_placed name) t.subscriptions.items → Some x ≡ slice_get t.subscriptions.items place → x ≡ get_or t.subscriptions.items place x
    → map_of.contains_key x.pending.pending q ≡ true → index_of q (log_of t) ≡ Some k
    → HappensAt place (Released k) (state_of t) (sub_in (log_of t) x) (freed (state_of t) name q) (freeing q (sub_in (log_of t) x))
released_there t place name x q k rising tied named there at key index =
    released_freed (state_of t) name place (sub_in (log_of t) x) q k (about t name place x q k rising named there index)
    (held_live_there t place x q k (placed_there (log_of t) t.subscriptions.items name place named t.members.members x tied at) key index)

-- ---- fewer are pending

pub number_is : (t : Parts) (place : ℕ) (x : Placed) → Some x ≡ slice_get t.subscriptions.items place → number_pending t place ≡ map_of.len x.pending.pending
number_is t place x at = ap (λ (o : Option Placed). option_map_or (λ p. map_of.len p.pending.pending) o 0) (sym at)

pub one_fewer : (m : map_of.FinMap position_cmp Held) (q : Position) → map_of.contains_key m q ≡ true → map_of.len (map_of.remove m q) < map_of.len m
one_fewer m q key = by (map_of.len m) refl (map_of.len-remove positions_total m q ∙ ap (λ b. cond b (map_of.len m - 1) (map_of.len m)) key)
  where
    empty_has : map_of.len m ≡ 0 → ⊥
    empty_has none = true≢false (sym key ∙ ap (λ (k : map_of.FinMap position_cmp Held). map_of.contains_key k q) (map_of.empty_of_len m none) ∙ ap is_some (map_of.get-empty position_cmp q))

    by : (n : ℕ) → map_of.len m ≡ n → map_of.len (map_of.remove m q) ≡ map_of.len m - 1 → map_of.len (map_of.remove m q) < map_of.len m
    by zero is less = absurd (empty_has is)
    by (suc n) is less = omega (arith, is, less)

-- ---- what comes to the same

pub same_itself : (change : List ℕ → State → State) (place : ℕ) (c : Served) → IsBound c → ComesToTheSame change place c c
same_itself change place c bound = record { same = λ _ _. refl; kept = keep_itself c.parts; bound = bound }

pub goes_on : (change : List ℕ → State → State) (place : ℕ) (old now next : Served) (q : Position)
    → ((name : List ℕ) → Some place ≡ position (is_placed name) now.parts.subscriptions.items → change name (freed (state_in now) name q) ≡ change name (state_in now))
    → ComesToTheSame change place old now
    → ((name : List ℕ) → Some place ≡ position (is_placed name) now.parts.subscriptions.items → state_in next ≡ freed (state_in now) name q)
    → KeepNames now.parts next.parts → IsBound next → ComesToTheSame change place old next
goes_on change place old now next q alike was freed_now kept bound = record {
  same = λ name named.
      let here = still_named old.parts now.parts place name was.kept named in
      ap (change name) (freed_now name here) ∙ alike name here ∙ was.same name named;
  kept = keep_on old.parts now.parts next.parts was.kept kept;
  bound = bound;
}

pub freed_before_leaving : (t : Parts) (place consumer : ℕ) (x : Placed) (q : Position) → Some x ≡ slice_get t.subscriptions.items place → is_held_by consumer (map_of.get x.pending.pending q) ≡ true
    → (name : List ℕ) → Some place ≡ position (is_placed name) t.subscriptions.items → without_member (freed (state_of t) name q) consumer name ≡ without_member (state_of t) consumer name
freed_before_leaving t place consumer x q at held name named = freed_first (state_of t) name place (sub_in (log_of t) x) consumer q (named_place t name place named) (at_place t place x at) held

pub freed_before_all : (s : State) (name : List ℕ) (q : Position) → all_released name (freed s name q) ≡ all_released name s
freed_before_all s name q =
    ap (λ (subs : List Subscription). record (all_released name s) { subscriptions = subs })
    (changed_twice (is_named name) (freeing q) releasing_all s.subscriptions (λ _. refl))

-- ---- what is pending first

pub held_is_pending : (consumer : ℕ) (o : Option Held) → is_held_by consumer o ≡ true → is_some o ≡ true
held_is_pending consumer None none = absurd (true≢false (sym none))
held_is_pending consumer (Some h) some = refl

pub none_held : (b : Bool) → (b ≡ true → ⊥) → b ≡ false
none_held true none = absurd (none refl)
none_held false none = refl

pub none_pending : (m : map_of.FinMap position_cmp Held) → ((q : Position) → map_of.get m q ≡ None) → map_of.len m ≡ 0
none_pending m none = ap map_of.len (map_of.same_map positions_total exact_positions m map_of.empty (λ q. none q ∙ sym (map_of.get-empty position_cmp q))) ∙ map_of.len-empty position_cmp Held

-- nothing is released where nothing is pending
pub all_released_already : (t : Parts) (place : ℕ) (name : List ℕ) (x : Placed) → Some place ≡ position (is_placed name) t.subscriptions.items → Some x ≡ slice_get t.subscriptions.items place → number_pending t place ≡ 0
    → changed (is_named name) releasing_all (state_of t).subscriptions ≡ (state_of t).subscriptions
all_released_already t place name x named at none =
    changed-position (is_named name) releasing_all subs place sub (named_place t name place named)
    ∙ ap (set subs place) (ap releasing_all got ∙ nothing ∙ sym got)
    ∙ set-get_or subs place sub
  where
    subs : List Subscription
    subs = (state_of t).subscriptions

    sub : Subscription
    sub = sub_in (log_of t) x

    got : get_or subs place sub ≡ sub
    got = get_or_from_slice_get subs place sub sub (at_place t place x at)

    nothing : releasing_all sub ≡ sub
    nothing = ap (λ (m : map_of.FinMap position_cmp Held). record sub { pending = m }) (sym (map_of.empty_of_len x.pending.pending (sym (number_is t place x at) ∙ none)))
