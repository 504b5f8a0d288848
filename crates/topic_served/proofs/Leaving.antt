-- A member that leaves, with nothing pending at it, leaves the line of its subscription as it was without it.
use Rattle.std.proofs.Common.{◌≡◌, ℕ, List, [], ◌∷◌, map, Some, None, Option, Bool, true, false, cond, refl, ap, ap₂, ◌∙◌, sym, arith, true≢false}
use Rattle.std.specs.Prelude.{◌≢◌, ◌==◌, ◌||◌, not, slice_get}
use Rattle.std.specs.List.{AllByRecursion, filter, find, list_any, position}
use Rattle.std.specs.List.Sorted.{IsStrictlyIncreasing, IsStrictlySortedBy}
use Rattle.std.specs.Option.{option_map, option_and_then}
use Rattle.std.specs.Ordering.{nat_cmp}
use Rattle.std.specs.Str.{bytes_eq}
use Rattle.std.specs.FinMap as map_of
use Rattle.std.specs.declared.cmp.Ordering.TheVariants.{Less}
use Rattle.std.proofs.lemmas.Bool.Decides.{nat_tests}
use Rattle.std.proofs.lemmas.Map.Keys.{sorted_from_strictly_increasing}
use Rattle.position_core.specs.declared.position.Position.{Position}
use Rattle.position_core.specs.declared.message.Entry.{Entry}
use Rattle.position_core.specs.declared.held.Held.{Held}
use Rattle.position_core.specs.Position.{position_cmp, exact_positions}
use Rattle.delivery_machine.specs.State.{State, Subscription, Member}
use Rattle.delivery_machine.specs.Words.{removed, is_at, is_held_by, is_member, is_named}
use Rattle.delivery_machine.specs.Joining.{leaving, without_member}
use Rattle.delivery_machine.proofs.Deciding.{itself, or_false}
use Rattle.machine_laws.proofs.Named.{AreNamed}
use Rattle.machine_laws.proofs.Ranks.{those_removed}
use Rattle.dispatch_core.specs.Log.{holder_of, holder_at, line_of}
use Rattle.dispatch_core.specs.Changes.{Left}
use Rattle.topic_served.specs.Happening.{HappensAt}
use Rattle.topic_served.proofs.Naming.{has_name, names_apart}
use Rattle.topic_served.proofs.Seeing.{pair_of, seen_alike, stays_at, line_of_those, changed_is, others_kept}

-- ---- the line

abbrev is_other : ℕ → ℕ × ℕ → Bool
is_other consumer p = not (p.0 == consumer)

-- no later member has the number
none_has : (consumer n : ℕ) (members : List Member) → (n == consumer) ≡ true → AllByRecursion (λ (k : ℕ). nat_cmp n k ≡ Less) (map (λ (m : Member). m.number) members) → list_any (is_member consumer) members ≡ false
none_has consumer n [] is above = refl
none_has consumer n (m ∷ members) is above = ap₂ (λ a b. a || b) (differs n m.number is above.0) (none_has consumer n members is above.1)
  where
    differs : (n k : ℕ) → (n == consumer) ≡ true → nat_cmp n k ≡ Less → (k == consumer) ≡ false
    differs n k is less = grind (arith, nat_tests)

-- where none has the number, all stay
all_others : (name : List ℕ) (consumer : ℕ) (members : List Member) → list_any (is_member consumer) members ≡ false → map pair_of (filter (is_at name) members) ≡ filter (is_other consumer) (map pair_of (filter (is_at name) members))
all_others name consumer [] none = refl
all_others name consumer (m ∷ members) none = by (is_at name m) (or_false (is_member consumer m) _ none).0 (all_others name consumer members (or_false (is_member consumer m) _ none).1)
  where
    pairs : List (ℕ × ℕ)
    pairs = map pair_of (filter (is_at name) members)

    by : (b : Bool) → is_member consumer m ≡ false → pairs ≡ filter (is_other consumer) pairs
        → map pair_of (cond b (m ∷ filter (is_at name) members) (filter (is_at name) members)) ≡ filter (is_other consumer) (map pair_of (cond b (m ∷ filter (is_at name) members) (filter (is_at name) members)))
    by true is rest = ap (λ (ps : List (ℕ × ℕ)). pair_of m ∷ ps) rest ∙ sym (ap (λ b. cond (not b) (pair_of m ∷ filter (is_other consumer) pairs) (filter (is_other consumer) pairs)) is)
    by false is rest = rest

line_removed : (name : List ℕ) (consumer : ℕ) (members : List Member) → IsStrictlySortedBy nat_cmp (map (λ (m : Member). m.number) members) → map pair_of (filter (is_at name) (removed (is_member consumer) members)) ≡ filter (is_other consumer) (map pair_of (filter (is_at name) members))
unfolding IsStrictlySortedBy
line_removed name consumer [] rising = refl
line_removed name consumer (m ∷ members) rising = by (is_member consumer m) refl (line_removed name consumer members rising.1)
  where
    pairs : List (ℕ × ℕ)
    pairs = map pair_of (filter (is_at name) members)

    -- who leaves
    gone : (b : Bool) → is_member consumer m ≡ true → pairs ≡ filter (is_other consumer) (map pair_of (cond b (m ∷ filter (is_at name) members) (filter (is_at name) members)))
    gone true is = all_others name consumer members (none_has consumer m.number members is rising.0) ∙ sym (ap (λ b. cond (not b) (pair_of m ∷ filter (is_other consumer) pairs) (filter (is_other consumer) pairs)) is)
    gone false is = all_others name consumer members (none_has consumer m.number members is rising.0)

    -- who stays
    stays : (b : Bool) → is_member consumer m ≡ false → map pair_of (filter (is_at name) (removed (is_member consumer) members)) ≡ filter (is_other consumer) pairs
        → map pair_of (cond b (m ∷ filter (is_at name) (removed (is_member consumer) members)) (filter (is_at name) (removed (is_member consumer) members))) ≡ filter (is_other consumer) (map pair_of (cond b (m ∷ filter (is_at name) members) (filter (is_at name) members)))
    stays true is rest = ap (λ (ps : List (ℕ × ℕ)). pair_of m ∷ ps) rest ∙ sym (ap (λ b. cond (not b) (pair_of m ∷ filter (is_other consumer) pairs) (filter (is_other consumer) pairs)) is)
    stays false is rest = rest

    by : (b : Bool) → is_member consumer m ≡ b → map pair_of (filter (is_at name) (removed (is_member consumer) members)) ≡ filter (is_other consumer) pairs
        → map pair_of (filter (is_at name) (cond b members (m ∷ removed (is_member consumer) members))) ≡ filter (is_other consumer) (map pair_of (filter (is_at name) (m ∷ members)))
    by true is rest = gone (is_at name m) is
    by false is rest = stays (is_at name m) is rest

line_left : (s t : State) (sub new : Subscription) (consumer : ℕ) → new.name ≡ sub.name → t.members ≡ removed (is_member consumer) s.members → IsStrictlyIncreasing (map (λ (m : Member). m.number) s.members) → line_of t new ≡ filter (is_other consumer) (line_of s sub)
unfolding line_of
line_left s t sub new consumer name members rising =
    ap₂ (λ (n : List ℕ) (ms : List Member). map pair_of (filter (is_at n) ms)) name members
    ∙ line_removed sub.name consumer s.members (sorted_from_strictly_increasing (map (λ (m : Member). m.number) s.members) rising)

-- ---- left

-- the member is at the subscription, and nothing is pending at it
pub record MayLeave (s : State) (name : List ℕ) (i : ℕ) (sub : Subscription) (m : Member) : Type 0 where
  pub named : AreNamed s.subscriptions
  pub numbers : IsStrictlyIncreasing (map (λ (x : Member). x.number) s.members)
  pub place : position (is_named name) s.subscriptions ≡ Some i
  pub was : slice_get s.subscriptions i ≡ Some sub
  pub found : find (is_member m.number) s.members ≡ Some m
  pub at : m.subscription ≡ name
  pub idle : (q : Position) → is_held_by m.number (map_of.get sub.pending q) ≡ false

nobody_leaves : (consumer : ℕ) (pending : map_of.FinMap position_cmp Held) (q : Position) → is_held_by consumer (map_of.get pending q) ≡ false → map_of.get (map_of.retain_keys pending (λ p. not (is_held_by consumer (map_of.get pending p)))) q ≡ map_of.get pending q
nobody_leaves consumer pending q idle =
    map_of.get-retain_keys pending (λ p. not (is_held_by consumer (map_of.get pending p))) q (λ x t. ap (λ p. not (is_held_by consumer (map_of.get pending p))) (sym (exact_positions q x t)))
    ∙ ap (λ b. cond (not b) (map_of.get pending q) None) idle

not_holder : (s : State) (sub : Subscription) (consumer k : ℕ) → ((q : Position) → is_held_by consumer (map_of.get sub.pending q) ≡ false) → holder_at s sub k ≢ Some consumer
unfolding holder_at
not_holder s sub consumer k idle = by (slice_get s.log k)
  where
    held : (o : Option Held) → is_held_by consumer o ≡ false → option_map (λ (h : Held). h.consumer) o ≡ Some consumer → ⊥
    held None idle some = cc
    held (Some h) idle some =
        let same : h.consumer ≡ consumer = cc (some) in
        true≢false (sym (itself consumer) ∙ sym (ap (λ (n : ℕ). n == consumer) same) ∙ idle)

    by : (o : Option Entry) → option_and_then (holder_of sub) o ≢ Some consumer
    by None = λ some. cc
    by (Some e) = λ some. held (map_of.get sub.pending e.position) (idle e.position) some

module _ (s : State) (name : List ℕ) (i : ℕ) (sub : Subscription) (m : Member) (may : MayLeave s name i sub m) where
  other_line : (t : State) → t.members ≡ removed (is_member m.number) s.members → (k : ℕ) (other : Subscription) → k ≢ i → slice_get s.subscriptions k ≡ Some other → line_of t other ≡ line_of s other
  other_line t members k other differs at =
      line_of_those s t other
      (ap (λ (ms : List Member). filter (is_at other.name) ms) members
      ∙ those_removed (is_member m.number) s.members m other.name may.found
      (ap (λ (n : List ℕ). bytes_eq n other.name) (may.at ∙ sym (has_name s.subscriptions name i sub may.place may.was)) ∙ names_apart s.subscriptions i k sub other may.named differs may.was at))

  pub left_without : HappensAt i (Left m.number) s sub (without_member s m.number name) (leaving m.number sub)
  left_without =
      let t : State = without_member s m.number name in
      let new : Subscription = leaving m.number sub in
      record {
        was = may.was;
        is = changed_is s t name (leaving m.number) i sub may.place may.was refl;
        change = record {
          stays = record {
            log = record { kind = refl; log = refl; durable = refl };
            messages = λ k. stays_at s t sub new k refl (λ e _.
                seen_alike sub new e refl refl (ap (λ (o : Option Held). option_map (λ (h : Held). h.consumer) o) (nobody_leaves m.number sub.pending e.position (may.idle e.position))));
          };
          line = line_left s t sub new m.number refl refl may.numbers;
          shares = refl;
          idle = λ k. not_holder s sub m.number k may.idle;
        };
        others = others_kept s t name (leaving m.number) i sub may.place may.was refl refl (omega arith) (other_line t refl);
      }
