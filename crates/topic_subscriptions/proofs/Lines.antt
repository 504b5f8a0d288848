-- A member joins a subscription, or leaves it: what that is in the machine's words.
use Rattle.std.proofs.Common.{◌≡◌, ℕ, ◌<◌, List, [], ◌∷◌, ◌++◌, map, Option, Some, None, Bool, true, false, cond, refl, ap, ◌∙◌, sym, subst, arith, append-nil}
use Rattle.std.specs.Prelude.{◌==◌, not}
use Rattle.std.specs.List.{AllByRecursion, filter, find}
use Rattle.std.specs.List.Sorted.{IsStrictlyIncreasing, IsStrictlySortedBy}
use Rattle.std.specs.Ordering.{nat_cmp}
use Rattle.std.specs.declared.cmp.Ordering.TheVariants.{Less}
use Rattle.std.specs.FinMap as map_of
use Rattle.std.proofs.lemmas.Bool.{ne_eqb}
use Rattle.std.proofs.lemmas.Grind.{common_steps}
use Rattle.std.proofs.lemmas.List.{map-append}
use Rattle.std.proofs.lemmas.List.Elements.{filter-append}
use Rattle.std.proofs.lemmas.Map.Keys.{sorted_from_strictly_increasing}
use Rattle.position_core.specs.declared.position.Position.{Position}
use Rattle.position_core.specs.declared.message.Entry.{Entry}
use Rattle.position_core.specs.declared.held.Held.{Held}
use Rattle.position_core.specs.declared.kind.Kind.{Kind}
use Rattle.position_core.specs.declared.ranges.HashRange.{HashRange}
use Rattle.position_core.specs.Position.{exact_positions, position_cmp, positions_total}
use Rattle.delivery_machine.specs.State.{Member}
use Rattle.delivery_machine.specs.Words.{is_at, is_held_by, is_member, removed}
use Rattle.delivery_machine.specs.Joining.{joining, leaving}
use Rattle.delivery_machine.proofs.Deciding.{number_is}
use Rattle.delivery_machine.proofs.Given.{increasing_later}
use Rattle.topic_subscriptions.specs.Placed.{IsPlacedIn, Placed, joined_by, left_by, line_at, sub_in}
use Rattle.topic_subscriptions.proofs.Changes.{still_live}

-- ---- joining

pub joined_in : (log : List Entry) (p : Placed) (kind : Kind) (ranges : Option (List HashRange)) (consumer : ℕ) → sub_in log (joined_by kind ranges consumer p) ≡ joining kind ranges consumer (sub_in log p)
joined_in log p kind ranges consumer = refl

line_and : (name : List ℕ) (ms : List Member) (m : Member) → line_at name (ms ++ m ∷ []) ≡ line_at name ms ++ cond (is_at name m) (m.number ∷ []) []
line_and name ms m =
    ap (map (λ (x : Member). x.number)) (filter-append (is_at name) ms (m ∷ []))
    ∙ map-append (λ (x : Member). x.number) (filter (is_at name) ms) (cond (is_at name m) (m ∷ []) [])
    ∙ ap (λ (ns : List ℕ). line_at name ms ++ ns) (one (is_at name m))
  where
    one : (b : Bool) → map (λ (x : Member). x.number) (cond b (m ∷ []) []) ≡ cond b (m.number ∷ []) []
    one true = refl
    one false = refl

pub joined_placed : (log : List Entry) (ms : List Member) (m : Member) (kind : Kind) (ranges : Option (List HashRange)) (p : Placed) → is_at p.name m ≡ true → IsPlacedIn log ms p → IsPlacedIn log (ms ++ m ∷ []) (joined_by kind ranges m.number p)
joined_placed log ms m kind ranges p here placed = record {
  within = placed.within;
  buried_within = placed.buried_within;
  live = placed.live;
  line = ap (λ (ns : List ℕ). ns ++ m.number ∷ []) placed.line ∙ ap (λ b. line_at p.name ms ++ cond b (m.number ∷ []) []) (sym here) ∙ sym (line_and p.name ms m);
  pending = λ q key. still_live log p (joined_by kind ranges m.number p) q (placed.pending q key) (placed.pending q key).live;
  counted = λ q key. still_live log p (joined_by kind ranges m.number p) q (placed.counted q key) (placed.counted q key).live;
}

-- the line of another subscription
pub line_joined : (name : List ℕ) (ms : List Member) (m : Member) → is_at name m ≡ false → line_at name (ms ++ m ∷ []) ≡ line_at name ms
line_joined name ms m elsewhere = line_and name ms m ∙ ap (λ b. line_at name ms ++ cond b (m.number ∷ []) []) elsewhere ∙ append-nil (line_at name ms)

-- ---- leaving

pub left_in : (log : List Entry) (p : Placed) (consumer : ℕ) → ((q : Position) → is_held_by consumer (map_of.get p.pending.pending q) ≡ false) → sub_in log (left_by consumer p) ≡ leaving consumer (sub_in log p)
left_in log p consumer none = ap (λ (m : map_of.FinMap position_cmp Held). record (leaving consumer (sub_in log p)) { pending = m }) (all_stay p.pending.pending none)
  where
    all_stay : (m : map_of.FinMap position_cmp Held) → ((q : Position) → is_held_by consumer (map_of.get m q) ≡ false) → m ≡ map_of.retain_keys m (λ q. not (is_held_by consumer (map_of.get m q)))
    all_stay m none = map_of.same_map positions_total exact_positions m (map_of.retain_keys m (λ q. not (is_held_by consumer (map_of.get m q))))
        (λ q. sym (map_of.get-retain_keys m (λ q. not (is_held_by consumer (map_of.get m q))) q (λ x tie. ap (λ (y : Position). not (is_held_by consumer (map_of.get m y))) (sym (exact_positions q x tie)))
        ∙ ap (λ b. cond (not b) (map_of.get m q) None) (none q)))

-- the members that come later have other numbers
unfolding_less : (a b : ℕ) → nat_cmp a b ≡ Less → a < b
unfolding_less a b is = grind (arith, common_steps)

none_more : (consumer : ℕ) (ms : List Member) → AllByRecursion (λ n. nat_cmp consumer n ≡ Less) (map (λ (m : Member). m.number) ms) → filter (λ m. not (is_member consumer m)) ms ≡ ms
none_more consumer [] above = refl
none_more consumer (m ∷ ms) above =
    let less = unfolding_less consumer m.number above.0 in
    ap (λ b. cond (not b) (m ∷ filter (λ m. not (is_member consumer m)) ms) (filter (λ m. not (is_member consumer m)) ms)) (ne_eqb m.number consumer (λ is. absurd (omega (arith, less, is))))
    ∙ ap (λ (xs : List Member). m ∷ xs) (none_more consumer ms above.1)

later_above : (n : ℕ) (ns : List ℕ) → IsStrictlyIncreasing (n ∷ ns) → AllByRecursion (λ k. nat_cmp n k ≡ Less) ns
unfolding IsStrictlySortedBy
later_above n ns rising = (sorted_from_strictly_increasing (n ∷ ns) rising).0

one_removed : (consumer : ℕ) (ms : List Member) → IsStrictlyIncreasing (map (λ (m : Member). m.number) ms) → removed (is_member consumer) ms ≡ filter (λ m. not (is_member consumer m)) ms
one_removed consumer [] rising = refl
one_removed consumer (m ∷ ms) rising = by (is_member consumer m) refl (one_removed consumer ms (increasing_later (λ (m : Member). m.number) m ms rising))
  where
    by : (b : Bool) → is_member consumer m ≡ b → removed (is_member consumer) ms ≡ filter (λ m. not (is_member consumer m)) ms
        → cond b ms (m ∷ removed (is_member consumer) ms) ≡ cond (not b) (m ∷ filter (λ m. not (is_member consumer m)) ms) (filter (λ m. not (is_member consumer m)) ms)
    by true is later =
        let number : m.number ≡ consumer = number_is m.number consumer is in
        sym (none_more consumer ms (subst (λ (n : ℕ). AllByRecursion (λ k. nat_cmp n k ≡ Less) (map (λ (m : Member). m.number) ms)) number (later_above m.number (map (λ (m : Member). m.number) ms) rising)))
    by false other later = ap (λ (xs : List Member). m ∷ xs) later

-- a test of the numbers, before they are read or after
line_without : (name : List ℕ) (consumer : ℕ) (ms : List Member) → line_at name (filter (λ m. not (is_member consumer m)) ms) ≡ filter (λ n. not (n == consumer)) (line_at name ms)
line_without name consumer [] = refl
line_without name consumer (m ∷ ms) = by (is_member consumer m) refl (is_at name m) refl (line_without name consumer ms)
  where
    rest : List Member
    rest = filter (λ m. not (is_member consumer m)) ms

    by : (b : Bool) → (m.number == consumer) ≡ b → (here : Bool) → is_at name m ≡ here → line_at name (filter (λ m. not (is_member consumer m)) ms) ≡ filter (λ n. not (n == consumer)) (line_at name ms)
        → line_at name (cond (not b) (m ∷ filter (λ m. not (is_member consumer m)) ms) (filter (λ m. not (is_member consumer m)) ms)) ≡ filter (λ n. not (n == consumer)) (map (λ (m : Member). m.number) (cond here (m ∷ filter (is_at name) ms) (filter (is_at name) ms)))
    by true is true at later = later ∙ ap (λ b. cond (not b) (m.number ∷ filter (λ n. not (n == consumer)) (line_at name ms)) (filter (λ n. not (n == consumer)) (line_at name ms))) (sym is)
    by true is false at later = later
    by false is true at later =
        ap (λ b. map (λ (m : Member). m.number) (cond b (m ∷ filter (is_at name) (filter (λ m. not (is_member consumer m)) ms)) (filter (is_at name) (filter (λ m. not (is_member consumer m)) ms)))) at
        ∙ ap (λ (ns : List ℕ). m.number ∷ ns) later
        ∙ ap (λ b. cond (not b) (m.number ∷ filter (λ n. not (n == consumer)) (line_at name ms)) (filter (λ n. not (n == consumer)) (line_at name ms))) (sym is)
    by false is false at later =
        ap (λ b. map (λ (m : Member). m.number) (cond b (m ∷ filter (is_at name) (filter (λ m. not (is_member consumer m)) ms)) (filter (is_at name) (filter (λ m. not (is_member consumer m)) ms)))) at
        ∙ later

pub left_placed : (log : List Entry) (ms : List Member) (consumer : ℕ) (p : Placed) → IsStrictlyIncreasing (map (λ (m : Member). m.number) ms) → IsPlacedIn log ms p → IsPlacedIn log (removed (is_member consumer) ms) (left_by consumer p)
left_placed log ms consumer p rising placed = record {
  within = placed.within;
  buried_within = placed.buried_within;
  live = placed.live;
  line = ap (filter (λ n. not (n == consumer))) placed.line ∙ sym (line_without p.name consumer ms) ∙ ap (line_at p.name) (sym (one_removed consumer ms rising));
  pending = λ q key. still_live log p (left_by consumer p) q (placed.pending q key) (placed.pending q key).live;
  counted = λ q key. still_live log p (left_by consumer p) q (placed.counted q key) (placed.counted q key).live;
}

-- the line of another subscription
pub line_left : (name : List ℕ) (ms : List Member) (consumer : ℕ) (m : Member) → find (is_member consumer) ms ≡ Some m → is_at name m ≡ false → line_at name (removed (is_member consumer) ms) ≡ line_at name ms
line_left name [] consumer m there elsewhere = refl
line_left name (x ∷ ms) consumer m there elsewhere = by (is_member consumer x) there (line_left name ms consumer m)
  where
    with_first : (xs : List Member) → line_at name xs ≡ line_at name ms → line_at name (x ∷ xs) ≡ line_at name (x ∷ ms)
    with_first xs same = pushed (is_at name x) (filter (is_at name) xs) ∙ ap (λ (ns : List ℕ). cond (is_at name x) (x.number ∷ ns) ns) same ∙ sym (pushed (is_at name x) (filter (is_at name) ms))
      where
        pushed : (b : Bool) (ys : List Member) → map (λ (m : Member). m.number) (cond b (x ∷ ys) ys) ≡ cond b (x.number ∷ map (λ (m : Member). m.number) ys) (map (λ (m : Member). m.number) ys)
        pushed true ys = refl
        pushed false ys = refl

    by : (b : Bool) → cond b (Some x) (find (is_member consumer) ms) ≡ Some m → (find (is_member consumer) ms ≡ Some m → is_at name m ≡ false → line_at name (removed (is_member consumer) ms) ≡ line_at name ms)
        → line_at name (cond b ms (x ∷ removed (is_member consumer) ms)) ≡ line_at name (x ∷ ms)
    by true found later =
        let it : x ≡ m = cc in
        sym (ap (λ b. map (λ (m : Member). m.number) (cond b (x ∷ filter (is_at name) ms) (filter (is_at name) ms))) (ap (is_at name) it ∙ elsewhere))
    by false found later = with_first (removed (is_member consumer) ms) (later found elsewhere)
