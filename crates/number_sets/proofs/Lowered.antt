-- Numbers that are all made less by as much.
use Rattle.std.proofs.Common.{◌≡◌, ℕ, zero, suc, ◌+◌, ◌-◌, ◌*◌, ◌<◌, ◌≤◌, Bool, true, false, cond, List, length, get_or, ◌≢◌, ◌/◌, ◌%◌, ◌^◌, ◌⊎◌, Option, Some, None, inl, inr, refl, sym, ap, ◌∙◌, subst, arith}
use Rattle.std.specs.Prelude.{nat_lt}
use Rattle.std.specs.List.{slice_get}
use Rattle.std.specs.Option.{option_map, option_map_or}
use Rattle.std.specs.FinMap as map_of
use Rattle.std.proofs.lemmas.Bool.{cases_eq, cases_lt, lt-ltb, le-ltb}
use Rattle.std.proofs.Math.ListN.{set, length-set}
use Rattle.std.proofs.lemmas.List.{get_or_past, get_or-set_same, get_or-set_other}
use Rattle.std.proofs.lemmas.Option.{slice_get-get_or, slice_get_past}
use Rattle.number_sets.specs.declared.node.Node.{Node}
use Rattle.number_sets.specs.Nodes.{nothing, none_yet, better, number_of, node_at, leaf_at, lowered, IsNotBelow, IsRight, IsLeastOf}
use Rattle.number_sets.specs.declared.tournament.Tournament.{Tournament}
use Rattle.number_sets.specs.Trees.{leaf_of, has_room}
use Rattle.number_sets.specs.Firsts.{Firsts, leaf_in, room_in, first_at, firsts_of, AreTied}
use Rattle.number_sets.proofs.Numbers.{get_firsts_of, same_room}
use Rattle.number_sets.proofs.Climb.{better_one}

-- ---- one node

lowered_some : (n : ℕ) (a : Node) → a.number < none_yet → lowered n a ≡ record a { number = a.number - n }
lowered_some n a less = ap (λ (t : Bool). let m : Node = cond t (record a { number = a.number - n }) a in m) (lt-ltb a.number none_yet less)

pub lowered_none : (n : ℕ) (a : Node) → none_yet ≤ a.number → lowered n a ≡ a
lowered_none n a none = ap (λ (t : Bool). let m : Node = cond t (record a { number = a.number - n }) a in m) (le-ltb a.number none_yet none)

-- the number of a node that has one, and of one that has none
number_lowered : (n : ℕ) (a : Node) → ((a.number < none_yet) × ((lowered n a).number ≡ a.number - n)) ⊎ ((none_yet ≤ a.number) × ((lowered n a).number ≡ a.number))
number_lowered n a = elim (cases_lt a.number none_yet) [
  | inl less ↦ inl (less, ap (λ (m : Node). m.number) (lowered_some n a less))
  | inr none ↦ inr (none, ap (λ (m : Node). m.number) (lowered_none n a none))
]

pub hash_lowered : (n : ℕ) (a : Node) → (lowered n a).hash ≡ a.hash
hash_lowered n a = elim (cases_lt a.number none_yet) [
  | inl less ↦ ap (λ (m : Node). m.hash) (lowered_some n a less)
  | inr none ↦ ap (λ (m : Node). m.hash) (lowered_none n a none)
]

pub still_none : (n : ℕ) (a : Node) → (lowered n a).number < none_yet → a.number < none_yet
still_none n a less = elim (number_lowered n a) [
  | inl some ↦ some.0
  | inr none ↦ absurd (omega (arith, none.0, none.1, less))
]

pub number_of_lowered : (n : ℕ) (a : Node) → number_of (lowered n a) ≡ option_map (λ k. k - n) (number_of a)
number_of_lowered n a = elim (cases_lt a.number none_yet) [
  | inl less ↦
      let now : (lowered n a).number ≡ a.number - n = ap (λ (m : Node). m.number) (lowered_some n a less) in
      ap (λ (t : Bool). cond t (Some (lowered n a).number) None) (lt-ltb (lowered n a).number none_yet (omega (arith, now, less)))
      ∙ ap Some now
      ∙ sym (ap (λ (t : Bool). option_map (λ k. k - n) (cond t (Some a.number) None)) (lt-ltb a.number none_yet less))
  | inr none ↦
      ap number_of (lowered_none n a none)
      ∙ ap (λ (t : Bool). cond t (Some a.number) None) (le-ltb a.number none_yet none)
      ∙ sym (ap (λ (t : Bool). option_map (λ k. k - n) (cond t (Some a.number) None)) (le-ltb a.number none_yet none))
]

not_more : (n : ℕ) (a b : Node) → a.number ≤ b.number → (lowered n a).number ≤ (lowered n b).number
not_more n a b order = elim (number_lowered n a) [
  | inl p ↦ elim (number_lowered n b) [ inl q ↦ omega (arith, p.1, q.1, order) | inr q ↦ omega (arith, p.0, p.1, q.0, q.1) ]
  | inr p ↦ elim (number_lowered n b) [ inl q ↦ absurd (omega (arith, p.0, q.0, order)) | inr q ↦ omega (arith, p.1, q.1, order) ]
]

less_still : (n : ℕ) (a b : Node) → IsNotBelow n a → b.number < a.number → IsNotBelow n b → (lowered n b).number < (lowered n a).number
less_still n a b low order low' = elim (number_lowered n a) [
  | inl p ↦ elim (number_lowered n b) [ inl q ↦ omega (arith, p.1, q.1, order, low' q.0) | inr q ↦ absurd (omega (arith, p.0, q.0, order)) ]
  | inr p ↦ elim (number_lowered n b) [ inl q ↦ omega (arith, p.0, p.1, q.0, q.1) | inr q ↦ omega (arith, p.1, q.1, order) ]
]

same_order : (n : ℕ) (a b : Node) → IsNotBelow n a → IsNotBelow n b → nat_lt (lowered n b).number (lowered n a).number ≡ nat_lt b.number a.number
same_order n a b low low' = elim (cases_lt b.number a.number) [
  | inl less ↦ lt-ltb _ _ (less_still n a b low less low') ∙ sym (lt-ltb _ _ less)
  | inr more ↦ le-ltb _ _ (not_more n a b more) ∙ sym (le-ltb _ _ more)
]

better_lowered : (n : ℕ) (a b : Node) → IsNotBelow n a → IsNotBelow n b → better (lowered n a) (lowered n b) ≡ lowered n (better a b)
better_lowered n a b low low' =
    ap (λ (t : Bool). let m : Node = cond t (lowered n b) (lowered n a) in m) (same_order n a b low low') ∙ by (nat_lt b.number a.number)
  where
    by : (t : Bool) → ◌≡◌ {A = Node} (cond t (lowered n b) (lowered n a)) (lowered n (cond t b a))
    by true = refl
    by false = refl

-- ---- a tree

module _ (old new : List Node) (by : ℕ) (few : length old ≤ 512) (right : IsRight old) (low : (k : ℕ) → k < 256 → IsNotBelow by (leaf_at old k)) (each : (k : ℕ) → node_at new k ≡ lowered by (node_at old k)) where
  at_leaf : (k : ℕ) → 256 ≤ k → IsNotBelow by (node_at old k)
  at_leaf k leaf = elim (cases_lt k 512) [
    | inl within ↦ let is : 256 + (k - 256) ≡ k = omega (arith, leaf) in subst (λ j. IsNotBelow by (node_at old j)) is (low (k - 256) (omega (arith, leaf, within)))
    | inr past ↦ subst (IsNotBelow by) (sym (get_or_past old k nothing (omega (arith, past, few)))) (λ less. absurd (omega (arith, less)))
  ]

  -- no node has less than the leaves
  none_below : (n k : ℕ) → 512 ≤ k + n → 0 < k → IsNotBelow by (node_at old k)
  none_below zero k far some = at_leaf k (omega (arith, far))
  none_below (suc n) k far some = elim (cases_lt k 256) [
    | inr leaf ↦ at_leaf k leaf
    | inl above ↦
        subst (IsNotBelow by) (sym (right k some above))
        (better_one (IsNotBelow by) (node_at old (2 * k)) (node_at old (2 * k + 1)) (none_below n (2 * k) (omega (arith, far, some)) (omega (arith, some))) (none_below n (2 * k + 1) (omega (arith, far, some)) (omega (arith, some))))
  ]

  pub right_lowered : IsRight new
  right_lowered k some above =
      each k ∙ ap (lowered by) (right k some above)
      ∙ sym (better_lowered by (node_at old (2 * k)) (node_at old (2 * k + 1)) (none_below 512 (2 * k) (omega arith) (omega (arith, some))) (none_below 512 (2 * k + 1) (omega arith) (omega arith)))
      ∙ sym (ap (λ (m : Node). better m (lowered by (node_at old (2 * k + 1)))) (each (2 * k)))
      ∙ sym (ap (better (node_at new (2 * k))) (each (2 * k + 1)))

-- each node of the row was lowered, and past its end there are none
pub all_lowered : (old new : List Node) (by end : ℕ) → length old ≤ end → length new ≤ end → ((k : ℕ) → k < end → node_at new k ≡ lowered by (node_at old k)) → (k : ℕ) → node_at new k ≡ lowered by (node_at old k)
all_lowered old new by end few few' each k = elim (cases_lt k end) [
  | inl below ↦ each k below
  | inr past ↦
      get_or_past new k nothing (omega (arith, past, few'))
      ∙ sym (lowered_none by nothing (omega arith))
      ∙ ap (lowered by) (sym (get_or_past old k nothing (omega (arith, past, few))))
]

-- the least of nodes that were all lowered
pub least_lowered : (f g : ℕ → Node) (by from end : ℕ) (least : Node) → ((k : ℕ) → g k ≡ lowered by (f k)) → IsLeastOf f from end least → IsLeastOf g from end (lowered by least)
least_lowered f g by from end least each is = record {
  below = λ k p q. subst (λ (m : Node). (lowered by least).number ≤ m.number) (sym (each k)) (not_more by least (f k) (is.below k p q));
  found = λ less. let it = is.found (still_none by least less) in (it.0, it.1, it.2, each it.0 ∙ ap (lowered by) it.3);
}

-- ---- one of the chunks

module _ (chunks : List Tournament) (chunk : ℕ) (tree : Tournament) (within : chunk < length chunks) where
  there : slice_get chunks chunk ≡ Some (get_or chunks chunk tree)
  there = slice_get-get_or chunks chunk tree within

  pub leaf_there : (k : ℕ) → leaf_in chunks chunk k ≡ leaf_of (get_or chunks chunk tree) k
  leaf_there k = ap (λ (o : Option Tournament). option_map_or (λ t. leaf_of t k) o nothing) there

  pub room_there : room_in chunks chunk ≡ has_room (get_or chunks chunk tree)
  room_there = ap (λ (o : Option Tournament). option_map_or has_room o false) there

  put_there : slice_get (set chunks chunk tree) chunk ≡ Some tree
  put_there =
      slice_get-get_or (set chunks chunk tree) chunk tree (omega (arith, within, length-set {A = Tournament} chunks chunk tree))
      ∙ ap Some (get_or-set_same chunks chunk tree tree within)

  put_aside : (c : ℕ) → c ≢ chunk → slice_get (set chunks chunk tree) c ≡ slice_get chunks c
  put_aside c other = elim (cases_lt c (length chunks)) [
    | inl below ↦
        slice_get-get_or (set chunks chunk tree) c tree (omega (arith, below, length-set {A = Tournament} chunks chunk tree))
        ∙ ap Some (get_or-set_other chunks chunk c tree tree other) ∙ sym (slice_get-get_or chunks c tree below)
    | inr past ↦
        slice_get_past (set chunks chunk tree) c (omega (arith, past, length-set {A = Tournament} chunks chunk tree))
        ∙ sym (slice_get_past chunks c past)
  ]

  pub leaf_put : (k : ℕ) → leaf_in (set chunks chunk tree) chunk k ≡ leaf_of tree k
  leaf_put k = ap (λ (o : Option Tournament). option_map_or (λ t. leaf_of t k) o nothing) put_there

  pub leaf_aside : (c k : ℕ) → c ≢ chunk → leaf_in (set chunks chunk tree) c k ≡ leaf_in chunks c k
  leaf_aside c k other = ap (λ (o : Option Tournament). option_map_or (λ t. leaf_of t k) o nothing) (put_aside c other)

  pub room_put : (old : Tournament) → old ≡ get_or chunks chunk tree → has_room tree ≡ has_room old → (c : ℕ) → room_in (set chunks chunk tree) c ≡ room_in chunks c
  room_put old is same c = elim (cases_eq c chunk) [
    | inl here ↦
        ap (room_in (set chunks chunk tree)) here
        ∙ ap (λ (o : Option Tournament). option_map_or has_room o false) put_there ∙ same ∙ ap has_room is ∙ sym room_there
        ∙ sym (ap (room_in chunks) here)
    | inr other ↦ ap (λ (o : Option Tournament). option_map_or has_room o false) (put_aside c other)
  ]

-- ---- the whole

module _ (chunks : List Tournament) (top : Tournament) (by : ℕ) (v : Firsts) (view : firsts_of chunks ≡ v) (tied : AreTied chunks top) (least : (hash number : ℕ) → hash < 2 ^ 16 → map_of.get v.numbers hash ≡ Some number → by ≤ number) where
  -- a number of a leaf is the number of a hash
  leaf_not_below : (c k : ℕ) → k < 256 → IsNotBelow by (leaf_in chunks c k)
  leaf_not_below c k small less = elim (cases_lt c (length chunks)) [
    | inl within ↦
        let hash : ℕ = 256 * c + k in
        let chunk : hash / 256 ≡ c = omega (arith, small) in
        let place : hash % 256 ≡ k = omega (arith, small) in
        let is : first_at chunks hash ≡ leaf_in chunks c k = ap (λ d. leaf_in chunks d (hash % 256)) chunk ∙ ap (leaf_in chunks c) place in
        let stands : number_of (leaf_in chunks c k) ≡ Some (leaf_in chunks c k).number = ap (λ (t : Bool). cond t (Some (leaf_in chunks c k).number) None) (lt-ltb (leaf_in chunks c k).number none_yet less) in
        least hash (leaf_in chunks c k).number (omega (arith, within, small, tied.few))
        (ap (λ (w : Firsts). map_of.get w.numbers hash) (sym view) ∙ get_firsts_of chunks hash ∙ ap number_of is ∙ stands)
    | inr past ↦
        let none = ap (λ (o : Option Tournament). (option_map_or (λ t. leaf_of t k) o nothing).number) (slice_get_past chunks c past) in
        absurd (omega (arith, less, none))
  ]

  pub leaves_not_below : (base : List Tournament) → base ≡ chunks → (c k : ℕ) → k < 256 → IsNotBelow by (leaf_in base c k)
  leaves_not_below base same c k small = subst (λ (cs : List Tournament). IsNotBelow by (leaf_in cs c k)) (sym same) (leaf_not_below c k small)

  pub top_not_below : (k : ℕ) → k < 256 → IsNotBelow by (leaf_of top k)
  top_not_below k small less =
      let it = (tied.least k small).found less in
      subst (IsNotBelow by) it.3 (leaf_not_below k it.0 it.2) less

module _ (old base new left : List Tournament) (by : ℕ) (same : base ≡ old) (written : left ≡ new) (leaves : (c k : ℕ) → leaf_in new c k ≡ lowered by (leaf_in base c k)) where
  left_leaves : (c k : ℕ) → leaf_in left c k ≡ lowered by (leaf_in old c k)
  left_leaves c k = ap (λ cs. leaf_in cs c k) written ∙ leaves c k ∙ ap (λ cs. lowered by (leaf_in cs c k)) same

  pub numbers_lowered : (v : Firsts) → firsts_of old ≡ v → (hash : ℕ) → map_of.get (firsts_of left).numbers hash ≡ option_map (λ n. n - by) (map_of.get v.numbers hash)
  numbers_lowered v view hash =
      get_firsts_of left hash ∙ ap number_of (left_leaves (hash / 256) (hash % 256))
      ∙ number_of_lowered by (first_at old hash)
      ∙ ap (option_map (λ n. n - by)) (sym (get_firsts_of old hash) ∙ ap (λ (w : Firsts). map_of.get w.numbers hash) view)

  left_room : ((c : ℕ) → room_in new c ≡ room_in base c) → (c : ℕ) → room_in left c ≡ room_in old c
  left_room room c = ap (λ cs. room_in cs c) written ∙ room c ∙ ap (λ cs. room_in cs c) same

  pub room_lowered : (v : Firsts) → firsts_of old ≡ v → ((c : ℕ) → room_in new c ≡ room_in base c) → (firsts_of left).room ≡ v.room
  room_lowered v view room = same_room old left (left_room room) ∙ ap (λ (w : Firsts). w.room) view

  pub tied_lowered : (top top' : Tournament) → length new ≡ length base → ((k : ℕ) → leaf_of top' k ≡ lowered by (leaf_of top k)) → has_room top' ≡ has_room top → AreTied old top → AreTied left top'
  tied_lowered top top' sized tops room tied = record {
    few = omega (arith, tied.few, sized, ap length same, ap length written);
    hashes = λ q less.
        let is = left_leaves (q / 256) (q % 256) in
        let low : (lowered by (first_at old q)).number < none_yet = subst (λ (n : Node). n.number < none_yet) is less in
        ap (λ (n : Node). n.hash) is ∙ hash_lowered by (first_at old q) ∙ tied.hashes q (still_none by (first_at old q) low);
    least = λ c small.
        subst (IsLeastOf (leaf_in left c) 0 256) (sym (tops c)) (least_lowered (leaf_in old c) (leaf_in left c) by 0 256 (leaf_of top c) (left_leaves c) (tied.least c small));
    room = λ some. room ∙ tied.room (omega (arith, some, sized, ap length same, ap length written));
  }
