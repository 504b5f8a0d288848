-- The numbers and the room of hashes, as a map and a set.
use Rattle.std.proofs.Common.{◌≡◌, ◌≢◌, ℕ, zero, suc, ◌*◌, ◌/◌, ◌%◌, ◌<◌, ◌≤◌, Bool, true, false, cond, List, length, inl, inr, Option, Some, None, refl, sym, ap, ◌∙◌, arith, eq-eqb}
use Rattle.std.specs.Prelude.{◌==◌, ◌||◌, nat_lt}
use Rattle.std.specs.List.{slice_get}
use Rattle.std.specs.Option.{option_map_or}
use Rattle.std.specs.Ordering.{nat_cmp}
use Rattle.std.specs.Cmp.{nat_cmp_total, unsigned_tied}
use Rattle.std.specs.FinMap as map_of
use Rattle.std.specs.FinSet as set
use Rattle.std.proofs.lemmas.Bool.{cases_eq, cases_lt, ne_eqb, lt-ltb, le-ltb, ltb-true}
use Rattle.std.proofs.lemmas.Option.{slice_get_past, same_Some}
use Rattle.std.proofs.lemmas.Map.Lookups.{exact_unsigned}
use Rattle.number_sets.specs.declared.node.Node.{Node}
use Rattle.number_sets.specs.declared.tournament.Tournament.{Tournament}
use Rattle.number_sets.specs.Nodes.{nothing, none_yet, number_of}
use Rattle.number_sets.specs.Trees.{leaf_of, has_room}
use Rattle.number_sets.specs.Firsts.{Firsts, number_at, room_at, room_in, with_number, numbers_below, hashes_below, firsts_of}

-- the number that a map has at a hash after a change at another or at the same
pub get_with_number : (m : map_of.FinMap nat_cmp ℕ) (k : ℕ) (o : Option ℕ) (q : ℕ) → map_of.get (with_number m k o) q ≡ cond (q == k) o (map_of.get m q)
get_with_number m k None q = map_of.get-remove nat_cmp_total m k q ∙ ap (λ b. cond b None (map_of.get m q)) (unsigned_tied q k)
get_with_number m k (Some x) q = map_of.get-insert nat_cmp_total m k x q ∙ ap (λ b. cond b (Some x) (map_of.get m q)) (unsigned_tied q k)

pub get_numbers_below : (f : ℕ → Option ℕ) (n q : ℕ) → map_of.get (numbers_below f n) q ≡ cond (nat_lt q n) (f q) None
unfolding numbers_below
get_numbers_below f zero q = map_of.get-empty nat_cmp q ∙ sym (ap (λ b. cond b (f q) None) (le-ltb q 0 (omega arith)))
get_numbers_below f (suc n) q = get_with_number (numbers_below f n) n (f n) q ∙ elim (cases_eq q n) [
  | inl same ↦
      ap (λ b. cond b (f n) (map_of.get (numbers_below f n) q)) (eq-eqb q n same)
      ∙ ap f (sym same)
      ∙ sym (ap (λ b. cond b (f q) None) (lt-ltb q (suc n) (omega arith)))
  | inr other ↦
      ap (λ b. cond b (f n) (map_of.get (numbers_below f n) q)) (ne_eqb q n other)
      ∙ get_numbers_below f n q
      ∙ elim (cases_lt q n) [
        | inl below ↦ ap (λ b. cond b (f q) None) (lt-ltb q n below ∙ sym (lt-ltb q (suc n) (omega arith)))
        | inr above ↦ ap (λ b. cond b (f q) None) (le-ltb q n above ∙ sym (le-ltb q (suc n) (omega (arith, other))))
      ]
]

-- one more hash
with_last : (p : ℕ → Bool) (n q : ℕ) (s : set.FinSet nat_cmp) → set.contains s q ≡ cond (nat_lt q n) (p q) false → (b : Bool) → p n ≡ b → set.contains (cond b (set.insert s n) s) q ≡ cond (nat_lt q (suc n)) (p q) false
with_last p n q s before b is = by b is
  where
    later : q ≢ n → set.contains s q ≡ cond (nat_lt q (suc n)) (p q) false
    later other = before ∙ elim (cases_lt q n) [
      | inl below ↦ ap (λ b. cond b (p q) false) (lt-ltb q n below ∙ sym (lt-ltb q (suc n) (omega arith)))
      | inr above ↦ ap (λ b. cond b (p q) false) (le-ltb q n above ∙ sym (le-ltb q (suc n) (omega (arith, other))))
    ]

    last : q ≡ n → cond (nat_lt q (suc n)) (p q) false ≡ p n
    last same = ap (λ b. cond b (p q) false) (lt-ltb q (suc n) (omega arith)) ∙ ap p same

    by : (b : Bool) → p n ≡ b → set.contains (cond b (set.insert s n) s) q ≡ cond (nat_lt q (suc n)) (p q) false
    by true passes =
        set.contains-insert nat_cmp_total s n q
        ∙ ap (λ (b : Bool). b || set.contains s q) (unsigned_tied q n)
        ∙ elim (cases_eq q n) [
          | inl same ↦ ap (λ (b : Bool). b || set.contains s q) (eq-eqb q n same) ∙ sym (last same ∙ passes)
          | inr other ↦ ap (λ (b : Bool). b || set.contains s q) (ne_eqb q n other) ∙ later other
        ]
    by false fails = elim (cases_eq q n) [
      | inl same ↦ before ∙ ap (λ b. cond b (p q) false) (le-ltb q n (omega arith)) ∙ sym (last same ∙ fails)
      | inr other ↦ later other
    ]

pub contains_hashes_below : (p : ℕ → Bool) (n q : ℕ) → set.contains (hashes_below p n) q ≡ cond (nat_lt q n) (p q) false
unfolding hashes_below
contains_hashes_below p zero q = set.contains-empty nat_cmp q ∙ sym (ap (λ b. cond b (p q) false) (le-ltb q 0 (omega arith)))
contains_hashes_below p (suc n) q = with_last p n q (hashes_below p n) (contains_hashes_below p n q) (p n) refl

-- past the chunks there is nothing
no_chunk : (chunks : List Tournament) (q : ℕ) → 256 * length chunks ≤ q → slice_get chunks (q / 256) ≡ None
no_chunk chunks q h = slice_get_past chunks (q / 256) (omega arith)

pub no_number : (chunks : List Tournament) (q : ℕ) → 256 * length chunks ≤ q → number_at chunks q ≡ None
no_number chunks q above = ap (λ o. number_of (option_map_or (λ t. leaf_of t (q % 256)) o nothing)) (no_chunk chunks q above)

pub get_firsts_of : (chunks : List Tournament) (q : ℕ) → map_of.get (firsts_of chunks).numbers q ≡ number_at chunks q
unfolding firsts_of
get_firsts_of chunks q = get_numbers_below (number_at chunks) (256 * length chunks) q ∙ elim (cases_lt q (256 * length chunks)) [
  | inl below ↦ ap (λ b. cond b (number_at chunks q) None) (lt-ltb q (256 * length chunks) below)
  | inr above ↦
      ap (λ b. cond b (number_at chunks q) None) (le-ltb q (256 * length chunks) above)
      ∙ sym (no_number chunks q above)
]

pub room_of_firsts : (chunks : List Tournament) (q : ℕ) → set.contains (firsts_of chunks).room q ≡ room_at chunks q
unfolding firsts_of
room_of_firsts chunks q = contains_hashes_below (room_at chunks) (256 * length chunks) q ∙ elim (cases_lt q (256 * length chunks)) [
  | inl below ↦ ap (λ b. cond b (room_at chunks q) false) (lt-ltb q (256 * length chunks) below)
  | inr above ↦
      ap (λ b. cond b (room_at chunks q) false) (le-ltb q (256 * length chunks) above)
      ∙ sym (ap (λ o. option_map_or has_room o false) (no_chunk chunks q above))
]

pub placed : (a b : map_of.FinMap nat_cmp ℕ) (r s : set.FinSet nat_cmp) → a ≡ b → r ≡ s → ◌≡◌ {A = Firsts} (record { numbers = a; room = r }) (record { numbers = b; room = s })
placed a b r s same_numbers same_room =
    ap (λ (m : map_of.FinMap nat_cmp ℕ). let p : Firsts = record { numbers = m; room = r } in p) same_numbers
    ∙ ap (λ (t : set.FinSet nat_cmp). let p : Firsts = record { numbers = b; room = t } in p) same_room

-- what the chunks have says which numbers and which room there are
pub numbers_are : (chunks : List Tournament) (m : map_of.FinMap nat_cmp ℕ) → ((q : ℕ) → number_at chunks q ≡ map_of.get m q) → (firsts_of chunks).numbers ≡ m
numbers_are chunks m is = map_of.same_map nat_cmp_total exact_unsigned _ _ (λ q. get_firsts_of chunks q ∙ is q)

pub room_is : (chunks : List Tournament) (s : set.FinSet nat_cmp) → ((q : ℕ) → room_at chunks q ≡ set.contains s q) → (firsts_of chunks).room ≡ s
room_is chunks s is = set.same_set nat_cmp_total exact_unsigned _ _ (λ q. room_of_firsts chunks q ∙ is q)

pub same_numbers : (old new : List Tournament) → ((q : ℕ) → number_at new q ≡ number_at old q) → (firsts_of new).numbers ≡ (firsts_of old).numbers
same_numbers old new is = numbers_are new _ (λ q. is q ∙ sym (get_firsts_of old q))

pub same_room : (old new : List Tournament) → ((c : ℕ) → room_in new c ≡ room_in old c) → (firsts_of new).room ≡ (firsts_of old).room
same_room old new is = room_is new _ (λ q. is (q / 256) ∙ sym (room_of_firsts old q))

-- a number that stands there is below the one that stands for none
pub number_some : (node : Node) (n : ℕ) → number_of node ≡ Some n → (node.number < none_yet) × (node.number ≡ n)
number_some node n e = by (nat_lt node.number none_yet) refl e
  where
    by : (t : Bool) → nat_lt node.number none_yet ≡ t → cond t (Some node.number) None ≡ Some n → (node.number < none_yet) × (node.number ≡ n)
    by true less e = (ltb-true node.number none_yet less, same_Some node.number n e)
    by false without e = absurd (bad e)
      where
        bad : ◌≡◌ {A = Option ℕ} None (Some n) → ⊥
        bad e = cc

pub number_none : (node : Node) → none_yet ≤ node.number → number_of node ≡ None
number_none node h = ap (λ b. cond b (Some node.number) None) (le-ltb node.number none_yet h)

-- the numbers changed, and the room did not
pub changed : (old new : List Tournament) (m : map_of.FinMap nat_cmp ℕ) → (firsts_of new).numbers ≡ m → (firsts_of new).room ≡ (firsts_of old).room → firsts_of new ≡ record { numbers = m; room = (firsts_of old).room }
changed old new m numbers room = placed _ m _ _ numbers room
