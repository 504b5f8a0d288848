-- What the calls change, as their callers see it.
use Rattle.std.proofs.Common.{◌≡◌, ℕ, ◌/◌, ◌%◌, ◌+◌, ◌<◌, ◌≤◌, List, [], length, Bool, true, false, cond, Option, Some, None, Result, Ok, Err, inl, inr, refl, sym, ap, ◌∙◌, subst, arith, vec_len}
use Rattle.std.specs.Prelude.{OnOk, OnErr}
use Rattle.std.specs.List.{slice_get}
use Rattle.std.specs.Option.{option_map_or}
use Rattle.std.specs.Ordering.{nat_cmp}
use Rattle.std.specs.Cmp.{nat_cmp_total}
use Rattle.std.specs.FinMap as map_of
use Rattle.std.specs.FinSet as set
use Rattle.std.proofs.lemmas.Bool.{cases_eq, cases_lt, ne_eqb, eq-eqb, ltb-false}
use Rattle.std.proofs.lemmas.Option.{slice_get_past}
use Rattle.std.proofs.lemmas.List.{get_or_past}
use Rattle.std.proofs.lemmas.Map.Lookups.{exact_unsigned}
use Rattle.number_sets.specs.declared.node.Node.{Node}
use Rattle.number_sets.specs.declared.tournament.Tournament.{Tournament}
use Rattle.number_sets.specs.Nodes.{nothing, none_yet, number_of}
use Rattle.number_sets.specs.Trees.{leaf_of, has_room}
use Rattle.number_sets.specs.Firsts.{Firsts, leaf_in, room_in, numbers_below, hashes_below, firsts_of, AreTied}
use Rattle.number_sets.proofs.Numbers.{get_with_number, get_firsts_of, room_of_firsts, numbers_are, same_numbers, same_room, changed, placed, number_none}

pub then_ok : {X E P Q : Type 0} (r : Result X E) → (P → Q) → OnOk r P → OnOk r Q
then_ok (Ok x) then held = then held
then_ok (Err e) then held = tt

pub then_err : {X E P Q : Type 0} (r : Result X E) → (P → Q) → OnErr r P → OnErr r Q
then_err (Ok x) then held = tt
then_err (Err e) then held = then held

pub new_firsts : (chunks : List Tournament) → chunks ≡ [] → firsts_of chunks ≡ record { numbers = map_of.empty; room = set.empty }
unfolding firsts_of numbers_below hashes_below
new_firsts chunks e = subst (λ (cs : List Tournament). firsts_of cs ≡ record { numbers = map_of.empty; room = set.empty }) (sym e) refl

pub node_found : (chunks base : List Tournament) (hash chunk place : ℕ) (n : Node) → base ≡ chunks → chunk ≡ hash / 256 → place ≡ hash % 256 → n ≡ leaf_in base chunk place → number_of n ≡ map_of.get (firsts_of chunks).numbers hash
node_found chunks base hash chunk place n same is_chunk is_place is =
    ap number_of (is ∙ ap (λ cs. leaf_in cs chunk place) same ∙ ap (λ c. leaf_in chunks c place) is_chunk ∙ ap (leaf_in chunks (hash / 256)) is_place)
    ∙ sym (get_firsts_of chunks hash)

-- growth
module _ (old new : List Tournament) where
  pub grown_numbers : ((c k : ℕ) → leaf_in new c k ≡ leaf_in old c k) → (firsts_of new).numbers ≡ (firsts_of old).numbers
  grown_numbers leaves = same_numbers old new (λ q. ap number_of (leaves (q / 256) (q % 256)))

  pub not_grown : ((c k : ℕ) → leaf_in new c k ≡ leaf_in old c k) → ((c : ℕ) → room_in new c ≡ room_in old c) → firsts_of new ≡ firsts_of old
  not_grown leaves room = placed _ _ _ _ (grown_numbers leaves) (same_room old new room)

  pub room_kept : ((c : ℕ) → room_in old c ≡ true → room_in new c ≡ true) → (h : ℕ) → set.contains (firsts_of old).room h ≡ true → set.contains (firsts_of new).room h ≡ true
  room_kept kept h had = room_of_firsts new h ∙ kept (h / 256) (sym (room_of_firsts old h) ∙ had)

pub has_grown : (chunks : List Tournament) (hash chunk : ℕ) → chunk ≡ hash / 256 → room_in chunks chunk ≡ true → set.contains (firsts_of chunks).room hash ≡ true
has_grown chunks hash chunk is room = room_of_firsts chunks hash ∙ ap (room_in chunks) (sym is) ∙ room

-- a hash with room has a chunk with room
pub chunk_has_room : (chunks base : List Tournament) (v : Firsts) (hash chunk : ℕ) → firsts_of chunks ≡ v → base ≡ chunks → chunk ≡ hash / 256 → set.contains v.room hash ≡ true → room_in base chunk ≡ true
chunk_has_room chunks base v hash chunk view same is had =
    ap (λ cs. room_in cs chunk) same ∙ ap (room_in chunks) is ∙ sym (room_of_firsts chunks hash)
    ∙ subst (λ (w : Firsts). set.contains w.room hash ≡ true) (sym view) had

room_some : (chunks : List Tournament) (c : ℕ) → room_in chunks c ≡ true → c < length chunks
room_some chunks c room = elim (cases_lt c (length chunks)) [
  | inl below ↦ below
  | inr past ↦ absurd (bad (ap (λ o. option_map_or has_room o false) (slice_get_past chunks c past)))
]
  where
    bad : room_in chunks c ≡ false → ⊥
    bad e = cc

pub top_has_room : (chunks : List Tournament) (top : Tournament) (c : ℕ) → AreTied chunks top → room_in chunks c ≡ true → has_room top ≡ true
top_has_room chunks top c tied room = tied.room (omega (arith, room_some chunks c room))

pub cleared : (old base new left : List Tournament) → base ≡ old → left ≡ new → ((c k : ℕ) → leaf_in new c k ≡ nothing) → ((c : ℕ) → room_in new c ≡ room_in base c) → firsts_of left ≡ record { numbers = map_of.empty; room = (firsts_of old).room }
cleared old base new left same written leaves room =
    ap firsts_of written
    ∙ changed old new map_of.empty
    (numbers_are new _ (λ q. ap number_of (leaves (q / 256) (q % 256)) ∙ sym (map_of.get-empty nat_cmp q)))
    (same_room old new (λ c. room c ∙ ap (λ cs. room_in cs c) same))

-- a hash without a number is as if it was taken out
pub without_number : (m : map_of.FinMap nat_cmp ℕ) (hash : ℕ) → map_of.get m hash ≡ None → m ≡ map_of.remove m hash
without_number m hash none = map_of.same_map nat_cmp_total exact_unsigned _ _ (λ q. sym (get_with_number m hash None q ∙ elim (cases_eq q hash) [
  | inl same ↦ ap (λ b. cond b None (map_of.get m q)) (eq-eqb q hash same) ∙ sym (ap (map_of.get m) same ∙ none)
  | inr other ↦ ap (λ b. cond b None (map_of.get m q)) (ne_eqb q hash other)
]))

-- only what has room has a number
tree_has_room : (t : Tournament) (k : ℕ) → (leaf_of t k).number < none_yet → has_room t ≡ true
tree_has_room t k less = by (has_room t) refl
  where
    by : (b : Bool) → has_room t ≡ b → b ≡ true
    by true e = refl
    by false e =
        let none : vec_len t.nodes ≤ 0 = ltb-false 0 (vec_len t.nodes) e in
        let empty = get_or_past t.nodes.items (256 + k) nothing (omega (arith, t.nodes.ok.0)) in
        absurd (omega (arith, subst (λ (n : Node). n.number < none_yet) empty less))

number_has_room : (o : Option Tournament) (k : ℕ) → (option_map_or (λ t. leaf_of t k) o nothing).number < none_yet → option_map_or has_room o false ≡ true
number_has_room None k less = absurd (omega arith)
number_has_room (Some t) k less = tree_has_room t k less

pub room_found : (chunks base : List Tournament) (hash chunk place : ℕ) (n : Node) → base ≡ chunks → chunk ≡ hash / 256 → n ≡ leaf_in base chunk place → n.number < none_yet → set.contains (firsts_of chunks).room hash ≡ true
room_found chunks base hash chunk place n same is_chunk is less =
    has_grown chunks hash chunk is_chunk
    (number_has_room (slice_get chunks chunk) place (subst (λ (m : Node). m.number < none_yet) (is ∙ ap (λ cs. leaf_in cs chunk place) same) less))

-- without a change
pub not_there : (v : Firsts) (hash : ℕ) (n : Node) → number_of n ≡ map_of.get v.numbers hash → none_yet ≤ n.number → v ≡ record { numbers = map_of.remove v.numbers hash; room = v.room }
not_there v hash n is none = placed v.numbers _ v.room v.room (without_number v.numbers hash (sym is ∙ number_none n none)) refl
