-- The hashes after a change of one.
use Rattle.std.proofs.Common.{◌≡◌, ◌≢◌, ℕ, ◌/◌, ◌%◌, ◌<◌, ◌≤◌, List, length, true, cond, inl, inr, sym, ap, ◌∙◌, subst, arith, eq-eqb}
use Rattle.std.specs.Prelude.{◌==◌}
use Rattle.std.specs.FinMap as map_of
use Rattle.std.proofs.lemmas.Bool.{cases_eq, ne_eqb}
use Rattle.number_sets.specs.declared.node.Node.{Node}
use Rattle.number_sets.specs.declared.tournament.Tournament.{Tournament}
use Rattle.number_sets.specs.Nodes.{none_yet, number_of, IsLeastOf}
use Rattle.number_sets.specs.Trees.{leaf_of, has_room}
use Rattle.number_sets.specs.Firsts.{leaf_in, first_at, number_at, room_in, with_number, firsts_of, AreTied}
use Rattle.number_sets.proofs.Numbers.{get_with_number, get_firsts_of, numbers_are, same_room, changed}

module _ (old new : List Tournament) (hash chunk place : ℕ) (node : Node) (is_chunk : chunk ≡ hash / 256) (is_place : place ≡ hash % 256) (here : leaf_in new chunk place ≡ node) (leaves : (k : ℕ) → k ≢ place → leaf_in new chunk k ≡ leaf_in old chunk k) (others : (c k : ℕ) → c ≢ chunk → leaf_in new c k ≡ leaf_in old c k) where
  first_here : first_at new hash ≡ node
  first_here = ap (λ c. leaf_in new c (hash % 256)) (sym is_chunk) ∙ ap (leaf_in new chunk) (sym is_place) ∙ here

  first_other : (q : ℕ) → q ≢ hash → first_at new q ≡ first_at old q
  first_other q ne = elim (cases_eq (q / 256) chunk) [
    | inl same ↦
        ap (λ c. leaf_in new c (q % 256)) same
        ∙ leaves (q % 256) (λ e. ne (omega (arith, e, same)))
        ∙ ap (λ c. leaf_in old c (q % 256)) (sym same)
    | inr other ↦ others (q / 256) (q % 256) other
  ]

  number_changed : (q : ℕ) → number_at new q ≡ map_of.get (with_number (firsts_of old).numbers hash (number_of node)) q
  number_changed q = elim (cases_eq q hash) [
    | inl same ↦ ap (number_at new) same ∙ ap number_of first_here ∙ sym (get_with_number (firsts_of old).numbers hash (number_of node) q ∙ ap (λ b. cond b (number_of node) (map_of.get (firsts_of old).numbers q)) (eq-eqb q hash same))
    | inr other ↦ ap number_of (first_other q other) ∙ sym (get_with_number (firsts_of old).numbers hash (number_of node) q ∙ ap (λ b. cond b (number_of node) (map_of.get (firsts_of old).numbers q)) (ne_eqb q hash other) ∙ get_firsts_of old q)
  ]

  pub set_firsts : ((c : ℕ) → room_in new c ≡ room_in old c) → firsts_of new ≡ record { numbers = with_number (firsts_of old).numbers hash (number_of node); room = (firsts_of old).room }
  set_firsts room = changed old new _ (numbers_are new _ number_changed) (same_room old new room)

  pub set_tied : (top top' : Tournament) (least : Node) → length new ≡ length old → (node.number < none_yet → node.hash ≡ hash) → IsLeastOf (leaf_in new chunk) 0 256 least → ((k : ℕ) → leaf_of top' k ≡ cond (k == chunk) least (leaf_of top k)) → has_room top' ≡ true → AreTied old top → AreTied new top'
  set_tied top top' least sized own is_least tops room tied = record {
    few = omega (arith, tied.few);
    hashes = λ q less. elim (cases_eq q hash) [
      | inl same ↦
          let is : first_at new q ≡ node = ap (first_at new) same ∙ first_here in
          ap (λ (n : Node). n.hash) is ∙ own (subst (λ (n : Node). n.number < none_yet) is less) ∙ sym same
      | inr other ↦
          let is = first_other q other in
          ap (λ (n : Node). n.hash) is ∙ tied.hashes q (subst (λ (n : Node). n.number < none_yet) is less)
    ];
    least = λ c small. elim (cases_eq c chunk) [
      | inl same ↦
          let top_is : leaf_of top' c ≡ least = tops c ∙ ap (λ b. cond b least (leaf_of top c)) (eq-eqb c chunk same) in
          subst (IsLeastOf (leaf_in new c) 0 256) (sym top_is) (subst (λ d. IsLeastOf (leaf_in new d) 0 256 least) (sym same) is_least)
      | inr other ↦
          let top_is : leaf_of top' c ≡ leaf_of top c = tops c ∙ ap (λ b. cond b least (leaf_of top c)) (ne_eqb c chunk other) in
          subst (IsLeastOf (leaf_in new c) 0 256) (sym top_is) (still c (λ k. others c k other) (leaf_of top c) (tied.least c small))
    ];
    room = λ _. room;
  }
    where
      still : (c : ℕ) → ((k : ℕ) → leaf_in new c k ≡ leaf_in old c k) → (n : Node) → IsLeastOf (leaf_in old c) 0 256 n → IsLeastOf (leaf_in new c) 0 256 n
      still c same n is = record {
        below = λ k p q. subst (λ (m : Node). n.number ≤ m.number) (sym (same k)) (is.below k p q);
        found = λ less. let it = is.found less in (it.0, it.1, it.2, same it.0 ∙ it.3);
      }

-- the same after a call on the elements of a `Vec`: `base` is what the call was given, `left` what the `Vec` has after it, `read` what is read then
module _ (old base new left : List Tournament) (hash chunk place : ℕ) (node : Node) (same : base ≡ old) (written : left ≡ new) (is_chunk : chunk ≡ hash / 256) (is_place : place ≡ hash % 256) (here : leaf_in new chunk place ≡ node) (leaves : (k : ℕ) → k ≢ place → leaf_in new chunk k ≡ leaf_in base chunk k) (others : (c k : ℕ) → c ≢ chunk → leaf_in new c k ≡ leaf_in base c k) where
  from_old_leaves : (k : ℕ) → k ≢ place → leaf_in new chunk k ≡ leaf_in old chunk k
  from_old_leaves k ne = leaves k ne ∙ ap (λ cs. leaf_in cs chunk k) same

  from_old_others : (c k : ℕ) → c ≢ chunk → leaf_in new c k ≡ leaf_in old c k
  from_old_others c k ne = others c k ne ∙ ap (λ cs. leaf_in cs c k) same

  pub view_set : ((c : ℕ) → room_in new c ≡ room_in base c) → firsts_of left ≡ record { numbers = with_number (firsts_of old).numbers hash (number_of node); room = (firsts_of old).room }
  view_set room = ap firsts_of written ∙ set_firsts old new hash chunk place node is_chunk is_place here from_old_leaves from_old_others (λ c. room c ∙ ap (λ cs. room_in cs c) same)

  pub tied_set : (read : List Tournament) (top top' : Tournament) (least : Node) → read ≡ left → length new ≡ length base → (node.number < none_yet → node.hash ≡ hash) → IsLeastOf (leaf_in read chunk) 0 256 least → ((k : ℕ) → leaf_of top' k ≡ cond (k == chunk) least (leaf_of top k)) → has_room top' ≡ true → AreTied old top → AreTied left top'
  tied_set read top top' least is_read sized own is_least tops room tied =
      subst (λ cs. AreTied cs top') (sym written)
      (set_tied old new hash chunk place node is_chunk is_place here from_old_leaves from_old_others top top' least (sized ∙ ap length same) own (subst (λ cs. IsLeastOf (leaf_in cs chunk) 0 256 least) (is_read ∙ written) is_least) tops room tied)
