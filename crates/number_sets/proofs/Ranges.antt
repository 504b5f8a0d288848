-- The hashes in chunks, and the least of a range of hashes.
use Rattle.std.proofs.Common.{◌≡◌, ◌≢◌, ℕ, ◌+◌, ◌*◌, ◌/◌, ◌%◌, ◌<◌, ◌≤◌, List, Bool, true, false, cond, Option, Some, None, inl, inr, refl, sym, ap, ◌∙◌, subst, arith}
use Rattle.std.specs.Prelude.{min, nat_lt, IfSome, IfNone}
use Rattle.std.specs.FinMap as map_of
use Rattle.std.proofs.Math.Nat.{min-le_left, min-eq_left, min-eq_right}
use Rattle.std.proofs.lemmas.Bool.{cases_lt, lt-ltb, ltb-true, ltb-false}
use Rattle.number_sets.specs.declared.node.Node.{Node}
use Rattle.number_sets.specs.declared.tournament.Tournament.{Tournament}
use Rattle.number_sets.specs.Nodes.{none_yet, better, number_of, found_of, IsLeastOf}
use Rattle.number_sets.specs.Trees.{leaf_of}
use Rattle.number_sets.specs.Firsts.{leaf_in, first_at, number_at, firsts_of, IsLeastIn, NoneIn, AreTied}
use Rattle.number_sets.proofs.Climb.{better_left, better_right, better_one, IsInside}
use Rattle.number_sets.proofs.Numbers.{get_firsts_of, no_number, number_some, number_none}

-- the better of the least of two ranges is the least of both
pub joined : (f : ℕ → Node) (from between end : ℕ) (a b : Node) → from ≤ between → between ≤ end → IsLeastOf f from between a → IsLeastOf f between end b → IsLeastOf f from end (better a b)
joined f from between end a b low high is_a is_b = record {
  below = λ k p q. elim (cases_lt k between) [
    | inl before ↦ omega (arith, is_a.below k p before, better_left a b)
    | inr after ↦ omega (arith, is_b.below k after q, better_right a b)
  ];
  found = better_one (IsInside f from end) a b
      (λ less. let it = is_a.found less in (it.0, it.1, omega (arith, it.2), it.3))
      (λ less. let it = is_b.found less in (it.0, omega (arith, it.1), it.2, it.3));
}

-- in the words of hashes
pub in_chunk : (chunks : List Tournament) (c from end first last : ℕ) (least : Node) → end ≤ 256 → first ≡ 256 * c + from → last ≡ 256 * c + end → IsLeastOf (leaf_in chunks c) from end least → IsLeastOf (first_at chunks) first last least
in_chunk chunks c from end first last least small is_first is_last is = record {
  below = λ h p q.
      let chunk : c ≡ h / 256 = omega arith in
      subst (λ d. least.number ≤ (leaf_in chunks d (h % 256)).number) chunk (is.below (h % 256) (omega arith) (omega arith));
  found = λ less.
      let it = is.found less in
      (256 * c + it.0, omega (arith, it.1), omega (arith, it.2), placed it.0 (omega (arith, it.2)) ∙ it.3);
}
  where
    placed : (k : ℕ) → k < 256 → first_at chunks (256 * c + k) ≡ leaf_in chunks c k
    placed k h =
        let chunk : (256 * c + k) / 256 ≡ c = omega arith in
        let place : (256 * c + k) % 256 ≡ k = omega arith in
        ap (λ d. leaf_in chunks d ((256 * c + k) % 256)) chunk ∙ ap (leaf_in chunks c) place

-- the least of whole chunks
pub over_chunks : (chunks : List Tournament) (top : Tournament) (from end : ℕ) (least : Node) → end ≤ 256 → AreTied chunks top → IsLeastOf (leaf_of top) from end least → IsLeastOf (first_at chunks) (256 * from) (256 * end) least
over_chunks chunks top from end least small tied is = record {
  below = λ h p q.
      let over = is.below (h / 256) (omega arith) (omega arith) in
      let under = (tied.least (h / 256) (omega arith)).below (h % 256) (omega arith) (omega arith) in
      omega arith;
  found = λ less.
      let it = is.found less in
      let there = (chunk_of it.0 (omega (arith, it.2))).found (subst (λ (n : Node). n.number < none_yet) (sym it.3) less) in
      (there.0, omega (arith, there.1, it.1), omega (arith, there.2, it.2), there.3 ∙ it.3);
}
  where
    chunk_of : (c : ℕ) → c < 256 → IsLeastOf (first_at chunks) (256 * c) (256 * c + 256) (leaf_of top c)
    chunk_of c h = in_chunk chunks c 0 256 (256 * c) (256 * c + 256) (leaf_of top c) (omega arith) (omega arith) (omega arith) (tied.least c h)

-- the rest of the first chunk, the chunks between, and what stands before the end in the last
pub three_ranges : (chunks : List Tournament) (top : Tournament) (from end : ℕ) (before between after : Node) → AreTied chunks top → from ≤ end → end ≤ 65536 → from / 256 ≢ end / 256 → IsLeastOf (leaf_in chunks (from / 256)) (from % 256) 256 before → IsLeastOf (leaf_of top) (from / 256 + 1) (end / 256) between → IsLeastOf (leaf_in chunks (end / 256)) 0 (end % 256) after → IsLeastOf (first_at chunks) from end (better (better before between) after)
three_ranges chunks top from end before between after tied order small apart is_before is_between is_after =
    joined (first_at chunks) from (256 * (end / 256)) end (better before between) after (omega (arith, apart)) (omega arith)
    (joined (first_at chunks) from (256 * (from / 256 + 1)) (256 * (end / 256)) before between (omega arith) (omega (arith, apart))
    (in_chunk chunks (from / 256) (from % 256) 256 from (256 * (from / 256 + 1)) before (omega arith) (omega arith) (omega arith) is_before)
    (over_chunks chunks top (from / 256 + 1) (end / 256) between (omega arith) tied is_between))
    (in_chunk chunks (end / 256) 0 (end % 256) (256 * (end / 256)) end after (omega arith) (omega arith) (omega arith) is_after)

module _ (chunks : List Tournament) (top : Tournament) (from end f e : ℕ) (node : Node) (tied : AreTied chunks top) (is_end : e ≡ min end 65536) (is_from : f ≡ min from e) (is : IsLeastOf (first_at chunks) f e node) where
  -- a hash with a number has a chunk
  small_hash : (h n : ℕ) → number_at chunks h ≡ Some n → h < 65536
  small_hash h n some = elim (cases_lt h 65536) [
    | inl below ↦ below
    | inr above ↦ absurd (bad (no_number chunks h (omega (arith, tied.few))) some)
  ]
    where
      bad : number_at chunks h ≡ None → number_at chunks h ≡ Some n → ⊥
      bad p q = cc

  in_range : (h : ℕ) → from ≤ h → h < end → h < 65536 → (f ≤ h) × (h < e)
  in_range h p q small = (omega (arith, is_from, min-le_left from e), below)
    where
      below : h < e
      below = elim (cases_lt end 65536) [
        | inl less ↦ omega (arith, is_end, min-eq_left {n = end} {m = 65536} (omega arith))
        | inr more ↦ omega (arith, is_end, min-eq_right {n = 65536} {m = end} more)
      ]

  not_cut : (k : ℕ) → f ≤ k → k < e → (from ≤ k) × (k < end)
  not_cut k p q = elim (cases_lt from e) [
    | inl less ↦ (omega (arith, is_from, min-eq_left {n = from} {m = e} (omega arith)), omega (arith, is_end, min-le_left end 65536))
    | inr more ↦ absurd (omega (arith, is_from, min-eq_right {n = e} {m = from} more))
  ]

  pub least_found : (r : Option (ℕ × ℕ)) → r ≡ found_of node → IfSome r (IsLeastIn (firsts_of chunks).numbers from end)
  least_found r e = subst (λ r. IfSome r (IsLeastIn (firsts_of chunks).numbers from end)) (sym e) (by (nat_lt node.number none_yet) refl)
    where
      each : (h n : ℕ) → from ≤ h → h < end → map_of.get (firsts_of chunks).numbers h ≡ Some n → node.number ≤ n
      each h n p q some =
          let there = sym (get_firsts_of chunks h) ∙ some in
          let range = in_range h p q (small_hash h n there) in
          omega (arith, is.below h range.0 range.1, (number_some (first_at chunks h) n there).1)

      found : node.number < none_yet → IsLeastIn (firsts_of chunks).numbers from end (node.number, node.hash)
      found less =
          let it = is.found less in
          let at : it.0 ≡ node.hash = sym (tied.hashes it.0 (subst (λ (n : Node). n.number < none_yet) (sym it.3) less)) ∙ ap (λ (n : Node). n.hash) it.3 in
          let bounds = not_cut it.0 it.1 it.2 in
          let stands : map_of.get (firsts_of chunks).numbers it.0 ≡ Some node.number = get_firsts_of chunks it.0 ∙ ap number_of it.3 ∙ ap (λ b. cond b (Some node.number) None) (lt-ltb node.number none_yet less) in
          (omega (arith, bounds.0, at), omega (arith, bounds.1, at), subst (λ h. map_of.get (firsts_of chunks).numbers h ≡ Some node.number) at stands, each)

      by : (t : Bool) → nat_lt node.number none_yet ≡ t → IfSome {T = ℕ × ℕ} (cond t (Some (node.number, node.hash)) None) (IsLeastIn (firsts_of chunks).numbers from end)
      by true less = found (ltb-true node.number none_yet less)
      by false without = tt

  pub none_found : (r : Option (ℕ × ℕ)) → r ≡ found_of node → IfNone r (NoneIn (firsts_of chunks).numbers from end)
  none_found r e = subst (λ r. IfNone r (NoneIn (firsts_of chunks).numbers from end)) (sym e) (by (nat_lt node.number none_yet) refl)
    where
      none_at : none_yet ≤ node.number → (h : ℕ) → from ≤ h → h < end → number_at chunks h ≡ None
      none_at more h p q = elim (cases_lt h 65536) [
        | inl below ↦
            let range = in_range h p q below in
            number_none (first_at chunks h) (omega (arith, is.below h range.0 range.1))
        | inr above ↦ no_number chunks h (omega (arith, tied.few))
      ]

      by : (t : Bool) → nat_lt node.number none_yet ≡ t → IfNone {T = ℕ × ℕ} (cond t (Some (node.number, node.hash)) None) (NoneIn (firsts_of chunks).numbers from end)
      by true less = tt
      by false without = λ h p q. get_firsts_of chunks h ∙ none_at (ltb-false node.number none_yet without) h p q
