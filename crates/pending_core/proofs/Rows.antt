-- Rows of nodes after a change.
use Rattle.std.proofs.Common.{◌≡◌, ◌≢◌, ℕ, ◌+◌, ◌-◌, ◌*◌, ◌/◌, ◌<◌, ◌≤◌, zero, suc, List, [], ◌∷◌, ◌++◌, length, take, set, get_or, Option, None, ⊎_elim, refl, sym, ap, ◌∙◌, subst, arith}
use Rattle.std.specs.List.{slice_get}
use Rattle.std.specs.Option.{option_and_then, option_map}
use Rattle.std.proofs.lemmas.Bool.{cases_eq, cases_lt}
use Rattle.std.proofs.lemmas.Option.{slice_get_past, slice_get-map, slice_get-get_or}
use Rattle.pending_core.specs.declared.due.Due.{Due}
use Rattle.pending_core.specs.declared.due.Slot.{Slot}
use Rattle.pending_core.specs.declared.node.Node.{Node}
use Rattle.pending_core.specs.Due.{due_at, due_of, IsFirst}
use Rattle.pending_core.specs.Nodes.{slots_of, first_at, first_from, IsRight, IsRightBut}
use Rattle.pending_core.proofs.Elements.{slice_get-set_same, slice_get-set_other, slice_get_push_end, slice_get_push_other, slice_get-take, slice_get-take_past}
use Rattle.pending_core.proofs.Firsts.{still_right, earlier_none, root_is_first}

abbrev first_in : Option Node → Option Due
first_in node = option_and_then (λ node. node.first) node

abbrev due_in : Option Node → Option Due
due_in node = option_and_then due_of (option_map (λ node. node.slot) node)

-- what holds at a place, and at each other
split_at : (P : ℕ → Type 0) (at k : ℕ) → P at → (k ≢ at → P k) → P k
split_at P at k here there = ⊎_elim (λ e. subst P (sym e) here) there (cases_eq k at)

abbrev IsRightAt : List Node → ℕ → Type 0
IsRightAt nodes k = first_at nodes k ≡ first_from (due_at (slots_of nodes)) (first_at nodes) k

-- a node that has another first keeps its slot
pub slots_of-set_first : (nodes : List Node) (at : ℕ) (d : Node) (first : Option Due) → slots_of (set nodes at (record { slot = (get_or nodes at d).slot; first = first })) ≡ slots_of nodes
slots_of-set_first [] at d first = refl
slots_of-set_first (n ∷ ns) zero d first = refl
slots_of-set_first (n ∷ ns) (suc at) d first = ap (λ ss. n.slot ∷ ss) (slots_of-set_first ns at d first)

pub first_at-set_same : (nodes : List Node) (at : ℕ) (n : Node) → at < length nodes → first_at (set nodes at n) at ≡ n.first
first_at-set_same nodes at n h = ap first_in (slice_get-set_same nodes at n h)

pub first_at-set_other : (nodes : List Node) (at k : ℕ) (n : Node) → k ≢ at → first_at (set nodes at n) k ≡ first_at nodes k
first_at-set_other nodes at k n h = ap first_in (slice_get-set_other nodes at k n h)

-- one node was made right: `old` before, `new` after
module _ (old new : List Node) (at : ℕ) (slots : slots_of new ≡ slots_of old) (others : (k : ℕ) → k ≢ at → first_at new k ≡ first_at old k) (here : first_at new at ≡ first_from (due_at (slots_of old)) (first_at old) at) (but : IsRightBut at old) where
  same_dues : (k : ℕ) → due_at (slots_of new) k ≡ due_at (slots_of old) k
  same_dues k = ap (λ ss. due_at ss k) slots

  at_here : IsRightAt new at
  at_here =
      let own = same_dues at in
      let left = others (2 * at + 1) (omega arith) in
      let right = others (2 * at + 2) (omega arith) in
      cc

  renewed_at : (k : ℕ) → 2 * k + 1 ≢ at → 2 * k + 2 ≢ at → IsRightAt new k
  renewed_at k left right =
      split_at (IsRightAt new) at k at_here
      (λ ne. still_right (due_at (slots_of old)) (due_at (slots_of new)) (first_at old) (first_at new) at (λ j _. same_dues j) others k ne left right (but k ne))

  -- then only the node above may be wrong
  pub right_but_above : IsRightBut ((at - 1) / 2) new
  right_but_above k ne = renewed_at k (λ e. ne (omega arith)) (λ e. ne (omega arith))

  -- and none where there is no node above
  pub right_from_root : at ≡ 0 → IsRight new
  right_from_root top k = renewed_at k (λ e. omega arith) (λ e. omega arith)

  -- or where it was right before
  pub right_from_same : first_at new at ≡ first_at old at → IsRight new
  right_from_same same k =
      split_at (IsRightAt new) at k at_here
      (λ ne.
      let own = same_dues k in
      let this = others k ne in
      let left = unchanged (2 * k + 1) in
      let right = unchanged (2 * k + 2) in
      let was = but k ne in
      cc)
    where
      unchanged : (k : ℕ) → first_at new k ≡ first_at old k
      unchanged k = split_at (λ n. first_at new n ≡ first_at old n) at k same (others k)

-- the root of a right row has the first of all
pub root_of_nodes : (nodes : List Node) → IsRight nodes → IsFirst (due_at (slots_of nodes)) (first_at nodes 0)
root_of_nodes nodes right = root_is_first (due_at (slots_of nodes)) (first_at nodes) right (length nodes) (λ k h. ap first_in (slice_get_past nodes k h))

-- when the slot of a node is due
due_at_node : (nodes : List Node) (k : ℕ) → due_at (slots_of nodes) k ≡ due_in (slice_get nodes k)
due_at_node nodes k = ap (option_and_then due_of) (slice_get-map (λ node. node.slot) nodes k)

-- one node changed: `old` before, `new` after
module _ (old new : List Node) (at : ℕ) (others : (k : ℕ) → k ≢ at → slice_get new k ≡ slice_get old k) (right : IsRight old) where
  same_due : (k : ℕ) → k ≢ at → due_at (slots_of new) k ≡ due_at (slots_of old) k
  same_due k ne = due_at_node new k ∙ ap due_in (others k ne) ∙ sym (due_at_node old k)

  same_first : (k : ℕ) → k ≢ at → first_at new k ≡ first_at old k
  same_first k ne = ap first_in (others k ne)

  right_elsewhere : (k : ℕ) → k ≢ at → 2 * k + 1 ≢ at → 2 * k + 2 ≢ at → IsRightAt new k
  right_elsewhere k ne left right' = still_right (due_at (slots_of old)) (due_at (slots_of new)) (first_at old) (first_at new) at same_due same_first k ne left right' (right k)

  -- then only it and the node above it may be wrong
  pub right_but_above_changed : IsRightAt new at → IsRightBut ((at - 1) / 2) new
  right_but_above_changed here k ne =
      split_at (IsRightAt new) at k here (λ other. right_elsewhere k other (λ e. ne (omega arith)) (λ e. ne (omega arith)))

-- another slot at a node leaves the other nodes right
pub right_but-set_slot : (nodes : List Node) (at : ℕ) (d : Node) (slot : Slot) → at < length nodes → IsRight nodes → IsRightBut at (set nodes at (record { slot = slot; first = (get_or nodes at d).first }))
right_but-set_slot nodes at d slot within right k ne =
    let n : Node = record { slot = slot; first = (get_or nodes at d).first } in
    let this = due_at_node (set nodes at n) k ∙ ap due_in (slice_get-set_other nodes at k n ne) ∙ sym (due_at_node nodes k) in
    let l = same_firsts n refl (2 * k + 1) in
    let r = same_firsts n refl (2 * k + 2) in
    let own = same_firsts n refl k in
    let was = right k in
    cc
  where
    kept_first : (n : Node) → n.first ≡ (get_or nodes at d).first → first_at (set nodes at n) at ≡ first_at nodes at
    kept_first n e = first_at-set_same nodes at n within ∙ e ∙ sym (ap first_in (slice_get-get_or nodes at d within))

    same_firsts : (n : Node) → n.first ≡ (get_or nodes at d).first → (k : ℕ) → first_at (set nodes at n) k ≡ first_at nodes k
    same_firsts n e k = split_at (λ j. first_at (set nodes at n) j ≡ first_at nodes j) at k (kept_first n e) (first_at-set_other nodes at k n)

pub right_but-push : (nodes : List Node) (slot : Slot) (at : ℕ) → at ≡ length nodes → IsRight nodes → IsRightBut ((at - 1) / 2) (nodes ++ record { slot = slot; first = due_of slot } ∷ [])
right_but-push nodes slot at end right = right_but_above_changed nodes new at others right here
  where
    n : Node
    n = record { slot = slot; first = due_of slot }

    new : List Node
    new = nodes ++ n ∷ []

    others : (k : ℕ) → k ≢ at → slice_get new k ≡ slice_get nodes k
    others k ne = slice_get_push_other nodes n k (λ e. ne (omega arith))

    below : (k : ℕ) → at < k → first_at new k ≡ None
    below k h = ap first_in (others k (λ e. omega arith) ∙ slice_get_past nodes k (omega arith))

    here : IsRightAt new at
    here =
        let is = ap (slice_get new) end ∙ slice_get_push_end nodes n in
        let own = due_at_node new at ∙ ap due_in is in
        let this = ap first_in is in
        let l = below (2 * at + 1) (omega arith) in
        let r = below (2 * at + 2) (omega arith) in
        let alone = earlier_none (due_of slot) in
        cc

pub right_but-pop : (nodes : List Node) (count at : ℕ) → count ≡ length nodes → at ≡ count - 1 → IsRight nodes → IsRightBut ((at - 1) / 2) (take (count - 1) nodes)
right_but-pop nodes count at all end right = right_but_above_changed nodes (take (count - 1) nodes) at others right here
  where
    past : (k : ℕ) → at ≤ k → slice_get (take (count - 1) nodes) k ≡ None
    past k h = slice_get-take_past (count - 1) nodes k (omega arith)

    others : (k : ℕ) → k ≢ at → slice_get (take (count - 1) nodes) k ≡ slice_get nodes k
    others k ne = ⊎_elim (λ h. slice_get-take (count - 1) nodes k (omega arith)) (λ h. past k h ∙ sym (slice_get_past nodes k (omega arith))) (cases_lt k at)

    here : first_at (take (count - 1) nodes) at ≡ first_from (due_at (slots_of (take (count - 1) nodes))) (first_at (take (count - 1) nodes)) at
    here =
        let new = take (count - 1) nodes in
        let own = due_at_node new at ∙ ap due_in (past at (omega arith)) in
        let this = ap first_in (past at (omega arith)) in
        let l = ap first_in (past (2 * at + 1) (omega arith)) in
        let r = ap first_in (past (2 * at + 2) (omega arith)) in
        cc
