-- Positions by the places of their messages, and back.
use Rattle.std.proofs.Common.{arith, ℕ, suc, zero, ◌+◌, ◌<◌, length, ◌≡◌, List, [], ◌∷◌, ◌++◌, Some, Bool, true, false, cond, refl, ap, ◌∙◌, sym, subst, take, add-zero}
use Rattle.std.specs.Prelude.{◌||◌, slice_get}
use Rattle.std.specs.List.{list_any}
use Rattle.std.specs.Ordering.{nat_cmp, eq_by_cmp}
use Rattle.std.specs.FinSet as set
use Rattle.std.specs.Cmp.{nat_cmp_total, eq_by_cmp_equiv, Equal-is}
use Rattle.std.proofs.lemmas.List.{append-nil}
use Rattle.std.proofs.lemmas.Map.Views.{tells_apart}
use Rattle.std.proofs.lemmas.Map.Lookups.{exact_unsigned}
use Rattle.position_core.specs.declared.position.Position.{Position}
use Rattle.position_core.specs.declared.message.Entry.{Entry}
use Rattle.position_core.specs.Position.{position_cmp, same_position, positions_total, exact_positions}
use Rattle.delivery_machine.specs.Words.{has_position}
use Rattle.delivery_machine.specs.Places.{AreBelow, positions_from, positions_at}
use Rattle.delivery_machine.specs.WellFormed.{AreMessagesOf}
use Rattle.plain_lists.specs.Places.{ArePlacesOf, is_place_of}

equal : (a b : Position) → same_position a b ≡ true → a ≡ b
equal a b e = exact_positions a b ((Equal-is (position_cmp a b)).0 e)

itself : (a : Position) → same_position a a ≡ true
itself a = (eq_by_cmp_equiv positions_total).refl a

turned_true : (a b : Position) → same_position a b ≡ true → same_position b a ≡ true
turned_true a b e = subst (λ (c : Position). same_position c a ≡ true) (equal a b e) (itself a)

turned : (a b : Position) → same_position a b ≡ same_position b a
turned a b = by (same_position a b) refl (same_position b a) refl
  where
    by : (x : Bool) → same_position a b ≡ x → (y : Bool) → same_position b a ≡ y → same_position a b ≡ same_position b a
    by true ex y ey = ex ∙ sym (turned_true a b ex)
    by false ex true ey = turned_true b a ey ∙ sym ey
    by false ex false ey = ex ∙ sym ey

-- where each place passes whose message is of the set, the position of the set is among those that pass exactly if a message has it
module _ (s : set.FinSet position_cmp) (q : Position) where
  one_in : (e : Entry) (ps : List Position) (more : Bool) → set.contains s q ≡ true → list_any (same_position q) ps ≡ more → (b : Bool) → same_position q e.position ≡ b → (o : Bool) → o ≡ set.contains s e.position → list_any (same_position q) (cond o (e.position ∷ ps) ps) ≡ (has_position q e || more)
  one_in e ps more is rest true eb true eo = ap (λ b. b || list_any (same_position q) ps) eb ∙ ap (λ b. b || more) (sym (turned_true q e.position eb))
  one_in e ps more is rest true eb false eo =
      let clash : true ≡ false = sym is ∙ ap (λ (c : Position). set.contains s c) (equal q e.position eb) ∙ sym eo in
      cc
  one_in e ps more is rest false eb true eo = ap (λ b. b || list_any (same_position q) ps) eb ∙ rest ∙ ap (λ b. b || more) (sym eb ∙ turned q e.position)
  one_in e ps more is rest false eb false eo = rest ∙ ap (λ b. b || more) (sym eb ∙ turned q e.position)

  one_out : (e : Entry) (ps : List Position) → set.contains s q ≡ false → list_any (same_position q) ps ≡ false → (b : Bool) → same_position q e.position ≡ b → (o : Bool) → o ≡ set.contains s e.position → list_any (same_position q) (cond o (e.position ∷ ps) ps) ≡ false
  one_out e ps is rest b eb false eo = rest
  one_out e ps is rest true eb true eo =
      let clash : true ≡ false = eo ∙ ap (λ (c : Position). set.contains s c) (sym (equal q e.position eb)) ∙ is in
      cc
  one_out e ps is rest false eb true eo = ap (λ b. b || list_any (same_position q) ps) eb ∙ rest

  any_in : (k : ℕ) (p : ℕ → Bool) (log : List Entry) → ((j : ℕ) → p (k + j) ≡ is_place_of log s j) → set.contains s q ≡ true → list_any (same_position q) (positions_from k p log) ≡ list_any (has_position q) log
  any_in k p [] are is = refl
  any_in k p (e ∷ log) are is =
      one_in e (positions_from (suc k) p log) (list_any (has_position q) log) is
      (any_in (suc k) p log (λ j. ap p (omega arith) ∙ are (suc j)) is)
      (same_position q e.position) refl (p k) (ap p (sym (add-zero k)) ∙ are 0)

  none_in : (k : ℕ) (p : ℕ → Bool) (log : List Entry) → ((j : ℕ) → p (k + j) ≡ is_place_of log s j) → set.contains s q ≡ false → list_any (same_position q) (positions_from k p log) ≡ false
  none_in k p [] are is = refl
  none_in k p (e ∷ log) are is =
      one_out e (positions_from (suc k) p log) is
      (none_in (suc k) p log (λ j. ap p (omega arith) ∙ are (suc j)) is)
      (same_position q e.position) refl (p k) (ap p (sym (add-zero k)) ∙ are 0)

pub positions_back : (log : List Entry) (s : set.FinSet position_cmp) (places : set.FinSet nat_cmp) → ArePlacesOf log s places → AreMessagesOf log s → positions_at log places ≡ s
positions_back log s places are of_log = set.same_set positions_total exact_positions _ _ (λ q.
    set.contains-from_list positions_total (positions_from 0 (set.contains places) log) q ∙ by q (set.contains s q) refl)
  where
    from_zero : (j : ℕ) → set.contains places (0 + j) ≡ is_place_of log s j
    from_zero j = let e : 0 + j ≡ j = omega arith in ap (λ (n : ℕ). set.contains places n) e ∙ are j

    by : (q : Position) (b : Bool) → set.contains s q ≡ b → list_any (same_position q) (positions_from 0 (set.contains places) log) ≡ set.contains s q
    by q true e = any_in s q 0 (set.contains places) log from_zero e ∙ of_log q e ∙ sym e
    by q false e = none_in s q 0 (set.contains places) log from_zero e ∙ sym e

-- no message stands beyond the log
place_within : (s : set.FinSet position_cmp) (log : List Entry) (place : ℕ) → is_place_of log s place ≡ true → place < length log
place_within s [] zero is = cc
place_within s [] (suc place) is = cc
place_within s (x ∷ log) zero is = omega arith
place_within s (x ∷ log) (suc place) is = let below = place_within s log place is in omega (arith, below)

pub places_below : (log : List Entry) (s : set.FinSet position_cmp) (places : set.FinSet nat_cmp) → ArePlacesOf log s places → AreBelow (length log) places
places_below log s places are = λ place is. place_within s log place (sym (are place) ∙ is)

-- ---- one message more

push_one : (b : Bool) (x : Position) (ps qs more : List Position) → ps ≡ qs ++ more → cond b (x ∷ ps) ps ≡ cond b (x ∷ qs) qs ++ more
push_one true x ps qs more rest = ap (λ (ps : List Position). x ∷ ps) rest
push_one false x ps qs more rest = rest

pub from_push : (k : ℕ) (p : ℕ → Bool) (log : List Entry) (i : ℕ) (e : Entry) → slice_get log i ≡ Some e → positions_from k p (take (suc i) log) ≡ positions_from k p (take i log) ++ cond (p (k + i)) (e.position ∷ []) []
from_push k p [] i e at = cc
from_push k p (x ∷ log) zero e at =
    let same : x ≡ e = cc in
    ap (λ (n : ℕ). cond (p n) (x.position ∷ []) []) (sym (add-zero k)) ∙ ap (λ (y : Entry). cond (p (k + 0)) (y.position ∷ []) []) same
from_push k p (x ∷ log) (suc i) e at =
    let next : suc k + i ≡ k + suc i = omega arith in
    push_one (p k) x.position (positions_from (suc k) p (take (suc i) log)) (positions_from (suc k) p (take i log)) (cond (p (k + suc i)) (e.position ∷ []) [])
    (from_push (suc k) p log i e at ∙ ap (λ (n : ℕ). positions_from (suc k) p (take i log) ++ cond (p n) (e.position ∷ []) []) next)

pub place_here : (s : set.FinSet position_cmp) (log : List Entry) (i : ℕ) (e : Entry) → slice_get log i ≡ Some e → is_place_of (take (suc i) log) s i ≡ set.contains s e.position
place_here s [] i e at = cc
place_here s (x ∷ log) zero e at = let same : x ≡ e = cc in ap (λ (y : Entry). set.contains s y.position) same
place_here s (x ∷ log) (suc i) e at = place_here s log i e at

pub place_beyond : (s : set.FinSet position_cmp) (log : List Entry) (i : ℕ) → is_place_of (take i log) s i ≡ false
place_beyond s [] zero = refl
place_beyond s [] (suc i) = refl
place_beyond s (x ∷ log) zero = refl
place_beyond s (x ∷ log) (suc i) = place_beyond s log i

pub place_else : (s : set.FinSet position_cmp) (log : List Entry) (i j : ℕ) → (j ≡ i → ⊥) → is_place_of (take (suc i) log) s j ≡ is_place_of (take i log) s j
place_else s [] zero j other = refl
place_else s [] (suc i) j other = refl
place_else s (x ∷ log) zero zero other = absurd (other refl)
place_else s (x ∷ log) zero (suc j) other = refl
place_else s (x ∷ log) (suc i) zero other = refl
place_else s (x ∷ log) (suc i) (suc j) other = place_else s log i j (λ e. other (ap suc e))

apart : (j i : ℕ) → eq_by_cmp nat_cmp j i ≡ false → j ≡ i → ⊥
apart j i eb same =
    let clash : true ≡ false = sym ((eq_by_cmp_equiv nat_cmp_total).refl i) ∙ ap (λ (n : ℕ). eq_by_cmp nat_cmp n i) (sym same) ∙ eb in
    cc

-- a place more, or none, as the set has the message's position or not
pub place_added : (s : set.FinSet position_cmp) (log : List Entry) (i : ℕ) (e : Entry) (places : set.FinSet nat_cmp) → slice_get log i ≡ Some e → set.contains s e.position ≡ true → ArePlacesOf (take i log) s places → ArePlacesOf (take (suc i) log) s (set.insert places i)
place_added s log i e places at is are = λ j. set.contains-insert nat_cmp_total places i j ∙ by j (eq_by_cmp nat_cmp j i) refl
  where
    by : (j : ℕ) (b : Bool) → eq_by_cmp nat_cmp j i ≡ b → (b || set.contains places j) ≡ is_place_of (take (suc i) log) s j
    by j true eb = sym (ap (λ (n : ℕ). is_place_of (take (suc i) log) s n) (tells_apart exact_unsigned j i eb) ∙ place_here s log i e at ∙ is)
    by j false eb = are j ∙ sym (place_else s log i j (apart j i eb))

pub place_left : (s : set.FinSet position_cmp) (log : List Entry) (i : ℕ) (e : Entry) (places : set.FinSet nat_cmp) → slice_get log i ≡ Some e → set.contains s e.position ≡ false → ArePlacesOf (take i log) s places → ArePlacesOf (take (suc i) log) s places
place_left s log i e places at is are = λ j. by j (eq_by_cmp nat_cmp j i) refl
  where
    at_i : set.contains places i ≡ is_place_of (take (suc i) log) s i
    at_i = are i ∙ place_beyond s log i ∙ sym is ∙ sym (place_here s log i e at)

    by : (j : ℕ) (b : Bool) → eq_by_cmp nat_cmp j i ≡ b → set.contains places j ≡ is_place_of (take (suc i) log) s j
    by j true eb = subst (λ (n : ℕ). set.contains places n ≡ is_place_of (take (suc i) log) s n) (sym (tells_apart exact_unsigned j i eb)) at_i
    by j false eb = are j ∙ sym (place_else s log i j (apart j i eb))

pub from_one : (p : ℕ → Bool) (log : List Entry) (i : ℕ) (e : Entry) (ps qs : List Position) → slice_get log i ≡ Some e → p i ≡ true → ps ≡ positions_from 0 p (take i log) → qs ≡ ps ++ e.position ∷ [] → qs ≡ positions_from 0 p (take (i + 1) log)
from_one p log i e ps qs at passes before more =
    let zero_i : 0 + i ≡ i = omega arith in
    let next : suc i ≡ i + 1 = omega arith in
    let one : cond (p (0 + i)) (e.position ∷ []) [] ≡ e.position ∷ [] = ap (λ b. cond b (e.position ∷ []) []) (ap p zero_i ∙ passes) in
    more ∙ ap (λ (xs : List Position). xs ++ e.position ∷ []) before ∙ ap (λ (ys : List Position). positions_from 0 p (take i log) ++ ys) (sym one)
    ∙ sym (from_push 0 p log i e at) ∙ ap (λ (n : ℕ). positions_from 0 p (take n log)) next

pub from_none : (p : ℕ → Bool) (log : List Entry) (i : ℕ) (e : Entry) (ps qs : List Position) → slice_get log i ≡ Some e → p i ≡ false → ps ≡ positions_from 0 p (take i log) → qs ≡ ps → qs ≡ positions_from 0 p (take (i + 1) log)
from_none p log i e ps qs at fails before same =
    let zero_i : 0 + i ≡ i = omega arith in
    let next : suc i ≡ i + 1 = omega arith in
    let none : cond (p (0 + i)) (e.position ∷ []) [] ≡ [] = ap (λ b. cond b (e.position ∷ []) []) (ap p zero_i ∙ fails) in
    same ∙ before ∙ sym (append-nil (positions_from 0 p (take i log))) ∙ ap (λ (ys : List Position). positions_from 0 p (take i log) ++ ys) (sym none)
    ∙ sym (from_push 0 p log i e at) ∙ ap (λ (n : ℕ). positions_from 0 p (take n log)) next

pub place_one : (s : set.FinSet position_cmp) (log : List Entry) (i : ℕ) (e : Entry) (before after : set.FinSet nat_cmp) → slice_get log i ≡ Some e → set.contains s e.position ≡ true → ArePlacesOf (take i log) s before → after ≡ set.insert before i → ArePlacesOf (take (i + 1) log) s after
place_one s log i e before after at is are more =
    let next : suc i ≡ i + 1 = omega arith in
    subst (λ (places : set.FinSet nat_cmp). ArePlacesOf (take (i + 1) log) s places) (sym more)
    (subst (λ (n : ℕ). ArePlacesOf (take n log) s (set.insert before i)) next (place_added s log i e before at is are))

pub place_none : (s : set.FinSet position_cmp) (log : List Entry) (i : ℕ) (e : Entry) (before after : set.FinSet nat_cmp) → slice_get log i ≡ Some e → set.contains s e.position ≡ false → ArePlacesOf (take i log) s before → after ≡ before → ArePlacesOf (take (i + 1) log) s after
place_none s log i e before after at is are same =
    let next : suc i ≡ i + 1 = omega arith in
    subst (λ (places : set.FinSet nat_cmp). ArePlacesOf (take (i + 1) log) s places) (sym same)
    (subst (λ (n : ℕ). ArePlacesOf (take n log) s before) next (place_left s log i e before at is are))

pub none_at_first : (s : set.FinSet position_cmp) (places : set.FinSet nat_cmp) → places ≡ set.empty → ArePlacesOf [] s places
none_at_first s places same = subst (λ (places : set.FinSet nat_cmp). ArePlacesOf [] s places) (sym same) (λ place. set.contains-empty nat_cmp place)
