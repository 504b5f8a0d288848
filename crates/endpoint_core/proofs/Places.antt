-- The place of a mark in a text, and where the text may be cut around it.
use Rattle.std.proofs.Common.{◌≡◌, ℕ, ◌+◌, ◌<◌, ◌≤◌, List, length, take, Bool, true, false, cond, Some, None, IsUtf8, refl, ap, subst, sym, inl, inr, arith, position, unwrap_or, get_or}
use Rattle.std.specs.Prelude.{nat_lt, ◌==◌}
use Rattle.std.specs.List.{position_or_len}
use Rattle.std.specs.Str.{IsCharBoundary}
use Rattle.std.proofs.lemmas.Bool.{cases_lt, eqb-true}
use Rattle.std.proofs.lemmas.Bool.Decides.{nat_tests}
use Rattle.std.proofs.lemmas.List.{take_all, length-take, take_min, length-take-le}
use Rattle.std.proofs.lemmas.List.Sums.{prefix_len-le-length, passes_at_first}
use Rattle.std.proofs.lemmas.Str.{IsCharBoundary-before_ascii, IsCharBoundary-after_ascii, IsCharBoundary-end}

abbrev pub place : ℕ → List ℕ → ℕ
place mark text = position_or_len (λ byte. byte == mark) text

within : (mark : ℕ) (text : List ℕ) → place mark text ≤ length text
within mark text = prefix_len-le-length _ text

at_place : (mark : ℕ) (text : List ℕ) → place mark text < length text → get_or text (place mark text) 0 ≡ mark
at_place mark text there = eqb-true _ mark (passes_at_first (λ byte. byte == mark) text 0 there)

pub place_is : (mark : ℕ) (text : List ℕ) → unwrap_or (position (λ byte. byte == mark) text) (length text) ≡ place mark text
place_is mark text = by (nat_lt (place mark text) (length text)) refl
  where
    by : (b : Bool) → nat_lt (place mark text) (length text) ≡ b → unwrap_or (cond b (Some (place mark text)) None) (length text) ≡ place mark text
    by true below = refl
    by false above =
        let past : length text ≤ place mark text = grind (arith, nat_tests) in
        omega (arith, past, within mark text)

pub before_mark : (mark : ℕ) (text : List ℕ) → mark < 128 → IsCharBoundary text (place mark text)
before_mark mark text small = elim (cases_lt (place mark text) (length text)) [
  | inl below ↦ IsCharBoundary-before_ascii text (place mark text) below (omega (arith, at_place mark text below))
  | inr above ↦
      let ends : length text ≡ place mark text = omega (arith, within mark text) in
      subst (IsCharBoundary text) ends (IsCharBoundary-end text)
]

pub after_mark : (mark : ℕ) (text : List ℕ) → mark < 128 → IsUtf8 text → place mark text < length text → IsCharBoundary text (place mark text + 1)
after_mark mark text small utf8 below = IsCharBoundary-after_ascii text (place mark text) utf8 below (omega (arith, at_place mark text below))

pub front_len : (mark : ℕ) (text : List ℕ) → place mark text ≡ length (take (place mark text) text)
front_len mark text = sym (length-take-le (place mark text) text (within mark text))

pub through_len : (mark : ℕ) (text : List ℕ) → place mark text < length text → place mark text + 1 ≡ length (take (place mark text + 1) text)
through_len mark text below = sym (length-take-le (place mark text + 1) text (omega arith))

pub no_mark_len : (mark : ℕ) (text : List ℕ) → length text ≤ place mark text → place mark text ≡ length (take (place mark text + 1) text)
no_mark_len mark text above =
    let whole : length (take (place mark text + 1) text) ≡ length text = ap length (take_all (place mark text + 1) text (omega arith)) in
    omega (arith, whole, within mark text)

cut : (n : ℕ) (text : List ℕ) → take (length (take n text)) text ≡ take n text
cut n text = rw length-take (take_min n text)

pub cut_at_host : (b : Bool) (m n : ℕ) (text : List ℕ) → take (length (cond b (take m text) (take n text))) text ≡ cond b (take m text) (take n text)
cut_at_host true m n text = cut m text
cut_at_host false m n text = cut n text
