-- The rows of messages before a place, and those from it on.
use Rattle.std.proofs.Common.{◌≡◌, ℕ, ◌+◌, ◌-◌, ◌<◌, ◌≤◌, suc, true, false, List, [], ◌∷◌, take, drop, ap, sym, ◌∙◌, inl, inr, arith}
use Rattle.std.specs.Prelude.{pos, not, filter}
use Rattle.std.specs.Ordering.{int_cmp, is_lt}
use Rattle.std.proofs.Math.Seq.{drop-nil, take-nil}
use Rattle.std.proofs.lemmas.Bool.{cases_lt}
use Rattle.std.proofs.lemmas.Bool.Decides.{nat_tests}
use Rattle.sqlite_value.proofs.OrderLemmas.{value_cmp-Int}
use Rattle.position_core.specs.declared.message.Entry.{Entry}
use Rattle.row_forms.specs.Cells.{is_below, not_below}
use Rattle.row_forms.specs.Forms.{entry_row, entry_rows}

pub place_below : (topic : List ℕ) (place end : ℕ) (e : Entry) → place < end → is_below end (entry_row topic place e) ≡ true
place_below topic place end e less = ap is_lt (value_cmp-Int (pos place) (pos end)) ∙ ints
  where
    ints : is_lt (int_cmp (pos place) (pos end)) ≡ true
    ints = grind (arith, nat_tests)

pub place_beyond : (topic : List ℕ) (place end : ℕ) (e : Entry) → end ≤ place → is_below end (entry_row topic place e) ≡ false
place_beyond topic place end e more = ap is_lt (value_cmp-Int (pos place) (pos end)) ∙ ints
  where
    ints : is_lt (int_cmp (pos place) (pos end)) ≡ false
    ints = grind (arith, nat_tests)

pub below_are : (topic : List ℕ) (place end : ℕ) (log : List Entry) → filter (is_below end) (entry_rows topic place log) ≡ entry_rows topic place (take (end - place) log)
below_are topic place end [] = ap (entry_rows topic place) (sym (take-nil (end - place)))
below_are topic place end (e ∷ log) = elim (cases_lt place end) [
  | inl less ↦
      let next : end - place ≡ suc (end - (place + 1)) = omega (arith, less) in
      rw (place_below topic place end e less, next) (ap (λ rows. entry_row topic place e ∷ rows) (below_are topic (place + 1) end log))
  | inr more ↦
      let none : end - place ≡ 0 = omega (arith, more) in
      let none_later : end - (place + 1) ≡ 0 = omega (arith, more) in
      rw (place_beyond topic place end e more, none) (below_are topic (place + 1) end log ∙ ap (λ n. entry_rows topic (place + 1) (take n log)) none_later)
]

pub beyond_are : (topic : List ℕ) (place from : ℕ) (log : List Entry) → not_below from (entry_rows topic place log) ≡ entry_rows topic (place + (from - place)) (drop (from - place) log)
beyond_are topic place from [] = ap (entry_rows topic (place + (from - place))) (sym (drop-nil (from - place)))
beyond_are topic place from (e ∷ log) = elim (cases_lt place from) [
  | inl less ↦
      let next : from - place ≡ suc (from - (place + 1)) = omega (arith, less) in
      let same : place + 1 + (from - (place + 1)) ≡ place + suc (from - (place + 1)) = omega arith in
      rw (place_below topic place from e less, next) (beyond_are topic (place + 1) from log ∙ ap (λ n. entry_rows topic n (drop (from - (place + 1)) log)) same)
  | inr more ↦
      let none : from - place ≡ 0 = omega (arith, more) in
      let none_later : from - (place + 1) ≡ 0 = omega (arith, more) in
      let same : place + 1 + 0 ≡ place + 1 = omega arith in
      let here : place + 0 ≡ place = omega arith in
      rw (place_beyond topic place from e more, none, here) (ap (λ rows. entry_row topic place e ∷ rows) (beyond_are topic (place + 1) from log ∙ ap (λ n. entry_rows topic (place + 1 + n) (drop n log)) none_later ∙ ap (λ n. entry_rows topic n log) same))
]
