-- A list of ranges that is read back, one range after another: for callers of `push_range`.
use Rattle.std.proofs.Common.{◌≡◌, ℕ, ◌<◌, ◌≤◌, ◌+◌, List, [], ◌∷◌, ◌++◌, true, ap, ◌∙◌, sym, arith, inl, inr, leb, ltb}
use Rattle.std.specs.Prelude.{◌⊎◌, ◌||◌, ◌&&◌}
use Rattle.std.specs.Ordering.{nat_cmp}
use Rattle.std.specs.Cmp.{nat_cmp_total}
use Rattle.std.specs.FinSet as set
use Rattle.ack_ranges.specs.Ranges.{spread, from_to, Rise, RiseAbove, MayFollow}
use Rattle.ack_ranges.proofs.Covers.{covers, contains_spread, contains_from_to, same_numbers, either, or_second}
use Rattle.ack_ranges.proofs.Members.{within}
use Rattle.ack_ranges.proofs.Rises.{rise_of}
use Rattle.ack_ranges.proofs.Unions.{covers_push, rise_push, end_before}

-- what is read with one range more
pub pushed_one : (rs : List (ℕ × ℕ)) (start end : ℕ) → set.union (set.from_list {R = nat_cmp} (spread rs)) (from_to start end) ≡ set.from_list (spread (rs ++ (start, end) ∷ []))
pushed_one rs start end = same_numbers _ _ (λ k.
    set.contains-union nat_cmp_total (set.from_list (spread rs)) (from_to start end) k
    ∙ ap (λ b. b || set.contains (from_to start end) k) (contains_spread rs k)
    ∙ ap (λ b. covers rs k || b) (contains_from_to start end k)
    ∙ sym (contains_spread (rs ++ (start, end) ∷ []) k ∙ covers_push rs start end k))

-- ---- each range of a list that rises may follow those before it

above_first : (a : ℕ) (rs : List (ℕ × ℕ)) (r : ℕ × ℕ) (more : List (ℕ × ℕ)) → RiseAbove a (rs ++ r ∷ more) → a < r.0
above_first a [] r more rise = rise.0
above_first a (t ∷ ts) r more rise = let b : t.1 < r.0 = above_first t.1 ts r more rise.2 in omega (arith, rise.0, rise.1, b)

not_empty : (rs : List (ℕ × ℕ)) (r : ℕ × ℕ) (more : List (ℕ × ℕ)) → Rise (rs ++ r ∷ more) → r.0 < r.1
not_empty [] r more rise = rise.0
not_empty (t ∷ ts) r more rise = not_empty ts r more (rise_of t.1 (ts ++ r ∷ more) rise.1)

numbers_below : (rs : List (ℕ × ℕ)) (r : ℕ × ℕ) (more : List (ℕ × ℕ)) → Rise (rs ++ r ∷ more) → (k : ℕ) → covers rs k ≡ true → k + 1 < r.0
numbers_below [] r more rise k h = cc
numbers_below (t ∷ ts) r more rise k h = by (numbers_below ts r more (rise_of t.1 (ts ++ r ∷ more) rise.1) k) (above_first t.1 ts r more rise.1) (either _ _ h)
  where
    by : (covers ts k ≡ true → k + 1 < r.0) → t.1 < r.0 → ((leb t.0 k && ltb k t.1) ≡ true) ⊎ (covers ts k ≡ true) → k + 1 < r.0
    by later lt (inl here) = let p : (t.0 ≤ k) × (k < t.1) = within t.0 t.1 k here in omega (arith, p.1, lt)
    by later lt (inr h) = later h

pub next_follows : (rs : List (ℕ × ℕ)) (r : ℕ × ℕ) (more : List (ℕ × ℕ)) → Rise (rs ++ r ∷ more) → MayFollow (set.from_list {R = nat_cmp} (spread rs)) r.0 r.1
next_follows rs r more rise = record {
  some = not_empty rs r more rise;
  apart = λ k h. numbers_below rs r more rise k (sym (contains_spread rs k) ∙ h);
}

-- ---- and what may follow makes a list that rises

pub rises_on : (rs : List (ℕ × ℕ)) (start end : ℕ) → Rise rs → MayFollow (set.from_list {R = nat_cmp} (spread rs)) start end → Rise (rs ++ (start, end) ∷ [])
rises_on [] start end rise may = (may.some, tt)
rises_on (r ∷ rs) start end rise may =
    let apart : (k : ℕ) → covers (r ∷ rs) k ≡ true → k + 1 < start = λ k h. may.apart k (contains_spread (r ∷ rs) k ∙ h) in
    (rise.0, rise_push r.1 rs start end rise.1 (end_before start r rs rise.0 apart) may.some (λ k h. apart k (or_second _ _ h)))
