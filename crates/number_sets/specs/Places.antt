-- A set of places below a room.
use Rattle.std.specs.Prelude.{◌≡◌, ℕ, ◌≤◌, Bool, true, false, refl}
use Rattle.std.specs.Coded.{Coded, code_by, coded×, coded_ℕ}
use Rattle.std.specs.Ordering.{nat_cmp}
use Rattle.std.specs.FinSet as set

-- i is the least number from `from` on that is in
pub record IsNext (has : ℕ → Bool) (from i : ℕ) : Type 0 where
  pub after : from ≤ i
  pub is_in : has i ≡ true
  pub least : (k : ℕ) → from ≤ k → has k ≡ true → i ≤ k

-- no number from `from` on is in
abbrev pub NoneFrom : (ℕ → Bool) → ℕ → Type 0
NoneFrom has from = (k : ℕ) → from ≤ k → has k ≡ false

-- the set, and the number below which a place has room
pub record Places : Type 0 where
  pub places : set.FinSet nat_cmp
  pub room : ℕ

abbrev pub places_code : Coded Places
places_code =
    code_by (set.FinSet nat_cmp × ℕ) (coded× (set.code coded_ℕ) coded_ℕ) (λ p. (p.places, p.room)) (λ p. record { places = p.0; room = p.1 }) (λ _. refl)
