-- How a table with a read index tells which messages wait.
use Rattle.std.specs.Prelude.{◌≡◌, ℕ, ◌≤◌, ◌<◌, false, length, refl}
use Rattle.std.specs.Coded.{Coded, code_by, coded×, coded_ℕ}
use Rattle.std.specs.Ordering.{nat_cmp}
use Rattle.std.specs.FinSet as set
use Rattle.delivery_machine.specs.State.{State, Subscription}
use Rattle.delivery_machine.specs.Words.{visible}
use Rattle.dispatch_core.specs.Log.{waits_at, IsReadyAt}

-- the read index, and the messages before it that came back
pub record Waiting : Type 0 where
  pub read : ℕ
  pub returned : set.FinSet nat_cmp

abbrev pub waiting_code : Coded Waiting
waiting_code =
    code_by (ℕ × set.FinSet nat_cmp) (coded× coded_ℕ (set.code coded_ℕ)) (λ w. (w.read, w.returned)) (λ p. record { read = p.0; returned = p.1 }) (λ _. refl)

-- all before the read index may be seen, and those of them that wait are the ones that came back
pub record Tells (w : Waiting) (s : State) (sub : Subscription) : Type 0 where
  pub seen : w.read ≤ length (visible s)
  pub before : (i : ℕ) → i < w.read → set.contains w.returned i ≡ waits_at s sub i
  pub after : (i : ℕ) → w.read ≤ i → set.contains w.returned i ≡ false

-- no visible message waits from the one index on and before the other
abbrev pub NoneReadyBetween : State → Subscription → ℕ → ℕ → Type 0
NoneReadyBetween s sub from end = (k : ℕ) → from ≤ k → k < end → IsReadyAt s sub k → ⊥
