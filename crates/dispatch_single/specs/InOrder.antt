-- Who is served by the kinds that have one active member, by the line of the members' numbers and levels.
use Rattle.std.specs.Prelude.{◌≡◌, ◌≢◌, ℕ, ◌<◌, ◌==◌, nat_lt, Bool, true, false, not, ◌&&◌, ◌||◌, List, Option, Some, None, length, slice_get, slice_index_or, IsTrue, refl}
use Rattle.std.specs.List.{filter, AllPairs}
use Rattle.std.specs.Coded.{Coded, code_by, coded×, coded_ℕ, coded_option}
use Rattle.position_core.specs.Kind.{is_in_order}
use Rattle.delivery_machine.specs.State.{State, Subscription}
use Rattle.dispatch_core.specs.Log.{line_of}
use Rattle.dispatch_core.specs.Waiting.{Waiting, waiting_code, Tells}
use Rattle.dispatch_single.specs.declared.active.Active.{Active}
use Rattle.dispatch_single.specs.declared.line.Line.{Line}

-- the number and the level of a member
abbrev pub pair_of : Active → ℕ × ℕ
pair_of m = (m.consumer, m.level)

-- the first stands before the second by level, and then by number
abbrev pub comes_before : ℕ × ℕ → ℕ × ℕ → Bool
comes_before a b = nat_lt a.1 b.1 || (a.1 == b.1 && nat_lt a.0 b.0)

abbrev pub at : List (ℕ × ℕ) → ℕ → ℕ × ℕ
at line place = slice_index_or line place (0, 0)

-- of the first n in line, the one at the place is the best, and the first where several are as good
pub record IsActiveAt (line : List (ℕ × ℕ)) (n place : ℕ) : Type 0 where
  pub within : place < n
  pub best : (k : ℕ) → k < n → comes_before (at line k) (at line place) ≡ false
  pub first : (k : ℕ) → k < place → comes_before (at line place) (at line k) ≡ true

-- the one of the first n in line that is served, as it stands there, or none where there are none
abbrev pub IsActiveIn : List (ℕ × ℕ) → ℕ → Option Active → Type 0
IsActiveIn line n None = n ≡ 0
IsActiveIn line n (Some m) = IsActiveAt line n m.place × (slice_get line m.place ≡ Some (pair_of m))

-- who of the whole line is served
abbrev pub IsActive : List (ℕ × ℕ) → Option Active → Type 0
IsActive line active = IsActiveIn line (length line) active

-- no number stands twice in line
abbrev pub NumbersDiffer : List (ℕ × ℕ) → Type 0
NumbersDiffer line = AllPairs (λ a b. a.0 ≢ b.0) line

-- the line once the consumer left
abbrev pub without : ℕ → List (ℕ × ℕ) → List (ℕ × ℕ)
without consumer line = filter (λ m. not (m.0 == consumer)) line

-- what is kept tells how many are in line, whose numbers differ, and who of them is active
pub record TellsLine (kept : Line) (line : List (ℕ × ℕ)) : Type 0 where
  pub many : kept.many ≡ length line
  pub differ : NumbersDiffer line
  pub active : IsActive line kept.active

-- what the dispatcher keeps: which messages wait, and who in line is active
pub record Serving : Type 0 where
  pub waiting : Waiting
  pub line : Line

abbrev active_code : Coded Active
active_code =
    code_by (ℕ × (ℕ × ℕ)) (coded× coded_ℕ (coded× coded_ℕ coded_ℕ)) (λ a. (a.place, (a.consumer, a.level))) (λ p. record { place = p.0; consumer = p.1.0; level = p.1.1 }) (λ _. refl)

abbrev line_code : Coded Line
line_code =
    code_by (ℕ × Option Active) (coded× coded_ℕ (coded_option active_code)) (λ l. (l.many, l.active)) (λ p. record { many = p.0; active = p.1 }) (λ _. refl)

abbrev pub serving_code : Coded Serving
serving_code =
    code_by (Waiting × Line) (coded× waiting_code line_code) (λ d. (d.waiting, d.line)) (λ p. record { waiting = p.0; line = p.1 }) (λ _. refl)

-- it serves the subscription's kind, and its tables tell what waits and who is active
pub record Agrees (d : Serving) (s : State) (sub : Subscription) : Type 0 where
  pub kind : IsTrue (is_in_order sub.kind)
  pub waiting : Tells d.waiting s sub
  pub line : TellsLine d.line (line_of s sub)
