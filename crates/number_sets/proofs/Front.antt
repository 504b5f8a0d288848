-- What the words say once the first ones left, and which of them are used, one after another.
use Rattle.std.proofs.Common.{◌≡◌, ℕ, ◌+◌, ◌*◌, ◌/◌, ◌%◌, ◌≤◌, Bool, false, List, drop, length, get_or, inl, inr, sym, ap, ◌∙◌, arith, eq-eqb}
use Rattle.std.specs.Prelude.{◌==◌, ◌&&◌, ◌||◌, nat_lt}
use Rattle.std.specs.Int.{bit_at}
use Rattle.std.proofs.lemmas.Bool.{cases_eq, cases_lt, ne_eqb, lt-ltb, le-ltb, or_left}
use Rattle.std.proofs.lemmas.List.{get_or-drop, get_or_past}
use Rattle.number_sets.specs.Bits.{has, is_used}
use Rattle.number_sets.proofs.Bits.{is_empty, is_full}

pub has_later : (ws : List ℕ) (count i : ℕ) → has (drop count ws) i ≡ has ws (64 * count + i)
unfolding has
has_later ws count i =
    let word : (64 * count + i) / 64 ≡ count + i / 64 = omega arith in
    let rest : (64 * count + i) % 64 ≡ i % 64 = omega arith in
    ap (λ (x : ℕ). bit_at x (i % 64) == 1) (get_or-drop count ws (i / 64) 0)
    ∙ ap (λ (k : ℕ). bit_at (get_or ws k 0) (i % 64) == 1) (sym word)
    ∙ ap (λ (k : ℕ). bit_at (get_or ws ((64 * count + i) / 64) 0) k == 1) (sym rest)

-- which of the first words are used
abbrev pub UsedBelow : (ℕ → Bool) → List ℕ → ℕ → Type 0
UsedBelow f ws n = (w : ℕ) → f w ≡ (nat_lt w n && is_used ws w)

pub used_at_first : (f : ℕ → Bool) (ws : List ℕ) → ((w : ℕ) → f w ≡ false) → UsedBelow f ws 0
used_at_first f ws none w = none w ∙ sym (ap (λ (b : Bool). b && is_used ws w) (le-ltb w 0 (omega arith)))

below_next : (w n : ℕ) → (w ≡ n → ⊥) → nat_lt w n ≡ nat_lt w (n + 1)
below_next w n other = elim (cases_lt w n) [
  | inl below ↦ lt-ltb w n below ∙ sym (lt-ltb w (n + 1) (omega arith))
  | inr past ↦ le-ltb w n past ∙ sym (le-ltb w (n + 1) (omega (arith, other)))
]

pub used_next : (f g : ℕ → Bool) (ws : List ℕ) (n : ℕ) → (get_or ws n 0 ≡ 0 → ⊥) → UsedBelow f ws n → ((w : ℕ) → g w ≡ (w == n || f w)) → UsedBelow g ws (n + 1)
used_next f g ws n some before put w = put w ∙ elim (cases_eq w n) [
  | inl is ↦
      or_left (w == n) (f w) (eq-eqb w n is)
      ∙ sym (ap (λ (b : Bool). b && is_used ws w) (lt-ltb w (n + 1) (omega arith)) ∙ ap (is_used ws) is ∙ is_full ws n some)
  | inr other ↦
      ap (λ (b : Bool). b || f w) (ne_eqb w n other) ∙ before w
      ∙ ap (λ (b : Bool). b && is_used ws w) (below_next w n other)
]

pub unused_next : (f : ℕ → Bool) (ws : List ℕ) (n : ℕ) → get_or ws n 0 ≡ 0 → UsedBelow f ws n → UsedBelow f ws (n + 1)
unused_next f ws n none before w = before w ∙ elim (cases_eq w n) [
  | inl is ↦
      ap (λ (b : Bool). b && is_used ws w) (le-ltb w n (omega arith))
      ∙ sym (ap (λ (b : Bool). b && is_used ws w) (lt-ltb w (n + 1) (omega arith)) ∙ ap (is_used ws) is ∙ is_empty ws n none)
  | inr other ↦ ap (λ (b : Bool). b && is_used ws w) (below_next w n other)
]

pub used_in_all : (f : ℕ → Bool) (ws : List ℕ) (n : ℕ) → length ws ≤ n → UsedBelow f ws n → (w : ℕ) → f w ≡ is_used ws w
used_in_all f ws n all before w = before w ∙ elim (cases_lt w n) [
  | inl below ↦ ap (λ (b : Bool). b && is_used ws w) (lt-ltb w n below)
  | inr past ↦
      ap (λ (b : Bool). b && is_used ws w) (le-ltb w n past)
      ∙ sym (is_empty ws w (get_or_past ws w 0 (omega arith)))
]
