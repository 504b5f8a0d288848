-- What stands in a text after several appends.
use Rattle.std.proofs.Common.{◌≡◌, ℕ, List, [], ◌++◌, append_assoc, refl}

pub after_two : (text a b first second : List ℕ) → first ≡ text ++ a → second ≡ first ++ b → second ≡ text ++ (a ++ b)
after_two text a b first second e₁ e₂ = rw (e₂, e₁) (append_assoc text a b)

pub after_three : (text a b c first second third : List ℕ) → first ≡ text ++ a → second ≡ first ++ b → third ≡ second ++ c → third ≡ text ++ (a ++ b ++ c)
after_three text a b c first second third e₁ e₂ e₃ = after_two text (a ++ b) c second third (after_two text a b first second e₁ e₂) e₃

pub after_four : (text a b c d first second third fourth : List ℕ) → first ≡ text ++ a → second ≡ first ++ b → third ≡ second ++ c → fourth ≡ third ++ d
    → fourth ≡ text ++ (a ++ b ++ c ++ d)
after_four text a b c d first second third fourth e₁ e₂ e₃ e₄ =
    after_two text (a ++ b ++ c) d third fourth (after_three text a b c first second third e₁ e₂ e₃) e₄

-- eight appends to an empty text
pub eight_in_all : (a b c d e f g h zeroth first second third fourth fifth sixth seventh eighth : List ℕ) → zeroth ≡ [] → first ≡ zeroth ++ a → second ≡ first ++ b
    → third ≡ second ++ c → fourth ≡ third ++ d → fifth ≡ fourth ++ e → sixth ≡ fifth ++ f → seventh ≡ sixth ++ g → eighth ≡ seventh ++ h
    → eighth ≡ a ++ b ++ c ++ d ++ e ++ f ++ g ++ h
eight_in_all a b c d e f g h zeroth first second third fourth fifth sixth seventh eighth e₀ e₁ e₂ e₃ e₄ e₅ e₆ e₇ e₈ = rw (e₈, e₇, e₆, e₅, e₄, e₃, e₂, e₁, e₀) refl
