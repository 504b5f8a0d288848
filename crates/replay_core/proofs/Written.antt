-- What is written of a text, a part at a time.
use Rattle.std.proofs.Common.{◌≡◌, ℕ, ◌-◌, List, ◌++◌, length, take, drop, Option, append_assoc, take-append-drop, sym, ap, ◌∙◌}
use Rattle.std.proofs.lemmas.List.{take_rest}
use Rattle.std.specs.Io.KnownBytes.{Appends}
use Rattle.std.proofs.KnownBytes.{Appends-trans}

-- the front that was written, and what is left
abbrev pub LeavesOf : Option (List ℕ) → Option (List ℕ) → List ℕ → List ℕ → Type 0
LeavesOf before now text rest = (front : List ℕ) × (text ≡ front ++ rest) × Appends before now front

pub LeavesOf-more : (a b c : Option (List ℕ)) (text rest : List ℕ) (n m : ℕ) → LeavesOf a b text rest → Appends b c (take n rest) → m ≡ length rest - n → LeavesOf a c text (take m (drop n rest))
LeavesOf-more a b c text rest n m before more long = (
  before.0 ++ take n rest,
  before.1 ∙ ap (λ (x : List ℕ). before.0 ++ x) (sym (take-append-drop n rest)) ∙ sym (append_assoc before.0 (take n rest) (drop n rest))
      ∙ ap (λ (x : List ℕ). (before.0 ++ take n rest) ++ x) (sym (ap (λ (k : ℕ). take k (drop n rest)) long ∙ take_rest rest n)),
  Appends-trans a b c before.0 (take n rest) before.2 more,
)
