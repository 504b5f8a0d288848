-- The first separator of a text, and what stands before and after it.
use Rattle.std.proofs.Common.{◌≡◌, ◌==◌, ℕ, ◌+◌, ◌-◌, ◌<◌, Bool, true, false, cond, List, [], ◌∷◌, ◌++◌, length, take, drop, Some, None, sym, ◌∙◌, arith, refl, ap, subst, nat_lt, position, get_or}
use Rattle.std.specs.List.{list_any, position_or_len}
use Rattle.std.proofs.lemmas.List.Folds.{list_any_none}
use Rattle.std.proofs.lemmas.Bool.Decides.{nat_tests}
use Rattle.std.proofs.lemmas.List.{take_rest, get_or-take, length-take}
use Rattle.std.proofs.lemmas.List.Elements.{All-from_get_or}
use Rattle.std.proofs.lemmas.List.Quantifiers.{position-Some}
use Rattle.std.proofs.lemmas.List.Splits.{slice_split_none, slice_split_first, length-slice_split}
use Rattle.std.proofs.lemmas.List.Sums.{split_at_first}
use Rattle.replay_lines.specs.Splitting.{split_by, words_of}
use Rattle.delivery_machine.proofs.Places.{fails_everywhere}
use Rattle.delivery_machine.proofs.Deciding.{number_is}

chosen_some : (b : Bool) (n i : ℕ) → cond b (Some n) None ≡ Some i → (b ≡ true) × (n ≡ i)
chosen_some true n i e = (refl, cc)
chosen_some false n i e = cc

below : (m n : ℕ) → nat_lt m n ≡ true → m < n
below m n e = grind (arith, nat_tests)

-- a text without a separator is one part
pub none_is : (separator : ℕ) (text : List ℕ) → position (λ byte. byte == separator) text ≡ None → split_by separator text ≡ text ∷ []
none_is separator text e =
    let is = λ (byte : ℕ). byte == separator in
    slice_split_none is text (All-from_get_or (λ byte. (byte == separator) ≡ false) text 0 (λ k within. fails_everywhere is text e k 0 within))

-- the text is what stands before its first separator, that, and what comes after
pub whole_is : (separator : ℕ) (text : List ℕ) (place : ℕ) → position (λ byte. byte == separator) text ≡ Some place → text ≡ take place text ++ separator ∷ take (length text - (place + 1)) (drop (place + 1) text)
whole_is separator text place e =
    let is = λ (byte : ℕ). byte == separator in
    let at = chosen_some _ _ _ e in
    let here = position_or_len is text in
    let split = split_at_first is text 0 (below _ _ at.0) in
    let value : get_or text here 0 ≡ separator = number_is _ _ (position-Some is text here 0 (e ∙ ap Some (sym at.1))).1 in
    let found : text ≡ take here text ++ separator ∷ drop (here + 1) text = subst (λ (byte : ℕ). text ≡ take here text ++ byte ∷ drop (here + 1) text) value split in
    rw (take_rest text (place + 1)) (subst (λ (p : ℕ). text ≡ take p text ++ separator ∷ drop (p + 1) text) at.1 found)

pub first_is : (separator : ℕ) (text : List ℕ) (place : ℕ) → position (λ byte. byte == separator) text ≡ Some place → split_by separator text ≡ take place text ∷ split_by separator (take (length text - (place + 1)) (drop (place + 1) text))
first_is separator text place e =
    let is = λ (byte : ℕ). byte == separator in
    let at = chosen_some _ _ _ e in
    let split = slice_split_first is text 0 (below _ _ at.0) in
    rw (take_rest text (place + 1)) (subst (λ (p : ℕ). split_by separator text ≡ take p text ∷ split_by separator (drop (p + 1) text)) at.1 split)

-- a line has a word
pub words_some : (line : List ℕ) → words_of line ≡ [] → ⊥
words_some line e = omega (arith, length-slice_split (λ byte. byte == 32) line, ap length e)

-- no byte before the first separator is one
pub apart_is : (separator : ℕ) (text : List ℕ) (place : ℕ) → position (λ byte. byte == separator) text ≡ Some place → list_any (λ byte. byte == separator) (take place text) ≡ false
apart_is separator text place e =
    let is = λ (byte : ℕ). byte == separator in
    let found = position-Some is text place 0 e in
    list_any_none is (take place text) (All-from_get_or (λ byte. (byte == separator) ≡ false) (take place text) 0 (λ k within. subst (λ (byte : ℕ). (byte == separator) ≡ false) (sym (get_or-take place text k 0 (omega (arith, within, length-take place text)))) (found.2 k (omega (arith, within, length-take place text)))))
