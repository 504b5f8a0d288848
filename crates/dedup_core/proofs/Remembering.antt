-- Producers are remembered one message at a time.
use Rattle.std.proofs.Common.{◌≡◌, ℕ, ◌+◌, List, [], ◌∷◌, ◌++◌, Some, None, Option, map, length, take, refl, ap, ap₂, sym, ◌∙◌, arith}
use Rattle.std.specs.Prelude.{ℤ, slice_get}
use Rattle.std.specs.List.{IsDistinct, find}
use Rattle.std.specs.Option.{option_map, option_map_or, unwrap_or}
use Rattle.std.specs.Int.{int_max}
use Rattle.std.specs.Str.{bytes_eq}
use Rattle.std.proofs.lemmas.Int.{ints, clamps}
use Rattle.std.proofs.lemmas.List.{take_more, length-take}
use Rattle.std.proofs.lemmas.Option.{slice_get_within, get_or_from_slice_get}
use Rattle.position_core.specs.declared.message.Entry.{Entry}
use Rattle.delivery_machine.specs.State.{Author}
use Rattle.delivery_machine.specs.Words.{removed}
use Rattle.delivery_machine.specs.Trimming.{is_author, with_author, with_authors}
use Rattle.delivery_machine.proofs.Remembered.{name_of}
use Rattle.delivery_machine.proofs.AuthorsFound.{authors_append, greatest_of_author}

-- the author is taken out, and stands last with the greater number
pub as_last : (index : ℕ) (e : Entry) (authors rest : List Author) (was : Option Author) (n : ℤ) → IsDistinct bytes_eq (map name_of authors) → was ≡ find (is_author e.producer) authors → rest ≡ removed (is_author e.producer) authors
    → n ≡ option_map_or (λ a. int_max a.sequence e.sequence) was e.sequence → rest ++ record { name = e.producer; sequence = n; index = index } ∷ [] ≡ with_author index e authors
as_last index e authors rest was n distinct found left is =
    ap₂ (λ (xs : List Author) (m : ℤ). xs ++ record { name = e.producer; sequence = m; index = index } ∷ []) left
    (is ∙ ap (λ (o : Option Author). option_map_or (λ a. int_max a.sequence e.sequence) o e.sequence) found ∙ by (find (is_author e.producer) authors) ∙ ap (λ m. int_max m e.sequence) (sym (greatest_of_author e authors distinct)))
  where
    itself : (m : ℤ) → m ≡ int_max m m
    itself m = omega (arith, ints, clamps)

    by : (o : Option Author) → option_map_or (λ a. int_max a.sequence e.sequence) o e.sequence ≡ int_max (unwrap_or (option_map (λ a. a.sequence) o) e.sequence) e.sequence
    by None = itself e.sequence
    by (Some a) = refl

-- one message further
pub one_more : (gone : ℕ) (log : List Entry) (i : ℕ) (e : Entry) (authors : List Author) → slice_get log i ≡ Some e → with_author (gone + i) e (with_authors gone (take i log) authors) ≡ with_authors gone (take (i + 1) log) authors
one_more gone log i e authors here =
    let low = slice_get_within log i e here in
    let more : take (i + 1) log ≡ take i log ++ e ∷ [] = take_more log i e low ∙ ap (λ (x : Entry). take i log ++ x ∷ []) (get_or_from_slice_get log i e e here) in
    let long : gone + length (take i log) ≡ gone + i = let taken = length-take i log in omega (arith, taken, low) in
    ap (λ (n : ℕ). with_author n e (with_authors gone (take i log) authors)) (sym long) ∙ sym (authors_append gone (take i log) (e ∷ []) authors) ∙ ap (λ (xs : List Entry). with_authors gone xs authors) (sym more)
