-- The numbers, in the words of a state whose messages they agree with.
use Rattle.std.proofs.Common.{◌≡◌, List, ℕ, Option, Some, None, refl, ap, sym, ◌∙◌}
use Rattle.std.specs.Prelude.{ℤ, is_some}
use Rattle.std.specs.List.{find, list_any}
use Rattle.std.specs.Option.{option_map, option_map_or, unwrap_or}
use Rattle.std.specs.FinMap as map_of
use Rattle.delivery_machine.specs.State.{State, Author}
use Rattle.delivery_machine.specs.Words.{known, is_by, last_sequence}
use Rattle.delivery_machine.specs.Trimming.{is_author, with_authors}
use Rattle.delivery_machine.specs.WellFormed.{AreAuthors}
use Rattle.delivery_machine.proofs.AuthorsFound.{last_by_author, known_by_author}
use Rattle.dedup_core.specs.Sequences.{Numbers, AgreesWith, last_of}
use Rattle.dedup_core.specs.declared.table.LastNumber.{LastNumber}

module _ (s : State) (are : AreAuthors s.gone s.authors) (numbers : Numbers) (agrees : AgreesWith (with_authors s.gone s.log s.authors) numbers) (name : List ℕ) where
  pub last_is_known : (base : ℤ) → option_map_or (λ n. n.sequence) (map_of.get numbers name) base ≡ last_sequence (known s) name base
  last_is_known base =
      ap (λ (o : Option LastNumber). option_map_or (λ n. n.sequence) o base) (agrees name)
      ∙ by (find (is_author name) (with_authors s.gone s.log s.authors))
      ∙ sym (last_by_author name s base are)
    where
      by : (o : Option Author) → option_map_or (λ n. n.sequence) (option_map last_of o) base ≡ unwrap_or (option_map (λ a. a.sequence) o) base
      by None = refl
      by (Some a) = refl

  pub has_if_known : is_some (map_of.get numbers name) ≡ list_any (is_by name) (known s)
  has_if_known = ap is_some (agrees name) ∙ by (find (is_author name) (with_authors s.gone s.log s.authors)) ∙ known_by_author name s are
    where
      by : (o : Option Author) → is_some (option_map last_of o) ≡ is_some o
      by None = refl
      by (Some a) = refl
