-- Whom the producers have under a name, as one message after another is remembered.
use Rattle.std.proofs.Common.{◌≡◌, ℕ, ◌+◌, ◌<◌, ◌≤◌, List, [], ◌∷◌, ◌++◌, map, length, Some, None, Option, Bool, true, false, cond, refl, ap, ap₂, ◌∙◌, sym, subst, arith}
use Rattle.std.specs.Prelude.{nat_le, ◌||◌, is_some, ℤ}
use Rattle.std.specs.List.{AllByRecursion, IsDistinct, find, list_any}
use Rattle.std.specs.Option.{option_map, option_map_or, option_or, unwrap_or}
use Rattle.std.specs.Int.{int_max}
use Rattle.std.specs.Str.{bytes_eq}
use Rattle.std.specs.Cmp.Lexicographic.{nat_list_eq_equiv}
use Rattle.std.proofs.lemmas.Bool.Decides.{nat_tests}
use Rattle.std.proofs.lemmas.List.Folds.{find-append, list_any-append}
use Rattle.std.proofs.lemmas.List.Elements.{recursion_from_All}
use Rattle.position_core.specs.declared.message.Entry.{Entry}
use Rattle.delivery_machine.specs.State.{State, Author}
use Rattle.delivery_machine.specs.Words.{removed, signed, signed_by, known, is_by, last_sequence}
use Rattle.delivery_machine.specs.Trimming.{is_author, with_author, with_authors}
use Rattle.delivery_machine.specs.WellFormed.{AreAuthors}
use Rattle.delivery_machine.proofs.Behind.{same_name}
use Rattle.delivery_machine.proofs.Deciding.{or_false}
use Rattle.delivery_machine.proofs.Finding.{find_removed}
use Rattle.delivery_machine.proofs.LastNumbers.{known_as_authors, number_of_author}
use Rattle.delivery_machine.proofs.Remembered.{name_of, index_of, none_left, authors_one, authors_more}

-- ---- one message

-- what its producer is remembered as
abbrev pub author_of : ℕ → Entry → List Author → Author
author_of index e authors = record { name = e.producer; sequence = int_max (last_sequence (map signed_by authors) e.producer e.sequence) e.sequence; index = index }

-- its number is the greatest that there is
pub greatest_of_author : (e : Entry) (authors : List Author) → IsDistinct bytes_eq (map name_of authors)
    → last_sequence (map signed_by authors) e.producer e.sequence ≡ unwrap_or (option_map (λ a. a.sequence) (find (is_author e.producer) authors)) e.sequence
greatest_of_author e authors distinct = ap (λ o. unwrap_or o e.sequence) (number_of_author e.producer authors distinct)

-- nobody has the name
none_found : (name : List ℕ) (authors : List Author) → list_any (bytes_eq name) (map name_of authors) ≡ false → find (is_author name) authors ≡ None
none_found name [] none = refl
none_found name (a ∷ authors) none =
    let apart = or_false (bytes_eq name a.name) (list_any (bytes_eq name) (map name_of authors)) none in
    ap (λ b. cond b (Some a) (find (is_author name) authors)) (nat_list_eq_equiv.symm a.name name ∙ apart.0) ∙ none_found name authors apart.1

module _ (name : List ℕ) where
  or_nothing : (o : Option Author) → option_or o None ≡ o
  or_nothing None = refl
  or_nothing (Some a) = refl

  -- the producer's name has the message, and any other what it had
  pub found_one : (index : ℕ) (e : Entry) (authors : List Author) → IsDistinct bytes_eq (map name_of authors)
      → find (is_author name) (with_author index e authors) ≡ cond (bytes_eq e.producer name) (Some (author_of index e authors)) (find (is_author name) authors)
  found_one index e authors distinct =
      find-append (is_author name) (removed (is_author e.producer) authors) (author_of index e authors ∷ []) ∙ by (bytes_eq e.producer name) refl
    where
      by : (b : Bool) → bytes_eq e.producer name ≡ b
          → option_or (find (is_author name) (removed (is_author e.producer) authors)) (cond (bytes_eq e.producer name) (Some (author_of index e authors)) None) ≡ cond b (Some (author_of index e authors)) (find (is_author name) authors)
      by true this =
          let none : find (is_author name) (removed (is_author e.producer) authors) ≡ None =
          subst (λ (m : List ℕ). find (is_author m) (removed (is_author e.producer) authors) ≡ None) (same_name e.producer name this) (none_found e.producer (removed (is_author e.producer) authors) (none_left e.producer authors distinct)) in
          ap₂ (λ (o : Option Author) b. option_or o (cond b (Some (author_of index e authors)) None)) none this
      by false other =
          ap₂ (λ (o : Option Author) b. option_or o (cond b (Some (author_of index e authors)) None))
          (find_removed (is_author name) (is_author e.producer) (λ x t. ap (λ (m : List ℕ). bytes_eq m name) (same_name x.name e.producer t) ∙ other) authors) other
          ∙ or_nothing (find (is_author name) authors)

  -- ---- one message after another

  -- it is the same whoever else is remembered
  pub found_alike : (index : ℕ) (messages : List Entry) (xs ys : List Author) → AreAuthors index xs → AreAuthors index ys → find (is_author name) xs ≡ find (is_author name) ys
      → find (is_author name) (with_authors index messages xs) ≡ find (is_author name) (with_authors index messages ys)
  found_alike index [] xs ys are_xs are_ys alike = alike
  found_alike index (e ∷ messages) xs ys are_xs are_ys alike =
      found_alike (index + 1) messages (with_author index e xs) (with_author index e ys) (authors_one index e xs are_xs) (authors_one index e ys are_ys)
      (found_one index e xs are_xs.names ∙ by (bytes_eq e.producer name) refl ∙ sym (found_one index e ys are_ys.names))
    where
      same_author : e.producer ≡ name → author_of index e xs ≡ author_of index e ys
      same_author is =
          let same : find (is_author e.producer) xs ≡ find (is_author e.producer) ys = subst (λ (m : List ℕ). find (is_author m) xs ≡ find (is_author m) ys) (sym is) alike in
          let numbers = greatest_of_author e xs are_xs.names ∙ ap (λ (o : Option Author). unwrap_or (option_map (λ a. a.sequence) o) e.sequence) same ∙ sym (greatest_of_author e ys are_ys.names) in
          ap (λ n. record { name = e.producer; sequence = int_max n e.sequence; index = index }) numbers

      by : (b : Bool) → bytes_eq e.producer name ≡ b
          → cond (bytes_eq e.producer name) (Some (author_of index e xs)) (find (is_author name) xs) ≡ cond (bytes_eq e.producer name) (Some (author_of index e ys)) (find (is_author name) ys)
      by true this = ap₂ (λ (a : Author) (o : Option Author). cond (bytes_eq e.producer name) (Some a) o) (same_author (same_name e.producer name this)) alike
      by false other = ap (cond (bytes_eq e.producer name) (Some (author_of index e xs))) alike
          ∙ ap (λ b. cond b (Some (author_of index e xs)) (find (is_author name) ys)) other
          ∙ sym (ap (λ b. cond b (Some (author_of index e ys)) (find (is_author name) ys)) other)

  -- the last message of the name is the one of the index, or a later one
  abbrev pub reaches : ℕ → List Author → Bool
  reaches index authors = option_map_or (λ a. nat_le index a.index) (find (is_author name) authors) false

  at_least : (a b : ℕ) → a ≤ b → nat_le a b ≡ true
  at_least a b low = grind (arith, nat_tests)

  not_least : (a b : ℕ) → b < a → nat_le a b ≡ false
  not_least a b low = grind (arith, nat_tests)

  reaches_more : (least index : ℕ) (messages : List Entry) (authors : List Author) → least ≤ index → AreAuthors index authors
      → reaches least (with_authors index messages authors) ≡ (list_any (is_by name) (map signed messages) || reaches least authors)
  reaches_more least index [] authors low are = refl
  reaches_more least index (e ∷ messages) authors low are =
      reaches_more least (index + 1) messages (with_author index e authors) (omega arith) (authors_one index e authors are)
      ∙ ap (λ (o : Option Author). list_any (is_by name) (map signed messages) || option_map_or (λ a. nat_le least a.index) o false) (found_one index e authors are.names)
      ∙ by (bytes_eq e.producer name) (list_any (is_by name) (map signed messages))
    where
      by : (b rest : Bool) → (rest || option_map_or (λ a. nat_le least a.index) (cond b (Some (author_of index e authors)) (find (is_author name) authors)) false) ≡ ((b || rest) || reaches least authors)
      by true true = refl
      by true false = at_least least index low
      by false rest = refl

  none_reaches : (index : ℕ) (authors : List Author) → AllByRecursion (λ n. n < index) (map index_of authors) → reaches index authors ≡ false
  none_reaches index [] below = refl
  none_reaches index (a ∷ authors) below = by (is_author name a) (none_reaches index authors below.1)
    where
      by : (b : Bool) → reaches index authors ≡ false → option_map_or (λ a. nat_le index a.index) (cond b (Some a) (find (is_author name) authors)) false ≡ false
      by true rest = not_least index a.index below.0
      by false rest = rest

  -- a name has one of the messages where its last message is one of them
  pub reaches_messages : (index : ℕ) (messages : List Entry) (authors : List Author) → AreAuthors index authors
      → reaches index (with_authors index messages authors) ≡ list_any (is_by name) (map signed messages)
  reaches_messages index messages authors are =
      reaches_more index index messages authors (omega arith) are
      ∙ ap (λ b. list_any (is_by name) (map signed messages) || b) (none_reaches index authors (recursion_from_All (λ n. n < index) (map index_of authors) are.indexes.below))
      ∙ or_none (list_any (is_by name) (map signed messages))
    where
      or_none : (b : Bool) → (b || false) ≡ b
      or_none true = refl
      or_none false = refl

  -- ---- who is known

  any_by : (authors : List Author) → is_some (find (is_author name) authors) ≡ list_any (is_by name) (map signed_by authors)
  any_by [] = refl
  any_by (a ∷ authors) = by (is_author name a) (any_by authors)
    where
      by : (b : Bool) → is_some (find (is_author name) authors) ≡ list_any (is_by name) (map signed_by authors) → is_some (cond b (Some a) (find (is_author name) authors)) ≡ (b || list_any (is_by name) (map signed_by authors))
      by true rest = refl
      by false rest = rest

  -- a name has an author where it had one, or has one of the messages
  pub either : (index : ℕ) (messages : List Entry) (authors : List Author) → AreAuthors index authors
      → is_some (find (is_author name) (with_authors index messages authors)) ≡ (is_some (find (is_author name) authors) || list_any (is_by name) (map signed messages))
  either index [] authors are = or_none (is_some (find (is_author name) authors))
    where
      or_none : (b : Bool) → b ≡ (b || false)
      or_none true = refl
      or_none false = refl
  either index (e ∷ messages) authors are =
      either (index + 1) messages (with_author index e authors) (authors_one index e authors are)
      ∙ ap (λ (o : Option Author). is_some o || list_any (is_by name) (map signed messages)) (found_one index e authors are.names)
      ∙ by (bytes_eq e.producer name) (is_some (find (is_author name) authors)) refl
    where
      by : (b was : Bool) → is_some (find (is_author name) authors) ≡ was
          → (is_some (cond b (Some (author_of index e authors)) (find (is_author name) authors)) || list_any (is_by name) (map signed messages)) ≡ (was || (b || list_any (is_by name) (map signed messages)))
      by true true is = refl
      by true false is = refl
      by false was is = ap (λ c. c || list_any (is_by name) (map signed messages)) is

  -- the last number that is known of the name is that of its author
  pub last_by_author : (s : State) (base : ℤ) → AreAuthors s.gone s.authors → last_sequence (known s) name base ≡ unwrap_or (option_map (λ a. a.sequence) (find (is_author name) (with_authors s.gone s.log s.authors))) base
  last_by_author s base are =
      ap (λ o. unwrap_or o base) (known_as_authors name s are ∙ number_of_author name (with_authors s.gone s.log s.authors) (authors_more s.gone s.log s.authors are).names)

  -- a name is known where it is among the producers of all messages
  pub known_by_author : (s : State) → AreAuthors s.gone s.authors → is_some (find (is_author name) (with_authors s.gone s.log s.authors)) ≡ list_any (is_by name) (known s)
  known_by_author s are =
      either s.gone s.log s.authors are
      ∙ ap (λ b. b || list_any (is_by name) (map signed s.log)) (any_by s.authors)
      ∙ sym (list_any-append (is_by name) (map signed_by s.authors) (map signed s.log))

-- the same, in two parts
pub authors_append : (index : ℕ) (xs ys : List Entry) (authors : List Author) → with_authors index (xs ++ ys) authors ≡ with_authors (index + length xs) ys (with_authors index xs authors)
authors_append index [] ys authors = ap (λ n. with_authors n ys authors) (omega arith)
authors_append index (e ∷ xs) ys authors =
    authors_append (index + 1) xs ys (with_author index e authors)
    ∙ ap (λ n. with_authors n ys (with_authors (index + 1) xs (with_author index e authors))) (omega arith)
