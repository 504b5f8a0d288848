-- Who moved dead letters, among all that are remembered: they are remembered as if nobody else were.
use Rattle.std.proofs.Common.{◌≡◌, ℕ, ◌+◌, ◌<◌, List, [], ◌∷◌, ◌++◌, map, take, Some, Bool, true, false, cond, refl, ap, ap₂, ◌∙◌, sym, subst, true≢false}
use Rattle.std.specs.Prelude.{ℤ, codes, nat_eq, slice_get}
use Rattle.std.specs.List.{AllByRecursion, IsDistinct, filter, starts_with}
use Rattle.std.specs.List.Sorted.{IsStrictlySortedBy}
use Rattle.std.specs.Ordering.{nat_cmp}
use Rattle.std.specs.declared.cmp.Ordering.TheVariants.{Less}
use Rattle.std.specs.Int.{int_max}
use Rattle.std.specs.Option.{unwrap_or}
use Rattle.std.specs.Str.{bytes_eq}
use Rattle.std.proofs.lemmas.List.{append-nil}
use Rattle.std.proofs.lemmas.List.Elements.{filter-append, recursion_from_All, All-from_recursion}
use Rattle.std.proofs.lemmas.Map.Keys.{sorted_from_strictly_increasing, IsStrictlyIncreasing-from_sorted}
use Rattle.position_core.specs.declared.message.Entry.{Entry}
use Rattle.delivery_machine.specs.State.{Author}
use Rattle.delivery_machine.specs.Words.{Signed, signed_by, is_by, greatest, greatest_under, removed}
use Rattle.delivery_machine.specs.Trimming.{is_author, with_author, with_authors}
use Rattle.delivery_machine.specs.WellFormed.{AreAuthors}
use Rattle.delivery_machine.proofs.AuthorsFound.{author_of}
use Rattle.delivery_machine.proofs.Behind.{same_name}
use Rattle.delivery_machine.proofs.Remembered.{name_of, index_of, authors_more}
use Rattle.dedup_core.proofs.Remembering.{one_more}
use Rattle.topic_lives.specs.Deleting.{moves_letters}

-- the name is of a producer that moves dead letters
abbrev pub is_courier : List ℕ → Bool
is_courier name = starts_with nat_eq name (codes "dlq/")

-- ---- those that pass a test, of authors of whom each has a name of its own

module _ (q : Author → Bool) where
  each_key_filtered : {K : Type 0} (key : Author → K) (P : K → Type 0) (authors : List Author) → AllByRecursion P (map key authors) → AllByRecursion P (map key (filter q authors))
  each_key_filtered key P [] all = tt
  each_key_filtered key P (a ∷ authors) all = by (q a) (each_key_filtered key P authors all.1)
    where
      by : (b : Bool) → AllByRecursion P (map key (filter q authors)) → AllByRecursion P (map key (cond b (a ∷ filter q authors) (filter q authors)))
      by true rest = (all.0, rest)
      by false rest = rest

  distinct_filtered : (authors : List Author) → IsDistinct bytes_eq (map name_of authors) → IsDistinct bytes_eq (map name_of (filter q authors))
  unfolding IsDistinct
  distinct_filtered [] distinct = tt
  distinct_filtered (a ∷ authors) distinct = by (q a) (distinct_filtered authors distinct.1)
    where
      by : (b : Bool) → IsDistinct bytes_eq (map name_of (filter q authors)) → IsDistinct bytes_eq (map name_of (cond b (a ∷ filter q authors) (filter q authors)))
      by true rest = (each_key_filtered name_of (λ name. bytes_eq a.name name ≡ false) authors distinct.0, rest)
      by false rest = rest

  sorted_filtered : (authors : List Author) → IsStrictlySortedBy nat_cmp (map index_of authors) → IsStrictlySortedBy nat_cmp (map index_of (filter q authors))
  unfolding IsStrictlySortedBy
  sorted_filtered [] rising = tt
  sorted_filtered (a ∷ authors) rising = by (q a) (sorted_filtered authors rising.1)
    where
      by : (b : Bool) → IsStrictlySortedBy nat_cmp (map index_of (filter q authors)) → IsStrictlySortedBy nat_cmp (map index_of (cond b (a ∷ filter q authors) (filter q authors)))
      by true rest = (each_key_filtered index_of (λ n. nat_cmp a.index n ≡ Less) authors rising.0, rest)
      by false rest = rest

  pub authors_filtered : (next : ℕ) (authors : List Author) → AreAuthors next authors → AreAuthors next (filter q authors)
  authors_filtered next authors are = record {
    names = distinct_filtered authors are.names;
    indexes = record {
      rising = IsStrictlyIncreasing-from_sorted (map index_of (filter q authors)) (sorted_filtered authors (sorted_from_strictly_increasing (map index_of authors) are.indexes.rising));
      below = All-from_recursion (λ n. n < next) (map index_of (filter q authors)) (each_key_filtered index_of (λ n. n < next) authors (recursion_from_All (λ n. n < next) (map index_of authors) are.indexes.below));
    };
  }

-- ---- their numbers

module _ (name : List ℕ) where
  -- whoever else is remembered, the numbers under a courier's name are the same
  numbers_of_courier : is_courier name ≡ true → (authors : List Author) → filter (is_by name) (map signed_by (filter moves_letters authors)) ≡ filter (is_by name) (map signed_by authors)
  numbers_of_courier lasts [] = refl
  numbers_of_courier lasts (a ∷ authors) = by (moves_letters a) refl (bytes_eq a.name name) refl (numbers_of_courier lasts authors)
    where
      by : (b : Bool) → moves_letters a ≡ b → (c : Bool) → bytes_eq a.name name ≡ c → filter (is_by name) (map signed_by (filter moves_letters authors)) ≡ filter (is_by name) (map signed_by authors)
          → filter (is_by name) (map signed_by (cond b (a ∷ filter moves_letters authors) (filter moves_letters authors))) ≡ cond c (signed_by a ∷ filter (is_by name) (map signed_by authors)) (filter (is_by name) (map signed_by authors))
      by true t true this rest = ap₂ (λ (x : Bool) (ns : List Signed). cond x (signed_by a ∷ ns) ns) this rest
      by true t false other rest = ap₂ (λ (x : Bool) (ns : List Signed). cond x (signed_by a ∷ ns) ns) other rest
      by false f true this rest = absurd (true≢false (sym lasts ∙ ap is_courier (sym (same_name a.name name this)) ∙ f))
      by false f false other rest = rest

  pub greatest_of_courier : is_courier name ≡ true → (authors : List Author) → greatest_under name (map signed_by (filter moves_letters authors)) ≡ greatest_under name (map signed_by authors)
  greatest_of_courier lasts authors = ap (λ (ns : List Signed). greatest (map (λ n. n.sequence) ns)) (numbers_of_courier lasts authors)

  -- one of the name is taken out
  courier_removed : is_courier name ≡ true → (authors : List Author) → filter moves_letters (removed (is_author name) authors) ≡ removed (is_author name) (filter moves_letters authors)
  courier_removed lasts [] = refl
  courier_removed lasts (a ∷ authors) = by (bytes_eq a.name name) refl (moves_letters a) refl (courier_removed lasts authors)
    where
      by : (b : Bool) → bytes_eq a.name name ≡ b → (c : Bool) → moves_letters a ≡ c → filter moves_letters (removed (is_author name) authors) ≡ removed (is_author name) (filter moves_letters authors)
          → filter moves_letters (cond b authors (a ∷ removed (is_author name) authors)) ≡ removed (is_author name) (cond c (a ∷ filter moves_letters authors) (filter moves_letters authors))
      by true this true t rest = sym (ap (λ (x : Bool). cond x (filter moves_letters authors) (a ∷ removed (is_author name) (filter moves_letters authors))) this)
      by true this false f rest = absurd (true≢false (sym lasts ∙ ap is_courier (sym (same_name a.name name this)) ∙ f))
      by false other true t rest =
          ap (λ (x : Bool). cond x (a ∷ filter moves_letters (removed (is_author name) authors)) (filter moves_letters (removed (is_author name) authors))) t
          ∙ ap (λ (xs : List Author). a ∷ xs) rest
          ∙ sym (ap (λ (x : Bool). cond x (filter moves_letters authors) (a ∷ removed (is_author name) (filter moves_letters authors))) other)
      by false other false f rest = ap (λ (x : Bool). cond x (a ∷ filter moves_letters (removed (is_author name) authors)) (filter moves_letters (removed (is_author name) authors))) f ∙ rest

  other_removed : is_courier name ≡ false → (authors : List Author) → filter moves_letters (removed (is_author name) authors) ≡ filter moves_letters authors
  other_removed differs [] = refl
  other_removed differs (a ∷ authors) = by (bytes_eq a.name name) refl (other_removed differs authors)
    where
      by : (b : Bool) → bytes_eq a.name name ≡ b → filter moves_letters (removed (is_author name) authors) ≡ filter moves_letters authors
          → filter moves_letters (cond b authors (a ∷ removed (is_author name) authors)) ≡ cond (moves_letters a) (a ∷ filter moves_letters authors) (filter moves_letters authors)
      by true this rest = sym (ap (λ (x : Bool). cond x (a ∷ filter moves_letters authors) (filter moves_letters authors)) (ap is_courier (same_name a.name name this) ∙ differs))
      by false other rest = ap (λ (xs : List Author). cond (moves_letters a) (a ∷ xs) xs) rest

-- ---- one message after another

-- a courier's message is remembered, whoever else is
pub courier_one : (index : ℕ) (e : Entry) (authors : List Author) → is_courier e.producer ≡ true → filter moves_letters (with_author index e authors) ≡ with_author index e (filter moves_letters authors)
courier_one index e authors lasts =
    filter-append moves_letters (removed (is_author e.producer) authors) (author_of index e authors ∷ [])
    ∙ ap₂ (λ (xs : List Author) (b : Bool). xs ++ cond b (author_of index e authors ∷ []) []) (courier_removed e.producer lasts authors) lasts
    ∙ ap (λ (n : ℤ). removed (is_author e.producer) (filter moves_letters authors) ++ record { name = e.producer; sequence = int_max n e.sequence; index = index } ∷ [])
    (ap (λ o. unwrap_or o e.sequence) (sym (greatest_of_courier e.producer lasts authors)))

-- anybody else's changes nothing
pub other_one : (index : ℕ) (e : Entry) (authors : List Author) → is_courier e.producer ≡ false → filter moves_letters (with_author index e authors) ≡ filter moves_letters authors
other_one index e authors differs =
    filter-append moves_letters (removed (is_author e.producer) authors) (author_of index e authors ∷ [])
    ∙ ap₂ (λ (xs : List Author) (b : Bool). xs ++ cond b (author_of index e authors ∷ []) []) (other_removed e.producer differs authors) differs
    ∙ append-nil (filter moves_letters authors)

-- who is remembered of the first messages, so many, and moves dead letters
abbrev pub couriers_of : ℕ → ℕ → List Entry → List Author → List Author
couriers_of i gone log authors = filter moves_letters (with_authors gone (take i log) authors)

pub courier_further : (gone : ℕ) (log : List Entry) (i : ℕ) (e : Entry) (authors xs : List Author) → slice_get log i ≡ Some e → is_courier e.producer ≡ true → xs ≡ couriers_of i gone log authors
    → with_author (gone + i) e xs ≡ couriers_of (i + 1) gone log authors
courier_further gone log i e authors xs here lasts is =
    ap (with_author (gone + i) e) is ∙ sym (courier_one (gone + i) e (with_authors gone (take i log) authors) lasts) ∙ ap (filter moves_letters) (one_more gone log i e authors here)

pub other_further : (gone : ℕ) (log : List Entry) (i : ℕ) (e : Entry) (authors xs : List Author) → slice_get log i ≡ Some e → is_courier e.producer ≡ false → xs ≡ couriers_of i gone log authors
    → xs ≡ couriers_of (i + 1) gone log authors
other_further gone log i e authors xs here differs is =
    is ∙ sym (other_one (gone + i) e (with_authors gone (take i log) authors) differs) ∙ ap (filter moves_letters) (one_more gone log i e authors here)

pub distinct_couriers : (gone : ℕ) (log : List Entry) (i : ℕ) (authors xs : List Author) → AreAuthors gone authors → xs ≡ couriers_of i gone log authors → IsDistinct bytes_eq (map name_of xs)
distinct_couriers gone log i authors xs are is =
    subst (λ (ys : List Author). IsDistinct bytes_eq (map name_of ys)) (sym is) (distinct_filtered moves_letters (with_authors gone (take i log) authors) (authors_more gone (take i log) authors are).names)
