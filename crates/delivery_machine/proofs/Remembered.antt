-- What is remembered of messages that are gone.
use Rattle.std.proofs.Common.{◌≡◌, ℕ, ◌+◌, ◌<◌, List, [], ◌∷◌, map, take, drop, length, length-take, Bool, true, false, cond, refl, ◌∙◌, sym, subst, arith}
use Rattle.std.specs.Prelude.{◌||◌, nat_lt, if◌then◌else◌}
use Rattle.std.specs.List.{AllByRecursion, list_any, IsDistinct}
use Rattle.std.specs.List.Sorted.{IsStrictlySortedBy}
use Rattle.std.specs.Ordering.{nat_cmp}
use Rattle.std.specs.declared.cmp.Ordering.TheVariants.{Less}
use Rattle.std.specs.Str.{bytes_eq}
use Rattle.std.specs.Cmp.Lexicographic.{nat_list_eq_equiv}
use Rattle.std.proofs.lemmas.List.{map-append}
use Rattle.std.proofs.lemmas.List.Elements.{recursion_from_All, All-from_recursion}
use Rattle.std.proofs.lemmas.Map.Keys.{IsDistinct-push, sorted_from_strictly_increasing, IsStrictlyIncreasing-from_sorted}
use Rattle.position_core.specs.declared.message.Entry.{Entry}
use Rattle.delivery_machine.specs.State.{State, Author}
use Rattle.delivery_machine.specs.Words.{removed}
use Rattle.delivery_machine.specs.Trimming.{is_author, with_author, with_authors, is_lasting, not_forgotten, remembered}
use Rattle.delivery_machine.specs.WellFormed.{AreAuthors}
use Rattle.delivery_machine.proofs.Behind.{same_name}
use Rattle.delivery_machine.proofs.Deciding.{both_false}
use Rattle.delivery_machine.proofs.Given.{given_pushed, given_removed}
use Rattle.delivery_machine.proofs.Keyed.{each_key_removed}

abbrev pub name_of : Author → List ℕ
name_of a = a.name

abbrev pub index_of : Author → ℕ
index_of a = a.index

distinct_removed : (q : Author → Bool) (authors : List Author) → IsDistinct bytes_eq (map name_of authors) → IsDistinct bytes_eq (map name_of (removed q authors))
unfolding IsDistinct
distinct_removed q [] distinct = tt
distinct_removed q (a ∷ authors) distinct = by (q a) (distinct_removed q authors distinct.1)
  where
    by : (b : Bool) → IsDistinct bytes_eq (map name_of (removed q authors)) → IsDistinct bytes_eq (map name_of (cond b authors (a ∷ removed q authors)))
    by true rest = distinct.1
    by false rest = (each_key_removed name_of (λ name. bytes_eq a.name name ≡ false) q authors distinct.0, rest)

-- where the first of a name is removed, no other has it
pub none_left : (name : List ℕ) (authors : List Author) → IsDistinct bytes_eq (map name_of authors) → list_any (bytes_eq name) (map name_of (removed (is_author name) authors)) ≡ false
unfolding IsDistinct
none_left name [] distinct = refl
none_left name (a ∷ authors) distinct = by (is_author name a) refl (none_left name authors distinct.1)
  where
    others : (ns : List (List ℕ)) → AllByRecursion (λ n. bytes_eq name n ≡ false) ns → list_any (bytes_eq name) ns ≡ false
    others [] none = refl
    others (n ∷ ns) none = both_false (bytes_eq name n) (list_any (bytes_eq name) ns) none.0 (others ns none.1)

    by : (b : Bool) → bytes_eq a.name name ≡ b → list_any (bytes_eq name) (map name_of (removed (is_author name) authors)) ≡ false → list_any (bytes_eq name) (map name_of (cond b authors (a ∷ removed (is_author name) authors))) ≡ false
    by true t rest = others (map name_of authors) (subst (λ (m : List ℕ). AllByRecursion (λ n. bytes_eq m n ≡ false) (map name_of authors)) (same_name a.name name t) distinct.0)
    by false f rest = both_false (bytes_eq name a.name) (list_any (bytes_eq name) (map name_of (removed (is_author name) authors))) (nat_list_eq_equiv.symm name a.name ∙ f) rest

pub authors_one : (index : ℕ) (e : Entry) (authors : List Author) → AreAuthors index authors → AreAuthors (index + 1) (with_author index e authors)
authors_one index e authors are = record {
  names = subst (IsDistinct bytes_eq) (sym (map-append name_of (removed (is_author e.producer) authors) (_ ∷ [])))
      (IsDistinct-push nat_list_eq_equiv (map name_of (removed (is_author e.producer) authors)) e.producer (distinct_removed (is_author e.producer) authors are.names) (none_left e.producer authors are.names));
  indexes = given_pushed index_of index (removed (is_author e.producer) authors) _ refl (given_removed index_of index (is_author e.producer) authors are.indexes);
}

pub authors_more : (index : ℕ) (messages : List Entry) (authors : List Author) → AreAuthors index authors → AreAuthors (index + length messages) (with_authors index messages authors)
authors_more index [] authors are =
    let same : index ≡ index + 0 = omega arith in
    subst (λ (n : ℕ). AreAuthors n authors) same are
authors_more index (e ∷ messages) authors are =
    let same : index + 1 + length messages ≡ index + length (e ∷ messages) = omega arith in
    subst (λ (n : ℕ). AreAuthors n (with_authors (index + 1) messages (with_author index e authors))) same
    (authors_more (index + 1) messages (with_author index e authors) (authors_one index e authors are))

module _ (s : State) (stay : List Entry) where
  each_key_kept : {K : Type 0} (key : Author → K) (P : K → Type 0) (authors : List Author) → AllByRecursion P (map key authors) → AllByRecursion P (map key (not_forgotten s stay authors))
  each_key_kept key P [] all = tt
  each_key_kept key P (a ∷ authors) all = by (nat_lt (length authors) 4096 || is_lasting s stay a.name) (each_key_kept key P authors all.1)
    where
      by : (b : Bool) → AllByRecursion P (map key (not_forgotten s stay authors)) → AllByRecursion P (map key (if b then a ∷ not_forgotten s stay authors else not_forgotten s stay authors))
      by true rest = (all.0, rest)
      by false rest = rest

  pub distinct_kept : (authors : List Author) → IsDistinct bytes_eq (map name_of authors) → IsDistinct bytes_eq (map name_of (not_forgotten s stay authors))
  unfolding IsDistinct
  distinct_kept [] distinct = tt
  distinct_kept (a ∷ authors) distinct = by (nat_lt (length authors) 4096 || is_lasting s stay a.name) (distinct_kept authors distinct.1)
    where
      by : (b : Bool) → IsDistinct bytes_eq (map name_of (not_forgotten s stay authors)) → IsDistinct bytes_eq (map name_of (if b then a ∷ not_forgotten s stay authors else not_forgotten s stay authors))
      by true rest = (each_key_kept name_of (λ name. bytes_eq a.name name ≡ false) authors distinct.0, rest)
      by false rest = rest

  sorted_kept : (authors : List Author) → IsStrictlySortedBy nat_cmp (map index_of authors) → IsStrictlySortedBy nat_cmp (map index_of (not_forgotten s stay authors))
  unfolding IsStrictlySortedBy
  sorted_kept [] rising = tt
  sorted_kept (a ∷ authors) rising = by (nat_lt (length authors) 4096 || is_lasting s stay a.name) (sorted_kept authors rising.1)
    where
      by : (b : Bool) → IsStrictlySortedBy nat_cmp (map index_of (not_forgotten s stay authors)) → IsStrictlySortedBy nat_cmp (map index_of (if b then a ∷ not_forgotten s stay authors else not_forgotten s stay authors))
      by true rest = (each_key_kept index_of (λ n. nat_cmp a.index n ≡ Less) authors rising.0, rest)
      by false rest = rest

  authors_kept : (next : ℕ) (authors : List Author) → AreAuthors next authors → AreAuthors next (not_forgotten s stay authors)
  authors_kept next authors are = record {
    names = distinct_kept authors are.names;
    indexes = record {
      rising = IsStrictlyIncreasing-from_sorted (map index_of (not_forgotten s stay authors)) (sorted_kept authors (sorted_from_strictly_increasing (map index_of authors) are.indexes.rising));
      below = All-from_recursion (λ n. n < next) (map index_of (not_forgotten s stay authors)) (each_key_kept index_of (λ n. n < next) authors (recursion_from_All (λ n. n < next) (map index_of authors) are.indexes.below));
    };
  }

pub authors_trimmed : (s : State) (n : ℕ) → n < length s.log → AreAuthors s.gone s.authors → AreAuthors (s.gone + n) (remembered n s)
authors_trimmed s n within are =
    let long = length-take n s.log in
    let same : s.gone + length (take n s.log) ≡ s.gone + n = omega (arith, long, within) in
    subst (λ (k : ℕ). AreAuthors k (remembered n s)) same
    (authors_kept s (drop n s.log) (s.gone + length (take n s.log)) (with_authors s.gone (take n s.log) s.authors) (authors_more s.gone (take n s.log) s.authors are))
