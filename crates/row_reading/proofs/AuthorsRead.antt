-- The next producer of those that rows show.
use Rattle.std.proofs.Common.{◌≡◌, ℕ, suc, ◌+◌, ◌<◌, ◌≤◌, false, List, [], ◌∷◌, ◌++◌, map, take, drop, length, get_or, pos, refl, ap, sym, subst, ◌∙◌, arith}
use Rattle.std.specs.Prelude.{◌||◌}
use Rattle.std.specs.List.{AllByRecursion, IsDistinct, list_any}
use Rattle.std.specs.List.Sorted.{IsStrictlySortedBy}
use Rattle.std.specs.Ordering.{nat_cmp}
use Rattle.std.specs.Str.{bytes_eq}
use Rattle.std.specs.Cmp.{ranked}
use Rattle.std.specs.Cmp.Lexicographic.{nat_list_eq_equiv}
use Rattle.std.specs.declared.cmp.Ordering.TheVariants.{Less}
use Rattle.std.proofs.Math.Seq.{drop-cons}
use Rattle.std.proofs.lemmas.List.{map-append, take-append-drop, take_more}
use Rattle.std.proofs.lemmas.List.Elements.{All-weaker, recursion_from_All}
use Rattle.std.proofs.lemmas.Map.Keys.{IsDistinct-push, sorted_from_strictly_increasing}
use Rattle.sqlite.specs.declared.types.Value.TheVariants.{Int, Text as Words}
use Rattle.sqlite.specs.Order.{Row}
use Rattle.delivery_machine.specs.State.{Author}
use Rattle.delivery_machine.specs.WellFormed.{AreGiven}
use Rattle.delivery_machine.proofs.Given.{given_pushed}
use Rattle.row_forms.specs.Forms.{author_row, author_rows}
use Rattle.row_reading.specs.Reading.{IsAuthorAt, IsReadableAuthor, ShowAuthors, put}
use Rattle.row_reading.proofs.Authors.{one_author}
use Rattle.row_reading.proofs.Nexts.{all_at}
use Rattle.row_reading.proofs.Orders.{cons_is}

abbrev pub index_of : Author → ℕ
index_of a = a.index

abbrev pub name_of : Author → List ℕ
name_of a = a.name

-- a producer's row without the topic
pub author_cells_are : (row : Row) (a : Author) → IsAuthorAt row a → row ≡ Int (pos a.index) ∷ Words a.name ∷ Int a.sequence ∷ []
author_cells_are row a shown = let here : Words [] ∷ row ≡ author_row [] a = shown [] in cc

pub author_moves : (topic : List ℕ) (row : Row) (a : Author) → Words topic ∷ row ≡ author_row topic a → IsAuthorAt row a
author_moves topic row a shown t = cc

pub shown_author : (row : Row) (a b : Author) → IsAuthorAt row a → IsAuthorAt row b → a ≡ b
shown_author row a b one other = one_author [] a b (sym (one []) ∙ other [])

-- ---- one more

pub authors_more : (topic : List ℕ) (rows : List Row) (i : ℕ) (row : Row) (authors : List Author) (a : Author) → i < length rows → row ≡ get_or rows i row → put topic (take i rows) ≡ author_rows topic authors → IsAuthorAt row a
    → put topic (take (i + 1) rows) ≡ author_rows topic (authors ++ a ∷ [])
authors_more topic rows i row authors a low is so_far shown =
    ap (put topic) (take_more rows i row low ∙ ap (λ r. take i rows ++ r ∷ []) (sym is))
    ∙ map-append (λ (r : Row). Words topic ∷ r) (take i rows) (row ∷ [])
    ∙ ap (λ l. l ++ (Words topic ∷ row) ∷ []) so_far
    ∙ ap (λ (r : Row). author_rows topic authors ++ r ∷ []) (shown topic)
    ∙ sym (map-append (author_row topic) authors (a ∷ []))

pub given_below : (least end : ℕ) (numbers : List ℕ) → least ≤ end → AreGiven least numbers → AreGiven end numbers
given_below least end numbers low given = record { rising = given.rising; below = All-weaker (λ n. n < least) (λ n. n < end) (λ n less. omega (arith, less, low)) numbers given.below }

pub given_more : (least : ℕ) (authors : List Author) (a : Author) → least ≤ a.index → AreGiven least (map index_of authors) → AreGiven (a.index + 1) (map index_of (authors ++ a ∷ []))
given_more least authors a low given = given_pushed index_of a.index authors a refl (given_below least a.index (map index_of authors) low given)

pub names_more : (authors : List Author) (a : Author) → IsDistinct bytes_eq (map name_of authors) → list_any (λ (x : Author). bytes_eq x.name a.name) authors ≡ false → IsDistinct bytes_eq (map name_of (authors ++ a ∷ []))
names_more authors a distinct new =
    subst (IsDistinct bytes_eq) (sym (map-append name_of authors (a ∷ []))) (IsDistinct-push nat_list_eq_equiv (map name_of authors) a.name distinct (turned authors ∙ new))
  where
    turned : (xs : List Author) → list_any (bytes_eq a.name) (map name_of xs) ≡ list_any (λ (x : Author). bytes_eq x.name a.name) xs
    turned [] = refl
    turned (x ∷ xs) = ap (λ b. b || list_any (bytes_eq a.name) (map name_of xs)) (nat_list_eq_equiv.symm a.name x.name) ∙ ap (λ b. bytes_eq x.name a.name || b) (turned xs)

-- ---- the next one

split_next : (topic : List ℕ) (done all : List Author) (row : Row) (rest : List Row) → author_rows topic done ++ row ∷ rest ≡ author_rows topic all → (a : Author) × (more : List Author) × (all ≡ done ++ a ∷ more) × (row ≡ author_row topic a)
split_next topic [] [] row rest e = absurd (cc)
split_next topic [] (x ∷ xs) row rest e = (x, xs, refl, cc)
split_next topic (y ∷ ys) [] row rest e = absurd (cc)
split_next topic (y ∷ ys) (x ∷ xs) row rest e =
    let first : author_row topic x ≡ author_row topic y = cc in
    let others : author_rows topic ys ++ row ∷ rest ≡ author_rows topic xs = cc in
    let n = split_next topic ys xs row rest others in
    (n.0, n.1, cons_is x y xs (ys ++ n.0 ∷ n.1) (one_author topic x y first) n.2, n.3)

-- the number is the least that is above the places of all
abbrev pub HasLeast : ℕ → List Author → Type 0
HasLeast least authors = (n : ℕ) → AllByRecursion (λ (a : Author). a.index < n) authors → least ≤ n

pub no_least : HasLeast 0 []
no_least n all = omega arith

pub least_more : (authors : List Author) (a : Author) → HasLeast (a.index + 1) (authors ++ a ∷ [])
least_more [] a n all = let below = all.0 in omega (arith, below)
least_more (x ∷ xs) a n all = least_more xs a n all.1

lower_before : (xs : List Author) (a : Author) (more : List Author) → IsStrictlySortedBy nat_cmp (map index_of (xs ++ a ∷ more)) → AllByRecursion (λ (x : Author). x.index < a.index) xs
unfolding IsStrictlySortedBy
lower_before [] a more rise = tt
lower_before (x ∷ xs) a more rise = (below xs rise.0, lower_before xs a more rise.1)
  where
    below : (ys : List Author) → AllByRecursion (λ n. nat_cmp x.index n ≡ Less) (map index_of (ys ++ a ∷ more)) → x.index < a.index
    below [] all = ranked x.index a.index Less (sym all.0)
    below (y ∷ ys) all = below ys all.1

unlike_before : (xs : List Author) (a : Author) (more : List Author) → IsDistinct bytes_eq (map name_of (xs ++ a ∷ more)) → list_any (λ (x : Author). bytes_eq x.name a.name) xs ≡ false
unfolding IsDistinct
unlike_before [] a more distinct = refl
unlike_before (x ∷ xs) a more distinct = ap (λ b. b || list_any (λ (y : Author). bytes_eq y.name a.name) xs) (unlike xs distinct.0) ∙ unlike_before xs a more distinct.1
  where
    unlike : (ys : List Author) → AllByRecursion (λ n. bytes_eq x.name n ≡ false) (map name_of (ys ++ a ∷ more)) → bytes_eq x.name a.name ≡ false
    unlike [] all = all.0
    unlike (y ∷ ys) all = unlike ys all.1

below_at : (gone : ℕ) (xs : List Author) (a : Author) (more : List Author) → AllByRecursion (λ n. n < gone) (map index_of (xs ++ a ∷ more)) → a.index < gone
below_at gone [] a more all = all.0
below_at gone (x ∷ xs) a more all = below_at gone xs a more all.1

-- the row shows a producer that may come next
pub record IsNextAuthor (gone least : ℕ) (row : Row) (authors : List Author) (a : Author) : Type 0 where
  pub readable : IsReadableAuthor a
  pub shown : IsAuthorAt row a
  pub above : least ≤ a.index
  pub below : a.index < gone
  pub new : list_any (λ (x : Author). bytes_eq x.name a.name) authors ≡ false

pub next_author : (gone least : ℕ) (topic : List ℕ) (rows : List Row) (i : ℕ) (row : Row) (authors all : List Author) → HasLeast least authors → ShowAuthors gone topic all rows → i < length rows → row ≡ get_or rows i row → put topic (take i rows) ≡ author_rows topic authors
    → (a : Author) × IsNextAuthor gone least row authors a
next_author gone least topic rows i row authors all has_least show low at so_far =
    let split : take i rows ++ row ∷ drop (suc i) rows ≡ rows = ap (λ (l : List Row). take i rows ++ l) (ap (λ (r : Row). r ∷ drop (suc i) rows) at ∙ sym (drop-cons rows i row low)) ∙ take-append-drop i rows in
    let whole : author_rows topic authors ++ (Words topic ∷ row) ∷ put topic (drop (suc i) rows) ≡ author_rows topic all =
    ap (λ l. l ++ (Words topic ∷ row) ∷ put topic (drop (suc i) rows)) (sym so_far) ∙ sym (map-append (λ (r : Row). Words topic ∷ r) (take i rows) (row ∷ drop (suc i) rows)) ∙ ap (put topic) split ∙ show.shown in
    let n = split_next topic authors all (Words topic ∷ row) (put topic (drop (suc i) rows)) whole in
    let a : Author = n.0 in
    let is : all ≡ authors ++ a ∷ n.1 = n.2 in (
      a,
      record {
        readable = all_at IsReadableAuthor authors a n.1 (subst (AllByRecursion IsReadableAuthor) is (recursion_from_All IsReadableAuthor all show.each));
        shown = author_moves topic row a n.3;
        above = has_least a.index (lower_before authors a n.1 (subst (λ xs. IsStrictlySortedBy nat_cmp (map index_of xs)) is (sorted_from_strictly_increasing (map index_of all) show.sound.indexes.rising)));
        below = below_at gone authors a n.1 (subst (λ xs. AllByRecursion (λ n. n < gone) (map index_of xs)) is (recursion_from_All (λ n. n < gone) (map index_of all) show.sound.indexes.below));
        new = unlike_before authors a n.1 (subst (λ xs. IsDistinct bytes_eq (map name_of xs)) is show.sound.names);
      },
    )
