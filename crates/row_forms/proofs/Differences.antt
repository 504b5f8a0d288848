-- Differences of lists of rows: put one after another, and begun with one row.
use Rattle.std.proofs.Common.{◌≡◌, ℕ, List, [], ◌∷◌, ◌++◌, map, ap, sym, subst, ◌∙◌, append_assoc, append-nil}
use Rattle.std.specs.Prelude.{IsPermutation}
use Rattle.std.specs.Prelude.{Vec, Result, Ok, Err, OnOk}
use Rattle.std.specs.declared.alloc.Global.{Global}
use Rattle.std.proofs.lemmas.Result.{on_ok_weaker}
use Rattle.std.proofs.lemmas.List.{map-append}
use Rattle.std.proofs.lemmas.List.Sorted.{IsPermutation-refl, IsPermutation-trans, IsPermutation-append, IsPermutation-append_left, IsPermutation-append_right, IsPermutation-append_comm}
use Rattle.sqlite.specs.Order.{Row}
use Rattle.row_forms.specs.Changes.{IsDifference}
use Rattle.row_forms.specs.declared.change.Difference.{Difference}
use Rattle.row_forms.specs.Parts.{Extends}

swapped : (b c : List Row) → IsPermutation (b ++ c) (c ++ b)
swapped b c = IsPermutation-append_comm b c

-- four parts, of which the inner two change places
shuffled : (a b c d : List Row) → IsPermutation ((a ++ c) ++ (b ++ d)) ((a ++ b) ++ (c ++ d))
shuffled a b c d =
    let inner : IsPermutation (c ++ (b ++ d)) (b ++ (c ++ d)) =
    subst (λ l. IsPermutation l (b ++ (c ++ d))) (append_assoc c b d)
    (subst (λ l. IsPermutation ((c ++ b) ++ d) l) (append_assoc b c d) (IsPermutation-append_left d (c ++ b) (b ++ c) (swapped c b))) in
    subst (λ l. IsPermutation l ((a ++ b) ++ (c ++ d))) (sym (append_assoc a c (b ++ d)))
    (subst (λ l. IsPermutation (a ++ (c ++ (b ++ d))) l) (sym (append_assoc a b (c ++ d))) (IsPermutation-append_right a (c ++ (b ++ d)) (b ++ (c ++ d)) inner))

joined_parts : (a b c d xs ys : List Row) → IsPermutation (a ++ b) xs → IsPermutation (c ++ d) ys → IsPermutation ((a ++ c) ++ (b ++ d)) (xs ++ ys)
joined_parts a b c d xs ys p q = IsPermutation-trans _ _ _ (shuffled a b c d) (IsPermutation-append (a ++ b) xs (c ++ d) ys p q)

pub difference-append : (olds news gone more olds2 news2 gone2 more2 : List Row) → IsDifference olds news gone more → IsDifference olds2 news2 gone2 more2
    → IsDifference (olds ++ olds2) (news ++ news2) (gone ++ gone2) (more ++ more2)
difference-append olds news gone more olds2 news2 gone2 more2 h k = (
  h.0 ++ k.0,
  joined_parts gone h.0 gone2 k.0 olds olds2 h.1 k.1,
  joined_parts more h.0 more2 k.0 news news2 h.2 k.2,
)

-- nothing goes and nothing comes
pub difference-none : (rows : List Row) → IsDifference rows rows [] []
difference-none rows = (rows, IsPermutation-refl rows, IsPermutation-refl rows)

-- all goes, and all comes
pub difference-all : (olds news : List Row) → IsDifference olds news olds news
difference-all olds news =
    let all = λ (l : List Row). subst (λ k. IsPermutation k l) (sym (append-nil l)) (IsPermutation-refl l) in
    ([], all olds, all news)

pub one_goes : (old row : Row) → row ≡ old → IsDifference (old ∷ []) [] (row ∷ []) []
one_goes old row is = subst (λ r. IsDifference (old ∷ []) [] (r ∷ []) []) (sym is) (difference-all (old ∷ []) [])

pub one_comes : (new row : Row) → row ≡ new → IsDifference [] (new ∷ []) [] (row ∷ [])
one_comes new row is = subst (λ r. IsDifference [] (new ∷ []) [] (r ∷ [])) (sym is) (difference-all [] (new ∷ []))

pub one_becomes : (old new row row2 : Row) → row ≡ old → row2 ≡ new → IsDifference (old ∷ []) (new ∷ []) (row ∷ []) (row2 ∷ [])
one_becomes old new row row2 is is2 =
    subst (λ r. IsDifference (old ∷ []) (new ∷ []) (r ∷ []) (row2 ∷ [])) (sym is) (subst (λ r. IsDifference (old ∷ []) (new ∷ []) (old ∷ []) (r ∷ [])) (sym is2) (difference-all (old ∷ []) (new ∷ [])))

pub one_stays : (old new : Row) → old ≡ new → IsDifference (old ∷ []) (new ∷ []) [] []
one_stays old new is = subst (λ r. IsDifference (old ∷ []) (r ∷ []) [] []) is (difference-none (old ∷ []))

-- ---- a change that is extended

-- rows that a function of a list gives one after another
abbrev pub IsJoined : {B : Type 0} → (List ℕ → List B → List Row) → Type 0
IsJoined {B} rows = (topic : List ℕ) (first second : List B) → rows topic (first ++ second) ≡ rows topic first ++ rows topic second

module _ {A B : Type 0} (cells : List ℕ → A → Row) (was now : List ℕ → List B → List Row) where
  -- by parts of which the difference is known
  extends_by : (d e : Difference A) (olds news : List B) (gone more : List A) → e.gone.items ≡ d.gone.items ++ gone → e.news.items ≡ d.news.items ++ more
      → ((topic : List ℕ) → IsDifference (was topic olds) (now topic news) (map (cells topic) gone) (map (cells topic) more)) → Extends cells was now olds news d e
  extends_by d e olds news gone more gone_is more_is last topic rows others h =
      rw (gone_is, more_is, map-append (cells topic) d.gone.items gone, map-append (cells topic) d.news.items more)
      (difference-append rows others _ _ (was topic olds) (now topic news) _ _ h (last topic))

  pub nothing_more : (d : Difference A) → ((topic : List ℕ) → was topic [] ≡ []) → ((topic : List ℕ) → now topic [] ≡ []) → Extends cells was now [] [] d d
  nothing_more d old new topic rows others h = rw (old topic, new topic, append-nil rows, append-nil others) h

  -- one after another
  pub extends-append : IsJoined was → IsJoined now → (d e f : Difference A) (olds news olds2 news2 : List B) → Extends cells was now olds news d e → Extends cells was now olds2 news2 e f
      → Extends cells was now (olds ++ olds2) (news ++ news2) d f
  extends-append joins joins2 d e f olds news olds2 news2 first second topic rows others h =
      rw (joins topic olds olds2, joins2 topic news news2, ← append_assoc rows (was topic olds) (was topic olds2), ← append_assoc others (now topic news) (now topic news2))
      (second topic (rows ++ was topic olds) (others ++ now topic news) (first topic rows others h))

  -- from nothing to all
  pub extends_in_all : (d e : Difference A) (all others olds news : List B) → d.gone.items ≡ [] → d.news.items ≡ [] → olds ≡ all → news ≡ others → Extends cells was now olds news d e
      → (topic : List ℕ) → IsDifference (was topic all) (now topic others) (map (cells topic) e.gone.items) (map (cells topic) e.news.items)
  extends_in_all d e all others olds news gone more whole rest h topic =
      rw (← whole, ← rest) (h topic [] [] (rw (gone, more) (difference-none [])))

-- by things with a row each
abbrev pub ExtendsOne : {A B : Type 0} → (List ℕ → A → Row) → (List ℕ → B → Row) → (List ℕ → B → Row) → List B → List B → Difference A → Difference A → Type 0
ExtendsOne cells was now = Extends cells (λ topic. map (was topic)) (λ topic. map (now topic))

module _ {A B E : Type 0} (cells : List ℕ → A → Row) (was now : List ℕ → B → Row) where
  pub goes : (d e : Difference A) (old : B) (row : A) (r : Result (Unit {0}) E) → OnOk r (e.gone.items ≡ d.gone.items ++ row ∷ []) → e.news ≡ d.news → ((topic : List ℕ) → cells topic row ≡ was topic old)
      → OnOk r (ExtendsOne cells was now (old ∷ []) [] d e)
  goes d e old row r gone news is =
      on_ok_weaker r (λ more.
      extends_by cells (λ topic. map (was topic)) (λ topic. map (now topic)) d e (old ∷ []) [] (row ∷ []) [] more (ap (λ (v : Vec A Global). v.items) news ∙ sym (append-nil d.news.items))
      (λ topic. one_goes (was topic old) (cells topic row) (is topic))) gone

  pub comes : (d e : Difference A) (new : B) (row : A) (r : Result (Unit {0}) E) → e.gone ≡ d.gone → OnOk r (e.news.items ≡ d.news.items ++ row ∷ []) → ((topic : List ℕ) → cells topic row ≡ now topic new)
      → OnOk r (ExtendsOne cells was now [] (new ∷ []) d e)
  comes d e new row r gone news is =
      on_ok_weaker r (λ more.
      extends_by cells (λ topic. map (was topic)) (λ topic. map (now topic)) d e [] (new ∷ []) [] (row ∷ []) (ap (λ (v : Vec A Global). v.items) gone ∙ sym (append-nil d.gone.items)) more
      (λ topic. one_comes (now topic new) (cells topic row) (is topic))) news

  pub becomes : (d e : Difference A) (old new : B) (row row2 : A) (r : Result (Unit {0}) E) → OnOk r (e.gone.items ≡ d.gone.items ++ row ∷ []) → OnOk r (e.news.items ≡ d.news.items ++ row2 ∷ [])
      → ((topic : List ℕ) → cells topic row ≡ was topic old) → ((topic : List ℕ) → cells topic row2 ≡ now topic new) → OnOk r (ExtendsOne cells was now (old ∷ []) (new ∷ []) d e)
  becomes d e old new row row2 (Ok x) gone news is is2 =
      extends_by cells (λ topic. map (was topic)) (λ topic. map (now topic)) d e (old ∷ []) (new ∷ []) (row ∷ []) (row2 ∷ []) gone news
      (λ topic. one_becomes (was topic old) (now topic new) (cells topic row) (cells topic row2) (is topic) (is2 topic))
  becomes d e old new row row2 (Err x) gone news is is2 = tt

module _ {A B : Type 0} (cells : List ℕ → A → Row) (was now : List ℕ → B → Row) where
  pub stays : (d : Difference A) (old new : B) → ((topic : List ℕ) → was topic old ≡ now topic new) → Extends cells (λ topic. map (was topic)) (λ topic. map (now topic)) (old ∷ []) (new ∷ []) d d
  stays d old new same =
      extends_by cells (λ topic. map (was topic)) (λ topic. map (now topic)) d d (old ∷ []) (new ∷ []) [] [] (sym (append-nil d.gone.items)) (sym (append-nil d.news.items))
      (λ topic. one_stays (was topic old) (now topic new) (same topic))
