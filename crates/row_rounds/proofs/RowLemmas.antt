-- What becomes of the rows of one topic and of the others where rows go and come.
use Rattle.std.proofs.Common.{◌≡◌, ◌≢◌, inl, inr, ℕ, ◌+◌, Bool, true, false, not, List, [], ◌∷◌, ◌++◌, map, filter, refl, sym, ap, subst, ◌∙◌, append-nil, append_assoc}
use Rattle.std.specs.Prelude.{◌&&◌}
use Rattle.std.specs.List.{AllByRecursion}
use Rattle.std.specs.List.Sorted.{IsPermutation}
use Rattle.std.proofs.lemmas.Bool.{cases_Bool}
use Rattle.std.proofs.lemmas.List.Sorted.{IsPermutation-refl, IsPermutation-sym, IsPermutation-trans, IsPermutation-append_right, IsPermutation-append_left, IsPermutation-append_comm, IsPermutation-filter_both, All-permutation}
use Rattle.std.proofs.lemmas.List.Elements.{All-from_recursion, recursion_from_All}
use Rattle.sqlite_trees.proofs.ListLemmas.{IsPermutation-filter, IsPermutation-same, all_of, filter_same, all_weaker, filter_all, filter_none, filter-filter}
use Rattle.sqlite.specs.Order.{Row, column}
use Rattle.sqlite.specs.declared.types.Value.TheVariants.{Text}
use Rattle.position_core.specs.declared.message.Entry.{Entry}
use Rattle.row_forms.specs.Cells.{is_of, of_topic, but_topic}
use Rattle.row_forms.specs.Forms.{entry_rows}
use Rattle.row_forms.specs.Changes.{IsDifference}
use Rattle.row_tables.proofs.TableLemmas.{text_is, text_same, filter_twice}

abbrev pub AreOf : List ℕ → List Row → Type 0
AreOf topic rows = AllByRecursion (λ r. is_of topic r ≡ true) rows

-- the topic's rows are these; those of other topics are as they were
abbrev pub Becomes : List ℕ → List Row → List Row → List Row → Type 0
Becomes topic news old new = IsPermutation news (of_topic topic new) × ((name : List ℕ) → name ≢ topic → IsPermutation (of_topic name old) (of_topic name new))

never_two : (topic other : List ℕ) (r : Row) → other ≢ topic → is_of topic r ≡ true → is_of other r ≡ false
never_two topic other r apart h = elim (cases_Bool (is_of other r)) [
  | inl too ↦ absurd (apart (same_text (sym (text_is (column r 0) other too) ∙ text_is (column r 0) topic h)))
  | inr other_is ↦ other_is
]
  where
    same_text : Text other ≡ Text topic → other ≡ topic
    same_text e = cc

filter-append : {A : Type 0} (p : A → Bool) (xs ys : List A) → filter p (xs ++ ys) ≡ filter p xs ++ filter p ys
filter-append p [] ys = refl
filter-append p (x ∷ xs) ys = elim (cases_Bool (p x)) [ inl e ↦ rw (e, filter-append p xs ys) | inr e ↦ rw (e, filter-append p xs ys) ]

module _ (topic : List ℕ) (news rows : List Row) (own : AreOf topic news) where
  added_own : of_topic topic (news ++ rows) ≡ news ++ of_topic topic rows
  added_own = filter-append (is_of topic) news rows ∙ ap (λ xs. xs ++ of_topic topic rows) (filter_all (is_of topic) news own)

  added_other : (other : List ℕ) → other ≢ topic → of_topic other (news ++ rows) ≡ of_topic other rows
  added_other other apart = filter-append (is_of other) news rows
      ∙ ap (λ xs. xs ++ of_topic other rows) (filter_none (is_of other) news (all_weaker (λ r. is_of topic r ≡ true) (λ r. is_of other r ≡ false) (λ r h. never_two topic other r apart h) news own))

cleared_own : (topic : List ℕ) (rows : List Row) → of_topic topic (but_topic topic rows) ≡ []
cleared_own topic rows = filter_twice (is_of topic) (λ r. not (is_of topic r)) rows ∙ filter_none (λ r. not (is_of topic r) && is_of topic r) rows (all_of _ (λ r. never (is_of topic r)) rows)
  where
    never : (b : Bool) → (not b && b) ≡ false
    never true = refl
    never false = refl

cleared_other : (topic : List ℕ) (rows : List Row) (other : List ℕ) → other ≢ topic → of_topic other (but_topic topic rows) ≡ of_topic other rows
cleared_other topic rows other apart = filter-filter (is_of other) (λ r. not (is_of topic r)) (λ r h. ap not (never_two other topic r (λ e. apart (sym e)) h)) rows

-- ---- rows of the topic

pub own_mapped : {R : Type 0} (topic : List ℕ) (f : R → Row) → ((r : R) → is_of topic (f r) ≡ true) → (rs : List R) → AreOf topic (map f rs)
own_mapped topic f own [] = tt
own_mapped topic f own (r ∷ rs) = (own r, own_mapped topic f own rs)

pub own_entries : (topic : List ℕ) (from : ℕ) (log : List Entry) → AreOf topic (entry_rows topic from log)
own_entries topic from [] = tt
own_entries topic from (e ∷ log) = (text_same topic, own_entries topic (from + 1) log)

own_front : (topic : List ℕ) (xs ys : List Row) → AreOf topic xs → AreOf topic ys → AreOf topic (xs ++ ys)
own_front topic [] ys p q = q
own_front topic (x ∷ xs) ys p q = (p.0, own_front topic xs ys p.1 q)

own_back : (topic : List ℕ) (xs ys : List Row) → AreOf topic (xs ++ ys) → AreOf topic ys
own_back topic [] ys p = p
own_back topic (x ∷ xs) ys p = own_back topic xs ys p.1

-- ---- one table

-- beside the others' rows stand rows of the topic
around : (topic : List ℕ) (news old new : List Row) → AreOf topic news → IsPermutation (news ++ but_topic topic old) new → Becomes topic news old new
around topic news old new own all = (
  subst (λ r. IsPermutation r (of_topic topic new)) (added_own topic news (but_topic topic old) own ∙ ap (λ r. news ++ r) (cleared_own topic old) ∙ append-nil news) (IsPermutation-filter (is_of topic) _ _ all),
  λ name apart. subst (λ r. IsPermutation r (of_topic name new)) (added_other topic news (but_topic topic old) own name apart ∙ cleared_other topic old name apart) (IsPermutation-filter (is_of name) _ _ all),
)

pub becomes_none : (topic : List ℕ) (old new : List Row) → new ≡ but_topic topic old → Becomes topic [] old new
becomes_none topic old new is = around topic [] old new tt (subst (IsPermutation (but_topic topic old)) (sym is) (IsPermutation-refl _))

pub becomes_these : (topic : List ℕ) (news old mid new : List Row) → AreOf topic news → mid ≡ but_topic topic old → IsPermutation (news ++ mid) new → Becomes topic news old new
becomes_these topic news old mid new own is all = around topic news old new own (subst (λ r. IsPermutation (news ++ r) new) is all)

pub becomes_same : (topic : List ℕ) (had rows : List Row) → IsPermutation had (of_topic topic rows) → Becomes topic had rows rows
becomes_same topic had rows h = (h, λ name apart. IsPermutation-refl _)

-- ---- the rows of the topic beside the others

own_permuted : (topic : List ℕ) (xs rows : List Row) → IsPermutation xs (of_topic topic rows) → AreOf topic xs
own_permuted topic xs rows same =
    let P = λ (r : Row). is_of topic r ≡ true in
    recursion_from_All P xs (All-permutation P (of_topic topic rows) xs (IsPermutation-sym _ _ same) (All-from_recursion P (of_topic topic rows) (all_pass rows)))
  where
    all_pass : (rs : List Row) → AreOf topic (of_topic topic rs)
    all_pass [] = tt
    all_pass (r ∷ rs) = elim (cases_Bool (is_of topic r)) [ inl e ↦ rw e (e, all_pass rs) | inr e ↦ rw e (all_pass rs) ]

-- some of the topic's rows go, and rows of it come
pub becomes_by : (topic : List ℕ) (olds news gone more : List Row) → AreOf topic more → IsDifference olds news gone more → (old new : List Row) → IsPermutation olds (of_topic topic old)
    → ((stay : List Row) → IsPermutation (gone ++ stay) old → IsPermutation (more ++ stay) new) → Becomes topic news old new
becomes_by topic olds news gone more own d old new had swaps =
    let stay = d.0 in
    let rest = but_topic topic old in
    let was : IsPermutation (gone ++ stay) (of_topic topic old) = IsPermutation-trans _ _ _ d.1 had in
    let stay_own : AreOf topic stay = own_back topic gone stay (own_permuted topic (gone ++ stay) old was) in
    let whole : IsPermutation ((gone ++ stay) ++ rest) old = IsPermutation-trans _ _ _ (IsPermutation-append_left rest (gone ++ stay) (of_topic topic old) was) (IsPermutation-sym _ _ (IsPermutation-filter_both (is_of topic) (λ r. not (is_of topic r)) (λ r. refl) old)) in
    let all : IsPermutation (more ++ (stay ++ rest)) new = swaps (stay ++ rest) (subst (λ l. IsPermutation l old) (append_assoc gone stay rest) whole) in
    let b = around topic (more ++ stay) old new (own_front topic more stay own stay_own) (subst (λ l. IsPermutation l new) (sym (append_assoc more stay rest)) all) in
    (IsPermutation-trans _ _ _ (IsPermutation-sym _ _ d.2) b.0, b.1)

-- rows of the topic come
pub becomes_more : (topic : List ℕ) (olds more : List Row) → AreOf topic more → (old new : List Row) → IsPermutation olds (of_topic topic old) → IsPermutation (more ++ old) new → Becomes topic (olds ++ more) old new
becomes_more topic olds more own old new had adds = becomes_by topic olds (olds ++ more) [] more own (olds, IsPermutation-refl olds, IsPermutation-append_comm more olds) old new had
    (λ stay same. IsPermutation-trans _ _ _ (IsPermutation-append_right more stay old same) adds)

-- the rows of the topic that pass a test leave
pub becomes_cut : (topic : List ℕ) (p : Row → Bool) (olds old new : List Row) → IsPermutation olds (of_topic topic old) → new ≡ filter (λ r. not (is_of topic r && p r)) old → Becomes topic (filter (λ r. not (p r)) olds) old new
becomes_cut topic p olds old new had is = (
  subst (IsPermutation (filter (λ r. not (p r)) olds)) (sym own) (IsPermutation-filter (λ r. not (p r)) olds (of_topic topic old) had),
  λ name apart. IsPermutation-same (of_topic name old) (of_topic name new) (sym (other name apart)),
)
  where
    both : (a b : Bool) → (not (a && b) && a) ≡ (a && not b)
    both true true = refl
    both true false = refl
    both false b = refl

    own : of_topic topic new ≡ filter (λ r. not (p r)) (of_topic topic old)
    own = ap (of_topic topic) is ∙ filter_twice (is_of topic) (λ r. not (is_of topic r && p r)) old ∙ filter_same _ _ old (all_of _ (λ r. both (is_of topic r) (p r)) old) ∙ sym (filter_twice (λ r. not (p r)) (is_of topic) old)

    spared : (name : List ℕ) → name ≢ topic → (r : Row) → is_of name r ≡ true → not (is_of topic r && p r) ≡ true
    spared name apart r h = ap (λ b. not (b && p r)) (never_two name topic r (λ e. apart (sym e)) h)

    other : (name : List ℕ) → name ≢ topic → of_topic name new ≡ of_topic name old
    other name apart = ap (of_topic name) is ∙ filter-filter (is_of name) (λ r. not (is_of topic r && p r)) (spared name apart) old

-- what became of a topic's rows in one step and then in another
pub becomes_then : (topic : List ℕ) (had news old mid new : List Row) → Becomes topic had old mid → Becomes topic news mid new → Becomes topic news old new
becomes_then topic had news old mid new p q = (q.0, λ name apart. IsPermutation-trans _ _ _ (p.1 name apart) (q.1 name apart))
