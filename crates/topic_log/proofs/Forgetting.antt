-- The numbers agree with what is left where the first messages go.
use Rattle.std.proofs.Common.{◌≡◌, ℕ, suc, ◌+◌, ◌<◌, ◌≤◌, ◌^◌, List, [], ◌∷◌, ◌++◌, Bool, true, false, cond, Some, None, Option, map, length, take, drop, get_or, ◌-◌, drop-cons, append_assoc, length-drop, refl, ap, ap₂, sym, ◌∙◌, subst, arith, true≢false}
use Rattle.std.specs.Prelude.{nat_lt, nat_le, ◌||◌, is_some, if◌then◌else◌, nat_eq, codes}
use Rattle.std.specs.List.{AllByRecursion, IsDistinct, find, list_any, starts_with}
use Rattle.std.specs.Option.{option_map, option_map_or}
use Rattle.std.specs.Str.{bytes_eq}
use Rattle.std.specs.FinMap as map_of
use Rattle.std.specs.Cmp.Lexicographic.{nat_list_eq_equiv, nat_list_cmp_total}
use Rattle.std.proofs.lemmas.Map.Text.{is_eq-slice_cmp}
use Rattle.std.proofs.lemmas.List.{length-take, take-append-drop}
use Rattle.std.proofs.lemmas.Bool.Decides.{nat_tests}
use Rattle.position_core.specs.declared.message.Entry.{Entry}
use Rattle.delivery_machine.specs.State.{State, Author, fresh}
use Rattle.delivery_machine.specs.Words.{is_by, is_connected, signed}
use Rattle.delivery_machine.specs.Trimming.{is_author, is_lasting, not_forgotten, remembered, with_authors}
use Rattle.delivery_machine.specs.WellFormed.{AreAuthors}
use Rattle.delivery_machine.proofs.Behind.{same_name}
use Rattle.delivery_machine.proofs.Deciding.{or_false, both_false}
use Rattle.delivery_machine.proofs.Remembered.{name_of, authors_more, authors_trimmed}
use Rattle.delivery_machine.proofs.AuthorsFound.{found_alike, authors_append, either, reaches_messages}
use Rattle.dedup_core.specs.Sequences.{Numbers, AgreesWith, found, last_of}
use Rattle.dedup_core.specs.declared.table.LastNumber.{LastNumber}
use Rattle.entry_log.specs.Log.{Log, without_first}
use Rattle.topic_log.specs.Names.{AreGaps, is_written}
use Rattle.topic_log.specs.Written.{IsKept, Written, all_of, written_in}
use Rattle.topic_log.specs.Trimming.{AreSorted, IsRemembered, Remembered, forgotten, without_names}
use Rattle.topic_log.proofs.Free.{kept_afresh}

module _ (s : State) (stay : List Entry) where
  -- whoever is not forgotten is remembered as before
  pub remembered_still : (q : List ℕ) (authors : List Author) → list_any (bytes_eq q) (forgotten s stay authors) ≡ false → find (is_author q) (not_forgotten s stay authors) ≡ find (is_author q) authors
  remembered_still q [] none = refl
  remembered_still q (a ∷ authors) none = by (nat_lt (length authors) 4096 || is_lasting s stay a.name) none (remembered_still q authors)
    where
      by : (b : Bool) → list_any (bytes_eq q) (if b then forgotten s stay authors else a.name ∷ forgotten s stay authors) ≡ false
          → (list_any (bytes_eq q) (forgotten s stay authors) ≡ false → find (is_author q) (not_forgotten s stay authors) ≡ find (is_author q) authors)
          → find (is_author q) (if b then a ∷ not_forgotten s stay authors else not_forgotten s stay authors) ≡ find (is_author q) (a ∷ authors)
      by true none rest = ap (cond (is_author q a) (Some a)) (rest none)
      by false none rest =
          let apart = or_false (bytes_eq q a.name) (list_any (bytes_eq q) (forgotten s stay authors)) none in
          rest apart.1 ∙ sym (ap (λ b. cond b (Some a) (find (is_author q) authors)) (nat_list_eq_equiv.symm a.name q ∙ apart.0))

  -- nobody has the name
  abbrev Nobody : List ℕ → List Author → Type 0
  Nobody q authors = list_any (bytes_eq q) (map name_of authors) ≡ false

  nobody_kept : (q : List ℕ) (authors : List Author) → Nobody q authors → find (is_author q) (not_forgotten s stay authors) ≡ None
  nobody_kept q [] none = refl
  nobody_kept q (a ∷ authors) none =
      let apart = or_false (bytes_eq q a.name) (list_any (bytes_eq q) (map name_of authors)) none in
      by (nat_lt (length authors) 4096 || is_lasting s stay a.name) apart.0 (nobody_kept q authors apart.1)
    where
      by : (b : Bool) → bytes_eq q a.name ≡ false → find (is_author q) (not_forgotten s stay authors) ≡ None → find (is_author q) (if b then a ∷ not_forgotten s stay authors else not_forgotten s stay authors) ≡ None
      by true other rest = ap (λ c. cond c (Some a) (find (is_author q) (not_forgotten s stay authors))) (nat_list_eq_equiv.symm a.name q ∙ other) ∙ rest
      by false other rest = rest

  nobody_forgotten : (q : List ℕ) (authors : List Author) → Nobody q authors → list_any (bytes_eq q) (forgotten s stay authors) ≡ false
  nobody_forgotten q [] none = refl
  nobody_forgotten q (a ∷ authors) none =
      let apart = or_false (bytes_eq q a.name) (list_any (bytes_eq q) (map name_of authors)) none in
      by (nat_lt (length authors) 4096 || is_lasting s stay a.name) apart.0 (nobody_forgotten q authors apart.1)
    where
      by : (b : Bool) → bytes_eq q a.name ≡ false → list_any (bytes_eq q) (forgotten s stay authors) ≡ false → list_any (bytes_eq q) (if b then forgotten s stay authors else a.name ∷ forgotten s stay authors) ≡ false
      by true other rest = rest
      by false other rest = both_false (bytes_eq q a.name) (list_any (bytes_eq q) (forgotten s stay authors)) other rest

  -- where one has the name, no other has
  nobody_else : (a : Author) (authors : List Author) → AllByRecursion (λ n. bytes_eq a.name n ≡ false) (map name_of authors) → Nobody a.name authors
  nobody_else a [] apart = refl
  nobody_else a (x ∷ authors) apart = both_false (bytes_eq a.name x.name) (list_any (bytes_eq a.name) (map name_of authors)) apart.0 (nobody_else a authors apart.1)

  -- a name that is forgotten has no author and none of the messages
  pub as_new : (q : List ℕ) (authors : List Author) → IsDistinct bytes_eq (map name_of authors) → list_any (bytes_eq q) (forgotten s stay authors) ≡ true
      → (find (is_author q) (not_forgotten s stay authors) ≡ None) × (is_lasting s stay q ≡ false)
  unfolding IsDistinct
  as_new q [] distinct some = absurd (true≢false (sym some))
  as_new q (a ∷ authors) distinct some = by (nat_lt (length authors) 4096 || is_lasting s stay a.name) refl (bytes_eq q a.name) refl some (as_new q authors distinct.1)
    where
      others : bytes_eq q a.name ≡ true → Nobody q authors
      others this = subst (λ (m : List ℕ). Nobody m authors) (sym (same_name q a.name this)) (nobody_else a authors distinct.0)

      by : (b : Bool) → (nat_lt (length authors) 4096 || is_lasting s stay a.name) ≡ b → (c : Bool) → bytes_eq q a.name ≡ c
          → list_any (bytes_eq q) (if b then forgotten s stay authors else a.name ∷ forgotten s stay authors) ≡ true
          → (list_any (bytes_eq q) (forgotten s stay authors) ≡ true → (find (is_author q) (not_forgotten s stay authors) ≡ None) × (is_lasting s stay q ≡ false))
          → (find (is_author q) (if b then a ∷ not_forgotten s stay authors else not_forgotten s stay authors) ≡ None) × (is_lasting s stay q ≡ false)
      by true t true this some rest = absurd (true≢false (sym some ∙ nobody_forgotten q authors (others this)))
      by true t false other some rest =
          let new = rest some in
          (ap (λ c. cond c (Some a) (find (is_author q) (not_forgotten s stay authors))) (nat_list_eq_equiv.symm a.name q ∙ other) ∙ new.0, new.1)
      by false f true this some rest =
          (nobody_kept q authors (others this), ap (is_lasting s stay) (same_name q a.name this) ∙ (or_false (nat_lt (length authors) 4096) (is_lasting s stay a.name) f).1)
      by false f false other some rest = rest (sym (ap (λ c. c || list_any (bytes_eq q) (forgotten s stay authors)) other) ∙ some)

  -- ---- few authors

  few_more : (n : ℕ) → suc n ≤ 4096 → nat_lt n 4096 ≡ true
  few_more n few = grind (arith, nat_tests)

  pub few_kept : (authors : List Author) → length authors ≤ 4096 → not_forgotten s stay authors ≡ authors
  few_kept [] few = refl
  few_kept (a ∷ authors) few =
      ap (λ b. if b || is_lasting s stay a.name then a ∷ not_forgotten s stay authors else not_forgotten s stay authors) (few_more (length authors) few)
      ∙ ap (λ xs. a ∷ xs) (few_kept authors (omega (arith, few)))

  pub few_forgotten : (authors : List Author) → length authors ≤ 4096 → forgotten s stay authors ≡ []
  few_forgotten [] few = refl
  few_forgotten (a ∷ authors) few =
      ap (λ b. if b || is_lasting s stay a.name then forgotten s stay authors else a.name ∷ forgotten s stay authors) (few_more (length authors) few)
      ∙ few_forgotten authors (omega (arith, few))

  -- where no name is forgotten, all are remembered
  pub none_forgotten : (authors : List Author) → forgotten s stay authors ≡ [] → not_forgotten s stay authors ≡ authors
  none_forgotten [] none = refl
  none_forgotten (a ∷ authors) none = by (nat_lt (length authors) 4096 || is_lasting s stay a.name) none (none_forgotten authors)
    where
      by : (b : Bool) → (if b then forgotten s stay authors else a.name ∷ forgotten s stay authors) ≡ [] → (forgotten s stay authors ≡ [] → not_forgotten s stay authors ≡ authors)
          → (if b then a ∷ not_forgotten s stay authors else not_forgotten s stay authors) ≡ a ∷ authors
      by true none rest = ap (λ xs. a ∷ xs) (rest none)
      by false none rest = cc

pub not_few : (n : ℕ) → 4096 ≤ n → nat_lt n 4096 ≡ false
not_few n many = grind (arith, nat_tests)

first_of : (authors : List Author) (i : ℕ) (a : Author) → i < length authors → a ≡ get_or authors i a → drop i authors ≡ a ∷ drop (i + 1) authors
first_of authors i a low here =
    let one : suc i ≡ i + 1 = omega arith in
    drop-cons authors i a low ∙ ap (λ (n : ℕ). get_or authors i a ∷ drop n authors) one ∙ ap (λ (x : Author). x ∷ drop (i + 1) authors) (sym here)

-- one author further
module _ (s : State) (stay : List Entry) (authors : List Author) (i : ℕ) (a : Author) (low : i < length authors) (here : a ≡ get_or authors i a) (kept all : List Author) (names lost : List (List ℕ))
    (so_far : kept ++ not_forgotten s stay (drop i authors) ≡ all) (others : names ++ forgotten s stay (drop i authors) ≡ lost) where
  abbrev rest : List Author
  rest = drop (i + 1) authors

  next : drop i authors ≡ a ∷ rest
  next = first_of authors i a low here

  as_many : length rest ≡ length authors - i - 1
  as_many = let all = length-drop (i + 1) authors in omega (arith, all, low)

  stands : (b : Bool) → (nat_lt (length authors - i - 1) 4096 || is_lasting s stay a.name) ≡ b → (nat_lt (length rest) 4096 || is_lasting s stay a.name) ≡ b
  stands b is = ap (λ (n : ℕ). nat_lt n 4096 || is_lasting s stay a.name) as_many ∙ is

  pub one_kept : (nat_lt (length authors - i - 1) 4096 || is_lasting s stay a.name) ≡ true
      → ((kept ++ a ∷ []) ++ not_forgotten s stay rest ≡ all) × (names ++ forgotten s stay rest ≡ lost)
  one_kept is = (
    append_assoc kept (a ∷ []) (not_forgotten s stay rest) ∙ sym (ap (λ (xs : List Author). kept ++ not_forgotten s stay xs) next ∙ ap (λ b. kept ++ (if b then a ∷ not_forgotten s stay rest else not_forgotten s stay rest)) (stands true is)) ∙ so_far,
    sym (ap (λ (xs : List Author). names ++ forgotten s stay xs) next ∙ ap (λ b. names ++ (if b then forgotten s stay rest else a.name ∷ forgotten s stay rest)) (stands true is)) ∙ others,
  )

  pub one_lost : (nat_lt (length authors - i - 1) 4096 || is_lasting s stay a.name) ≡ false
      → (kept ++ not_forgotten s stay rest ≡ all) × ((names ++ a.name ∷ []) ++ forgotten s stay rest ≡ lost)
  one_lost is = (
    sym (ap (λ (xs : List Author). kept ++ not_forgotten s stay xs) next ∙ ap (λ b. kept ++ (if b then a ∷ not_forgotten s stay rest else not_forgotten s stay rest)) (stands false is)) ∙ so_far,
    append_assoc names (a.name ∷ []) (forgotten s stay rest) ∙ sym (ap (λ (xs : List Author). names ++ forgotten s stay xs) next ∙ ap (λ b. names ++ (if b then forgotten s stay rest else a.name ∷ forgotten s stay rest)) (stands false is)) ∙ others,
  )

-- ---- the numbers

pub get-without_names : (names : List (List ℕ)) (numbers : Numbers) (q : List ℕ) → map_of.get (without_names names numbers) q ≡ cond (list_any (bytes_eq q) names) None (map_of.get numbers q)
get-without_names [] numbers q = refl
get-without_names (name ∷ names) numbers q =
    map_of.get-remove nat_list_cmp_total (without_names names numbers) name q
    ∙ ap₂ (λ b (o : Option LastNumber). cond b None o) (is_eq-slice_cmp q name) (get-without_names names numbers q)
    ∙ by (bytes_eq q name)
  where
    by : (b : Bool) → cond b None (cond (list_any (bytes_eq q) names) None (map_of.get numbers q)) ≡ cond (b || list_any (bytes_eq q) names) None (map_of.get numbers q)
    by true = refl
    by false = refl

-- the last name first
pub without_last : (names : List (List ℕ)) (name : List ℕ) (numbers : Numbers) → without_names (names ++ name ∷ []) numbers ≡ without_names names (map_of.remove numbers name)
without_last [] name numbers = refl
without_last (first ∷ names) name numbers = ap (λ (m : Numbers). map_of.remove m first) (without_last names name numbers)

nothing : (o : Option Author) → is_some o ≡ false → o ≡ None
nothing None e = refl
nothing (Some a) e = absurd (true≢false e)

-- where the first messages go
module _ (gone : ℕ) (log : List Entry) (before : List Author) (n : ℕ) (within : n ≤ length log) (are : AreAuthors gone before) where
  abbrev stay : List Entry
  stay = drop n log

  abbrev authors : List Author
  authors = with_authors gone (take n log) before

  long : gone + length (take n log) ≡ gone + n
  long = let taken = length-take n log in omega (arith, taken, within)

  pub are_after : AreAuthors (gone + n) authors
  are_after = subst (λ (k : ℕ). AreAuthors k authors) long (authors_more gone (take n log) before are)

  -- the producers of all messages are those of the messages that stay, after those that go
  pub all_after : with_authors gone log before ≡ with_authors (gone + n) stay authors
  all_after =
      ap (λ (es : List Entry). with_authors gone es before) (sym (take-append-drop n log))
      ∙ authors_append gone (take n log) stay before
      ∙ ap (λ (k : ℕ). with_authors k stay authors) long

  -- one of the messages that stay has the name
  pub stays_by : (numbers : Numbers) (name : List ℕ) → AgreesWith (with_authors gone log before) numbers → option_map_or (λ m. nat_le (gone + n) m.index) (map_of.get numbers name) false ≡ list_any (is_by name) (map signed stay)
  stays_by numbers name agrees =
      ap (λ (o : Option LastNumber). option_map_or (λ m. nat_le (gone + n) m.index) o false) (agrees name ∙ ap (found name) all_after)
      ∙ by (find (is_author name) (with_authors (gone + n) stay authors))
      ∙ reaches_messages name (gone + n) stay authors are_after
    where
      by : (o : Option Author) → option_map_or (λ m. nat_le (gone + n) m.index) (option_map last_of o) false ≡ option_map_or (λ a. nat_le (gone + n) a.index) o false
      by None = refl
      by (Some a) = refl

-- where the first messages of a state go
module _ (s : State) (n : ℕ) (within : n < length s.log) (are : AreAuthors s.gone s.authors) where
  abbrev left : List Entry
  left = drop n s.log

  abbrev those : List Author
  those = with_authors s.gone (take n s.log) s.authors

  are_those : AreAuthors (s.gone + n) those
  are_those = are_after s.gone s.log s.authors n (omega (arith, within)) are

  pub agrees_after : (numbers : Numbers) → AgreesWith (with_authors s.gone s.log s.authors) numbers → AgreesWith (with_authors (s.gone + n) left (remembered n s)) (without_names (forgotten s left those) numbers)
  agrees_after numbers agrees q = get-without_names (forgotten s left those) numbers q ∙ by (list_any (bytes_eq q) (forgotten s left those)) refl
    where
      by : (b : Bool) → list_any (bytes_eq q) (forgotten s left those) ≡ b → cond b None (map_of.get numbers q) ≡ found q (with_authors (s.gone + n) left (remembered n s))
      by true some =
          let new = as_new s left q those are_those.names some in
          let none = (or_false (is_connected s q || starts_with nat_eq q (codes "dlq/")) (list_any (is_by q) (map signed left)) new.1).1 in
          sym (ap (option_map last_of) (nothing (find (is_author q) (with_authors (s.gone + n) left (remembered n s)))
          (either q (s.gone + n) left (remembered n s) (authors_trimmed s n within are) ∙ both_false (is_some (find (is_author q) (remembered n s))) (list_any (is_by q) (map signed left)) (ap is_some new.0) none)))
      by false none =
          agrees q
          ∙ ap (λ (xs : List Author). found q xs) (all_after s.gone s.log s.authors n (omega (arith, within)) are)
          ∙ sym (ap (option_map last_of) (found_alike q (s.gone + n) left (remembered n s) those (authors_trimmed s n within are) are_those (remembered_still s left q those none)))

-- few authors are all remembered
pub few_sorted : (w : Written) (stay : List Entry) (kept authors : List Author) (names : List (List ℕ)) → kept ≡ authors → names ≡ [] → length kept ≤ 4096 → AreSorted w stay authors (record { authors = kept; forgotten = names })
few_sorted w stay kept authors names is none few =
    let few_authors : length authors ≤ 4096 = subst (λ (xs : List Author). length xs ≤ 4096) is few in
    record {
      remembered = λ s. is ∙ sym (few_kept (written_in w s) stay authors few_authors);
      others = λ s. none ∙ sym (few_forgotten (written_in w s) stay authors few_authors);
    }

-- the same, told by equal parts
pub same_kept : (g h : ℕ) (xs ys : List Author) (log : List Entry) (d e f k : ℕ) (ps qs : List ℕ) → h ≡ g → ys ≡ xs → e ≡ d → k ≡ f → qs ≡ ps → IsKept g xs log d f ps → IsKept h ys log e k qs
same_kept g h xs ys log d e f k ps qs same_gone same_authors same_durable same_first same_gaps kept =
    subst (λ (x : ℕ). IsKept x ys log e k qs) (sym same_gone)
    (subst (λ (x : List Author). IsKept g x log e k qs) (sym same_authors)
    (subst (λ (x : ℕ). IsKept g xs log x k qs) (sym same_durable)
    (subst (λ (x : ℕ). IsKept g xs log d x qs) (sym same_first)
    (subst (λ (x : List ℕ). IsKept g xs log d f x) (sym same_gaps) kept))))

pub empty_is : {A : Type 0} (xs : List A) → length xs ≡ 0 → xs ≡ []
empty_is [] none = refl
empty_is (x ∷ xs) none = absurd (omega (arith, none))

-- a state like any other
somewhere : State
somewhere = fresh (record { tenant = []; namespace = []; topic = [] }) 1

module _ (w : Written) (count : ℕ) (r : Remembered) (are : AreAuthors w.gone w.authors) (within : count < length w.log.log) (is : IsRemembered w count r) where
  pub agrees_trimmed : (new : Numbers) (log : Log) → AgreesWith (all_of w) w.numbers → log ≡ without_first count w.log → new ≡ without_names r.forgotten w.numbers → AgreesWith (with_authors (w.gone + count) log.log r.authors) new
  agrees_trimmed new log agrees left without =
      let s = written_in w somewhere in
      let gone : AgreesWith (with_authors (w.gone + count) (drop count w.log.log) r.authors) (without_names r.forgotten w.numbers) =
      subst (λ (xs : List Author). AgreesWith (with_authors (w.gone + count) (drop count w.log.log) xs) (without_names r.forgotten w.numbers)) (sym (is.remembered somewhere))
      (subst (λ (names : List (List ℕ)). AgreesWith (with_authors (w.gone + count) (drop count w.log.log) (remembered count s)) (without_names names w.numbers)) (sym (is.others somewhere)) (agrees_after s count within are w.numbers agrees)) in
      subst (λ (q : Log). AgreesWith (with_authors (w.gone + count) q.log r.authors) new) (sym left) (subst (AgreesWith (with_authors (w.gone + count) (drop count w.log.log) r.authors)) (sym without) gone)

  pub are_remembered : AreAuthors (w.gone + count) r.authors
  are_remembered = subst (AreAuthors (w.gone + count)) (sym (is.remembered somewhere)) (authors_trimmed (written_in w somewhere) count within are)

  pub still_all : r.forgotten ≡ [] → all_of w ≡ with_authors (w.gone + count) (drop count w.log.log) r.authors
  still_all none =
      let mid = with_authors w.gone (take count w.log.log) w.authors in
      let all : r.authors ≡ mid = is.remembered somewhere ∙ none_forgotten (written_in w somewhere) (drop count w.log.log) mid (sym (is.others somewhere) ∙ none) in
      all_after w.gone w.log.log w.authors count (omega (arith, within)) are ∙ ap (with_authors (w.gone + count) (drop count w.log.log)) (sym all)

  pub kept_trimmed : (durable first : ℕ) (gaps : List ℕ) (log : Log) → IsKept w.gone w.authors w.log.log durable first gaps → w.gone + count ≤ 2 ^ 62 → log ≡ without_first count w.log → r.forgotten ≡ [] → IsKept (w.gone + count) r.authors log.log (durable - count) first gaps
  kept_trimmed durable first gaps log kept room left none = subst (λ (q : Log). IsKept (w.gone + count) r.authors q.log (durable - count) first gaps) (sym left) (record {
    stored = let shorter = length-drop count w.log.log in let stored = kept.stored in omega (arith, shorter, stored);
    room = room;
    remembered = are_remembered;
    names = subst (λ (xs : List Author). AreGaps (is_written xs) first gaps) (still_all none) kept.names;
  })

  pub kept_anew : (durable : ℕ) (gaps : List ℕ) (log : Log) → durable ≤ length w.log.log → w.gone + count ≤ 2 ^ 62 → log ≡ without_first count w.log → gaps ≡ [] → IsKept (w.gone + count) r.authors log.log (durable - count) 0 gaps
  kept_anew durable gaps log stored room left none =
      let shorter = length-drop count w.log.log in
      subst (λ (q : Log). IsKept (w.gone + count) r.authors q.log (durable - count) 0 gaps) (sym left) (kept_afresh (w.gone + count) r.authors (drop count w.log.log) (durable - count) gaps (omega (arith, shorter, stored)) room are_remembered none)
