-- The last numbers under each name stay where the first messages go.
use Rattle.std.proofs.Common.{◌≡◌, ℕ, ◌+◌, List, [], ◌∷◌, ◌++◌, map, take, drop, length, Some, None, Option, Bool, true, false, cond, refl, ap, ap₂, ◌∙◌, sym, subst, arith, ◌⊎◌, inl, inr, true≢false}
use Rattle.std.specs.Prelude.{◌||◌, nat_lt, nat_eq, codes, if◌then◌else◌, ℤ}
use Rattle.std.specs.List.{AllByRecursion, IsDistinct, filter, find, list_any, starts_with}
use Rattle.std.specs.Option.{option_map, option_map_or, unwrap_or}
use Rattle.std.specs.Int.{int_max}
use Rattle.std.specs.Str.{bytes_eq}
use Rattle.std.proofs.lemmas.List.{map-append, take-append-drop}
use Rattle.std.proofs.lemmas.Int.{ints, clamps}
use Rattle.position_core.specs.declared.message.Entry.{Entry}
use Rattle.delivery_machine.specs.State.{State, Author}
use Rattle.delivery_machine.specs.Words.{is_connected, Signed, signed, signed_by, known, is_by, greatest, greatest_under, removed}
use Rattle.delivery_machine.specs.Trimming.{is_author, with_author, with_authors, is_lasting, not_forgotten, remembered}
use Rattle.delivery_machine.specs.WellFormed.{AreAuthors}
use Rattle.delivery_machine.proofs.Behind.{same_name, is_same_name}
use Rattle.delivery_machine.proofs.Deciding.{or_false}
use Rattle.delivery_machine.proofs.Remembered.{name_of, authors_one, authors_more}

-- ---- the greater of two, if there are any

abbrev pub merge : Option ℤ → Option ℤ → Option ℤ
merge None o = o
merge (Some a) o = Some (option_map_or (int_max a) o a)

max_max : (a b c : ℤ) → int_max a (int_max b c) ≡ int_max (int_max a b) c
max_max a b c = omega (arith, ints, clamps)

merge_merge : (o p q : Option ℤ) → merge o (merge p q) ≡ merge (merge o p) q
merge_merge None p q = refl
merge_merge (Some a) None q = refl
merge_merge (Some a) (Some b) None = refl
merge_merge (Some a) (Some b) (Some c) = ap Some (max_max a b c)

merge_none : (o : Option ℤ) → merge o None ≡ o
merge_none None = refl
merge_none (Some a) = refl

module _ (name : List ℕ) where
  abbrev top : List Signed → Option ℤ
  top numbers = greatest_under name numbers

  top_cons : (n : Signed) (ns : List Signed) → top (n ∷ ns) ≡ merge (top (n ∷ [])) (top ns)
  top_cons n ns = by (is_by name n)
    where
      by : (b : Bool) → greatest (map (λ n. n.sequence) (if b then n ∷ filter (is_by name) ns else filter (is_by name) ns)) ≡ merge (greatest (map (λ n. n.sequence) (if b then n ∷ [] else []))) (top ns)
      by true = refl
      by false = refl

  pub top_append : (xs ys : List Signed) → top (xs ++ ys) ≡ merge (top xs) (top ys)
  top_append [] ys = refl
  top_append (x ∷ xs) ys =
      top_cons x (xs ++ ys) ∙ ap (merge (top (x ∷ []))) (top_append xs ys) ∙ merge_merge (top (x ∷ [])) (top xs) (top ys) ∙ ap (λ o. merge o (top ys)) (sym (top_cons x xs))

  top_beside : (n : Signed) → bytes_eq n.name name ≡ false → top (n ∷ []) ≡ None
  top_beside n other = ap (λ b. greatest (map (λ (n : Signed). n.sequence) (if b then n ∷ [] else []))) other

  top_of : (n : Signed) → bytes_eq n.name name ≡ true → top (n ∷ []) ≡ Some n.sequence
  top_of n this = ap (λ b. greatest (map (λ (n : Signed). n.sequence) (if b then n ∷ [] else []))) this

  -- none of the authors has the name
  abbrev NoneBy : List Author → Type 0
  NoneBy authors = AllByRecursion (λ n. bytes_eq n name ≡ false) (map name_of authors)

  top_none : (authors : List Author) → NoneBy authors → top (map signed_by authors) ≡ None
  top_none [] none = refl
  top_none (a ∷ authors) none = top_cons (signed_by a) (map signed_by authors) ∙ ap₂ merge (top_beside (signed_by a) none.0) (top_none authors none.1)

  -- those after the one of the name
  none_after : (a : Author) (authors : List Author) → bytes_eq a.name name ≡ true → AllByRecursion (λ n. bytes_eq a.name n ≡ false) (map name_of authors) → NoneBy authors
  none_after a [] this apart = tt
  none_after a (b ∷ authors) this apart = (by (bytes_eq b.name name) refl, none_after a authors this apart.1)
    where
      by : (c : Bool) → bytes_eq b.name name ≡ c → c ≡ false
      by false f = refl
      by true t = absurd (true≢false (sym (is_same_name a.name b.name (same_name a.name name this ∙ sym (same_name b.name name t))) ∙ apart.0))

  -- ---- one message goes

  -- under another name than the one that is removed
  top_removed : (other : List ℕ) (authors : List Author) → bytes_eq other name ≡ false → top (map signed_by (removed (is_author other) authors)) ≡ top (map signed_by authors)
  top_removed other [] differs = refl
  top_removed other (a ∷ authors) differs = by (is_author other a) refl (top_removed other authors differs)
    where
      by : (b : Bool) → bytes_eq a.name other ≡ b → top (map signed_by (removed (is_author other) authors)) ≡ top (map signed_by authors) → top (map signed_by (cond b authors (a ∷ removed (is_author other) authors))) ≡ top (map signed_by (a ∷ authors))
      by true t rest = sym (top_cons (signed_by a) (map signed_by authors) ∙ ap (λ o. merge o (top (map signed_by authors))) (top_beside (signed_by a) (ap (λ (m : List ℕ). bytes_eq m name) (same_name a.name other t) ∙ differs)))
      by false f rest = top_cons (signed_by a) _ ∙ ap (merge (top (signed_by a ∷ []))) rest ∙ sym (top_cons (signed_by a) (map signed_by authors))

  top_left : (authors : List Author) → IsDistinct bytes_eq (map name_of authors) → top (map signed_by (removed (is_author name) authors)) ≡ None
  unfolding IsDistinct
  top_left [] distinct = refl
  top_left (a ∷ authors) distinct = by (is_author name a) refl (top_left authors distinct.1)
    where
      by : (b : Bool) → bytes_eq a.name name ≡ b → top (map signed_by (removed (is_author name) authors)) ≡ None → top (map signed_by (cond b authors (a ∷ removed (is_author name) authors))) ≡ None
      by true t rest = top_none authors (none_after a authors t distinct.0)
      by false f rest = top_cons (signed_by a) _ ∙ ap₂ merge (top_beside (signed_by a) f) rest

  abbrev taken_over_by : Entry → ℕ → List Author → Author
  taken_over_by e index authors = record { name = e.producer; sequence = int_max (unwrap_or (greatest_under e.producer (map signed_by authors)) e.sequence) e.sequence; index = index }

  max_itself : (a : ℤ) → int_max a a ≡ a
  max_itself a = omega (arith, ints, clamps)

  greater : (o : Option ℤ) (a : ℤ) → Some (int_max (unwrap_or o a) a) ≡ merge o (Some a)
  greater None a = ap Some (max_itself a)
  greater (Some b) a = refl

  top_one : (index : ℕ) (e : Entry) (authors : List Author) → IsDistinct bytes_eq (map name_of authors) → top (map signed_by (with_author index e authors)) ≡ merge (top (map signed_by authors)) (top (signed e ∷ []))
  top_one index e authors distinct =
      ap top (map-append signed_by (removed (is_author e.producer) authors) (taken_over_by e index authors ∷ []))
      ∙ top_append (map signed_by (removed (is_author e.producer) authors)) (signed_by (taken_over_by e index authors) ∷ [])
      ∙ by (bytes_eq e.producer name) refl
    where
      by : (b : Bool) → bytes_eq e.producer name ≡ b → merge (top (map signed_by (removed (is_author e.producer) authors))) (top (signed_by (taken_over_by e index authors) ∷ [])) ≡ merge (top (map signed_by authors)) (top (signed e ∷ []))
      by false other =
          ap₂ merge (top_removed e.producer authors other) (top_beside (signed_by (taken_over_by e index authors)) other ∙ sym (top_beside (signed e) other))
      by true this =
          let is : e.producer ≡ name = same_name e.producer name this in
          ap₂ merge (subst (λ (m : List ℕ). top (map signed_by (removed (is_author m) authors)) ≡ None) (sym is) (top_left authors distinct)) (top_of (signed_by (taken_over_by e index authors)) this)
          ∙ subst (λ (m : List ℕ). Some (int_max (unwrap_or (greatest_under m (map signed_by authors)) e.sequence) e.sequence) ≡ merge (top (map signed_by authors)) (Some e.sequence)) (sym is) (greater (top (map signed_by authors)) e.sequence)
          ∙ ap (merge (top (map signed_by authors))) (sym (top_of (signed e) this))

  -- so for each
  top_more : (index : ℕ) (messages : List Entry) (authors : List Author) → AreAuthors index authors → top (map signed_by (with_authors index messages authors)) ≡ merge (top (map signed_by authors)) (top (map signed messages))
  top_more index [] authors are = sym (merge_none (top (map signed_by authors)))
  top_more index (e ∷ messages) authors are =
      top_more (index + 1) messages (with_author index e authors) (authors_one index e authors are)
      ∙ ap (λ o. merge o (top (map signed messages))) (top_one index e authors are.names)
      ∙ sym (merge_merge (top (map signed_by authors)) (top (signed e ∷ [])) (top (map signed messages)))
      ∙ ap (merge (top (map signed_by authors))) (sym (top_cons (signed e) (map signed messages)))

  -- ---- what is forgotten

  module _ (s : State) (stay : List Entry) where
    kept_none : (authors : List Author) → NoneBy authors → top (map signed_by (not_forgotten s stay authors)) ≡ None
    kept_none [] none = refl
    kept_none (a ∷ authors) none = by (nat_lt (length authors) 4096 || is_lasting s stay a.name) (kept_none authors none.1)
      where
        by : (b : Bool) → top (map signed_by (not_forgotten s stay authors)) ≡ None → top (map signed_by (if b then a ∷ not_forgotten s stay authors else not_forgotten s stay authors)) ≡ None
        by true rest = top_cons (signed_by a) _ ∙ ap₂ merge (top_beside (signed_by a) none.0) rest
        by false rest = rest

    -- the author of the name is kept, or is not
    top_kept : (authors : List Author) → IsDistinct bytes_eq (map name_of authors)
        → (top (map signed_by (not_forgotten s stay authors)) ≡ top (map signed_by authors)) ⊎ ((top (map signed_by (not_forgotten s stay authors)) ≡ None) × (is_lasting s stay name ≡ false))
    unfolding IsDistinct
    top_kept [] distinct = inl refl
    top_kept (a ∷ authors) distinct = by (nat_lt (length authors) 4096 || is_lasting s stay a.name) refl (bytes_eq a.name name) refl (top_kept authors distinct.1)
      where
        kept : List Author
        kept = not_forgotten s stay authors

        by : (b : Bool) → (nat_lt (length authors) 4096 || is_lasting s stay a.name) ≡ b → (c : Bool) → bytes_eq a.name name ≡ c
            → (top (map signed_by kept) ≡ top (map signed_by authors)) ⊎ ((top (map signed_by kept) ≡ None) × (is_lasting s stay name ≡ false))
            → (top (map signed_by (if b then a ∷ kept else kept)) ≡ top (map signed_by (a ∷ authors))) ⊎ ((top (map signed_by (if b then a ∷ kept else kept)) ≡ None) × (is_lasting s stay name ≡ false))
        by true t true this rest =
            let none = none_after a authors this distinct.0 in
            inl (top_cons (signed_by a) (map signed_by kept) ∙ ap (merge (top (signed_by a ∷ []))) (kept_none authors none ∙ sym (top_none authors none)) ∙ sym (top_cons (signed_by a) (map signed_by authors)))
        by false f true this rest =
            inr (kept_none authors (none_after a authors this distinct.0), sym (ap (is_lasting s stay) (same_name a.name name this)) ∙ (or_false (nat_lt (length authors) 4096) (is_lasting s stay a.name) f).1)
        by true t false other rest = elim rest [
          | inl same ↦ inl (top_cons (signed_by a) (map signed_by kept) ∙ ap (merge (top (signed_by a ∷ []))) same ∙ sym (top_cons (signed_by a) (map signed_by authors)))
          | inr none ↦ inr (top_cons (signed_by a) (map signed_by kept) ∙ ap₂ merge (top_beside (signed_by a) other) none.0, none.1)
        ]
        by false f false other rest = elim rest [
          | inl same ↦ inl (same ∙ sym (top_cons (signed_by a) (map signed_by authors) ∙ ap (λ o. merge o (top (map signed_by authors))) (top_beside (signed_by a) other)))
          | inr none ↦ inr none
        ]

  -- a name that has none of the messages has no number in them
  none_by : (log : List Entry) → list_any (is_by name) (map signed log) ≡ false → top (map signed log) ≡ None
  none_by [] none = refl
  none_by (e ∷ log) none =
      let apart = or_false (bytes_eq e.producer name) (list_any (is_by name) (map signed log)) none in
      top_cons (signed e) (map signed log) ∙ ap₂ merge (top_beside (signed e) apart.0) (none_by log apart.1)

  -- ---- the messages that go

  pub last_numbers : (s : State) (n : ℕ) → AreAuthors s.gone s.authors
      → (top (map signed_by (remembered n s) ++ map signed (drop n s.log)) ≡ top (known s))
      ⊎ ((top (map signed_by (remembered n s) ++ map signed (drop n s.log)) ≡ None) × (is_lasting s (drop n s.log) name ≡ false))
  last_numbers s n are = elim (top_kept s (drop n s.log) (with_authors s.gone (take n s.log) s.authors) (authors_more s.gone (take n s.log) s.authors are).names) [
    | inl same ↦ inl (
        top_append (map signed_by (remembered n s)) (map signed (drop n s.log))
        ∙ ap (λ o. merge o (top (map signed (drop n s.log)))) (same ∙ top_more s.gone (take n s.log) s.authors are)
        ∙ sym (merge_merge (top (map signed_by s.authors)) (top (map signed (take n s.log))) (top (map signed (drop n s.log))))
        ∙ ap (merge (top (map signed_by s.authors))) (sym (top_append (map signed (take n s.log)) (map signed (drop n s.log))) ∙ ap top (sym (map-append signed (take n s.log) (drop n s.log)) ∙ ap (map signed) (take-append-drop n s.log)))
        ∙ sym (top_append (map signed_by s.authors) (map signed s.log)))
    | inr none ↦
        let none_stays = (or_false (is_connected s name || starts_with nat_eq name (codes "dlq/")) (list_any (is_by name) (map signed (drop n s.log))) none.1).1 in
        inr (top_append (map signed_by (remembered n s)) (map signed (drop n s.log)) ∙ ap₂ merge none.0 (none_by (drop n s.log) none_stays), none.1)
  ]

  -- what is known are the numbers of the producers of all messages
  pub known_as_authors : (s : State) → AreAuthors s.gone s.authors → top (known s) ≡ top (map signed_by (with_authors s.gone s.log s.authors))
  known_as_authors s are = top_append (map signed_by s.authors) (map signed s.log) ∙ sym (top_more s.gone s.log s.authors are)

  pub number_of_author : (authors : List Author) → IsDistinct bytes_eq (map name_of authors) → top (map signed_by authors) ≡ option_map (λ a. a.sequence) (find (is_author name) authors)
  unfolding IsDistinct
  number_of_author [] distinct = refl
  number_of_author (a ∷ authors) distinct = top_cons (signed_by a) (map signed_by authors) ∙ by (bytes_eq a.name name) refl (number_of_author authors distinct.1)
    where
      by : (b : Bool) → bytes_eq a.name name ≡ b → top (map signed_by authors) ≡ option_map (λ a. a.sequence) (find (is_author name) authors)
          → merge (top (signed_by a ∷ [])) (top (map signed_by authors)) ≡ option_map (λ a. a.sequence) (if b then Some a else find (is_author name) authors)
      by true this rest = ap₂ merge (top_of (signed_by a) this) (top_none authors (none_after a authors this distinct.0))
      by false other rest = ap₂ merge (top_beside (signed_by a) other) rest
