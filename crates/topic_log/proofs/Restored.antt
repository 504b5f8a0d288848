-- The numbers of what is remembered, and of a log that is read message by message.
use Rattle.std.proofs.Common.{◌≡◌, ℕ, zero, suc, ◌+◌, ◌<◌, List, [], ◌∷◌, ◌++◌, Bool, true, false, cond, Some, None, Option, map, length, refl, ap, ap₂, sym, ◌∙◌, subst, take, get_or, arith}
use Rattle.std.specs.Prelude.{ℤ, slice_get}
use Rattle.std.specs.List.{AllByRecursion, IsDistinct, find}
use Rattle.std.specs.Option.{option_map, option_map_or, option_or}
use Rattle.std.specs.Int.{int_max}
use Rattle.std.specs.Str.{bytes_eq}
use Rattle.std.specs.Cmp.Lexicographic.{nat_list_cmp_total}
use Rattle.std.specs.FinMap as map_of
use Rattle.std.proofs.lemmas.List.{take_more, length-take}
use Rattle.std.proofs.lemmas.List.Folds.{find-append}
use Rattle.std.proofs.lemmas.Option.{slice_get_within}
use Rattle.position_core.specs.declared.message.Entry.{Entry}
use Rattle.delivery_machine.specs.State.{Author}
use Rattle.delivery_machine.specs.Trimming.{is_author, with_author, with_authors}
use Rattle.delivery_machine.specs.WellFormed.{AreAuthors}
use Rattle.delivery_machine.proofs.Behind.{same_name}
use Rattle.delivery_machine.proofs.Remembered.{name_of, authors_more}
use Rattle.dedup_core.specs.Sequences.{Numbers, AgreesWith, found, last_of, offered}
use Rattle.dedup_core.proofs.Agreed.{same_test}
use Rattle.dedup_core.proofs.Remembering.{one_more}

apart_at : (a : Author) (m : List ℕ) (ys : List Author) (k : ℕ) → k < length ys → AllByRecursion (λ n. bytes_eq m n ≡ false) (map name_of ys) → bytes_eq m (get_or ys k a).name ≡ false
apart_at a m [] k low apart = absurd (omega (arith, low))
apart_at a m (y ∷ ys) zero low apart = apart.0
apart_at a m (y ∷ ys) (suc k) low apart = apart_at a m ys k (omega (arith, low)) apart.1

-- before its place nobody has the name
none_before : (authors : List Author) (i : ℕ) (a : Author) → i < length authors → IsDistinct bytes_eq (map name_of authors) → find (is_author (get_or authors i a).name) (take i authors) ≡ None
unfolding IsDistinct
none_before [] i a low distinct = absurd (omega (arith, low))
none_before (x ∷ authors) zero a low distinct = refl
none_before (x ∷ authors) (suc j) a low distinct =
    ap (λ b. cond b (Some x) (find (is_author (get_or authors j a).name) (take j authors))) (apart_at a x.name authors j (omega (arith, low)) distinct.0)
    ∙ none_before authors j a (omega (arith, low)) distinct.1

-- one author further
pub author_on : (authors : List Author) (i : ℕ) (a : Author) (numbers new : Numbers) → i < length authors → IsDistinct bytes_eq (map name_of authors) → a ≡ get_or authors i a
    → AgreesWith (take i authors) numbers → new ≡ offered a.name a.sequence a.index numbers → AgreesWith (take (i + 1) authors) new
author_on authors i a numbers new low distinct here agrees is = subst (AgreesWith (take (i + 1) authors)) (sym is) (λ q.
    map_of.get-insert nat_list_cmp_total numbers a.name (record { sequence = option_map_or (λ n. int_max n.sequence a.sequence) (map_of.get numbers a.name) a.sequence; index = a.index }) q
    ∙ ap₂ (λ b (n : ℤ). cond b (Some (record { sequence = n; index = a.index })) (map_of.get numbers q)) (same_test a.name q) new_one
    ∙ ap (cond (bytes_eq a.name q) (Some (last_of a))) (agrees q)
    ∙ by q (bytes_eq a.name q) refl
    ∙ sym (ap (λ (xs : List Author). found q xs) (take_more authors i a low ∙ ap (λ (x : Author). take i authors ++ x ∷ []) (sym here)) ∙ ap (option_map last_of) (find-append (is_author q) (take i authors) (a ∷ []))))
  where
    nobody : find (is_author a.name) (take i authors) ≡ None
    nobody = subst (λ (x : Author). find (is_author x.name) (take i authors) ≡ None) (sym here) (none_before authors i a low distinct)

    new_one : option_map_or (λ n. int_max n.sequence a.sequence) (map_of.get numbers a.name) a.sequence ≡ a.sequence
    new_one = ap (λ o. option_map_or (λ n. int_max n.sequence a.sequence) o a.sequence) (agrees a.name ∙ ap (option_map last_of) nobody)

    by : (q : List ℕ) (b : Bool) → bytes_eq a.name q ≡ b → cond b (Some (last_of a)) (found q (take i authors)) ≡ option_map last_of (option_or (find (is_author q) (take i authors)) (cond b (Some a) None))
    by q true this = ap (λ o. option_map last_of (option_or o (Some a))) (sym (subst (λ (m : List ℕ). find (is_author m) (take i authors) ≡ None) (same_name a.name q this) nobody))
    by q false other = or_nothing (find (is_author q) (take i authors))
      where
        or_nothing : (o : Option Author) → option_map last_of o ≡ option_map last_of (option_or o None)
        or_nothing None = refl
        or_nothing (Some x) = refl

-- one message further
pub message_on : (gone : ℕ) (log : List Entry) (i : ℕ) (e : Entry) (authors : List Author) (numbers new : Numbers) → AreAuthors gone authors → slice_get log i ≡ Some e
    → ((xs : List Author) (before : ℕ) (m : Entry) → AreAuthors before xs → AgreesWith xs numbers → m.producer ≡ e.producer → m.sequence ≡ e.sequence → AgreesWith (with_author (gone + i) m xs) new)
    → AgreesWith (with_authors gone (take i log) authors) numbers → AgreesWith (with_authors gone (take (i + 1) log) authors) new
message_on gone log i e authors numbers new are here offer agrees =
    let low = slice_get_within log i e here in
    let long : gone + length (take i log) ≡ gone + i = let taken = length-take i log in omega (arith, taken, low) in
    subst (λ (xs : List Author). AgreesWith xs new) (one_more gone log i e authors here)
    (offer (with_authors gone (take i log) authors) (gone + length (take i log)) e (authors_more gone (take i log) authors are) agrees refl refl)
