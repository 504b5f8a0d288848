-- Which automatic names have messages, by the numbers that agree with them.
use Rattle.std.proofs.Common.{◌≡◌, ℕ, List, ◌++◌, ◌∷◌, [], ◌+◌, ◌-◌, arith, subst, Bool, true, false, cond, length, Some, None, Option, refl, ap, ◌∙◌, sym}
use Rattle.std.specs.Prelude.{ℤ, is_some}
use Rattle.std.specs.List.{find}
use Rattle.std.specs.Option.{option_map}
use Rattle.std.specs.Str.{bytes_eq}
use Rattle.std.proofs.lemmas.List.{length-append}
use Rattle.position_core.specs.declared.message.Entry.{Entry}
use Rattle.delivery_machine.specs.State.{Author}
use Rattle.delivery_machine.specs.Trimming.{is_author, with_author, with_authors}
use Rattle.delivery_machine.specs.WellFormed.{AreAuthors}
use Rattle.delivery_machine.specs.Producing.{auto_name}
use Rattle.delivery_machine.proofs.Remembered.{authors_more}
use Rattle.delivery_machine.proofs.AuthorsFound.{author_of, found_one, authors_append}
use Rattle.dedup_core.specs.Sequences.{Numbers, AgreesWith, last_of}
use Rattle.entry_log.specs.Log.{appended}
use Rattle.topic_log.specs.Written.{Written, all_of}
use Rattle.topic_log.specs.Names.{is_numbered, is_written}

pub numbered_as_written : (authors : List Author) (numbers : Numbers) → AgreesWith authors numbers → (n : ℕ) → is_numbered numbers n ≡ is_written authors n
numbered_as_written authors numbers agrees n = ap is_some (agrees (auto_name n)) ∙ by (find (is_author (auto_name n)) authors)
  where
    by : (o : Option Author) → is_some (option_map last_of o) ≡ is_some o
    by None = refl
    by (Some a) = refl

-- the message that comes last is remembered last
pub authors_push : (gone : ℕ) (log : List Entry) (e : Entry) (authors : List Author) → with_authors gone (log ++ e ∷ []) authors ≡ with_author (gone + length log) e (with_authors gone log authors)
authors_push gone log e authors = authors_append gone log (e ∷ []) authors

-- with a message more no name is less written
pub still_written : (gone : ℕ) (log : List Entry) (e : Entry) (authors : List Author) → AreAuthors gone authors → (n : ℕ)
    → is_written (with_authors gone log authors) n ≡ true → is_written (with_authors gone (log ++ e ∷ []) authors) n ≡ true
still_written gone log e authors are n written =
    ap (λ (xs : List Author). is_written xs n) (authors_push gone log e authors)
    ∙ ap is_some (found_one (auto_name n) (gone + length log) e (with_authors gone log authors) (authors_more gone log authors are).names)
    ∙ by (bytes_eq e.producer (auto_name n))
  where
    by : (b : Bool) → is_some (cond b (Some (author_of (gone + length log) e (with_authors gone log authors))) (find (is_author (auto_name n)) (with_authors gone log authors))) ≡ true
    by true = refl
    by false = written

-- the number of the last message is noted, where that was appended under the name
pub noted : (v w : Written) (e : Entry) (name : List ℕ) (sequence : ℤ) (index : ℕ) (new : Numbers) → v ≡ record w { log = appended e w.log } → AreAuthors v.gone v.authors → index ≡ v.gone + length v.log.log - 1
    → ((authors : List Author) (before : ℕ) (m : Entry) → AreAuthors before authors → AgreesWith authors v.numbers → m.producer ≡ name → m.sequence ≡ sequence → AgreesWith (with_author index m authors) new)
    → AgreesWith (all_of w) w.numbers → e.producer ≡ name → e.sequence ≡ sequence → AgreesWith (all_of v) new
noted v w e name sequence index new is are at offer agrees by numbered =
    let longer = length-append w.log.log (e ∷ []) in
    let place : index ≡ w.gone + length w.log.log = at ∙ ap (λ (u : Written). u.gone + length u.log.log - 1) is ∙ omega (arith, longer) in
    let were : AreAuthors w.gone w.authors = subst (λ (u : Written). AreAuthors u.gone u.authors) is are in
    let still : AgreesWith (all_of w) v.numbers = subst (AgreesWith (all_of w)) (sym (ap (λ (u : Written). u.numbers) is)) agrees in
    let all : with_author index e (all_of w) ≡ all_of v = ap (λ (n : ℕ). with_author n e (all_of w)) place ∙ sym (authors_push w.gone w.log.log e w.authors) ∙ sym (ap (λ (u : Written). all_of u) is) in
    subst (λ (xs : List Author). AgreesWith xs new) all (offer (all_of w) (w.gone + length w.log.log) e (authors_more w.gone w.log.log w.authors were) still by numbered)
