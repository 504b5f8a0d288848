-- The numbers and the producers of all messages, one message at a time.
use Rattle.std.proofs.Common.{◌≡◌, ℕ, List, [], map, Bool, true, false, cond, Option, Some, None, refl, ap, ap₂, sym, subst, ◌∙◌, arith}
use Rattle.std.specs.Prelude.{ℤ}
use Rattle.std.specs.List.{find, IsDistinct}
use Rattle.std.specs.Option.{option_map, option_map_or, unwrap_or}
use Rattle.std.specs.Int.{int_max}
use Rattle.std.specs.Str.{bytes_eq}
use Rattle.std.specs.Ordering.{eq_by_cmp}
use Rattle.std.specs.Cmp.{eq_by_cmp_equiv}
use Rattle.std.specs.FinMap as map_of
use Rattle.std.proofs.lemmas.Int.{ints, clamps}
use Rattle.std.proofs.lemmas.Map.Text.{is_eq-slice_cmp}
use Rattle.position_core.specs.Name.{name_order}
use Rattle.position_core.specs.declared.message.Entry.{Entry}
use Rattle.delivery_machine.specs.State.{Author}
use Rattle.delivery_machine.specs.Trimming.{is_author, with_author}
use Rattle.delivery_machine.specs.WellFormed.{AreAuthors}
use Rattle.delivery_machine.proofs.Remembered.{name_of}
use Rattle.delivery_machine.proofs.AuthorsFound.{author_of, found_one, greatest_of_author}
use Rattle.dedup_core.specs.Sequences.{Numbers, AgreesWith, last_of, offered}
use Rattle.dedup_core.specs.declared.table.LastNumber.{LastNumber}
use Rattle.dedup_core.proofs.Found.{names_total}

pub same_test : (name q : List ℕ) → eq_by_cmp name_order q name ≡ bytes_eq name q
same_test name q = (eq_by_cmp_equiv names_total).symm q name ∙ is_eq-slice_cmp name q

pub agrees-empty : AgreesWith [] map_of.empty
agrees-empty name = map_of.get-empty name_order name

-- the number that is recorded of a message is that of its author
recorded : (index : ℕ) (e : Entry) (authors : List Author) (numbers : Numbers) → IsDistinct bytes_eq (map name_of authors) → AgreesWith authors numbers
    → option_map_or (λ n. int_max n.sequence e.sequence) (map_of.get numbers e.producer) e.sequence ≡ (author_of index e authors).sequence
recorded index e authors numbers distinct agrees =
    ap (λ (o : Option LastNumber). option_map_or (λ n. int_max n.sequence e.sequence) o e.sequence) (agrees e.producer)
    ∙ by (find (is_author e.producer) authors)
    ∙ ap (λ n. int_max n e.sequence) (sym (greatest_of_author e authors distinct))
  where
    itself : (n : ℤ) → n ≡ int_max n n
    itself n = omega (arith, ints, clamps)

    by : (o : Option Author) → option_map_or (λ n. int_max n.sequence e.sequence) (option_map last_of o) e.sequence ≡ int_max (unwrap_or (option_map (λ a. a.sequence) o) e.sequence) e.sequence
    by None = itself e.sequence
    by (Some a) = refl

-- the greater of the number and the last one, which is the number itself where there is none
pub raised : (last : Option LastNumber) (n m : ℤ) → m ≡ option_map_or (λ x. x.sequence) last n → int_max m n ≡ option_map_or (λ x. int_max x.sequence n) last n
raised None n m is = ap (λ (x : ℤ). int_max x n) is ∙ omega (arith, ints, clamps)
raised (Some x) n m is = ap (λ (x : ℤ). int_max x n) is

pub agrees-offered : (index before : ℕ) (e : Entry) (authors : List Author) (numbers : Numbers) → AreAuthors before authors → AgreesWith authors numbers
    → AgreesWith (with_author index e authors) (offered e.producer e.sequence index numbers)
agrees-offered index before e authors numbers are agrees q =
    map_of.get-insert names_total numbers e.producer (record { sequence = option_map_or (λ n. int_max n.sequence e.sequence) (map_of.get numbers e.producer) e.sequence; index = index }) q
    ∙ ap₂ (λ b (n : ℤ). cond b (Some (record { sequence = n; index = index })) (map_of.get numbers q)) (same_test e.producer q) (recorded index e authors numbers are.names agrees)
    ∙ ap (cond (bytes_eq e.producer q) (Some (last_of (author_of index e authors)))) (agrees q)
    ∙ by (bytes_eq e.producer q) (find (is_author q) authors)
    ∙ sym (ap (option_map last_of) (found_one q index e authors are.names))
  where
    by : (b : Bool) (o : Option Author) → cond b (Some (last_of (author_of index e authors))) (option_map last_of o) ≡ option_map last_of (cond b (Some (author_of index e authors)) o)
    by true o = refl
    by false o = refl

-- the same where the message has this name and number
pub agrees_with : (numbers new : Numbers) (name : List ℕ) (sequence : ℤ) (index : ℕ) → new ≡ offered name sequence index numbers
    → (authors : List Author) (before : ℕ) (e : Entry) → AreAuthors before authors → AgreesWith authors numbers → e.producer ≡ name → e.sequence ≡ sequence → AgreesWith (with_author index e authors) new
agrees_with numbers new name sequence index is authors before e are agrees by numbered =
    let same : offered e.producer e.sequence index numbers ≡ new = ap₂ (λ (n : List ℕ) (m : ℤ). offered n m index numbers) by numbered ∙ sym is in
    subst (AgreesWith (with_author index e authors)) same (agrees-offered index before e authors numbers are agrees)
