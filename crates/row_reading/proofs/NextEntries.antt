-- The next message of those that rows show.
use Rattle.std.proofs.Common.{◌≡◌, ℕ, suc, ◌+◌, ◌≤◌, ◌<◌, ◌^◌, Option, List, [], ◌∷◌, ◌++◌, map, take, drop, length, get_or, ap, arith, append_assoc, length-append, refl, sym, subst, ◌∙◌}
use Rattle.std.specs.List.{AllByRecursion}
use Rattle.std.specs.List.Sorted.{IsStrictlySortedBy}
use Rattle.std.specs.declared.cmp.Ordering.TheVariants.{Less}
use Rattle.std.proofs.Math.Seq.{drop-cons}
use Rattle.std.proofs.lemmas.List.{length-map, map-append, take-append-drop}
use Rattle.std.proofs.lemmas.List.Elements.{recursion_from_All}
use Rattle.sqlite.specs.declared.types.Value.TheVariants.{Text as Words}
use Rattle.sqlite.specs.Order.{Row}
use Rattle.position_core.specs.declared.position.Position.{Position}
use Rattle.position_core.specs.declared.message.Entry.{Entry}
use Rattle.position_core.specs.Position.{position_cmp}
use Rattle.row_forms.specs.Forms.{entry_row, entry_rows}
use Rattle.row_reading.specs.Reading.{GoOn, IsEntryAt, IsNext, IsReadableMessage, IsReadableLog, put}
use Rattle.row_reading.proofs.Entries.{IsLast}
use Rattle.row_reading.proofs.Nexts.{all_at}
use Rattle.row_reading.proofs.Orders.{cons_is}
use Rattle.row_reading.proofs.Told.{same_entry}

-- after the messages that came, the row is that of the next one
next_entry : (topic : List ℕ) (from : ℕ) (came all : List Entry) (row : Row) (rest : List Row) → entry_rows topic from came ++ row ∷ rest ≡ entry_rows topic from all
    → (e : Entry) × (more : List Entry) × (all ≡ came ++ e ∷ more) × (row ≡ entry_row topic (from + length came) e)
next_entry topic from [] [] row rest e = absurd (cc)
next_entry topic from [] (x ∷ xs) row rest e =
    let first : row ≡ entry_row topic from x = cc in
    let same : from ≡ from + length {A = Entry} [] = omega arith in
    (x, xs, refl, first ∙ ap (λ n. entry_row topic n x) same)
next_entry topic from (y ∷ ys) [] row rest e = absurd (cc)
next_entry topic from (y ∷ ys) (x ∷ xs) row rest e =
    let first : entry_row topic from x ≡ entry_row topic from y = cc in
    let others : entry_rows topic (from + 1) ys ++ row ∷ rest ≡ entry_rows topic (from + 1) xs = cc in
    let n = next_entry topic (from + 1) ys xs row rest others in
    let same : from + 1 + length ys ≡ from + length (y ∷ ys) = omega arith in
    (n.0, n.1, cons_is x y xs (ys ++ n.0 ∷ n.1) (same_entry topic from x y first) n.2, n.3 ∙ ap (λ k. entry_row topic k n.0) same)

pub lower_before : (xs : List Entry) (e : Entry) (more : List Entry) → IsStrictlySortedBy position_cmp (map (λ (x : Entry). x.position) (xs ++ e ∷ more)) → AllByRecursion (λ (x : Entry). position_cmp x.position e.position ≡ Less) xs
unfolding IsStrictlySortedBy
lower_before [] e more rise = tt
lower_before (x ∷ xs) e more rise = (below xs rise.0, lower_before xs e more rise.1)
  where
    below : (ys : List Entry) → AllByRecursion (λ p. position_cmp x.position p ≡ Less) (map (λ (y : Entry). y.position) (ys ++ e ∷ more)) → position_cmp x.position e.position ≡ Less
    below [] all = all.0
    below (y ∷ ys) all = below ys all.1

entry_moves : (topic : List ℕ) (place : ℕ) (row : Row) (e : Entry) → Words topic ∷ row ≡ entry_row topic place e → IsEntryAt place row e
entry_moves topic place row e shown t = cc

-- the row shows a message that is read, and may come after the last one
pub record IsNextMessage (ledger_size ledger place : ℕ) (row : Row) (last : Option Position) (e : Entry) : Type 0 where
  pub readable : IsReadableMessage e
  pub shown : IsEntryAt place row e
  pub next : IsNext ledger_size ledger last e.position

-- in a log that is read, the row after the messages that came is that of the next one
pub next_message : (ledger_size ledger gone : ℕ) (topic : List ℕ) (came all : List Entry) (row : Row) (rest : List Row) (last : Option Position) → IsReadableLog ledger_size ledger all
    → entry_rows topic gone came ++ (Words topic ∷ row) ∷ rest ≡ entry_rows topic gone all → IsLast last came → (e : Entry) × IsNextMessage ledger_size ledger (gone + length came) row last e × (length came < length all)
next_message size ledger gone topic came all row rest last read whole is_last =
    let n = next_entry topic gone came all (Words topic ∷ row) rest whole in
    let e : Entry = n.0 in
    let is : all ≡ came ++ e ∷ n.1 = n.2 in
    let ledgers = all_at (λ (x : Entry). (x.position.ledger ≤ ledger) × (x.position.ledger ≤ 2 ^ 62)) came e n.1 (subst (AllByRecursion (λ (x : Entry). (x.position.ledger ≤ ledger) × (x.position.ledger ≤ 2 ^ 62))) is (recursion_from_All _ all read.sound.ledgers)) in
    let some : 0 < size = omega (arith, read.size.0) in (
      e,
      record {
        readable = all_at IsReadableMessage came e n.1 (subst (AllByRecursion IsReadableMessage) is (recursion_from_All IsReadableMessage all read.each));
        shown = entry_moves topic (gone + length came) row e n.3;
        next = record {
          after = is_last e.position (lower_before came e n.1 (subst (λ l. IsStrictlySortedBy position_cmp (map (λ (x : Entry). x.position) l)) is read.sound.positions));
          within = ledgers.0;
          numbered = ledgers.1;
          entry = all_at (λ (x : Entry). x.position.entry < size) came e n.1 (subst (AllByRecursion (λ (x : Entry). x.position.entry < size)) is (recursion_from_All _ all (read.sound.entries some)));
        };
      },
      omega (arith, ap length is, length-append came (e ∷ n.1)),
    )

joined_left : {A : Type 0} (a b c d e rest whole : List A) → a ++ b ≡ c → b ++ d ≡ e → a ++ (e ++ rest) ≡ whole → c ++ (d ++ rest) ≡ whole
joined_left a b c d e rest whole first second is =
    ap (λ l. l ++ (d ++ rest)) (sym first) ∙ append_assoc a b (d ++ rest) ∙ ap (λ l. a ++ l) (sym (append_assoc b d rest) ∙ ap (λ l. l ++ rest) second) ∙ is

-- of the rows after those that came, those from this one on are left
pub rows_left : (gone : ℕ) (topic : List ℕ) (came log : List Entry) (rows rest whole : List Row) (i : ℕ) (row : Row) → i < length rows → row ≡ get_or rows i row → GoOn gone came (take i rows) log → entry_rows topic gone came ++ (put topic rows ++ rest) ≡ whole
    → entry_rows topic gone log ++ (Words topic ∷ row) ∷ (put topic (drop (suc i) rows) ++ rest) ≡ whole
rows_left gone topic came log rows rest whole i row low at so_far is =
    let split : take i rows ++ row ∷ drop (suc i) rows ≡ rows = ap (λ (l : List Row). take i rows ++ l) (ap (λ (r : Row). r ∷ drop (suc i) rows) at ∙ sym (drop-cons rows i row low)) ∙ take-append-drop i rows in
    joined_left (entry_rows topic gone came) (put topic (take i rows)) (entry_rows topic gone log) (put topic (row ∷ drop (suc i) rows)) (put topic rows) rest whole (so_far topic)
    (sym (map-append (λ (r : Row). Words topic ∷ r) (take i rows) (row ∷ drop (suc i) rows)) ∙ ap (put topic) split) is

as_many : (topic : List ℕ) (from : ℕ) (log : List Entry) → length (entry_rows topic from log) ≡ length log
as_many topic from [] = refl
as_many topic from (e ∷ log) = ap suc (as_many topic (from + 1) log)

-- as many messages came as there were rows
pub many_more : (gone : ℕ) (came log : List Entry) (rows : List Row) → GoOn gone came rows log → length log ≡ length came + length rows
many_more gone came log rows so =
    let each = ap length (so []) in
    omega (arith, each, length-append (entry_rows [] gone came) (put [] rows), length-map rows (λ (r : Row). Words [] ∷ r), as_many [] gone came, as_many [] gone log)
