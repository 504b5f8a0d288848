-- A topic's messages, read piece by piece.
use Rattle.std.proofs.Common.{◌≡◌, ◌≢◌, ℕ, ◌+◌, ◌-◌, ◌≤◌, Bool, true, false, not, List, [], ◌++◌, length, filter, take, drop, refl, ap, sym, subst, ◌∙◌, arith}
use Rattle.std.specs.Prelude.{◌&&◌}
use Rattle.std.specs.List.Sorted.{IsPermutation}
use Rattle.std.proofs.lemmas.List.{length-take, take-append-drop}
use Rattle.std.proofs.lemmas.List.Sorted.{IsPermutation-append, IsPermutation-refl, IsPermutation-sym, IsPermutation-trans}
use Rattle.sqlite_trees.proofs.ListLemmas.{IsPermutation-filter, all_of, filter_none}
use Rattle.sqlite.specs.Order.{Row}
use Rattle.sqlite.specs.Tree.{Trees}
use Rattle.position_core.specs.declared.message.Entry.{Entry}
use Rattle.row_forms.specs.Cells.{is_below}
use Rattle.row_forms.specs.Forms.{entry_rows}
use Rattle.row_forms.proofs.Leading.{rows_from}
use Rattle.row_tables.specs.Ordered.{AreSortedBy}
use Rattle.row_tables.specs.Pieces.{ShowsWithin, has_others, is_within, messages_of}
use Rattle.row_tables.proofs.PieceLemmas.{all_within, pieces_join}
use Rattle.row_reading.specs.Reading.{GoOn, put}
use Rattle.row_reading.proofs.SortedRows.{none_others, piece_is, piece_read}
use Rattle.row_reading.proofs.Told.{one_log}
use Rattle.row_store.specs.Begun.{HasLogBelow}
use Rattle.row_store.specs.Found.{HasLog}

-- before the first piece
pub none_below : (topic : List ℕ) (gone : ℕ) (db : Trees) → HasLogBelow topic gone gone [] db
none_below topic gone db = subst (IsPermutation []) (sym (filter_none (is_within gone gone) (messages_of topic db) (all_of _ none (messages_of topic db)))) (IsPermutation-refl [])
  where
    never : (b : Bool) → (not b && b) ≡ false
    never true = refl
    never false = refl

    none : (r : Row) → is_within gone gone r ≡ false
    none r = never (is_below gone r)

-- one piece more
pub more_below : (topic : List ℕ) (gone from end : ℕ) (came log : List Entry) (rows : List Row) (db : Trees) → gone ≤ from → from ≤ end → HasLogBelow topic gone from came db → ShowsWithin topic from end rows db → GoOn gone came rows log → HasLogBelow topic gone end log db
more_below topic gone from end came log rows db early within below shows goes =
    let messages = messages_of topic db in
    subst (λ l. IsPermutation l (filter (is_within gone end) messages)) (goes topic)
    (IsPermutation-trans _ _ _ (IsPermutation-append (entry_rows topic gone came) (filter (is_within gone from) messages) (put topic rows) (filter (is_within from end) messages) below shows) (pieces_join gone from end early within messages))

-- what stands below the place is the first part of the log
pub first_part : (topic : List ℕ) (gone end : ℕ) (came all : List Entry) (db : Trees) → HasLogBelow topic gone end came db → HasLog topic gone all db → came ≡ take (end - gone) all
first_part topic gone end came all db below has =
    let messages = messages_of topic db in
    let none : gone - gone ≡ 0 = omega arith in
    let these : IsPermutation (entry_rows topic gone (take (end - gone) all)) (filter (is_within gone end) messages) =
    subst (λ l. IsPermutation l (filter (is_within gone end) messages)) (piece_is topic gone gone end all (omega arith) ∙ ap (λ n. entry_rows topic gone (take (end - gone) (drop n all))) none)
    (IsPermutation-filter (is_within gone end) (entry_rows topic gone all) messages has) in
    one_log topic gone came (take (end - gone) all) (IsPermutation-trans _ _ _ below (IsPermutation-sym _ _ these))

-- the piece after it is the next part, and some rows follow
pub next_part : (topic : List ℕ) (gone end : ℕ) (came all : List Entry) (rows : List Row) (db : Trees) → HasLogBelow topic gone (gone + length came) came db → HasLog topic gone all db → ShowsWithin topic (gone + length came) end rows db → AreSortedBy 1 rows
    → (rest : List Row) × (entry_rows topic gone came ++ (put topic rows ++ rest) ≡ entry_rows topic gone all)
next_part topic gone end came all rows db below has shows sorted =
    let from : ℕ = gone + length came in
    let count : from - gone ≡ length came = omega arith in
    let first : came ≡ take (length came) all = first_part topic gone from came all db below has ∙ ap (λ n. take n all) count in
    let others : List Entry = drop (length came) all in
    let part : List Entry = take (end - from) others in
    let left : List Entry = drop (end - from) others in
    let piece : put topic rows ≡ entry_rows topic from part = piece_read topic gone all db from end rows (omega arith) has shows sorted ∙ ap (λ n. entry_rows topic from (take (end - from) (drop n all))) count in
    let split : came ++ others ≡ all = ap (λ l. l ++ others) first ∙ take-append-drop (length came) all in (
      entry_rows topic (from + length part) left,
      ap (λ l. entry_rows topic gone came ++ (l ++ entry_rows topic (from + length part) left)) piece
          ∙ ap (λ l. entry_rows topic gone came ++ l) (sym (rows_from topic from part left) ∙ ap (entry_rows topic from) (take-append-drop (end - from) others))
          ∙ sym (rows_from topic gone came others) ∙ ap (entry_rows topic gone) split,
    )

-- the messages are those of the log where none stands elsewhere
pub all_below : (topic : List ℕ) (gone end : ℕ) (log : List Entry) (db : Trees) → HasLogBelow topic gone end log db → has_others topic gone end db ≡ false → HasLog topic gone log db
all_below topic gone end log db below none = subst (IsPermutation (entry_rows topic gone log)) (all_within gone end (messages_of topic db) none) below

-- after a piece that came short none stands elsewhere
pub none_after : (topic : List ℕ) (gone count : ℕ) (log all : List Entry) (db : Trees) → HasLogBelow topic gone (gone + count) log db → HasLog topic gone all db → length log ≢ count → has_others topic gone (gone + count) db ≡ false
none_after topic gone count log all db below has short =
    let many : gone + count - gone ≡ count = omega arith in
    none_others topic gone all db gone (gone + count) has (omega arith) (omega (arith, ap length (first_part topic gone (gone + count) log all db below has), many, length-take (gone + count - gone) all, short))
