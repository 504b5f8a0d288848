-- Messages and their rows.
use Rattle.std.proofs.Common.{◌≡◌, ℕ, ◌+◌, ◌≤◌, ◌<◌, ◌^◌, List, [], ◌∷◌, ◌++◌, take, length, pos, length-append, Option, Some, None, IfSome, inl, inr, ◌⊎◌, slice_get, subst, append_assoc, refl, ap, sym, ◌∙◌, arith, get_or}
use Rattle.std.specs.List.{AllByRecursion}
use Rattle.std.specs.Prelude.{option_map, map}
use Rattle.std.specs.List.Sorted.{IsStrictlySortedBy}
use Rattle.std.proofs.lemmas.List.{map-append, take_more}
use Rattle.std.proofs.lemmas.List.Elements.{All-nil, All-push}
use Rattle.std.specs.declared.cmp.Ordering.TheVariants.{Less}
use Rattle.sqlite.specs.declared.types.Value.TheVariants.{Int, Text as Words, Blob as Octets}
use Rattle.sqlite.specs.declared.types.Value.{Value}
use Rattle.sqlite.specs.Order.{Row, column}
use Rattle.position_core.specs.declared.position.Position.{Position}
use Rattle.position_core.specs.declared.message.Entry.{Entry}
use Rattle.position_core.specs.Position.{position_cmp, positions_total}
use Rattle.delivery_machine.specs.WellFormed.{IsWellFormedLog}
use Rattle.delivery_machine.proofs.Rising.{sorted_push}
use Rattle.row_forms.specs.Forms.{entry_row, entry_rows, key_cells}
use Rattle.row_forms.specs.Properties.{properties_text}
use Rattle.row_forms.proofs.Leading.{rows_from}
use Rattle.row_reading.specs.Reading.{GoOn, IsEntryAt, IsNext, last_position, put}
use Rattle.row_reading.proofs.Columns.{ten}

pub entry_shown : (row : Row) (place : ℕ) (e : Entry) → length row ≡ 10 → column row 0 ≡ Int (pos place) → column row 1 ≡ Int (pos e.position.ledger) → column row 2 ≡ Int (pos e.position.entry)
    → column row 3 ≡ Words e.producer → column row 4 ≡ Int e.sequence → column row 5 ≡ Int (pos e.time) → column row 6 ∷ column row 7 ∷ [] ≡ key_cells e.body.key
    → column row 8 ≡ Words (properties_text e.body.properties) → column row 9 ≡ Octets e.body.payload → IsEntryAt place row e
entry_shown row place e long at ledger entry producer sequence time key properties payload topic =
    let last : Row = Words (properties_text e.body.properties) ∷ Octets e.body.payload ∷ [] in
    let keyed : column row 6 ∷ column row 7 ∷ last ≡ key_cells e.body.key ++ last = ap (λ (ks : Row). ks ++ last) key in
    ap (λ (r : Row). Words topic ∷ r) (ten row long)
    ∙ rw (at, ledger, entry, producer, sequence, time, properties, payload)
    (ap (λ (r : Row). Words topic ∷ Int (pos place) ∷ Int (pos e.position.ledger) ∷ Int (pos e.position.entry) ∷ Words e.producer ∷ Int e.sequence ∷ Int (pos e.time) ∷ r) keyed)

-- ---- one more message

-- the row after the messages that came is that of the next one
pub row_goes_on : (gone : ℕ) (log : List Entry) (row : Row) (e : Entry) → IsEntryAt (gone + length log) row e → GoOn gone log (row ∷ []) (log ++ e ∷ [])
row_goes_on gone log row e shown topic =
    ap (λ r. entry_rows topic gone log ++ r ∷ []) (shown topic) ∙ sym (rows_from topic gone log (e ∷ []))

-- one row more goes on where the others did
pub rows_go_on : (gone : ℕ) (came log more : List Entry) (rows : List Row) (i : ℕ) (row : Row) → i < length rows → row ≡ get_or rows i row → GoOn gone came (take i rows) log → GoOn gone log (row ∷ []) more → GoOn gone came (take (i + 1) rows) more
rows_go_on gone came log more rows i row low at so_far next topic =
    ap (λ l. entry_rows topic gone came ++ put topic l) (take_more rows i row low ∙ ap (λ r. take i rows ++ r ∷ []) (sym at))
    ∙ ap (λ l. entry_rows topic gone came ++ l) (map-append (λ (r : Row). Words topic ∷ r) (take i rows) (row ∷ []))
    ∙ sym (append_assoc (entry_rows topic gone came) (put topic (take i rows)) (put topic (row ∷ [])))
    ∙ ap (λ l. l ++ put topic (row ∷ [])) (so_far topic)
    ∙ next topic

-- each position that may come next is above all of the log
abbrev pub IsAbove : Option Position → List Entry → Type 0
IsAbove last log = (p : Position) → IfSome last (λ l. position_cmp l p ≡ Less) → AllByRecursion (λ e. position_cmp e.position p ≡ Less) log

all_below : (xs : List Entry) (e : Entry) (p : Position) → AllByRecursion (λ x. position_cmp x.position e.position ≡ Less) xs → position_cmp e.position p ≡ Less → AllByRecursion (λ x. position_cmp x.position p ≡ Less) (xs ++ e ∷ [])
all_below [] e p below less = (less, tt)
all_below (x ∷ xs) e p below less = (positions_total.trans x.position e.position p below.0 less, all_below xs e p below.1 less)

pub above_more : (last : Option Position) (log : List Entry) (e : Entry) → IsAbove last log → IfSome last (λ l. position_cmp l e.position ≡ Less) → IsAbove (Some e.position) (log ++ e ∷ [])
above_more last log e above after p less = all_below log e p (above e.position after) less

pub log_more : (size ledger : ℕ) (last : Option Position) (log : List Entry) (e : Entry) → IsWellFormedLog size ledger log → IsAbove last log → IsNext size ledger last e.position → IsWellFormedLog size ledger (log ++ e ∷ [])
log_more size ledger last log e well above next = record {
  positions = sorted_push position_cmp (λ (x : Entry). x.position) log e well.positions (above e.position next.after);
  ledgers = All-push (λ (x : Entry). (x.position.ledger ≤ ledger) × (x.position.ledger ≤ 2 ^ 62)) log e well.ledgers (next.within, next.numbered);
  entries = λ some. All-push (λ (x : Entry). x.position.entry < size) log e (well.entries some) next.entry;
  last_ledger = well.last_ledger;
}

pub log_none : (size ledger : ℕ) → ledger ≤ 2 ^ 62 + 1 → IsWellFormedLog size ledger []
unfolding IsStrictlySortedBy
log_none size ledger within = record {
  positions = tt;
  ledgers = All-nil _;
  entries = λ some. All-nil _;
  last_ledger = within;
}

-- each position that all of the log are below is above the last one
abbrev pub IsLast : Option Position → List Entry → Type 0
IsLast last log = (p : Position) → AllByRecursion (λ (e : Entry). position_cmp e.position p ≡ Less) log → IfSome last (λ l. position_cmp l p ≡ Less)

pub last_more : (log : List Entry) (e : Entry) → IsLast (Some e.position) (log ++ e ∷ [])
last_more [] e p all = all.0
last_more (x ∷ xs) e p all = last_more xs e p all.1

-- a log is empty, or it has a last message
ends : (log : List Entry) → (log ≡ []) ⊎ ((xs : List Entry) × (e : Entry) × (log ≡ xs ++ e ∷ []))
ends [] = inl refl
ends (x ∷ xs) = elim (ends xs) [
  | inl none ↦ inr ([], x, ap (λ l. x ∷ l) none)
  | inr some ↦ inr (x ∷ some.0, some.1, ap (λ l. x ∷ l) some.2)
]

last_is : (xs : List Entry) (e : Entry) → last_position (xs ++ e ∷ []) ≡ Some e.position
last_is xs e = ap (option_map (λ (x : Entry). x.position)) (ap (slice_get (xs ++ e ∷ [])) (omega (arith, length-append xs (e ∷ []))) ∙ at xs)
  where
    at : (ys : List Entry) → slice_get (ys ++ e ∷ []) (length ys) ≡ Some e
    at [] = refl
    at (y ∷ ys) = at ys

all_before : (xs : List Entry) (e : Entry) → IsStrictlySortedBy position_cmp (map (λ (x : Entry). x.position) (xs ++ e ∷ [])) → AllByRecursion (λ (x : Entry). position_cmp x.position e.position ≡ Less) xs
unfolding IsStrictlySortedBy
all_before [] e rise = tt
all_before (x ∷ xs) e rise = (below xs rise.0, all_before xs e rise.1)
  where
    below : (ys : List Entry) → AllByRecursion (λ p. position_cmp x.position p ≡ Less) (map (λ (y : Entry). y.position) (ys ++ e ∷ [])) → position_cmp x.position e.position ≡ Less
    below [] all = all.0
    below (y ∷ ys) all = below ys all.1

-- where positions rise, what comes after the last message is above all of the log
pub above_last : (log : List Entry) → IsStrictlySortedBy position_cmp (map (λ (x : Entry). x.position) log) → IsAbove (last_position log) log
above_last log rise = elim (ends log) [
  | inl none ↦ subst (λ l. IsAbove (last_position l) l) (sym none) (λ p after. tt)
  | inr some ↦ subst (λ l. IsAbove (last_position l) l) (sym some.2)
      (subst (λ last. IsAbove last (some.0 ++ some.1 ∷ [])) (sym (last_is some.0 some.1)) (λ p less. all_below some.0 some.1 p (all_before some.0 some.1 (subst (λ l. IsStrictlySortedBy position_cmp (map (λ (x : Entry). x.position) l)) some.2 rise)) less))
]

-- what is above all of the log is above the last message
pub after_last : (log : List Entry) → IsLast (last_position log) log
after_last log = elim (ends log) [
  | inl none ↦ subst (λ l. IsLast (last_position l) l) (sym none) (λ p all. tt)
  | inr some ↦ subst (λ l. IsLast (last_position l) l) (sym some.2) (subst (λ last. IsLast last (some.0 ++ some.1 ∷ [])) (sym (last_is some.0 some.1)) (last_more some.0 some.1))
]

-- ---- a row that shows a message

pub record HasColumns (row : Row) (place : ℕ) (e : Entry) : Type 0 where
  pub long : length row ≡ 10
  pub at : column row 0 ≡ Int (pos place)
  pub ledger : column row 1 ≡ Int (pos e.position.ledger)
  pub entry : column row 2 ≡ Int (pos e.position.entry)
  pub producer : column row 3 ≡ Words e.producer
  pub sequence : column row 4 ≡ Int e.sequence
  pub time : column row 5 ≡ Int (pos e.time)
  pub key : column row 6 ∷ column row 7 ∷ [] ≡ key_cells e.body.key
  pub properties : column row 8 ≡ Words (properties_text e.body.properties)
  pub payload : column row 9 ≡ Octets e.body.payload

-- what a message's row is without its topic
message_cells : ℕ → Entry → Row
message_cells place e = Int (pos place) ∷ Int (pos e.position.ledger) ∷ Int (pos e.position.entry) ∷ Words e.producer ∷ Int e.sequence ∷ Int (pos e.time)
    ∷ (key_cells e.body.key ++ Words (properties_text e.body.properties) ∷ Octets e.body.payload ∷ [])

cells_shown : (row : Row) (place : ℕ) (e : Entry) → IsEntryAt place row e → row ≡ message_cells place e
unfolding message_cells
cells_shown row place e shown = let here : Words [] ∷ row ≡ entry_row [] place e = shown [] in cc

last_columns : (a b c d e f : Value) (k : Option (List ℕ)) (p o : List ℕ)
    → (let r : Row = a ∷ b ∷ c ∷ d ∷ e ∷ f ∷ (key_cells k ++ Words p ∷ Octets o ∷ []) in (length r ≡ 10) × (column r 6 ∷ column r 7 ∷ [] ≡ key_cells k) × (column r 8 ≡ Words p) × (column r 9 ≡ Octets o))
last_columns a b c d e f None p o = (refl, refl, refl, refl)
last_columns a b c d e f (Some key) p o = (refl, refl, refl, refl)

pub columns_of : (row : Row) (place : ℕ) (e : Entry) → IsEntryAt place row e → HasColumns row place e
unfolding message_cells
columns_of row place e shown =
    let is : row ≡ message_cells place e = cells_shown row place e shown in
    let h = last_columns (Int (pos place)) (Int (pos e.position.ledger)) (Int (pos e.position.entry)) (Words e.producer) (Int e.sequence) (Int (pos e.time)) e.body.key (properties_text e.body.properties) e.body.payload in
    record {
      long = ap length is ∙ h.0;
      at = ap (λ (r : Row). column r 0) is;
      ledger = ap (λ (r : Row). column r 1) is;
      entry = ap (λ (r : Row). column r 2) is;
      producer = ap (λ (r : Row). column r 3) is;
      sequence = ap (λ (r : Row). column r 4) is;
      time = ap (λ (r : Row). column r 5) is;
      key = ap (λ (r : Row). column r 6 ∷ column r 7 ∷ []) is ∙ h.1;
      properties = ap (λ (r : Row). column r 8) is ∙ h.2;
      payload = ap (λ (r : Row). column r 9) is ∙ h.3;
    }

pub one_position : (row : Row) (place : ℕ) (e f : Entry) → IsEntryAt place row e → IsEntryAt place row f → e.position ≡ f.position
one_position row place e f one other =
    let a = columns_of row place e one in
    let b = columns_of row place f other in
    position_is e.position f.position (numbers (column row 1) e.position.ledger f.position.ledger a.ledger b.ledger) (numbers (column row 2) e.position.entry f.position.entry a.entry b.entry)
  where
    numbers : (v : Value) (n m : ℕ) → v ≡ Int (pos n) → v ≡ Int (pos m) → n ≡ m
    numbers v n m x y = cc

    position_is : (p q : Position) → p.ledger ≡ q.ledger → p.entry ≡ q.entry → p ≡ q
    position_is p q ledgers entries = let put : ℕ → ℕ → Position = λ l n. record { ledger = l; entry = n } in ap (λ l. put l p.entry) ledgers ∙ ap (put q.ledger) entries
