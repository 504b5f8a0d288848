-- The statements on each of the tables of topics.
use Rattle.std.proofs.Common.{◌≡◌, ℕ, ℤ, pos, List, [], ◌∷◌, codes, Ok, refl, ap, subst, arith}
use Rattle.sqlite.specs.declared.types.Value.TheVariants.{Null, Int, Text, Blob as Octets}
use Rattle.sqlite.specs.Order.{Row, column}
use Rattle.sqlite.specs.Term.{lit, col}
use Rattle.sqlite.specs.State.{State, ExecutesInside}
use Rattle.sqlite_schema.specs.declared.schema.Column.{Column}
use Rattle.sqlite.specs.Kind.TheVariants.{Integer, Text as TextKind, Blob}
use Rattle.row_forms.specs.Schema.{required}
use Rattle.row_forms.specs.Cells.{TOPIC, ENTRY, SUB, ACK, DEAD, REDELIVERY, AUTHOR, RETENTION}
use Rattle.row_tables.specs.Goes.{Goes, Clears, Adds, Takes, Swaps}
use Rattle.row_tables.proofs.Texts.{equals, clear_topic, clear_topic_is, insert_topic, insert_topic_is, clear_entry, clear_entry_is, insert_entry, insert_entry_is, clear_sub, clear_sub_is, insert_sub, insert_sub_is, clear_ack, clear_ack_is, insert_ack, insert_ack_is, clear_dead, clear_dead_is, insert_dead, insert_dead_is, remove_sub, remove_sub_is, remove_ack, remove_ack_is, set_ack_last, set_ack_last_is, remove_dead, remove_dead_is, clear_count, clear_count_is, insert_count, insert_count_is, remove_count, remove_count_is, clear_author, clear_author_is, insert_author, insert_author_is, remove_author, remove_author_is, clear_retention, clear_retention_is, insert_retention, insert_retention_is, remove_retention, remove_retention_is}
use Rattle.row_tables.proofs.TableLemmas.{same_text, same_int}
use Rattle.row_tables.proofs.StatementLemmas.{cast_int}
use Rattle.row_tables.proofs.PartLemmas.{clears_rows, takes_row, swaps_row, adds_row}

abbrev topic_columns : List Column
topic_columns = required (codes "name") TextKind ∷ required (codes "ledger_size") Integer ∷ required (codes "ledger") Integer ∷ required (codes "ordinal") Integer ∷ []

pub clears_topic : (topic : List ℕ) (old new : State) (count : ℕ) → ExecutesInside 0 clear_topic (Text topic ∷ []) old new (Ok count) → Goes (Clears TOPIC topic) old new
clears_topic = clears_rows 1 (codes "topic") TOPIC topic_columns (1 ∷ []) refl (λ _ _ _. refl) (λ _ all. all.1.0) (λ _ _ all. all.0 (λ e. omega (arith, e))) (λ _. refl) clear_topic clear_topic_is.0 clear_topic_is.1 (λ _ _. refl)

pub adds_topic : (topic : List ℕ) (size ledger ordinal : ℕ) (old new : State) (count : ℕ) → ExecutesInside 0 insert_topic (Text topic ∷ Int (pos size) ∷ Int (pos ledger) ∷ Int (pos ordinal) ∷ []) old new (Ok count)
    → Goes (Adds TOPIC ((Text topic ∷ Int (pos size) ∷ Int (pos ledger) ∷ Int (pos ordinal) ∷ []) ∷ [])) old new
adds_topic topic size ledger ordinal = adds_row 1 (codes "topic") TOPIC topic_columns (1 ∷ []) refl (λ _ _ _. refl) (λ _ all. all.1.0) (λ _ _ all. all.0 (λ e. omega (arith, e))) (λ _. refl) insert_topic (lit Null ∷ col 0 0 ∷ col 0 1 ∷ col 0 2 ∷ col 0 3 ∷ []) 5 insert_topic_is.0 insert_topic_is.1
    (Text topic ∷ Int (pos size) ∷ Int (pos ledger) ∷ Int (pos ordinal) ∷ []) refl (rw (cast_int (pos size), cast_int (pos ledger), cast_int (pos ordinal)) refl) (λ _. refl)

abbrev pub entry_columns : List Column
entry_columns = required (codes "topic") TextKind ∷ required (codes "idx") Integer ∷ required (codes "ledger") Integer ∷ required (codes "entry") Integer ∷ required (codes "producer") TextKind ∷ required (codes "sequence") Integer ∷ required (codes "time") Integer ∷ required (codes "has_key") Integer ∷ required (codes "key") TextKind ∷ required (codes "properties") TextKind ∷ required (codes "payload") Blob ∷ []

pub clears_entry : (topic : List ℕ) (old new : State) (count : ℕ) → ExecutesInside 0 clear_entry (Text topic ∷ []) old new (Ok count) → Goes (Clears ENTRY topic) old new
clears_entry = clears_rows 2 (codes "entry") ENTRY entry_columns (1 ∷ 2 ∷ []) refl (λ _ _ _. refl) (λ _ all. all.1.1.0) (λ _ _ all. all.0 (λ e. omega (arith, e))) (λ _. refl) clear_entry clear_entry_is.0 clear_entry_is.1 (λ _ _. refl)

pub adds_entry : (topic : List ℕ) (place ledger entry : ℕ) (producer : List ℕ) (sequence : ℤ) (time has : ℕ) (key properties payload : List ℕ) (old new : State) (count : ℕ) → ExecutesInside 0 insert_entry (Text topic ∷ Int (pos place) ∷ Int (pos ledger) ∷ Int (pos entry) ∷ Text producer ∷ Int sequence ∷ Int (pos time) ∷ Int (pos has) ∷ Text key ∷ Text properties ∷ Octets payload ∷ []) old new (Ok count)
    → Goes (Adds ENTRY ((Text topic ∷ Int (pos place) ∷ Int (pos ledger) ∷ Int (pos entry) ∷ Text producer ∷ Int sequence ∷ Int (pos time) ∷ Int (pos has) ∷ Text key ∷ Text properties ∷ Octets payload ∷ []) ∷ [])) old new
adds_entry topic place ledger entry producer sequence time has key properties payload = adds_row 2 (codes "entry") ENTRY entry_columns (1 ∷ 2 ∷ []) refl (λ _ _ _. refl) (λ _ all. all.1.1.0) (λ _ _ all. all.0 (λ e. omega (arith, e))) (λ _. refl) insert_entry (lit Null ∷ col 0 0 ∷ col 0 1 ∷ col 0 2 ∷ col 0 3 ∷ col 0 4 ∷ col 0 5 ∷ col 0 6 ∷ col 0 7 ∷ col 0 8 ∷ col 0 9 ∷ col 0 10 ∷ []) 12 insert_entry_is.0 insert_entry_is.1
    (Text topic ∷ Int (pos place) ∷ Int (pos ledger) ∷ Int (pos entry) ∷ Text producer ∷ Int sequence ∷ Int (pos time) ∷ Int (pos has) ∷ Text key ∷ Text properties ∷ Octets payload ∷ []) refl (rw (cast_int (pos place), cast_int (pos ledger), cast_int (pos entry), cast_int sequence, cast_int (pos time), cast_int (pos has)) refl) (λ _. refl)

-- the same of parameters that are known to be these
pub adds_entry_as : (topic : List ℕ) (place ledger entry : ℕ) (producer : List ℕ) (sequence : ℤ) (time has : ℕ) (key properties payload : List ℕ) {params : Row} {old new : State} (count : ℕ) → ExecutesInside 0 insert_entry params old new (Ok count)
    → params ≡ (Text topic ∷ Int (pos place) ∷ Int (pos ledger) ∷ Int (pos entry) ∷ Text producer ∷ Int sequence ∷ Int (pos time) ∷ Int (pos has) ∷ Text key ∷ Text properties ∷ Octets payload ∷ [])
    → Goes (Adds ENTRY ((Text topic ∷ Int (pos place) ∷ Int (pos ledger) ∷ Int (pos entry) ∷ Text producer ∷ Int sequence ∷ Int (pos time) ∷ Int (pos has) ∷ Text key ∷ Text properties ∷ Octets payload ∷ []) ∷ [])) old new
adds_entry_as topic place ledger entry producer sequence time has key properties payload {params} {old} {new} count runs is =
    adds_entry topic place ledger entry producer sequence time has key properties payload old new count (subst (λ (p : Row). ExecutesInside 0 insert_entry p old new (Ok count)) is runs)

abbrev sub_columns : List Column
sub_columns = required (codes "topic") TextKind ∷ required (codes "name") TextKind ∷ required (codes "kind") Integer ∷ []

pub clears_sub : (topic : List ℕ) (old new : State) (count : ℕ) → ExecutesInside 0 clear_sub (Text topic ∷ []) old new (Ok count) → Goes (Clears SUB topic) old new
clears_sub = clears_rows 3 (codes "sub") SUB sub_columns (1 ∷ 2 ∷ []) refl (λ _ _ _. refl) (λ _ all. all.1.1.1.0) (λ _ _ all. all.0 (λ e. omega (arith, e))) (λ _. refl) clear_sub clear_sub_is.0 clear_sub_is.1 (λ _ _. refl)

pub adds_sub : (topic name : List ℕ) (kind : ℕ) (old new : State) (count : ℕ) → ExecutesInside 0 insert_sub (Text topic ∷ Text name ∷ Int (pos kind) ∷ []) old new (Ok count)
    → Goes (Adds SUB ((Text topic ∷ Text name ∷ Int (pos kind) ∷ []) ∷ [])) old new
adds_sub topic name kind = adds_row 3 (codes "sub") SUB sub_columns (1 ∷ 2 ∷ []) refl (λ _ _ _. refl) (λ _ all. all.1.1.1.0) (λ _ _ all. all.0 (λ e. omega (arith, e))) (λ _. refl) insert_sub (lit Null ∷ col 0 0 ∷ col 0 1 ∷ col 0 2 ∷ []) 4 insert_sub_is.0 insert_sub_is.1
    (Text topic ∷ Text name ∷ Int (pos kind) ∷ []) refl (rw (cast_int (pos kind)) refl) (λ _. refl)

pub takes_sub : (topic name : List ℕ) (kind : ℕ) (old new : State) (count : ℕ) → count ≡ 1 → ExecutesInside 0 remove_sub (Text topic ∷ Text name ∷ Int (pos kind) ∷ []) old new (Ok count)
    → Goes (Takes SUB ((Text topic ∷ Text name ∷ Int (pos kind) ∷ []) ∷ [])) old new
takes_sub topic name kind = takes_row 3 (codes "sub") SUB sub_columns (1 ∷ 2 ∷ []) refl (λ _ _ _. refl) (λ _ all. all.1.1.1.0) (λ _ _ all. all.0 (λ e. omega (arith, e))) (λ _. refl) remove_sub (equals 0 ∷ equals 1 ∷ equals 2 ∷ []) remove_sub_is.0 remove_sub_is.1
    (Text topic ∷ Text name ∷ Int (pos kind) ∷ []) (λ _. refl) (rw (same_text topic, same_text name, same_int (pos kind)) refl)

abbrev ack_columns : List Column
ack_columns = required (codes "topic") TextKind ∷ required (codes "sub") TextKind ∷ required (codes "first") Integer ∷ required (codes "last") Integer ∷ []

pub clears_ack : (topic : List ℕ) (old new : State) (count : ℕ) → ExecutesInside 0 clear_ack (Text topic ∷ []) old new (Ok count) → Goes (Clears ACK topic) old new
clears_ack = clears_rows 4 (codes "ack") ACK ack_columns (1 ∷ 2 ∷ 3 ∷ []) refl (λ _ _ _. refl) (λ _ all. all.1.1.1.1.0) (λ _ _ all. all.0 (λ e. omega (arith, e))) (λ _. refl) clear_ack clear_ack_is.0 clear_ack_is.1 (λ _ _. refl)

pub adds_ack : (topic sub : List ℕ) (first last : ℕ) (old new : State) (count : ℕ) → ExecutesInside 0 insert_ack (Text topic ∷ Text sub ∷ Int (pos first) ∷ Int (pos last) ∷ []) old new (Ok count)
    → Goes (Adds ACK ((Text topic ∷ Text sub ∷ Int (pos first) ∷ Int (pos last) ∷ []) ∷ [])) old new
adds_ack topic sub first last = adds_row 4 (codes "ack") ACK ack_columns (1 ∷ 2 ∷ 3 ∷ []) refl (λ _ _ _. refl) (λ _ all. all.1.1.1.1.0) (λ _ _ all. all.0 (λ e. omega (arith, e))) (λ _. refl) insert_ack (lit Null ∷ col 0 0 ∷ col 0 1 ∷ col 0 2 ∷ col 0 3 ∷ []) 5 insert_ack_is.0 insert_ack_is.1
    (Text topic ∷ Text sub ∷ Int (pos first) ∷ Int (pos last) ∷ []) refl (rw (cast_int (pos first), cast_int (pos last)) refl) (λ _. refl)

pub takes_ack : (topic sub : List ℕ) (first last : ℕ) (old new : State) (count : ℕ) → count ≡ 1 → ExecutesInside 0 remove_ack (Text topic ∷ Text sub ∷ Int (pos first) ∷ Int (pos last) ∷ []) old new (Ok count)
    → Goes (Takes ACK ((Text topic ∷ Text sub ∷ Int (pos first) ∷ Int (pos last) ∷ []) ∷ [])) old new
takes_ack topic sub first last = takes_row 4 (codes "ack") ACK ack_columns (1 ∷ 2 ∷ 3 ∷ []) refl (λ _ _ _. refl) (λ _ all. all.1.1.1.1.0) (λ _ _ all. all.0 (λ e. omega (arith, e))) (λ _. refl) remove_ack (equals 0 ∷ equals 1 ∷ equals 2 ∷ equals 3 ∷ []) remove_ack_is.0 remove_ack_is.1
    (Text topic ∷ Text sub ∷ Int (pos first) ∷ Int (pos last) ∷ []) (λ _. refl) (rw (same_text topic, same_text sub, same_int (pos first), same_int (pos last)) refl)

pub swaps_ack : (topic sub : List ℕ) (first last to : ℕ) (old new : State) (count : ℕ) → count ≡ 1 → ExecutesInside 0 set_ack_last (Text topic ∷ Text sub ∷ Int (pos first) ∷ Int (pos last) ∷ Int (pos to) ∷ []) old new (Ok count)
    → Goes (Swaps ACK ((Text topic ∷ Text sub ∷ Int (pos first) ∷ Int (pos last) ∷ []) ∷ []) ((Text topic ∷ Text sub ∷ Int (pos first) ∷ Int (pos to) ∷ []) ∷ [])) old new
swaps_ack topic sub first last to = swaps_row 4 (codes "ack") ACK ack_columns (1 ∷ 2 ∷ 3 ∷ []) refl (λ _ _ _. refl) (λ _ all. all.1.1.1.1.0) (λ _ _ all. all.0 (λ e. omega (arith, e))) (λ _. refl) set_ack_last (equals 0 ∷ equals 1 ∷ equals 2 ∷ equals 3 ∷ []) (col 1 1 ∷ col 1 2 ∷ col 1 3 ∷ col 0 4 ∷ []) set_ack_last_is.0 set_ack_last_is.1
    (Text topic ∷ Text sub ∷ Int (pos first) ∷ Int (pos last) ∷ Int (pos to) ∷ []) (Text topic ∷ Text sub ∷ Int (pos first) ∷ Int (pos last) ∷ []) (Text topic ∷ Text sub ∷ Int (pos first) ∷ Int (pos to) ∷ []) (λ _. refl)
    (rw (same_text topic, same_text sub, same_int (pos first), same_int (pos last)) refl)
    (λ id r is.
    let a : column r 1 ≡ Text topic = ap (λ (row : Row). column row 0) is in
    let b : column r 2 ≡ Text sub = ap (λ (row : Row). column row 1) is in
    let c : column r 3 ≡ Int (pos first) = ap (λ (row : Row). column row 2) is in
    rw (a, b, c, cast_int (pos first), cast_int (pos to)) refl)

abbrev dead_columns : List Column
dead_columns = required (codes "topic") TextKind ∷ required (codes "sub") TextKind ∷ required (codes "ordinal") Integer ∷ required (codes "idx") Integer ∷ required (codes "target") TextKind ∷ []

pub clears_dead : (topic : List ℕ) (old new : State) (count : ℕ) → ExecutesInside 0 clear_dead (Text topic ∷ []) old new (Ok count) → Goes (Clears DEAD topic) old new
clears_dead = clears_rows 5 (codes "dead") DEAD dead_columns (1 ∷ 2 ∷ 3 ∷ []) refl (λ _ _ _. refl) (λ _ all. all.1.1.1.1.1.0) (λ _ _ all. all.0 (λ e. omega (arith, e))) (λ _. refl) clear_dead clear_dead_is.0 clear_dead_is.1 (λ _ _. refl)

pub adds_dead : (topic sub : List ℕ) (ordinal place : ℕ) (target : List ℕ) (old new : State) (count : ℕ) → ExecutesInside 0 insert_dead (Text topic ∷ Text sub ∷ Int (pos ordinal) ∷ Int (pos place) ∷ Text target ∷ []) old new (Ok count)
    → Goes (Adds DEAD ((Text topic ∷ Text sub ∷ Int (pos ordinal) ∷ Int (pos place) ∷ Text target ∷ []) ∷ [])) old new
adds_dead topic sub ordinal place target = adds_row 5 (codes "dead") DEAD dead_columns (1 ∷ 2 ∷ 3 ∷ []) refl (λ _ _ _. refl) (λ _ all. all.1.1.1.1.1.0) (λ _ _ all. all.0 (λ e. omega (arith, e))) (λ _. refl) insert_dead (lit Null ∷ col 0 0 ∷ col 0 1 ∷ col 0 2 ∷ col 0 3 ∷ col 0 4 ∷ []) 6 insert_dead_is.0 insert_dead_is.1
    (Text topic ∷ Text sub ∷ Int (pos ordinal) ∷ Int (pos place) ∷ Text target ∷ []) refl (rw (cast_int (pos ordinal), cast_int (pos place)) refl) (λ _. refl)

pub takes_dead : (topic sub : List ℕ) (ordinal place : ℕ) (target : List ℕ) (old new : State) (count : ℕ) → count ≡ 1 → ExecutesInside 0 remove_dead (Text topic ∷ Text sub ∷ Int (pos ordinal) ∷ Int (pos place) ∷ Text target ∷ []) old new (Ok count)
    → Goes (Takes DEAD ((Text topic ∷ Text sub ∷ Int (pos ordinal) ∷ Int (pos place) ∷ Text target ∷ []) ∷ [])) old new
takes_dead topic sub ordinal place target = takes_row 5 (codes "dead") DEAD dead_columns (1 ∷ 2 ∷ 3 ∷ []) refl (λ _ _ _. refl) (λ _ all. all.1.1.1.1.1.0) (λ _ _ all. all.0 (λ e. omega (arith, e))) (λ _. refl) remove_dead (equals 0 ∷ equals 1 ∷ equals 2 ∷ equals 3 ∷ equals 4 ∷ []) remove_dead_is.0 remove_dead_is.1
    (Text topic ∷ Text sub ∷ Int (pos ordinal) ∷ Int (pos place) ∷ Text target ∷ []) (λ _. refl) (rw (same_text topic, same_text sub, same_int (pos ordinal), same_int (pos place), same_text target) refl)

abbrev count_columns : List Column
count_columns = required (codes "topic") TextKind ∷ required (codes "sub") TextKind ∷ required (codes "idx") Integer ∷ required (codes "times") Integer ∷ []

pub clears_count : (topic : List ℕ) (old new : State) (count : ℕ) → ExecutesInside 0 clear_count (Text topic ∷ []) old new (Ok count) → Goes (Clears REDELIVERY topic) old new
clears_count = clears_rows 6 (codes "redelivery") REDELIVERY count_columns (1 ∷ 2 ∷ 3 ∷ []) refl (λ _ _ _. refl) (λ _ all. all.1.1.1.1.1.1.0) (λ _ _ all. all.0 (λ e. omega (arith, e))) (λ _. refl) clear_count clear_count_is.0 clear_count_is.1 (λ _ _. refl)

pub adds_count : (topic sub : List ℕ) (place times : ℕ) (old new : State) (count : ℕ) → ExecutesInside 0 insert_count (Text topic ∷ Text sub ∷ Int (pos place) ∷ Int (pos times) ∷ []) old new (Ok count)
    → Goes (Adds REDELIVERY ((Text topic ∷ Text sub ∷ Int (pos place) ∷ Int (pos times) ∷ []) ∷ [])) old new
adds_count topic sub place times = adds_row 6 (codes "redelivery") REDELIVERY count_columns (1 ∷ 2 ∷ 3 ∷ []) refl (λ _ _ _. refl) (λ _ all. all.1.1.1.1.1.1.0) (λ _ _ all. all.0 (λ e. omega (arith, e))) (λ _. refl) insert_count (lit Null ∷ col 0 0 ∷ col 0 1 ∷ col 0 2 ∷ col 0 3 ∷ []) 5 insert_count_is.0 insert_count_is.1
    (Text topic ∷ Text sub ∷ Int (pos place) ∷ Int (pos times) ∷ []) refl (rw (cast_int (pos place), cast_int (pos times)) refl) (λ _. refl)

pub takes_count : (topic sub : List ℕ) (place times : ℕ) (old new : State) (count : ℕ) → count ≡ 1 → ExecutesInside 0 remove_count (Text topic ∷ Text sub ∷ Int (pos place) ∷ Int (pos times) ∷ []) old new (Ok count)
    → Goes (Takes REDELIVERY ((Text topic ∷ Text sub ∷ Int (pos place) ∷ Int (pos times) ∷ []) ∷ [])) old new
takes_count topic sub place times = takes_row 6 (codes "redelivery") REDELIVERY count_columns (1 ∷ 2 ∷ 3 ∷ []) refl (λ _ _ _. refl) (λ _ all. all.1.1.1.1.1.1.0) (λ _ _ all. all.0 (λ e. omega (arith, e))) (λ _. refl) remove_count (equals 0 ∷ equals 1 ∷ equals 2 ∷ equals 3 ∷ []) remove_count_is.0 remove_count_is.1
    (Text topic ∷ Text sub ∷ Int (pos place) ∷ Int (pos times) ∷ []) (λ _. refl) (rw (same_text topic, same_text sub, same_int (pos place), same_int (pos times)) refl)

abbrev author_columns : List Column
author_columns = required (codes "topic") TextKind ∷ required (codes "idx") Integer ∷ required (codes "producer") TextKind ∷ required (codes "sequence") Integer ∷ []

pub clears_author : (topic : List ℕ) (old new : State) (count : ℕ) → ExecutesInside 0 clear_author (Text topic ∷ []) old new (Ok count) → Goes (Clears AUTHOR topic) old new
clears_author = clears_rows 7 (codes "author") AUTHOR author_columns (1 ∷ 2 ∷ []) refl (λ _ _ _. refl) (λ _ all. all.1.1.1.1.1.1.1.0) (λ _ _ all. all.0 (λ e. omega (arith, e))) (λ _. refl) clear_author clear_author_is.0 clear_author_is.1 (λ _ _. refl)

pub adds_author : (topic : List ℕ) (place : ℕ) (producer : List ℕ) (sequence : ℤ) (old new : State) (count : ℕ) → ExecutesInside 0 insert_author (Text topic ∷ Int (pos place) ∷ Text producer ∷ Int sequence ∷ []) old new (Ok count)
    → Goes (Adds AUTHOR ((Text topic ∷ Int (pos place) ∷ Text producer ∷ Int sequence ∷ []) ∷ [])) old new
adds_author topic place producer sequence = adds_row 7 (codes "author") AUTHOR author_columns (1 ∷ 2 ∷ []) refl (λ _ _ _. refl) (λ _ all. all.1.1.1.1.1.1.1.0) (λ _ _ all. all.0 (λ e. omega (arith, e))) (λ _. refl) insert_author (lit Null ∷ col 0 0 ∷ col 0 1 ∷ col 0 2 ∷ col 0 3 ∷ []) 5 insert_author_is.0 insert_author_is.1
    (Text topic ∷ Int (pos place) ∷ Text producer ∷ Int sequence ∷ []) refl (rw (cast_int (pos place), cast_int sequence) refl) (λ _. refl)

pub takes_author : (topic : List ℕ) (place : ℕ) (producer : List ℕ) (sequence : ℤ) (old new : State) (count : ℕ) → count ≡ 1 → ExecutesInside 0 remove_author (Text topic ∷ Int (pos place) ∷ Text producer ∷ Int sequence ∷ []) old new (Ok count)
    → Goes (Takes AUTHOR ((Text topic ∷ Int (pos place) ∷ Text producer ∷ Int sequence ∷ []) ∷ [])) old new
takes_author topic place producer sequence = takes_row 7 (codes "author") AUTHOR author_columns (1 ∷ 2 ∷ []) refl (λ _ _ _. refl) (λ _ all. all.1.1.1.1.1.1.1.0) (λ _ _ all. all.0 (λ e. omega (arith, e))) (λ _. refl) remove_author (equals 0 ∷ equals 1 ∷ equals 2 ∷ equals 3 ∷ []) remove_author_is.0 remove_author_is.1
    (Text topic ∷ Int (pos place) ∷ Text producer ∷ Int sequence ∷ []) (λ _. refl) (rw (same_text topic, same_int (pos place), same_text producer, same_int sequence) refl)

abbrev retention_columns : List Column
retention_columns = required (codes "topic") TextKind ∷ required (codes "gone") Integer ∷ required (codes "kind") Integer ∷ required (codes "amount") Integer ∷ []

pub clears_retention : (topic : List ℕ) (old new : State) (count : ℕ) → ExecutesInside 0 clear_retention (Text topic ∷ []) old new (Ok count) → Goes (Clears RETENTION topic) old new
clears_retention = clears_rows 8 (codes "retention") RETENTION retention_columns (1 ∷ []) refl (λ _ _ _. refl) (λ _ all. all.1.1.1.1.1.1.1.1.0) (λ _ _ all. all.0 (λ e. omega (arith, e))) (λ _. refl) clear_retention clear_retention_is.0 clear_retention_is.1 (λ _ _. refl)

pub adds_retention : (topic : List ℕ) (gone kind amount : ℕ) (old new : State) (count : ℕ) → ExecutesInside 0 insert_retention (Text topic ∷ Int (pos gone) ∷ Int (pos kind) ∷ Int (pos amount) ∷ []) old new (Ok count)
    → Goes (Adds RETENTION ((Text topic ∷ Int (pos gone) ∷ Int (pos kind) ∷ Int (pos amount) ∷ []) ∷ [])) old new
adds_retention topic gone kind amount = adds_row 8 (codes "retention") RETENTION retention_columns (1 ∷ []) refl (λ _ _ _. refl) (λ _ all. all.1.1.1.1.1.1.1.1.0) (λ _ _ all. all.0 (λ e. omega (arith, e))) (λ _. refl) insert_retention (lit Null ∷ col 0 0 ∷ col 0 1 ∷ col 0 2 ∷ col 0 3 ∷ []) 5 insert_retention_is.0 insert_retention_is.1
    (Text topic ∷ Int (pos gone) ∷ Int (pos kind) ∷ Int (pos amount) ∷ []) refl (rw (cast_int (pos gone), cast_int (pos kind), cast_int (pos amount)) refl) (λ _. refl)

pub takes_retention : (topic : List ℕ) (gone kind amount : ℕ) (old new : State) (count : ℕ) → count ≡ 1 → ExecutesInside 0 remove_retention (Text topic ∷ Int (pos gone) ∷ Int (pos kind) ∷ Int (pos amount) ∷ []) old new (Ok count)
    → Goes (Takes RETENTION ((Text topic ∷ Int (pos gone) ∷ Int (pos kind) ∷ Int (pos amount) ∷ []) ∷ [])) old new
takes_retention topic gone kind amount = takes_row 8 (codes "retention") RETENTION retention_columns (1 ∷ []) refl (λ _ _ _. refl) (λ _ all. all.1.1.1.1.1.1.1.1.0) (λ _ _ all. all.0 (λ e. omega (arith, e))) (λ _. refl) remove_retention (equals 0 ∷ equals 1 ∷ equals 2 ∷ equals 3 ∷ []) remove_retention_is.0 remove_retention_is.1
    (Text topic ∷ Int (pos gone) ∷ Int (pos kind) ∷ Int (pos amount) ∷ []) (λ _. refl) (rw (same_text topic, same_int (pos gone), same_int (pos kind), same_int (pos amount)) refl)
