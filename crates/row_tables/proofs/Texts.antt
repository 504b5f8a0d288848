-- What the statements on the rows of topics mean, where the nine tables are there.
use Rattle.std.proofs.Common.{◌≡◌, ℕ, ◌+◌, pos, negsuc, List, [], ◌∷◌, codes, false, None, refl}
use Rattle.sqlite.specs.declared.types.Value.TheVariants.{Null, Int}
use Rattle.sqlite.specs.Term.{Term, lit, col, op2}
use Rattle.sqlite_sql.specs.declared.ops.BinaryOp.TheVariants.{Compare}
use Rattle.sqlite_sql.specs.declared.ops.CompareOp.TheVariants.{Eq, Lt, Ge}
use Rattle.sqlite.specs.Collation.TheVariants.{Binary}
use Rattle.sqlite_value.specs.declared.keys.Key.{Key}
use Rattle.sqlite_value.specs.Keys.{ascending}
use Rattle.sqlite_schema.specs.declared.program.Program.{Program}
use Rattle.sqlite.specs.Query.{Query, inner, end}
use Rattle.sqlite.specs.Source.TheVariants.{Values}
use Rattle.sqlite.specs.Command.TheVariants.{Insert, Delete, Update, Select}
use Rattle.sqlite_tied.specs.Compute.{everything}
use Rattle.sqlite.specs.Listing.{understood, reads_listing}
use Rattle.sqlite.proofs.Callers.{IsPlain, command_of}
use Rattle.row_forms.specs.Schema.{schema_9}

-- that the column of the row is the parameter with the same number
abbrev pub equals : ℕ → Term
equals k = op2 (Compare Eq Binary) (col 1 (k + 1)) (col 0 k)

-- the rows of the table that pass the tests, as many as the limit says
abbrev pub matching_most : ℕ → List Term → List Term → List (Term × Key) → Term → Query
matching_most tree tests project order limit = record { from = inner tree end; filter = tests; group = None; project = project; distinct = false; collations = []; order = order; limit = limit; offset = lit (Int (pos 0)) }

-- all of them
abbrev pub matching : ℕ → List Term → List Term → List (Term × Key) → Query
matching tree tests project order = matching_most tree tests project order (lit (Int (negsuc 0)))

-- the rows whose second column is the first parameter
abbrev pub of_topic : ℕ → List Term → List (Term × Key) → Query
of_topic tree = matching tree (equals 0 ∷ [])

abbrev pub alone : Query → Program
alone q = record { lets = []; body = q }

abbrev pub insert_topic : List ℕ
insert_topic = codes "INSERT INTO topic (name, ledger_size, ledger, ordinal) VALUES (?1, ?2, ?3, ?4)"

pub insert_topic_is : (command_of (understood schema_9 insert_topic) ≡ Insert 1 (Values (lit Null ∷ col 0 0 ∷ col 0 1 ∷ col 0 2 ∷ col 0 3 ∷ []) 5)) × IsPlain (understood schema_9 insert_topic)
unfolding understood everything
insert_topic_is = (refl, (refl, refl))

abbrev pub clear_topic : List ℕ
clear_topic = codes "DELETE FROM topic WHERE name = ?1"

pub clear_topic_is : (command_of (understood schema_9 clear_topic) ≡ Delete 1 (alone (of_topic 1 (col 1 0 ∷ []) []))) × IsPlain (understood schema_9 clear_topic)
unfolding understood everything
clear_topic_is = (refl, (refl, refl))

abbrev pub select_topic : List ℕ
select_topic = codes "SELECT ledger_size, ledger, ordinal FROM topic WHERE name = ?1"

pub select_topic_is : (command_of (understood schema_9 select_topic) ≡ Select (alone (of_topic 1 (col 1 2 ∷ col 1 3 ∷ col 1 4 ∷ []) ([]))) (codes "ledger_size" ∷ codes "ledger" ∷ codes "ordinal" ∷ [])) × (reads_listing schema_9 select_topic ≡ false) × IsPlain (understood schema_9 select_topic)
unfolding understood everything
select_topic_is = (refl, refl, (refl, refl))

abbrev pub insert_entry : List ℕ
insert_entry = codes "INSERT INTO entry (topic, idx, ledger, entry, producer, sequence, time, has_key, key, properties, payload) VALUES (?1, ?2, ?3, ?4, ?5, ?6, ?7, ?8, ?9, ?10, ?11)"

pub insert_entry_is : (command_of (understood schema_9 insert_entry) ≡ Insert 2 (Values (lit Null ∷ col 0 0 ∷ col 0 1 ∷ col 0 2 ∷ col 0 3 ∷ col 0 4 ∷ col 0 5 ∷ col 0 6 ∷ col 0 7 ∷ col 0 8 ∷ col 0 9 ∷ col 0 10 ∷ []) 12)) × IsPlain (understood schema_9 insert_entry)
unfolding understood everything
insert_entry_is = (refl, (refl, refl))

abbrev pub clear_entry : List ℕ
clear_entry = codes "DELETE FROM entry WHERE topic = ?1"

pub clear_entry_is : (command_of (understood schema_9 clear_entry) ≡ Delete 2 (alone (of_topic 3 (col 1 0 ∷ []) []))) × IsPlain (understood schema_9 clear_entry)
unfolding understood everything
clear_entry_is = (refl, (refl, refl))

-- the place is the second parameter at least
abbrev pub place_from : Term
place_from = op2 (Compare Ge Binary) (col 1 2) (col 0 1)

-- it is below the third parameter, or below the second
abbrev pub place_below : Term
place_below = op2 (Compare Lt Binary) (col 1 2) (col 0 2)

abbrev pub place_under : Term
place_under = op2 (Compare Lt Binary) (col 1 2) (col 0 1)

abbrev pub cut_entry : List ℕ
cut_entry = codes "DELETE FROM entry WHERE topic = ?1 AND idx < ?2"

pub cut_entry_is : (command_of (understood schema_9 cut_entry) ≡ Delete 2 (alone (matching 3 (equals 0 ∷ place_under ∷ []) (col 1 0 ∷ []) []))) × IsPlain (understood schema_9 cut_entry)
unfolding understood everything
cut_entry_is = (refl, (refl, refl))

abbrev pub select_piece : List ℕ
select_piece = codes "SELECT idx, ledger, entry, producer, sequence, time, has_key, key, properties, payload FROM entry WHERE topic = ?1 AND idx >= ?2 AND idx < ?3 ORDER BY idx"

pub select_piece_is : (command_of (understood schema_9 select_piece) ≡ Select (alone (matching 3 (equals 0 ∷ place_from ∷ place_below ∷ []) (col 1 2 ∷ col 1 3 ∷ col 1 4 ∷ col 1 5 ∷ col 1 6 ∷ col 1 7 ∷ col 1 8 ∷ col 1 9 ∷ col 1 10 ∷ col 1 11 ∷ []) ((col 1 2, ascending Binary) ∷ []))) (codes "idx" ∷ codes "ledger" ∷ codes "entry" ∷ codes "producer" ∷ codes "sequence" ∷ codes "time" ∷ codes "has_key" ∷ codes "key" ∷ codes "properties" ∷ codes "payload" ∷ [])) × (reads_listing schema_9 select_piece ≡ false) × IsPlain (understood schema_9 select_piece)
unfolding understood everything
select_piece_is = (refl, refl, (refl, refl))

abbrev pub select_first : List ℕ
select_first = codes "SELECT idx FROM entry WHERE topic = ?1 ORDER BY idx LIMIT 1"

pub select_first_is : (command_of (understood schema_9 select_first) ≡ Select (alone (matching_most 3 (equals 0 ∷ []) (col 1 2 ∷ []) ((col 1 2, ascending Binary) ∷ []) (lit (Int (pos 1))))) (codes "idx" ∷ [])) × (reads_listing schema_9 select_first ≡ false) × IsPlain (understood schema_9 select_first)
unfolding understood everything
select_first_is = (refl, refl, (refl, refl))

abbrev pub select_from : List ℕ
select_from = codes "SELECT idx FROM entry WHERE topic = ?1 AND idx >= ?2 LIMIT 1"

pub select_from_is : (command_of (understood schema_9 select_from) ≡ Select (alone (matching_most 3 (equals 0 ∷ place_from ∷ []) (col 1 2 ∷ []) [] (lit (Int (pos 1))))) (codes "idx" ∷ [])) × (reads_listing schema_9 select_from ≡ false) × IsPlain (understood schema_9 select_from)
unfolding understood everything
select_from_is = (refl, refl, (refl, refl))

abbrev pub insert_sub : List ℕ
insert_sub = codes "INSERT INTO sub (topic, name, kind) VALUES (?1, ?2, ?3)"

pub insert_sub_is : (command_of (understood schema_9 insert_sub) ≡ Insert 3 (Values (lit Null ∷ col 0 0 ∷ col 0 1 ∷ col 0 2 ∷ []) 4)) × IsPlain (understood schema_9 insert_sub)
unfolding understood everything
insert_sub_is = (refl, (refl, refl))

abbrev pub clear_sub : List ℕ
clear_sub = codes "DELETE FROM sub WHERE topic = ?1"

pub clear_sub_is : (command_of (understood schema_9 clear_sub) ≡ Delete 3 (alone (of_topic 5 (col 1 0 ∷ []) []))) × IsPlain (understood schema_9 clear_sub)
unfolding understood everything
clear_sub_is = (refl, (refl, refl))

abbrev pub select_sub : List ℕ
select_sub = codes "SELECT name, kind FROM sub WHERE topic = ?1 ORDER BY name"

pub select_sub_is : (command_of (understood schema_9 select_sub) ≡ Select (alone (of_topic 5 (col 1 2 ∷ col 1 3 ∷ []) ((col 1 2, ascending Binary) ∷ []))) (codes "name" ∷ codes "kind" ∷ [])) × (reads_listing schema_9 select_sub ≡ false) × IsPlain (understood schema_9 select_sub)
unfolding understood everything
select_sub_is = (refl, refl, (refl, refl))

abbrev pub insert_ack : List ℕ
insert_ack = codes "INSERT INTO ack (topic, sub, first, last) VALUES (?1, ?2, ?3, ?4)"

pub insert_ack_is : (command_of (understood schema_9 insert_ack) ≡ Insert 4 (Values (lit Null ∷ col 0 0 ∷ col 0 1 ∷ col 0 2 ∷ col 0 3 ∷ []) 5)) × IsPlain (understood schema_9 insert_ack)
unfolding understood everything
insert_ack_is = (refl, (refl, refl))

abbrev pub clear_ack : List ℕ
clear_ack = codes "DELETE FROM ack WHERE topic = ?1"

pub clear_ack_is : (command_of (understood schema_9 clear_ack) ≡ Delete 4 (alone (of_topic 7 (col 1 0 ∷ []) []))) × IsPlain (understood schema_9 clear_ack)
unfolding understood everything
clear_ack_is = (refl, (refl, refl))

abbrev pub select_ack : List ℕ
select_ack = codes "SELECT sub, first, last FROM ack WHERE topic = ?1 ORDER BY sub, first"

pub select_ack_is : (command_of (understood schema_9 select_ack) ≡ Select (alone (of_topic 7 (col 1 2 ∷ col 1 3 ∷ col 1 4 ∷ []) ((col 1 2, ascending Binary) ∷ (col 1 3, ascending Binary) ∷ []))) (codes "sub" ∷ codes "first" ∷ codes "last" ∷ [])) × (reads_listing schema_9 select_ack ≡ false) × IsPlain (understood schema_9 select_ack)
unfolding understood everything
select_ack_is = (refl, refl, (refl, refl))

abbrev pub insert_dead : List ℕ
insert_dead = codes "INSERT INTO dead (topic, sub, ordinal, idx, target) VALUES (?1, ?2, ?3, ?4, ?5)"

pub insert_dead_is : (command_of (understood schema_9 insert_dead) ≡ Insert 5 (Values (lit Null ∷ col 0 0 ∷ col 0 1 ∷ col 0 2 ∷ col 0 3 ∷ col 0 4 ∷ []) 6)) × IsPlain (understood schema_9 insert_dead)
unfolding understood everything
insert_dead_is = (refl, (refl, refl))

abbrev pub clear_dead : List ℕ
clear_dead = codes "DELETE FROM dead WHERE topic = ?1"

pub clear_dead_is : (command_of (understood schema_9 clear_dead) ≡ Delete 5 (alone (of_topic 9 (col 1 0 ∷ []) []))) × IsPlain (understood schema_9 clear_dead)
unfolding understood everything
clear_dead_is = (refl, (refl, refl))

abbrev pub select_dead : List ℕ
select_dead = codes "SELECT sub, ordinal, idx, target FROM dead WHERE topic = ?1 ORDER BY sub, ordinal"

pub select_dead_is : (command_of (understood schema_9 select_dead) ≡ Select (alone (of_topic 9 (col 1 2 ∷ col 1 3 ∷ col 1 4 ∷ col 1 5 ∷ []) ((col 1 2, ascending Binary) ∷ (col 1 3, ascending Binary) ∷ []))) (codes "sub" ∷ codes "ordinal" ∷ codes "idx" ∷ codes "target" ∷ [])) × (reads_listing schema_9 select_dead ≡ false) × IsPlain (understood schema_9 select_dead)
unfolding understood everything
select_dead_is = (refl, refl, (refl, refl))

abbrev pub remove_sub : List ℕ
remove_sub = codes "DELETE FROM sub WHERE topic = ?1 AND name = ?2 AND kind = ?3"

pub remove_sub_is : (command_of (understood schema_9 remove_sub) ≡ Delete 3 (alone (matching 5 (equals 0 ∷ equals 1 ∷ equals 2 ∷ []) (col 1 0 ∷ []) []))) × IsPlain (understood schema_9 remove_sub)
unfolding understood everything
remove_sub_is = (refl, (refl, refl))

abbrev pub remove_ack : List ℕ
remove_ack = codes "DELETE FROM ack WHERE topic = ?1 AND sub = ?2 AND first = ?3 AND last = ?4"

pub remove_ack_is : (command_of (understood schema_9 remove_ack) ≡ Delete 4 (alone (matching 7 (equals 0 ∷ equals 1 ∷ equals 2 ∷ equals 3 ∷ []) (col 1 0 ∷ []) []))) × IsPlain (understood schema_9 remove_ack)
unfolding understood everything
remove_ack_is = (refl, (refl, refl))

abbrev pub set_ack_last : List ℕ
set_ack_last = codes "UPDATE ack SET last = ?5 WHERE topic = ?1 AND sub = ?2 AND first = ?3 AND last = ?4"

pub set_ack_last_is : (command_of (understood schema_9 set_ack_last) ≡ Update 4 (alone (matching 7 (equals 0 ∷ equals 1 ∷ equals 2 ∷ equals 3 ∷ []) (col 1 0 ∷ col 1 0 ∷ col 1 1 ∷ col 1 2 ∷ col 1 3 ∷ col 0 4 ∷ []) []))) × IsPlain (understood schema_9 set_ack_last)
unfolding understood everything
set_ack_last_is = (refl, (refl, refl))

abbrev pub remove_dead : List ℕ
remove_dead = codes "DELETE FROM dead WHERE topic = ?1 AND sub = ?2 AND ordinal = ?3 AND idx = ?4 AND target = ?5"

pub remove_dead_is : (command_of (understood schema_9 remove_dead) ≡ Delete 5 (alone (matching 9 (equals 0 ∷ equals 1 ∷ equals 2 ∷ equals 3 ∷ equals 4 ∷ []) (col 1 0 ∷ []) []))) × IsPlain (understood schema_9 remove_dead)
unfolding understood everything
remove_dead_is = (refl, (refl, refl))

abbrev pub insert_count : List ℕ
insert_count = codes "INSERT INTO redelivery (topic, sub, idx, times) VALUES (?1, ?2, ?3, ?4)"

pub insert_count_is : (command_of (understood schema_9 insert_count) ≡ Insert 6 (Values (lit Null ∷ col 0 0 ∷ col 0 1 ∷ col 0 2 ∷ col 0 3 ∷ []) 5)) × IsPlain (understood schema_9 insert_count)
unfolding understood everything
insert_count_is = (refl, (refl, refl))

abbrev pub clear_count : List ℕ
clear_count = codes "DELETE FROM redelivery WHERE topic = ?1"

pub clear_count_is : (command_of (understood schema_9 clear_count) ≡ Delete 6 (alone (of_topic 11 (col 1 0 ∷ []) []))) × IsPlain (understood schema_9 clear_count)
unfolding understood everything
clear_count_is = (refl, (refl, refl))

abbrev pub select_count : List ℕ
select_count = codes "SELECT sub, idx, times FROM redelivery WHERE topic = ?1 ORDER BY sub, idx"

pub select_count_is : (command_of (understood schema_9 select_count) ≡ Select (alone (of_topic 11 (col 1 2 ∷ col 1 3 ∷ col 1 4 ∷ []) ((col 1 2, ascending Binary) ∷ (col 1 3, ascending Binary) ∷ []))) (codes "sub" ∷ codes "idx" ∷ codes "times" ∷ [])) × (reads_listing schema_9 select_count ≡ false) × IsPlain (understood schema_9 select_count)
unfolding understood everything
select_count_is = (refl, refl, (refl, refl))

abbrev pub remove_count : List ℕ
remove_count = codes "DELETE FROM redelivery WHERE topic = ?1 AND sub = ?2 AND idx = ?3 AND times = ?4"

pub remove_count_is : (command_of (understood schema_9 remove_count) ≡ Delete 6 (alone (matching 11 (equals 0 ∷ equals 1 ∷ equals 2 ∷ equals 3 ∷ []) (col 1 0 ∷ []) []))) × IsPlain (understood schema_9 remove_count)
unfolding understood everything
remove_count_is = (refl, (refl, refl))

abbrev pub insert_author : List ℕ
insert_author = codes "INSERT INTO author (topic, idx, producer, sequence) VALUES (?1, ?2, ?3, ?4)"

pub insert_author_is : (command_of (understood schema_9 insert_author) ≡ Insert 7 (Values (lit Null ∷ col 0 0 ∷ col 0 1 ∷ col 0 2 ∷ col 0 3 ∷ []) 5)) × IsPlain (understood schema_9 insert_author)
unfolding understood everything
insert_author_is = (refl, (refl, refl))

abbrev pub clear_author : List ℕ
clear_author = codes "DELETE FROM author WHERE topic = ?1"

pub clear_author_is : (command_of (understood schema_9 clear_author) ≡ Delete 7 (alone (of_topic 13 (col 1 0 ∷ []) []))) × IsPlain (understood schema_9 clear_author)
unfolding understood everything
clear_author_is = (refl, (refl, refl))

abbrev pub select_author : List ℕ
select_author = codes "SELECT idx, producer, sequence FROM author WHERE topic = ?1 ORDER BY idx"

pub select_author_is : (command_of (understood schema_9 select_author) ≡ Select (alone (of_topic 13 (col 1 2 ∷ col 1 3 ∷ col 1 4 ∷ []) ((col 1 2, ascending Binary) ∷ []))) (codes "idx" ∷ codes "producer" ∷ codes "sequence" ∷ [])) × (reads_listing schema_9 select_author ≡ false) × IsPlain (understood schema_9 select_author)
unfolding understood everything
select_author_is = (refl, refl, (refl, refl))

abbrev pub remove_author : List ℕ
remove_author = codes "DELETE FROM author WHERE topic = ?1 AND idx = ?2 AND producer = ?3 AND sequence = ?4"

pub remove_author_is : (command_of (understood schema_9 remove_author) ≡ Delete 7 (alone (matching 13 (equals 0 ∷ equals 1 ∷ equals 2 ∷ equals 3 ∷ []) (col 1 0 ∷ []) []))) × IsPlain (understood schema_9 remove_author)
unfolding understood everything
remove_author_is = (refl, (refl, refl))

abbrev pub insert_retention : List ℕ
insert_retention = codes "INSERT INTO retention (topic, gone, kind, amount) VALUES (?1, ?2, ?3, ?4)"

pub insert_retention_is : (command_of (understood schema_9 insert_retention) ≡ Insert 8 (Values (lit Null ∷ col 0 0 ∷ col 0 1 ∷ col 0 2 ∷ col 0 3 ∷ []) 5)) × IsPlain (understood schema_9 insert_retention)
unfolding understood everything
insert_retention_is = (refl, (refl, refl))

abbrev pub clear_retention : List ℕ
clear_retention = codes "DELETE FROM retention WHERE topic = ?1"

pub clear_retention_is : (command_of (understood schema_9 clear_retention) ≡ Delete 8 (alone (of_topic 15 (col 1 0 ∷ []) []))) × IsPlain (understood schema_9 clear_retention)
unfolding understood everything
clear_retention_is = (refl, (refl, refl))

abbrev pub select_retention : List ℕ
select_retention = codes "SELECT gone, kind, amount FROM retention WHERE topic = ?1"

pub select_retention_is : (command_of (understood schema_9 select_retention) ≡ Select (alone (of_topic 15 (col 1 2 ∷ col 1 3 ∷ col 1 4 ∷ []) [])) (codes "gone" ∷ codes "kind" ∷ codes "amount" ∷ [])) × (reads_listing schema_9 select_retention ≡ false) × IsPlain (understood schema_9 select_retention)
unfolding understood everything
select_retention_is = (refl, refl, (refl, refl))

abbrev pub remove_retention : List ℕ
remove_retention = codes "DELETE FROM retention WHERE topic = ?1 AND gone = ?2 AND kind = ?3 AND amount = ?4"

pub remove_retention_is : (command_of (understood schema_9 remove_retention) ≡ Delete 8 (alone (matching 15 (equals 0 ∷ equals 1 ∷ equals 2 ∷ equals 3 ∷ []) (col 1 0 ∷ []) []))) × IsPlain (understood schema_9 remove_retention)
unfolding understood everything
remove_retention_is = (refl, (refl, refl))
