-- Where a snapshot stands, the topic's rows as they are read are the snapshot's.
use Rattle.std.proofs.Common.{◌≡◌, ℕ, ◌+◌, ◌-◌, ◌<◌, ◌≤◌, false, cond, not, inl, inr, List, [], ◌∷◌, map, filter, take, drop, length, pos, Ordering, Less, Equal, refl, ap, sym, subst, ◌∙◌, arith}
use Rattle.std.specs.Prelude.{IsPermutation}
use Rattle.std.specs.List.{AllByRecursion, list_any}
use Rattle.std.specs.Ordering.{int_cmp, on, ordering_then}
use Rattle.std.specs.Cmp.{tied_itself}
use Rattle.std.proofs.lemmas.Bool.Decides.{nat_tests}
use Rattle.std.proofs.lemmas.Cmp.{nat_list_cmp_total, on_total}
use Rattle.std.proofs.lemmas.List.Sorted.{IsPermutation-sym, IsPermutation-trans, list_any-IsPermutation}
use Rattle.std.specs.FinMap as map_of
use Rattle.sqlite.specs.declared.types.Value.TheVariants.{Int, Text as Words}
use Rattle.sqlite.specs.Order.{Row, row_cmp, value_cmp}
use Rattle.sqlite.specs.Tree.{Trees}
use Rattle.sqlite_value.proofs.OrderLemmas.{row_cmp_total, value_cmp-Int, value_cmp-Text}
use Rattle.sqlite_trees.proofs.ListLemmas.{IsPermutation-filter}
use Rattle.position_core.specs.declared.position.Position.{Position}
use Rattle.position_core.specs.declared.message.Entry.{Entry}
use Rattle.position_core.specs.Name.{name_order}
use Rattle.position_core.specs.TopicName.{topic_text}
use Rattle.delivery_machine.specs.State.{Author, DeadLetter}
use Rattle.delivery_machine.specs.Places.{KeptPlaces}
use Rattle.row_tables.specs.Ordered.{AreSortedBy}
use Rattle.row_tables.specs.Pieces.{ShowsWithin, has_others, is_within, messages_of}
use Rattle.row_tables.proofs.TableLemmas.{filter_twice}
use Rattle.row_forms.specs.Cells.{ENTRY, is_below, not_below}
use Rattle.row_forms.specs.Standing.{HasIn}
use Rattle.row_forms.specs.Forms.{AreAckRows, Span, ack_row, author_rows, count_row, count_rows, dead_row, dead_rows, entry_row, entry_rows, place_in, span_of, sub_rows}
use Rattle.row_forms.proofs.BelowPlaces.{below_are, beyond_are, place_below, place_beyond}
use Rattle.row_reading.specs.Reading.{put, rows_with}
use Rattle.row_reading.specs.KeyOrder.{BelowByName, BelowByNumber, BelowByPlace, InOrder}
use Rattle.row_reading.specs.ReadRows.{WhatStandsIsRead}
use Rattle.row_reading.proofs.Authors.{authors_in_order}
use Rattle.row_reading.proofs.Orders.{all_append}
use Rattle.row_reading.proofs.SortedLists.{order_weaker, same_sorted, sorted_through}
use Rattle.row_reading.proofs.OneSnapshot.{are_tellable, in_order_are_its, tellable_counts, tellable_deads}
use Rattle.row_reading.proofs.Told.{acks_in_order, entries_in_order, subs_in_order}

-- by the first columns after the topic's text
abbrev key_order : ℕ → Row → Row → Ordering
key_order columns = on (λ (r : Row). take columns (drop 1 r)) row_cmp

abbrev BelowBy : ℕ → Row → Row → Type 0
BelowBy columns r s = key_order columns r s ≡ Less

read_are : (topic : List ℕ) (columns : ℕ) (rows raw : List Row) → InOrder (BelowBy columns) rows → AreSortedBy columns raw → IsPermutation rows (put topic raw) → rows ≡ put topic raw
read_are topic columns rows raw order sorted same =
    same_sorted (key_order columns) (on_total (λ (r : Row). take columns (drop 1 r)) row_cmp_total) rows (put topic raw) order (sorted_through (key_order columns) (λ (r : Row). Words topic ∷ r) raw sorted) same

-- ---- numbers and names

numbers_below : (n m : ℕ) → n < m → value_cmp (Int (pos n)) (Int (pos m)) ≡ Less
numbers_below n m below = value_cmp-Int (pos n) (pos m) ∙ ints
  where
    ints : int_cmp (pos n) (pos m) ≡ Less
    ints = grind (arith, nat_tests)

names_below : (a b : List ℕ) → name_order a b ≡ Less → value_cmp (Words a) (Words b) ≡ Less
names_below a b less = value_cmp-Text a b ∙ less

names_tied : (a b : List ℕ) → a ≡ b → value_cmp (Words a) (Words b) ≡ Equal
names_tied a b same = value_cmp-Text a b ∙ ap (name_order a) (sym same) ∙ tied_itself nat_list_cmp_total a

-- ---- the form of rows

-- a row of a place
abbrev HasPlace : Row → Type 0
HasPlace r = (topic : List ℕ) × (n : ℕ) × (rest : Row) × (r ≡ Words topic ∷ Int (pos n) ∷ rest)

-- a row of a name
abbrev HasName : Row → Type 0
HasName r = (topic name : List ℕ) × (rest : Row) × (r ≡ Words topic ∷ Words name ∷ rest)

-- a row of a name and a number
abbrev HasNumber : Row → Type 0
HasNumber r = (topic name : List ℕ) × (n : ℕ) × (rest : Row) × (r ≡ Words topic ∷ Words name ∷ Int (pos n) ∷ rest)

by_place : (r s : Row) → HasPlace r → HasPlace s → BelowByPlace r s → BelowBy 1 r s
by_place r s (t, n, rest, is) (u, m, more, too) below =
    let least : n < m = subst (λ x. BelowByPlace x (Words u ∷ Int (pos m) ∷ more)) is (subst (BelowByPlace r) too below) in
    rw (is, too) (ap (λ o. ordering_then o Equal) (numbers_below n m least))

by_name : (r s : Row) → HasName r → HasName s → BelowByName r s → BelowBy 1 r s
by_name r s (t, a, rest, is) (u, b, more, too) below =
    let less : name_order a b ≡ Less = subst (λ x. BelowByName x (Words u ∷ Words b ∷ more)) is (subst (BelowByName r) too below) in
    rw (is, too) (ap (λ o. ordering_then o Equal) (names_below a b less))

by_number : (r s : Row) → HasNumber r → HasNumber s → BelowByNumber r s → BelowBy 2 r s
by_number r s (t, a, n, rest, is) (u, b, m, more, too) below =
    rw (is, too) (of_values (subst (λ x. BelowByNumber x (Words u ∷ Words b ∷ Int (pos m) ∷ more)) is (subst (BelowByNumber r) too below)))
  where
    of_values : BelowByNumber (Words t ∷ Words a ∷ Int (pos n) ∷ rest) (Words u ∷ Words b ∷ Int (pos m) ∷ more) → ordering_then (value_cmp (Words a) (Words b)) (ordering_then (value_cmp (Int (pos n)) (Int (pos m))) Equal) ≡ Less
    of_values (inl less) = ap (λ o. ordering_then o (ordering_then (value_cmp (Int (pos n)) (Int (pos m))) Equal)) (names_below a b less)
    of_values (inr (same, least)) =
        ap (λ o. ordering_then o (ordering_then (value_cmp (Int (pos n)) (Int (pos m))) Equal)) (names_tied a b same)
        ∙ ap (λ o. ordering_then o Equal) (numbers_below n m least)

entries_placed : (topic : List ℕ) (from : ℕ) (log : List Entry) → AllByRecursion HasPlace (entry_rows topic from log)
entries_placed topic from [] = tt
entries_placed topic from (e ∷ log) = ((topic, from, _, refl), entries_placed topic (from + 1) log)

subs_named : (topic : List ℕ) (subs : List KeptPlaces) → AllByRecursion HasName (sub_rows topic subs)
subs_named topic [] = tt
subs_named topic (sub ∷ subs) = ((topic, sub.name, _, refl), subs_named topic subs)

runs_numbered : (gone : ℕ) (topic name : List ℕ) (runs : List (ℕ × ℕ)) → AllByRecursion HasNumber (map (ack_row topic name gone) runs)
runs_numbered gone topic name [] = tt
runs_numbered gone topic name (run ∷ runs) = ((topic, name, gone + run.0, _, refl), runs_numbered gone topic name runs)

acks_numbered : (gone : ℕ) (topic : List ℕ) (subs : List KeptPlaces) (rows : List Row) → AreAckRows topic gone subs rows → AllByRecursion HasNumber rows
acks_numbered gone topic [] rows none = subst (AllByRecursion HasNumber) (sym none) tt
acks_numbered gone topic (sub ∷ subs) rows (runs, others, are, more, is) =
    subst (AllByRecursion HasNumber) (sym is) (all_append HasNumber (map (ack_row topic sub.name gone) runs) others (runs_numbered gone topic sub.name runs) (acks_numbered gone topic subs others more))

letters_numbered : (topic name : List ℕ) (span : Span) (ds : List DeadLetter) → AllByRecursion HasNumber (map (dead_row topic name span) ds)
letters_numbered topic name span [] = tt
letters_numbered topic name span (d ∷ ds) = ((topic, name, d.ordinal, _, refl), letters_numbered topic name span ds)

deads_numbered : (topic : List ℕ) (span : Span) (subs : List KeptPlaces) → AllByRecursion HasNumber (dead_rows topic span subs)
deads_numbered topic span [] = tt
deads_numbered topic span (sub ∷ subs) =
    all_append HasNumber (map (dead_row topic sub.name span) sub.dead) (dead_rows topic span subs) (letters_numbered topic sub.name span sub.dead) (deads_numbered topic span subs)

counted_numbered : (topic name : List ℕ) (span : Span) (counts : List (Position × ℕ)) → AllByRecursion HasNumber (map (count_row topic name span) counts)
counted_numbered topic name span [] = tt
counted_numbered topic name span (c ∷ counts) = ((topic, name, place_in span c.0, _, refl), counted_numbered topic name span counts)

counts_numbered : (topic : List ℕ) (span : Span) (subs : List KeptPlaces) → AllByRecursion HasNumber (count_rows topic span subs)
counts_numbered topic span [] = tt
counts_numbered topic span (sub ∷ subs) =
    all_append HasNumber (map (count_row topic sub.name span) (map_of.entries sub.counts)) (count_rows topic span subs) (counted_numbered topic sub.name span (map_of.entries sub.counts)) (counts_numbered topic span subs)

-- ---- messages in pieces

-- a message has a place
placed : (topic : List ℕ) (place from : ℕ) (log : List Entry) → filter (λ r. not (is_below from r)) (entry_rows topic place log) ≡ not_below from (entry_rows topic place log)
placed topic place from [] = refl
placed topic place from (e ∷ log) = ap (λ rest. cond (not (is_below from (entry_row topic place e))) (entry_row topic place e ∷ rest) rest) (placed topic (place + 1) from log)

-- the rows of messages in a range of places are those of that piece of the log
pub piece_is : (topic : List ℕ) (gone from end : ℕ) (log : List Entry) → gone ≤ from → filter (is_within from end) (entry_rows topic gone log) ≡ entry_rows topic from (take (end - from) (drop (from - gone) log))
piece_is topic gone from end log low =
    let here : gone + (from - gone) ≡ from = omega (arith, low) in
    sym (filter_twice (is_below end) (λ r. not (is_below from r)) (entry_rows topic gone log))
    ∙ ap (filter (is_below end)) (placed topic gone from log ∙ beyond_are topic gone from log ∙ ap (λ n. entry_rows topic n (drop (from - gone) log)) here)
    ∙ below_are topic from end (drop (from - gone) log)

pub none_beyond : (topic : List ℕ) (from place end : ℕ) (log : List Entry) → from ≤ place → place + length log ≤ end → list_any (λ r. not (is_within from end r)) (entry_rows topic place log) ≡ false
none_beyond topic from place end [] low within = refl
none_beyond topic from place end (e ∷ log) low within =
    rw (place_beyond topic place from e low, place_below topic place end e (omega (arith, within))) (none_beyond topic from (place + 1) end log (omega (arith, low)) (omega (arith, within)))

-- a piece of the topic's messages, in the order of their places, is that piece of the log
pub piece_read : (topic : List ℕ) (gone : ℕ) (log : List Entry) (db : Trees) (from end : ℕ) (rows : List Row) → gone ≤ from → HasIn ENTRY topic (entry_rows topic gone log) db → ShowsWithin topic from end rows db → AreSortedBy 1 rows
    → put topic rows ≡ entry_rows topic from (take (end - from) (drop (from - gone) log))
piece_read topic gone log db from end rows low has shows sorted =
    let piece : List Entry = take (end - from) (drop (from - gone) log) in
    let those : IsPermutation (entry_rows topic from piece) (filter (is_within from end) (messages_of topic db)) =
    subst (λ l. IsPermutation l (filter (is_within from end) (messages_of topic db))) (piece_is topic gone from end log low) (IsPermutation-filter (is_within from end) (entry_rows topic gone log) (messages_of topic db) has) in
    sym (read_are topic 1 (entry_rows topic from piece) rows (order_weaker BelowByPlace (BelowBy 1) HasPlace by_place _ (entries_placed topic from piece) (entries_in_order topic from piece)) sorted
    (IsPermutation-trans _ _ _ those (IsPermutation-sym _ _ shows)))

-- no message stands before or beyond the log
pub none_others : (topic : List ℕ) (gone : ℕ) (log : List Entry) (db : Trees) (from end : ℕ) → HasIn ENTRY topic (entry_rows topic gone log) db → from ≤ gone → gone + length log ≤ end → has_others topic from end db ≡ false
none_others topic gone log db from end has low short =
    sym (list_any-IsPermutation (λ r. not (is_within from end r)) (entry_rows topic gone log) (messages_of topic db) has) ∙ none_beyond topic from gone end log low short

authors_placed : (topic : List ℕ) (authors : List Author) → AllByRecursion HasPlace (author_rows topic authors)
authors_placed topic [] = tt
authors_placed topic (a ∷ authors) = ((topic, a.index, _, refl), authors_placed topic authors)

-- ---- what is read

pub what_stands_is_read : WhatStandsIsRead
what_stands_is_read kept db told (mine, are, has) =
    let topic : List ℕ = topic_text kept.name in
    let tell = are_tellable kept told in
    let messages : HasIn ENTRY topic (entry_rows topic kept.gone kept.log) db = subst (λ l. HasIn ENTRY topic l db) are.entries has.entries in
    let subs = subs_in_order topic kept.subscriptions tell.names in
    let acks = acks_in_order kept.gone topic kept.subscriptions mine.acks tell.names are.acks in
    let deads = tellable_deads topic (span_of kept) kept.subscriptions tell in
    let counts = tellable_counts topic (span_of kept) kept.subscriptions tell in
    let authors = authors_in_order topic kept.gone kept.authors told.may.sound.authors in
    record {
      pieces = λ from end rows low within shows sorted. piece_read topic kept.gone kept.log db from end rows low messages shows sorted;
      others = λ from end low short. none_others topic kept.gone kept.log db from end messages low short;
      sides = λ sides these sorted. in_order_are_its kept (rows_with topic (span_of kept) sides) db told (mine, are, has) (record { topics = these.topics; entries = messages; subs = these.subs; acks = these.acks; deads = these.deads; counts = these.counts; authors = these.authors; retentions = these.retentions }) record {
        entries = entries_in_order topic kept.gone kept.log;
        subs = subst (InOrder BelowByName) (read_are topic 1 _ sides.subs.items (order_weaker BelowByName (BelowBy 1) HasName by_name _ (subs_named topic kept.subscriptions) subs) sorted.subs (same _ _ _ _ are.subs has.subs these.subs)) subs;
        acks = subst (InOrder BelowByNumber) (read_are topic 2 _ sides.acks.items (order_weaker BelowByNumber (BelowBy 2) HasNumber by_number _ (acks_numbered kept.gone topic kept.subscriptions mine.acks are.acks) acks) sorted.acks (same _ _ _ _ refl has.acks these.acks)) acks;
        deads = subst (InOrder BelowByNumber) (read_are topic 2 _ sides.deads.items (order_weaker BelowByNumber (BelowBy 2) HasNumber by_number _ (deads_numbered topic (span_of kept) kept.subscriptions) deads) sorted.deads (same _ _ _ _ are.deads has.deads these.deads)) deads;
        counts = subst (InOrder BelowByNumber) (read_are topic 2 _ sides.counts.items (order_weaker BelowByNumber (BelowBy 2) HasNumber by_number _ (counts_numbered topic (span_of kept) kept.subscriptions) counts) sorted.counts (same _ _ _ _ are.counts has.counts these.counts)) counts;
        authors = subst (InOrder BelowByPlace) (read_are topic 1 _ sides.authors.items (order_weaker BelowByPlace (BelowBy 1) HasPlace by_place _ (authors_placed topic kept.authors) authors) sorted.authors (same _ _ _ _ are.authors has.authors these.authors)) authors;
      };
    }
  where
    same : (mine xs ys all : List Row) → mine ≡ xs → IsPermutation mine all → IsPermutation ys all → IsPermutation xs ys
    same mine xs ys all is a b = IsPermutation-trans xs all ys (subst (λ l. IsPermutation l all) is a) (IsPermutation-sym ys all b)
