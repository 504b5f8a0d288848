-- What stands in the rows of each table, and in which order they come.
use Rattle.std.proofs.Common.{◌≡◌, ℕ, zero, suc, ◌+◌, ◌-◌, ◌<◌, inr, true, Option, Some, None, List, [], ◌∷◌, ◌++◌, map, ℤ, refl, ap, sym, ◌∙◌, subst, arith}
use Rattle.std.specs.Prelude.{IsPermutation}
use Rattle.std.specs.List.{All, AllByRecursion}
use Rattle.std.specs.List.Sorted.{IsStrictlySortedBy}
use Rattle.std.specs.Ordering.{nat_cmp}
use Rattle.std.specs.declared.cmp.Ordering.TheVariants.{Less}
use Rattle.std.specs.Cmp.{ranked}
use Rattle.std.proofs.lemmas.List.Elements.{recursion_from_All}
use Rattle.std.proofs.lemmas.Map.Keys.{sorted_from_strictly_increasing}
use Rattle.json.specs.Json.{document}
use Rattle.sqlite.specs.declared.types.Value.TheVariants.{Text as Words, Blob as Octets}
use Rattle.sqlite.specs.Order.{Row, column}
use Rattle.json_values.specs.Written.{members_of, object_with, property_fields}
use Rattle.json_values.proofs.ReadBack.{flat, no_numbers}
use Rattle.json_values.proofs.Written.{reads_back}
use Rattle.position_core.specs.declared.position.Position.{Position}
use Rattle.position_core.specs.declared.topic_name.TopicName.{TopicName}
use Rattle.position_core.specs.declared.message.Entry.{Entry}
use Rattle.position_core.specs.declared.kind.Kind.{Kind}
use Rattle.position_core.specs.declared.kind.Kind.TheVariants.{Exclusive, Failover, Shared, KeyShared}
use Rattle.position_core.specs.TopicName.{topic_text}
use Rattle.position_core.specs.Name.{name_order}
use Rattle.value_texts.proofs.TopicNames.{one_topic}
use Rattle.ack_ranges.specs.Ranges.{Rise, RiseAbove}
use Rattle.delivery_machine.specs.State.{DeadLetter}
use Rattle.delivery_machine.specs.Places.{KeptPlaces}
use Rattle.delivery_machine.specs.WellFormed.{AreDeadLettersOf, NamesRise, has_message}
use Rattle.row_forms.specs.Forms.{AreAckRows, Span, ack_row, dead_row, dead_rows, entry_row, entry_rows, index_in, key_cells, kind_number, sub_rows}
use Rattle.row_forms.specs.Properties.{properties_text}
use Rattle.row_reading.specs.Reading.{IsNamed}
use Rattle.row_reading.specs.KeyOrder.{BelowByName, BelowByNumber, BelowByPlace, InOrder, name_in, whole_of}
use Rattle.row_reading.proofs.PlacesRead.{one_place}
use Rattle.row_reading.proofs.RowOrders.{apart_by_name, by_place_one_way}
use Rattle.row_reading.proofs.Orders.{all_append, all_both, all_weaker, cons_is, order_append, pair_is, same_in_order, same_mapped}

abbrev Pairs : Type 0
Pairs = List (List ℕ × List ℕ)

-- ---- properties

reads_properties : (ps : Pairs) → document (properties_text ps) ≡ Some (object_with (property_fields ps))
reads_properties ps = reads_back (property_fields ps) (no_numbers ps) (rw (flat ps) (omega arith))

same_members : (ps qs : Pairs) → members_of (property_fields ps) ≡ members_of (property_fields qs) → ps ≡ qs
same_members [] [] e = refl
same_members [] (q ∷ qs) e = absurd (cc)
same_members (p ∷ ps) [] e = absurd (cc)
same_members (p ∷ ps) (q ∷ qs) e =
    let name : p.0 ≡ q.0 = cc in
    let value : p.1 ≡ q.1 = cc in
    let others : members_of (property_fields ps) ≡ members_of (property_fields qs) = cc in
    cons_is p q ps qs (pair_is p q name value) (same_members ps qs others)

-- a text is that of one list of properties
pub one_properties : (ps qs : Pairs) → properties_text ps ≡ properties_text qs → ps ≡ qs
one_properties ps qs e =
    let whole : Some (object_with (property_fields ps)) ≡ Some (object_with (property_fields qs)) = sym (reads_properties ps) ∙ ap document e ∙ reads_properties qs in
    same_members ps qs (cc)

-- ---- messages

same_content : (k l : Option (List ℕ)) (p q a b : List ℕ) → key_cells k ++ Words p ∷ Octets a ∷ [] ≡ key_cells l ++ Words q ∷ Octets b ∷ [] → (k ≡ l) × (p ≡ q) × (a ≡ b)
same_content None None p q a b e = (refl, (cc), (cc))
same_content None (Some l) p q a b e = absurd (cc)
same_content (Some k) None p q a b e = absurd (cc)
same_content (Some k) (Some l) p q a b e = let key : k ≡ l = cc in (ap Some key, (cc), (cc))

same_entry_parts : (l l' n n' t t' : ℕ) (p p' : List ℕ) (s s' : ℤ) (k k' : Option (List ℕ)) (q q' : Pairs) (o o' : List ℕ) → l ≡ l' → n ≡ n' → p ≡ p' → s ≡ s' → t ≡ t' → k ≡ k' → q ≡ q' → o ≡ o'
    → (let a : Entry = record { position = record { ledger = l; entry = n }; producer = p; sequence = s; time = t; body = record { key = k; properties = q; payload = o } } in
    let b : Entry = record { position = record { ledger = l'; entry = n' }; producer = p'; sequence = s'; time = t'; body = record { key = k'; properties = q'; payload = o' } } in a ≡ b)
same_entry_parts l l' n n' t t' p p' s s' k k' q q' o o' a b c d e f g h = rw (a, b, c, d, e, f, g, h) refl

pub same_entry : (topic : List ℕ) (place : ℕ) (e f : Entry) → entry_row topic place e ≡ entry_row topic place f → e ≡ f
same_entry topic place e f is =
    let ledger : e.position.ledger ≡ f.position.ledger = cc in
    let entry : e.position.entry ≡ f.position.entry = cc in
    let producer : e.producer ≡ f.producer = cc in
    let sequence : e.sequence ≡ f.sequence = cc in
    let time : e.time ≡ f.time = cc in
    let rest : key_cells e.body.key ++ Words (properties_text e.body.properties) ∷ Octets e.body.payload ∷ [] ≡ key_cells f.body.key ++ Words (properties_text f.body.properties) ∷ Octets f.body.payload ∷ [] = cc in
    let content = same_content e.body.key f.body.key _ _ e.body.payload f.body.payload rest in
    same_entry_parts e.position.ledger f.position.ledger e.position.entry f.position.entry e.time f.time e.producer f.producer e.sequence f.sequence e.body.key f.body.key e.body.properties f.body.properties e.body.payload f.body.payload
    ledger entry producer sequence time content.0 (one_properties e.body.properties f.body.properties content.1) content.2

pub same_log : (topic : List ℕ) (from : ℕ) (xs ys : List Entry) → entry_rows topic from xs ≡ entry_rows topic from ys → xs ≡ ys
same_log topic from [] [] e = refl
same_log topic from [] (y ∷ ys) e = absurd (cc)
same_log topic from (x ∷ xs) [] e = absurd (cc)
same_log topic from (x ∷ xs) (y ∷ ys) e =
    let row : entry_row topic from x ≡ entry_row topic from y = cc in
    let others : entry_rows topic (from + 1) xs ≡ entry_rows topic (from + 1) ys = cc in
    cons_is x y xs ys (same_entry topic from x y row) (same_log topic (from + 1) xs ys others)

-- ---- the rows of messages stand in the order of their places

after_place : (topic : List ℕ) (low from : ℕ) (log : List Entry) → low < from → AllByRecursion (λ (r : Row). low < whole_of (column r 1)) (entry_rows topic from log)
after_place topic low from [] below = tt
after_place topic low from (e ∷ log) below = (below, after_place topic low (from + 1) log (omega arith))

pub entries_in_order : (topic : List ℕ) (from : ℕ) (log : List Entry) → InOrder BelowByPlace (entry_rows topic from log)
entries_in_order topic from [] = tt
entries_in_order topic from (e ∷ log) = (after_place topic from (from + 1) log (omega arith), entries_in_order topic (from + 1) log)

pub one_log : (topic : List ℕ) (gone : ℕ) (xs ys : List Entry) → IsPermutation (entry_rows topic gone xs) (entry_rows topic gone ys) → xs ≡ ys
one_log topic gone xs ys same =
    same_log topic gone xs ys (same_in_order BelowByPlace by_place_one_way (entry_rows topic gone xs) (entry_rows topic gone ys) (entries_in_order topic gone xs) (entries_in_order topic gone ys) same)

-- ---- subscriptions

kind_at : ℕ → Kind
kind_at zero = Exclusive
kind_at (suc zero) = Failover
kind_at (suc (suc zero)) = Shared
kind_at (suc (suc (suc n))) = KeyShared

kind_back : (k : Kind) → kind_at (kind_number k) ≡ k
unfolding kind_at
kind_back Exclusive = refl
kind_back Failover = refl
kind_back Shared = refl
kind_back KeyShared = refl

pub one_kind : (k l : Kind) → kind_number k ≡ kind_number l → k ≡ l
one_kind k l e = sym (kind_back k) ∙ ap kind_at e ∙ kind_back l

names_after : (topic name : List ℕ) (subs : List KeptPlaces) → AllByRecursion (λ n. name_order name n ≡ Less) (map (λ (sub : KeptPlaces). sub.name) subs) → AllByRecursion (λ (r : Row). name_order name (name_in r) ≡ Less) (sub_rows topic subs)
names_after topic name [] all = tt
names_after topic name (sub ∷ subs) all = (all.0, names_after topic name subs all.1)

pub subs_in_order : (topic : List ℕ) (subs : List KeptPlaces) → NamesRise (map (λ (sub : KeptPlaces). sub.name) subs) → InOrder BelowByName (sub_rows topic subs)
unfolding IsStrictlySortedBy
subs_in_order topic [] rise = tt
subs_in_order topic (sub ∷ subs) rise = (names_after topic sub.name subs rise.0, subs_in_order topic subs rise.1)

-- ---- runs

runs_after : (gone : ℕ) (topic name : List ℕ) (low : ℕ) (runs : List (ℕ × ℕ)) → RiseAbove low runs → AllByRecursion (λ (r : Row). (name_in r ≡ name) × (gone + low < whole_of (column r 2))) (map (ack_row topic name gone) runs)
runs_after gone topic name low [] rise = tt
runs_after gone topic name low (run ∷ runs) rise = (
  (refl, omega (arith, rise.0)),
  all_weaker (λ (r : Row). (name_in r ≡ name) × (gone + run.1 < whole_of (column r 2))) (λ (r : Row). (name_in r ≡ name) × (gone + low < whole_of (column r 2)))
      (λ r h. let higher : gone + low < whole_of (column r 2) = omega (arith, h.1, rise.0, rise.1) in (h.0, higher)) (map (ack_row topic name gone) runs) (runs_after gone topic name run.1 runs rise.2),
)

-- the runs after one that ends there stand in order
later_in_order : (gone : ℕ) (topic name : List ℕ) (low : ℕ) (runs : List (ℕ × ℕ)) → RiseAbove low runs → InOrder BelowByNumber (map (ack_row topic name gone) runs)
later_in_order gone topic name low [] rise = tt
later_in_order gone topic name low (run ∷ runs) rise = (
  all_weaker (λ (r : Row). (name_in r ≡ name) × (gone + run.1 < whole_of (column r 2))) (λ (r : Row). BelowByNumber (ack_row topic name gone run) r)
      (λ r h. let above : gone + run.0 < whole_of (column r 2) = omega (arith, h.1, rise.1) in inr (sym h.0, above)) (map (ack_row topic name gone) runs) (runs_after gone topic name run.1 runs rise.2),
  later_in_order gone topic name run.1 runs rise.2,
)

runs_in_order : (gone : ℕ) (topic name : List ℕ) (runs : List (ℕ × ℕ)) → Rise runs → InOrder BelowByNumber (map (ack_row topic name gone) runs)
runs_in_order gone topic name [] rise = tt
runs_in_order gone topic name (run ∷ runs) rise = (
  all_weaker (λ (r : Row). (name_in r ≡ name) × (gone + run.1 < whole_of (column r 2))) (λ (r : Row). BelowByNumber (ack_row topic name gone run) r)
      (λ r h. let above : gone + run.0 < whole_of (column r 2) = omega (arith, h.1, rise.0) in inr (sym h.0, above)) (map (ack_row topic name gone) runs) (runs_after gone topic name run.1 runs rise.1),
  later_in_order gone topic name run.1 runs rise.1,
)

-- each row of runs is of that name
pub runs_named : (gone : ℕ) (topic name : List ℕ) (runs : List (ℕ × ℕ)) → AllByRecursion (λ (r : Row). name_in r ≡ name) (map (ack_row topic name gone) runs)
runs_named gone topic name [] = tt
runs_named gone topic name (run ∷ runs) = (refl, runs_named gone topic name runs)

named_after : (gone : ℕ) (topic name other : List ℕ) (runs : List (ℕ × ℕ)) → name_order name other ≡ Less → AllByRecursion (λ (r : Row). name_order name (name_in r) ≡ Less) (map (ack_row topic other gone) runs)
named_after gone topic name other [] less = tt
named_after gone topic name other (run ∷ runs) less = (less, named_after gone topic name other runs less)

pub acks_after : (gone : ℕ) (topic name : List ℕ) (subs : List KeptPlaces) (rows : List Row) → AreAckRows topic gone subs rows → AllByRecursion (λ n. name_order name n ≡ Less) (map (λ (sub : KeptPlaces). sub.name) subs) → AllByRecursion (λ (r : Row). name_order name (name_in r) ≡ Less) rows
acks_after gone topic name [] rows none all = subst (AllByRecursion (λ (r : Row). name_order name (name_in r) ≡ Less)) (sym none) tt
acks_after gone topic name (sub ∷ subs) rows (runs, others, are, more, is) all =
    subst (AllByRecursion (λ (r : Row). name_order name (name_in r) ≡ Less)) (sym is)
    (all_append (λ (r : Row). name_order name (name_in r) ≡ Less) (map (ack_row topic sub.name gone) runs) others (named_after gone topic name sub.name runs all.0) (acks_after gone topic name subs others more all.1))

pub acks_in_order : (gone : ℕ) (topic : List ℕ) (subs : List KeptPlaces) (rows : List Row) → NamesRise (map (λ (sub : KeptPlaces). sub.name) subs) → AreAckRows topic gone subs rows → InOrder BelowByNumber rows
unfolding IsStrictlySortedBy
acks_in_order gone topic [] rows rise none = subst (InOrder BelowByNumber) (sym none) tt
acks_in_order gone topic (sub ∷ subs) rows rise (runs, others, are, more, is) =
    subst (InOrder BelowByNumber) (sym is)
    (order_append BelowByNumber (map (ack_row topic sub.name gone) runs) others (runs_in_order gone topic sub.name runs are.rise) (acks_in_order gone topic subs others rise.1 more)
    (apart_by_name sub.name (map (ack_row topic sub.name gone) runs) others (runs_named gone topic sub.name runs) (acks_after gone topic sub.name subs others more rise.0)))

not_empty : (low : ℕ) (runs : List (ℕ × ℕ)) → RiseAbove low runs → AllByRecursion (λ (run : ℕ × ℕ). run.0 < run.1) runs
not_empty low [] rise = tt
not_empty low (run ∷ runs) rise = (rise.1, not_empty run.1 runs rise.2)

pub none_empty : (runs : List (ℕ × ℕ)) → Rise runs → AllByRecursion (λ (run : ℕ × ℕ). run.0 < run.1) runs
none_empty [] rise = tt
none_empty (run ∷ runs) rise = (rise.0, not_empty run.1 runs rise.1)

pub one_run : (gone : ℕ) (topic name : List ℕ) (x y : ℕ × ℕ) → x.0 < x.1 → y.0 < y.1 → ack_row topic name gone x ≡ ack_row topic name gone y → x ≡ y
one_run gone topic name x y a b e =
    let firsts : gone + x.0 ≡ gone + y.0 = cc in
    let lasts : gone + (x.1 - 1) ≡ gone + (y.1 - 1) = cc in
    let first : x.0 ≡ y.0 = omega (arith, firsts) in
    let end : x.1 ≡ y.1 = omega (arith, a, b, lasts) in
    pair_is x y first end

pub same_runs : (gone : ℕ) (topic name : List ℕ) (xs ys : List (ℕ × ℕ)) → AllByRecursion (λ (run : ℕ × ℕ). run.0 < run.1) xs → AllByRecursion (λ (run : ℕ × ℕ). run.0 < run.1) ys → map (ack_row topic name gone) xs ≡ map (ack_row topic name gone) ys → xs ≡ ys
same_runs gone topic name xs ys a b e = same_mapped (ack_row topic name gone) (λ (run : ℕ × ℕ). run.0 < run.1) (one_run gone topic name) xs ys a b e

-- ---- dead letters

below_is : (a b : ℕ) → nat_cmp a b ≡ Less → a < b
below_is a b less = ranked a b Less (sym less)

letters_after : (topic name : List ℕ) (span : Span) (low : ℕ) (ds : List DeadLetter) → AllByRecursion (λ n. nat_cmp low n ≡ Less) (map (λ (d : DeadLetter). d.ordinal) ds)
    → AllByRecursion (λ (r : Row). (name_in r ≡ name) × (low < whole_of (column r 2))) (map (dead_row topic name span) ds)
letters_after topic name span low [] all = tt
letters_after topic name span low (d ∷ ds) all = ((refl, below_is low d.ordinal all.0), letters_after topic name span low ds all.1)

letters_in_order : (topic name : List ℕ) (span : Span) (ds : List DeadLetter) → IsStrictlySortedBy nat_cmp (map (λ (d : DeadLetter). d.ordinal) ds) → InOrder BelowByNumber (map (dead_row topic name span) ds)
unfolding IsStrictlySortedBy
letters_in_order topic name span [] rise = tt
letters_in_order topic name span (d ∷ ds) rise = (
  all_weaker (λ (r : Row). (name_in r ≡ name) × (d.ordinal < whole_of (column r 2))) (λ (r : Row). BelowByNumber (dead_row topic name span d) r)
      (λ r h. inr (sym h.0, h.1)) (map (dead_row topic name span) ds) (letters_after topic name span d.ordinal ds rise.0),
  letters_in_order topic name span ds rise.1,
)

pub letters_named : (topic name : List ℕ) (span : Span) (ds : List DeadLetter) → AllByRecursion (λ (r : Row). name_in r ≡ name) (map (dead_row topic name span) ds)
letters_named topic name span [] = tt
letters_named topic name span (d ∷ ds) = (refl, letters_named topic name span ds)

letters_named_after : (topic name other : List ℕ) (span : Span) (ds : List DeadLetter) → name_order name other ≡ Less → AllByRecursion (λ (r : Row). name_order name (name_in r) ≡ Less) (map (dead_row topic other span) ds)
letters_named_after topic name other span [] less = tt
letters_named_after topic name other span (d ∷ ds) less = (less, letters_named_after topic name other span ds less)

pub deads_after : (topic name : List ℕ) (span : Span) (subs : List KeptPlaces) → AllByRecursion (λ n. name_order name n ≡ Less) (map (λ (sub : KeptPlaces). sub.name) subs) → AllByRecursion (λ (r : Row). name_order name (name_in r) ≡ Less) (dead_rows topic span subs)
deads_after topic name span [] all = tt
deads_after topic name span (sub ∷ subs) all =
    all_append (λ (r : Row). name_order name (name_in r) ≡ Less) (map (dead_row topic sub.name span) sub.dead) (dead_rows topic span subs)
    (letters_named_after topic name sub.name span sub.dead all.0) (deads_after topic name span subs all.1)

pub deads_in_order : (topic : List ℕ) (span : Span) (subs : List KeptPlaces) → NamesRise (map (λ (sub : KeptPlaces). sub.name) subs) → AllByRecursion (λ (sub : KeptPlaces). AreDeadLettersOf span.log sub.dead) subs → InOrder BelowByNumber (dead_rows topic span subs)
unfolding IsStrictlySortedBy
deads_in_order topic span [] rise dead = tt
deads_in_order topic span (sub ∷ subs) rise dead =
    order_append BelowByNumber (map (dead_row topic sub.name span) sub.dead) (dead_rows topic span subs)
    (letters_in_order topic sub.name span sub.dead (sorted_from_strictly_increasing (map (λ (d : DeadLetter). d.ordinal) sub.dead) dead.0.ordinals)) (deads_in_order topic span subs rise.1 dead.1)
    (apart_by_name sub.name (map (dead_row topic sub.name span) sub.dead) (dead_rows topic span subs) (letters_named topic sub.name span sub.dead) (deads_after topic sub.name span subs rise.0))

-- a letter of a message of the log, to a topic of three names
abbrev pub IsOneOf : List Entry → DeadLetter → Type 0
IsOneOf log d = (has_message log d.position ≡ true) × IsNamed d.target

pub one_letter : (topic name : List ℕ) (span : Span) (x y : DeadLetter) → IsOneOf span.log x → IsOneOf span.log y → dead_row topic name span x ≡ dead_row topic name span y → x ≡ y
one_letter topic name span x y a b e =
    let ordinal : x.ordinal ≡ y.ordinal = cc in
    let places : span.gone + index_in span.log x.position ≡ span.gone + index_in span.log y.position = cc in
    let place : index_in span.log x.position ≡ index_in span.log y.position = omega (arith, places) in
    let text : topic_text x.target ≡ topic_text y.target = cc in
    let position : x.position ≡ y.position = one_place span.log x.position y.position a.0 b.0 place in
    let target : x.target ≡ y.target = one_topic x.target y.target a.1.tenant a.1.namespace b.1.tenant b.1.namespace text in
    letter_is x.position y.position x.target y.target x.ordinal y.ordinal position target ordinal
  where
    letter_is : (p q : Position) (t u : TopicName) (n m : ℕ) → p ≡ q → t ≡ u → n ≡ m → (let a : DeadLetter = record { position = p; target = t; ordinal = n } in let b : DeadLetter = record { position = q; target = u; ordinal = m } in a ≡ b)
    letter_is p q t u n m a b c = rw (a, b, c) refl

pub all_of : (log : List Entry) (ds : List DeadLetter) → AreDeadLettersOf log ds → All (λ (d : DeadLetter). IsNamed d.target) ds → AllByRecursion (IsOneOf log) ds
all_of log ds dead named = all_both (λ (d : DeadLetter). has_message log d.position ≡ true) (λ (d : DeadLetter). IsNamed d.target) ds (recursion_from_All _ ds dead.messages) (recursion_from_All _ ds named)
