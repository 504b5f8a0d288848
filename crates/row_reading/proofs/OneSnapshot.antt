-- Rows tell one snapshot.
use Rattle.std.proofs.Common.{◌≡◌, ℕ, Option, List, [], ◌∷◌, ◌++◌, map, refl, ap, sym, ◌∙◌, subst, arith}
use Rattle.std.specs.Prelude.{IsPermutation}
use Rattle.std.specs.FinSet as set
use Rattle.std.specs.List.{All, AllByRecursion}
use Rattle.std.specs.List.Sorted.{IsStrictlySortedBy}
use Rattle.std.specs.Ordering.{nat_cmp}
use Rattle.std.specs.declared.cmp.Ordering.TheVariants.{Less}
use Rattle.std.proofs.lemmas.List.Elements.{recursion_from_All}
use Rattle.std.proofs.lemmas.List.Sorted.{IsPermutation-sym, IsPermutation-trans}
use Rattle.std.specs.FinMap as map_of
use Rattle.sqlite.specs.Order.{Row}
use Rattle.position_core.specs.declared.position.Position.{Position}
use Rattle.position_core.specs.declared.topic_name.TopicName.{TopicName}
use Rattle.position_core.specs.declared.message.Entry.{Entry}
use Rattle.position_core.specs.declared.kind.Kind.{Kind}
use Rattle.position_core.specs.Position.{position_cmp}
use Rattle.position_core.specs.TopicName.{topic_text}
use Rattle.position_core.specs.Name.{name_order}
use Rattle.ack_ranges.specs.Ranges.{spread}
use Rattle.delivery_machine.specs.State.{Author, DeadLetter}
use Rattle.delivery_machine.specs.declared.retention.Retention.{Retention}
use Rattle.delivery_machine.specs.Places.{KeptPlaces, KeptTopic, kept_in}
use Rattle.delivery_machine.specs.WellFormed.{AreAuthors, AreDeadLettersOf, IsSoundSubscription, NamesRise}
use Rattle.row_forms.specs.Forms.{AreAckRows, AreRowsOf, Span, TopicRows, ack_row, author_rows, count_row, count_rows, dead_row, dead_rows, entry_rows, retention_rows, span_of, sub_rows, topic_row}
use Rattle.row_forms.specs.Standing.{Has}
use Rattle.row_forms.specs.Parts.{IsRising}
use Rattle.row_reading.specs.Reading.{IsNamed}
use Rattle.row_reading.specs.Telling.{IsTold, OneStands, RowsTellOne, SameRows}
use Rattle.row_reading.specs.KeyOrder.{BelowByName, BelowByNumber, BelowByPlace, InOrder, InOrderAreIts, name_in}
use Rattle.row_reading.proofs.Authors.{authors_in_order, few_same, one_front, retentions_few, told_authors}
use Rattle.row_reading.proofs.Restarts.{same_names}
use Rattle.row_reading.proofs.Orders.{all_weaker, cons_is, same_in_order, same_mapped, same_parts}
use Rattle.row_reading.proofs.Counts.{IsOfLog, each_of_log, one_count}
use Rattle.row_reading.proofs.RowOrders.{by_name_one_way, by_number_one_way, by_place_one_way, never_itself}
use Rattle.row_reading.proofs.Told.{IsOneOf, acks_after, acks_in_order, all_of, deads_after, deads_in_order, entries_in_order, letters_named, none_empty, one_kind, one_letter, one_log, runs_named, same_runs, subs_in_order}
use Rattle.row_reading.proofs.ToldCounts.{AreOfLog, counts_after, counts_in_order, counts_named}

-- ---- the subscriptions

-- what of a subscription makes its rows tell it
pub record IsTellable (log : List Entry) (sub : KeptPlaces) : Type 0 where
  pub counted : AreOfLog log sub
  pub dead : AreDeadLettersOf log sub.dead
  pub targets : All (λ (d : DeadLetter). IsNamed d.target) sub.dead

pub sub_is : (n n' : List ℕ) (k k' : Kind) (p p' : set.FinSet nat_cmp) (c c' : map_of.FinMap position_cmp ℕ) (d d' : List DeadLetter) → n ≡ n' → k ≡ k' → p ≡ p' → c ≡ c' → d ≡ d'
    → (let a : KeptPlaces = record { name = n; kind = k; acknowledged = p; counts = c; dead = d } in let b : KeptPlaces = record { name = n'; kind = k'; acknowledged = p'; counts = c'; dead = d' } in a ≡ b)
sub_is n n' k k' p p' c c' d d' a b e f g = rw (a, b, e, f, g) refl

apart : (name : List ℕ) (r : Row) → name_in r ≡ name → name_order name (name_in r) ≡ Less → ⊥
apart name r named less = never_itself name (name_in r) (sym named) less

same_subs : (topic : List ℕ) (span : Span) (xs ys : List KeptPlaces) (acks : List Row) (others : List Row) → NamesRise (map (λ (sub : KeptPlaces). sub.name) xs) → NamesRise (map (λ (sub : KeptPlaces). sub.name) ys)
    → AllByRecursion (IsTellable span.log) xs → AllByRecursion (IsTellable span.log) ys → AreAckRows topic span.gone xs acks → AreAckRows topic span.gone ys others → acks ≡ others
    → sub_rows topic xs ≡ sub_rows topic ys → dead_rows topic span xs ≡ dead_rows topic span ys → count_rows topic span xs ≡ count_rows topic span ys → xs ≡ ys
unfolding IsStrictlySortedBy
same_subs topic span [] [] acks others rise rise' a b runs runs' same own deads counts = refl
same_subs topic span [] (y ∷ ys) acks others rise rise' a b runs runs' same own deads counts = absurd (cc)
same_subs topic span (x ∷ xs) [] acks others rise rise' a b runs runs' same own deads counts = absurd (cc)
same_subs topic span (x ∷ xs) (y ∷ ys) acks others rise rise' a b (runs, more, are, rest, is) (runs', more', are', rest', is') same own deads counts =
    let name : x.name ≡ y.name = cc in
    let kind : x.kind ≡ y.kind = one_kind x.kind y.kind (cc) in
    let own_rest : sub_rows topic xs ≡ sub_rows topic ys = cc in
    let Named : Row → Type 0 = λ (r : Row). name_in r ≡ x.name in
    let After : Row → Type 0 = λ (r : Row). name_order x.name (name_in r) ≡ Less in
    let rise_y : AllByRecursion (λ n. name_order x.name n ≡ Less) (map (λ (sub : KeptPlaces). sub.name) ys) = subst (λ n. AllByRecursion (λ k. name_order n k ≡ Less) (map (λ (sub : KeptPlaces). sub.name) ys)) (sym name) rise'.0 in
    let acks_split = same_parts Named After (apart x.name) (map (ack_row topic x.name span.gone) runs) more (map (ack_row topic x.name span.gone) runs') more' (runs_named span.gone topic x.name runs) (acks_after span.gone topic x.name xs more rest rise.0) (runs_named span.gone topic x.name runs')
    (acks_after span.gone topic x.name ys more' rest' rise_y) (sym is ∙ same ∙ is' ∙ ap (λ n. map (ack_row topic n span.gone) runs' ++ more') (sym name)) in
    let deads_split = same_parts Named After (apart x.name) (map (dead_row topic x.name span) x.dead) (dead_rows topic span xs) (map (dead_row topic x.name span) y.dead) (dead_rows topic span ys) (letters_named topic x.name span x.dead)
    (deads_after topic x.name span xs rise.0) (letters_named topic x.name span y.dead) (deads_after topic x.name span ys rise_y) (deads ∙ ap (λ n. map (dead_row topic n span) y.dead ++ dead_rows topic span ys) (sym name)) in
    let xs_counts : List (Position × ℕ) = map_of.entries x.counts in
    let ys_counts : List (Position × ℕ) = map_of.entries y.counts in
    let counts_split = same_parts Named After (apart x.name) (map (count_row topic x.name span) xs_counts) (count_rows topic span xs) (map (count_row topic x.name span) ys_counts) (count_rows topic span ys) (counts_named topic x.name span xs_counts)
    (counts_after topic x.name span xs rise.0) (counts_named topic x.name span ys_counts) (counts_after topic x.name span ys rise_y) (counts ∙ ap (λ n. map (count_row topic n span) ys_counts ++ count_rows topic span ys) (sym name)) in
    let one_runs : runs ≡ runs' = same_runs span.gone topic x.name runs runs' (none_empty runs are.rise) (none_empty runs' are'.rise) acks_split.0 in
    let places : x.acknowledged ≡ y.acknowledged = are.numbers ∙ ap (λ rs. set.from_list {R = nat_cmp} (spread rs)) one_runs ∙ sym are'.numbers in
    let dead : x.dead ≡ y.dead = same_mapped (dead_row topic x.name span) (IsOneOf span.log) (one_letter topic x.name span) x.dead y.dead (all_of span.log x.dead a.0.dead a.0.targets) (all_of span.log y.dead b.0.dead b.0.targets) deads_split.0 in
    let one_counts : x.counts ≡ y.counts = map_of.same_entries_map x.counts y.counts (same_mapped (count_row topic x.name span) (IsOfLog span.log) (one_count topic x.name span) xs_counts ys_counts a.0.counted b.0.counted counts_split.0) in
    cons_is x y xs ys (sub_is x.name y.name x.kind y.kind x.acknowledged y.acknowledged x.counts y.counts x.dead y.dead name kind places one_counts dead)
    (same_subs topic span xs ys more more' rise.1 rise'.1 a.1 b.1 rest rest' acks_split.1 own_rest deads_split.1 counts_split.1)

-- ---- the snapshot

-- what of a snapshot makes its rows tell it
pub record AreTellable (log : List Entry) (subs : List KeptPlaces) : Type 0 where
  pub rising : IsRising log
  pub names : NamesRise (map (λ (sub : KeptPlaces). sub.name) subs)
  pub each : AllByRecursion (IsTellable log) subs

-- rows of dead letters and of counts stand in order
pub tellable_deads : (topic : List ℕ) (span : Span) (subs : List KeptPlaces) → AreTellable span.log subs → InOrder BelowByNumber (dead_rows topic span subs)
tellable_deads topic span subs tell = deads_in_order topic span subs tell.names (all_weaker (IsTellable span.log) (λ (sub : KeptPlaces). AreDeadLettersOf span.log sub.dead) (λ sub t. t.dead) subs tell.each)

pub tellable_counts : (topic : List ℕ) (span : Span) (subs : List KeptPlaces) → AreTellable span.log subs → InOrder BelowByNumber (count_rows topic span subs)
tellable_counts topic span subs tell = counts_in_order topic span tell.rising subs tell.names (all_weaker (IsTellable span.log) (AreOfLog span.log) (λ sub t. t.counted) subs tell.each)

pub record IsTelling (kept : KeptTopic) : Type 0 where
  pub subs : AreTellable kept.log kept.subscriptions
  pub authors : AreAuthors kept.gone kept.authors

pub one_snapshot : (a b : KeptTopic) (rows others : TopicRows) → IsTelling a → IsTelling b → a.name ≡ b.name → AreRowsOf a rows → AreRowsOf b others → SameRows rows others → a ≡ b
one_snapshot a b rows others tells_a tells_b name ra rb same =
    let topic : List ℕ = topic_text a.name in
    let tell_a : AreTellable a.log a.subscriptions = tells_a.subs in
    let tell_b : AreTellable b.log b.subscriptions = tells_b.subs in
    let texts : topic_text b.name ≡ topic = ap topic_text (sym name) in
    let retentions_b : others.retentions ≡ retention_rows topic b.gone b.retention = rb.retentions ∙ ap (λ t. retention_rows t b.gone b.retention) texts in
    let first = one_front topic a.gone b.gone a.retention b.retention
    (few_same (retention_rows topic a.gone a.retention) (retention_rows topic b.gone b.retention) (retentions_few topic a.gone a.retention) (both_are rows.retentions others.retentions _ _ ra.retentions retentions_b same.retentions)) in
    let gone : a.gone ≡ b.gone = first.0 in
    let authors_b : others.authors ≡ author_rows topic b.authors = rb.authors ∙ ap (λ t. author_rows t b.authors) texts in
    let authors : a.authors ≡ b.authors = told_authors topic a.gone b.gone a.authors b.authors tells_a.authors tells_b.authors (both_are rows.authors others.authors _ _ ra.authors authors_b same.authors) in
    let entries_b : others.entries ≡ entry_rows topic a.gone b.log = rb.entries ∙ ap (λ t. entry_rows t b.gone b.log) texts ∙ ap (λ n. entry_rows topic n b.log) (sym gone) in
    let subs_b : others.subs ≡ sub_rows topic b.subscriptions = rb.subs ∙ ap (λ t. sub_rows t b.subscriptions) texts in
    let acks_b : AreAckRows topic a.gone b.subscriptions others.acks = subst (λ n. AreAckRows topic n b.subscriptions others.acks) (sym gone) (subst (λ t. AreAckRows t b.gone b.subscriptions others.acks) texts rb.acks) in
    let log : a.log ≡ b.log = one_log topic a.gone a.log b.log (both_are rows.entries others.entries _ _ ra.entries entries_b same.entries) in
    let span : span_of b ≡ span_of a = span_is b.gone a.gone b.log a.log (sym gone) (sym log) in
    let told_b : AreTellable a.log b.subscriptions = subst (λ l. AreTellable l b.subscriptions) (sym log) tell_b in
    let deads_b : others.deads ≡ dead_rows topic (span_of a) b.subscriptions = rb.deads ∙ ap (λ t. dead_rows t (span_of b) b.subscriptions) texts ∙ ap (λ l. dead_rows topic l b.subscriptions) span in
    let own : sub_rows topic a.subscriptions ≡ sub_rows topic b.subscriptions =
    same_in_order BelowByName by_name_one_way _ _ (subs_in_order topic a.subscriptions tell_a.names) (subs_in_order topic b.subscriptions tell_b.names) (both_are rows.subs others.subs _ _ ra.subs subs_b same.subs) in
    let acks : rows.acks ≡ others.acks =
    same_in_order BelowByNumber by_number_one_way rows.acks others.acks (acks_in_order a.gone topic a.subscriptions rows.acks tell_a.names ra.acks) (acks_in_order a.gone topic b.subscriptions others.acks tell_b.names acks_b) same.acks in
    let deads : dead_rows topic (span_of a) a.subscriptions ≡ dead_rows topic (span_of a) b.subscriptions =
    same_in_order BelowByNumber by_number_one_way _ _ (tellable_deads topic (span_of a) a.subscriptions tell_a) (tellable_deads topic (span_of a) b.subscriptions told_b)
    (both_are rows.deads others.deads _ _ ra.deads deads_b same.deads) in
    let counts_b : others.counts ≡ count_rows topic (span_of a) b.subscriptions = rb.counts ∙ ap (λ t. count_rows t (span_of b) b.subscriptions) texts ∙ ap (λ l. count_rows topic l b.subscriptions) span in
    let counts : count_rows topic (span_of a) a.subscriptions ≡ count_rows topic (span_of a) b.subscriptions =
    same_in_order BelowByNumber by_number_one_way _ _ (tellable_counts topic (span_of a) a.subscriptions tell_a) (tellable_counts topic (span_of a) b.subscriptions told_b) (both_are rows.counts others.counts _ _ ra.counts counts_b same.counts) in
    let subs : a.subscriptions ≡ b.subscriptions = same_subs topic (span_of a) a.subscriptions b.subscriptions rows.acks others.acks tell_a.names told_b.names tell_a.each told_b.each ra.acks acks_b acks own deads counts in
    let one : topic_row a ∷ [] ≡ topic_row b ∷ [] = one_row (topic_row a) (topic_row b) (both_are rows.topics others.topics _ _ ra.topics rb.topics same.topics) in
    kept_is a.name b.name a.ledger_size b.ledger_size a.ledger b.ledger a.next_ordinal b.next_ordinal a.gone b.gone a.authors b.authors a.retention b.retention a.log b.log a.subscriptions b.subscriptions name (cc) (cc) (cc) gone authors first.1 log subs
  where
    both_are : (xs ys us vs : List Row) → xs ≡ us → ys ≡ vs → IsPermutation xs ys → IsPermutation us vs
    both_are xs ys us vs p q same = subst (λ l. IsPermutation l vs) p (subst (IsPermutation xs) q same)

    span_is : (g h : ℕ) (l m : List Entry) → g ≡ h → l ≡ m → (let a : Span = record { gone = g; log = l } in let b : Span = record { gone = h; log = m } in a ≡ b)
    span_is g h l m x y = rw (x, y) refl

    one_row : (r s : Row) → IsPermutation (r ∷ []) (s ∷ []) → r ∷ [] ≡ s ∷ []
    one_row r s same = few_same (r ∷ []) (s ∷ []) (omega arith) same

    kept_is : (t t' : TopicName) (s s' l l' n n' g g' : ℕ) (w w' : List Author) (r r' : Option Retention) (log log' : List Entry) (subs subs' : List KeptPlaces) → t ≡ t' → s ≡ s' → l ≡ l' → n ≡ n' → g ≡ g' → w ≡ w' → r ≡ r' → log ≡ log' → subs ≡ subs'
        → (let a : KeptTopic = record { name = t; ledger_size = s; ledger = l; next_ordinal = n; gone = g; authors = w; retention = r; log = log; subscriptions = subs } in
        let b : KeptTopic = record { name = t'; ledger_size = s'; ledger = l'; next_ordinal = n'; gone = g'; authors = w'; retention = r'; log = log'; subscriptions = subs' } in a ≡ b)
    kept_is t t' s s' l l' n n' g g' w w' r r' log log' subs subs' a b c d e f h i j = rw (a, b, c, d, e, f, h, i, j) refl

tellable : (log : List Entry) (subs : List KeptPlaces) → AllByRecursion (λ (sub : KeptPlaces). IsSoundSubscription log (kept_in log sub)) subs → AllByRecursion (λ (sub : KeptPlaces). All (λ (d : DeadLetter). IsNamed d.target) sub.dead) subs → AllByRecursion (IsTellable log) subs
tellable log [] sound named = tt
tellable log (sub ∷ subs) sound named = (
  record { counted = each_of_log log sub.counts (λ position times is. (sound.0.counted position times is).message); dead = sound.0.dead; targets = named.0 },
  tellable log subs sound.1 named.1,
)

pub are_tellable : (kept : KeptTopic) → IsTold kept → AreTellable kept.log kept.subscriptions
are_tellable kept told = record {
  rising = told.may.sound.log.positions;
  names = subst NamesRise (same_names kept.log kept.subscriptions) told.may.sound.names;
  each = tellable kept.log kept.subscriptions (unmapped kept.subscriptions (recursion_from_All (IsSoundSubscription kept.log) (map (kept_in kept.log) kept.subscriptions) told.may.sound.subscriptions))
      (recursion_from_All (λ (sub : KeptPlaces). All (λ (d : DeadLetter). IsNamed d.target) sub.dead) kept.subscriptions told.targets);
}
  where
    unmapped : (subs : List KeptPlaces) → AllByRecursion (IsSoundSubscription kept.log) (map (kept_in kept.log) subs) → AllByRecursion (λ (sub : KeptPlaces). IsSoundSubscription kept.log (kept_in kept.log sub)) subs
    unmapped [] all = tt
    unmapped (sub ∷ subs) all = (all.0, unmapped subs all.1)

is_telling : (kept : KeptTopic) → IsTold kept → IsTelling kept
is_telling kept told = record { subs = are_tellable kept told; authors = told.may.sound.authors }

pub rows_tell_one : RowsTellOne
rows_tell_one a b rows others told_a told_b name ra rb same = one_snapshot a b rows others (is_telling a told_a) (is_telling b told_b) name ra rb same

pub one_stands : OneStands
one_stands a b db told_a told_b name (rows, ra, ha) (others, rb, hb) =
    let hb' : Has (topic_text a.name) others db = subst (λ t. Has t others db) (ap topic_text (sym name)) hb in
    rows_tell_one a b rows others told_a told_b name ra rb record {
      topics = both _ _ _ ha.topics hb'.topics;
      entries = both _ _ _ ha.entries hb'.entries;
      subs = both _ _ _ ha.subs hb'.subs;
      acks = both _ _ _ ha.acks hb'.acks;
      deads = both _ _ _ ha.deads hb'.deads;
      counts = both _ _ _ ha.counts hb'.counts;
      authors = both _ _ _ ha.authors hb'.authors;
      retentions = both _ _ _ ha.retentions hb'.retentions;
    }
  where
    both : (xs ys zs : List Row) → IsPermutation xs zs → IsPermutation ys zs → IsPermutation xs ys
    both xs ys zs a b = IsPermutation-trans xs zs ys a (IsPermutation-sym ys zs b)

-- ---- what stands in the order of its keys

pub in_order_are_its : InOrderAreIts
in_order_are_its kept rows db told (mine, are, has) there ordered =
    let topic : List ℕ = topic_text kept.name in
    let tell : AreTellable kept.log kept.subscriptions = are_tellable kept told in
    let both : (xs ys zs : List Row) → IsPermutation xs zs → IsPermutation ys zs → IsPermutation xs ys = λ xs ys zs a b. IsPermutation-trans xs zs ys a (IsPermutation-sym ys zs b) in
    let one : topic_row kept ∷ [] ≡ rows.topics = few_same (topic_row kept ∷ []) rows.topics (omega arith) (subst (λ l. IsPermutation l rows.topics) are.topics (both _ _ _ has.topics there.topics)) in
    let retentions : retention_rows topic kept.gone kept.retention ≡ rows.retentions =
    few_same (retention_rows topic kept.gone kept.retention) rows.retentions (retentions_few topic kept.gone kept.retention) (subst (λ l. IsPermutation l rows.retentions) are.retentions (both _ _ _ has.retentions there.retentions)) in
    let authors : mine.authors ≡ rows.authors =
    same_in_order BelowByPlace by_place_one_way mine.authors rows.authors (subst (InOrder BelowByPlace) (sym are.authors) (authors_in_order topic kept.gone kept.authors told.may.sound.authors)) ordered.authors (both _ _ _ has.authors there.authors) in
    let entries : mine.entries ≡ rows.entries =
    same_in_order BelowByPlace by_place_one_way mine.entries rows.entries (subst (InOrder BelowByPlace) (sym are.entries) (entries_in_order topic kept.gone kept.log)) ordered.entries (both _ _ _ has.entries there.entries) in
    let subs : mine.subs ≡ rows.subs =
    same_in_order BelowByName by_name_one_way mine.subs rows.subs (subst (InOrder BelowByName) (sym are.subs) (subs_in_order topic kept.subscriptions tell.names)) ordered.subs (both _ _ _ has.subs there.subs) in
    let acks : mine.acks ≡ rows.acks =
    same_in_order BelowByNumber by_number_one_way mine.acks rows.acks (acks_in_order kept.gone topic kept.subscriptions mine.acks tell.names are.acks) ordered.acks (both _ _ _ has.acks there.acks) in
    let deads : mine.deads ≡ rows.deads =
    same_in_order BelowByNumber by_number_one_way mine.deads rows.deads (subst (InOrder BelowByNumber) (sym are.deads) (tellable_deads topic (span_of kept) kept.subscriptions tell)) ordered.deads (both _ _ _ has.deads there.deads) in
    let counts : mine.counts ≡ rows.counts =
    same_in_order BelowByNumber by_number_one_way mine.counts rows.counts (subst (InOrder BelowByNumber) (sym are.counts) (tellable_counts topic (span_of kept) kept.subscriptions tell)) ordered.counts (both _ _ _ has.counts there.counts) in
    record {
      topics = sym one;
      entries = sym entries ∙ are.entries;
      subs = sym subs ∙ are.subs;
      acks = subst (AreAckRows topic kept.gone kept.subscriptions) acks are.acks;
      deads = sym deads ∙ are.deads;
      counts = sym counts ∙ are.counts;
      authors = sym authors ∙ are.authors;
      retentions = sym retentions;
    }
