-- Subscriptions and their rows.
use Rattle.std.proofs.Common.{◌≡◌, ℕ, zero, suc, ◌+◌, ◌-◌, ◌<◌, ◌≤◌, ◌^◌, List, [], ◌∷◌, ◌++◌, map, take, length, Some, None, refl, ap, sym, subst, ◌∙◌, append-nil, append_assoc, get_or, pos, arith, Bool, true}
use Rattle.std.specs.Prelude.{◌==◌}
use Rattle.std.specs.List.{All, AllByRecursion, flat_map, slice_get}
use Rattle.std.specs.List.Sorted.{IsStrictlySortedBy}
use Rattle.std.specs.FinMap as map_of
use Rattle.std.specs.FinSet as set
use Rattle.std.specs.Ordering.{nat_cmp}
use Rattle.std.specs.declared.cmp.Ordering.TheVariants.{Less}
use Rattle.std.proofs.lemmas.Cmp.{nat_list_cmp_total}
use Rattle.std.proofs.lemmas.Bool.Decides.{nat_tests}
use Rattle.std.proofs.lemmas.List.{map-append, nil_from_length, take_more}
use Rattle.std.proofs.lemmas.List.Elements.{All-append, All-nil, All-weaker, recursion_from_All}
use Rattle.std.proofs.lemmas.Option.{slice_get-get_or}
use Rattle.sqlite.specs.declared.types.Value.TheVariants.{Int, Text as Words}
use Rattle.sqlite.specs.Order.{Row}
use Rattle.position_core.specs.declared.topic_name.TopicName.{TopicName}
use Rattle.position_core.specs.declared.message.Entry.{Entry}
use Rattle.position_core.specs.declared.kind.Kind.{Kind}
use Rattle.position_core.specs.Name.{name_order}
use Rattle.delivery_machine.specs.State.{DeadLetter}
use Rattle.delivery_machine.specs.Places.{KeptPlaces}
use Rattle.delivery_machine.specs.WellFormed.{NamesRise}
use Rattle.row_forms.specs.Forms.{AreAckRows, Span, ack_row, count_row, count_rows, dead_row, dead_rows, kind_number, sub_row, sub_rows}
use Rattle.row_forms.proofs.Acks.{join_rows, one_sub}
use Rattle.row_forms.proofs.Counts.{counts_joined}
use Rattle.row_forms.proofs.Deads.{rows-append}
use Rattle.row_reading.specs.Reading.{AreSubsOf, BeginWithCounts, BeginsWithAcks, BeginsWithCounts, BeginsWithDeads, BeginsWithLetters, BeginsWithRuns, IsLetterOf, IsSubOf, OrdinalsCame, put}
use Rattle.row_reading.proofs.Letters.{came_once}

-- ---- the rows of subscriptions

pub subs_more : (topic : List ℕ) (rows : List Row) (i : ℕ) (row : Row) (subs : List KeptPlaces) (sub : KeptPlaces) → i < length rows → row ≡ get_or rows i row → put topic (take i rows) ≡ sub_rows topic subs → Words topic ∷ row ≡ sub_row topic sub
    → put topic (take (i + 1) rows) ≡ sub_rows topic (subs ++ sub ∷ [])
subs_more topic rows i row subs sub low is so_far shown =
    ap (put topic) (take_more rows i row low ∙ ap (λ r. take i rows ++ r ∷ []) (sym is))
    ∙ map-append (λ (r : Row). Words topic ∷ r) (take i rows) (row ∷ [])
    ∙ ap (λ l. l ++ (Words topic ∷ row) ∷ []) so_far
    ∙ ap (λ (r : Row). sub_rows topic subs ++ r ∷ []) shown
    ∙ sym (map-append (sub_row topic) subs (sub ∷ []))

-- a subscription's own row without the topic
pub own_row : (row : Row) (sub : KeptPlaces) → ((topic : List ℕ) → Words topic ∷ row ≡ sub_row topic sub) → row ≡ Words sub.name ∷ Int (pos (kind_number sub.kind)) ∷ []
own_row row sub shown = let here : Words [] ∷ row ≡ sub_row [] sub = shown [] in cc

pub one_name : (row : Row) (name other : List ℕ) (kind second : Kind) → row ≡ Words name ∷ Int (pos (kind_number kind)) ∷ [] → row ≡ Words other ∷ Int (pos (kind_number second)) ∷ [] → name ≡ other
one_name row name other kind second a b = cc

-- ---- the rows of runs

pub acks_of_one : (gone : ℕ) (sub : KeptPlaces) (rows rest : List Row) → BeginsWithRuns sub.name gone sub.acknowledged rows rest → BeginsWithAcks gone (sub ∷ []) rows rest
acks_of_one gone sub rows rest h topic = (map (ack_row topic sub.name gone) h.0, one_sub topic gone sub h.0 h.1, h.2 topic)

pub no_acks_yet : (gone : ℕ) (rows : List Row) → BeginsWithAcks gone [] rows rows
no_acks_yet gone rows topic = ([], refl, refl)

pub acks_then : (gone : ℕ) (first second : List KeptPlaces) (rows middle rest : List Row) → BeginsWithAcks gone first rows middle → BeginsWithAcks gone second middle rest → BeginsWithAcks gone (first ++ second) rows rest
acks_then gone first second rows middle rest h k topic =
    let a = h topic in
    let b = k topic in
    (a.0 ++ b.0, join_rows topic gone first second a.0 b.0 a.1 b.1, a.2 ∙ ap (λ l. a.0 ++ l) b.2 ∙ sym (append_assoc a.0 b.0 (put topic rest)))

-- rows of which a test says that there are none
pub no_rows : (rows : List Row) (empty : Bool) → empty ≡ (length rows == 0) → empty ≡ true → rows ≡ []
no_rows rows empty is holds = let none : length rows ≡ 0 = grind (arith, nat_tests) in nil_from_length rows none

pub all_acks : (gone : ℕ) (subs : List KeptPlaces) (rows rest : List Row) → BeginsWithAcks gone subs rows rest → rest ≡ [] → (topic : List ℕ) → AreAckRows topic gone subs (put topic rows)
all_acks gone subs rows rest h none topic =
    let a = h topic in
    subst (λ l. AreAckRows topic gone subs l) (sym (a.2 ∙ ap (λ l. a.0 ++ put topic l) none ∙ append-nil a.0)) a.1

-- ---- the rows of dead letters

pub deads_of_one : (span : Span) (sub : KeptPlaces) (rows rest : List Row) → BeginsWithLetters sub.name span sub.dead rows rest → BeginsWithDeads span (sub ∷ []) rows rest
deads_of_one span sub rows rest h topic = h topic ∙ ap (λ l. l ++ put topic rest) (sym (append-nil (map (dead_row topic sub.name span) sub.dead)))

pub deads_then : (span : Span) (first second : List KeptPlaces) (rows middle rest : List Row) → BeginsWithDeads span first rows middle → BeginsWithDeads span second middle rest → BeginsWithDeads span (first ++ second) rows rest
deads_then span first second rows middle rest h k topic =
    h topic
    ∙ ap (λ l. dead_rows topic span first ++ l) (k topic)
    ∙ sym (ap (λ l. l ++ put topic rest) (rows-append span topic first second) ∙ append_assoc (dead_rows topic span first) (dead_rows topic span second) (put topic rest))

pub all_deads : (span : Span) (subs : List KeptPlaces) (rows rest : List Row) → BeginsWithDeads span subs rows rest → rest ≡ [] → (topic : List ℕ) → put topic rows ≡ dead_rows topic span subs
all_deads span subs rows rest h none topic = h topic ∙ ap (λ l. dead_rows topic span subs ++ put topic l) none ∙ append-nil (dead_rows topic span subs)

-- ---- the rows of counts

pub counts_of_one : (span : Span) (sub : KeptPlaces) (rows rest : List Row) → BeginsWithCounts sub.name span sub.counts rows rest → BeginWithCounts span (sub ∷ []) rows rest
counts_of_one span sub rows rest h topic = h topic ∙ ap (λ l. l ++ put topic rest) (sym (append-nil (map (count_row topic sub.name span) (map_of.entries sub.counts))))

pub counts_then : (span : Span) (first second : List KeptPlaces) (rows middle rest : List Row) → BeginWithCounts span first rows middle → BeginWithCounts span second middle rest → BeginWithCounts span (first ++ second) rows rest
counts_then span first second rows middle rest h k topic =
    h topic
    ∙ ap (λ l. count_rows topic span first ++ l) (k topic)
    ∙ sym (ap (λ l. l ++ put topic rest) (counts_joined span topic first second) ∙ append_assoc (count_rows topic span first) (count_rows topic span second) (put topic rest))

pub all_counts : (span : Span) (subs : List KeptPlaces) (rows rest : List Row) → BeginWithCounts span subs rows rest → rest ≡ [] → (topic : List ℕ) → put topic rows ≡ count_rows topic span subs
all_counts span subs rows rest h none topic = h topic ∙ ap (λ l. count_rows topic span subs ++ put topic l) none ∙ append-nil (count_rows topic span subs)

-- ---- names

-- where the last name is below another, all are
all_below : (subs : List KeptPlaces) (i : ℕ) (last : KeptPlaces) (name : List ℕ) → NamesRise (map (λ (sub : KeptPlaces). sub.name) subs) → length subs ≡ i + 1 → slice_get subs i ≡ Some last → name_order last.name name ≡ Less
    → AllByRecursion (λ n. name_order n name ≡ Less) (map (λ (sub : KeptPlaces). sub.name) subs)
unfolding IsStrictlySortedBy
all_below [] i last name rise long at less = tt
all_below (x ∷ []) zero last name rise long at less = let same : x ≡ last = cc in (ap (λ (sub : KeptPlaces). name_order sub.name name) same ∙ less, tt)
all_below (x ∷ []) (suc i) last name rise long at less = absurd (omega arith)
all_below (x ∷ z ∷ zs) zero last name rise long at less = absurd (omega arith)
all_below (x ∷ z ∷ zs) (suc i) last name rise long at less =
    let rest = all_below (z ∷ zs) i last name rise.1 (omega arith) at less in
    (nat_list_cmp_total.trans x.name z.name name rise.0.0 rest.0, rest)

rises_on : (names : List (List ℕ)) (name : List ℕ) → NamesRise names → AllByRecursion (λ n. name_order n name ≡ Less) names → NamesRise (names ++ name ∷ [])
unfolding IsStrictlySortedBy
rises_on [] name rise below = (tt, tt)
rises_on (n ∷ names) name rise below = (more names rise.0, rises_on names name rise.1 below.1)
  where
    more : (ks : List (List ℕ)) → AllByRecursion (λ k. name_order n k ≡ Less) ks → AllByRecursion (λ k. name_order n k ≡ Less) (ks ++ name ∷ [])
    more [] all = (below.0, tt)
    more (k ∷ ks) all = (all.0, more ks all.1)

pub names_on : (subs : List KeptPlaces) (last : KeptPlaces) (name : List ℕ) → NamesRise (map (λ (sub : KeptPlaces). sub.name) subs) → slice_get subs (length subs - 1) ≡ Some last → name_order last.name name ≡ Less
    → NamesRise (map (λ (sub : KeptPlaces). sub.name) subs ++ name ∷ [])
names_on [] last name rise at less = absurd (cc)
names_on (x ∷ xs) last name rise at less =
    let i : length (x ∷ xs) - 1 ≡ length xs = omega arith in
    rises_on (map (λ (sub : KeptPlaces). sub.name) (x ∷ xs)) name rise (all_below (x ∷ xs) (length xs) last name rise (omega arith) (sym (ap (slice_get (x ∷ xs)) i) ∙ at) less)

pub none_last : (subs : List KeptPlaces) → slice_get subs (length subs - 1) ≡ None → subs ≡ []
none_last [] at = refl
none_last (x ∷ xs) at =
    let some : slice_get (x ∷ xs) (length (x ∷ xs) - 1) ≡ Some (get_or (x ∷ xs) (length (x ∷ xs) - 1) x) = slice_get-get_or (x ∷ xs) (length (x ∷ xs) - 1) x (omega arith) in
    absurd (cc)

pub no_names : NamesRise []
unfolding IsStrictlySortedBy
no_names = tt

pub first_name : (name : List ℕ) → NamesRise (name ∷ [])
unfolding IsStrictlySortedBy
first_name name = (tt, tt)

-- ---- what a topic may go on with

letters_below : (own : TopicName) (log : List Entry) (next : ℕ) (subs : List KeptPlaces) → AllByRecursion (IsSubOf own log next) subs → All (λ (d : DeadLetter). d.ordinal < next) (flat_map (λ (sub : KeptPlaces). sub.dead) subs)
letters_below own log next [] all = All-nil _
letters_below own log next (sub ∷ subs) all =
    All-append (λ (d : DeadLetter). d.ordinal < next) sub.dead (flat_map (λ (s : KeptPlaces). s.dead) subs)
    (All-weaker (IsLetterOf own next) (λ (d : DeadLetter). d.ordinal < next) (λ d is. is.given) sub.dead all.0.letters) (letters_below own log next subs all.1)

pub sound_subs : (own : TopicName) (log : List Entry) (next : ℕ) (subs : List KeptPlaces) (ordinals : set.FinSet nat_cmp) → NamesRise (map (λ (sub : KeptPlaces). sub.name) subs) → All (IsSubOf own log next) subs
    → OrdinalsCame (flat_map (λ (sub : KeptPlaces). sub.dead) subs) set.empty ordinals → next ≤ 2 ^ 62 → AreSubsOf own log next subs
sound_subs own log next subs ordinals names each came last = record {
  names = names;
  each = each;
  ordinals = record {
    distinct = came_once (flat_map (λ (sub : KeptPlaces). sub.dead) subs) ordinals came;
    below = letters_below own log next subs (recursion_from_All (IsSubOf own log next) subs each);
    last_ordinal = last;
  };
}

-- a name that may come after all is above the last one
pub above_last : (subs : List KeptPlaces) (last : KeptPlaces) (name : List ℕ) → NamesRise (map (λ (sub : KeptPlaces). sub.name) subs ++ name ∷ []) → slice_get subs (length subs - 1) ≡ Some last → name_order last.name name ≡ Less
unfolding IsStrictlySortedBy
above_last subs last name rise at = go subs (length subs - 1) at rise
  where
    below : (xs : List KeptPlaces) (n : List ℕ) → AllByRecursion (λ k. name_order n k ≡ Less) (map (λ (sub : KeptPlaces). sub.name) xs ++ name ∷ []) → name_order n name ≡ Less
    below [] n all = all.0
    below (x ∷ xs) n all = below xs n all.1

    go : (xs : List KeptPlaces) (i : ℕ) → slice_get xs i ≡ Some last → NamesRise (map (λ (sub : KeptPlaces). sub.name) xs ++ name ∷ []) → name_order last.name name ≡ Less
    go [] i at rise = absurd (cc)
    go (x ∷ xs) zero at rise = let same : x ≡ last = cc in ap (λ (sub : KeptPlaces). name_order sub.name name) (sym same) ∙ below xs x.name rise.0
    go (x ∷ xs) (suc i) at rise = go xs i at rise.1
