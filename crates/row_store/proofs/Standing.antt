-- What was known to stand, after a store.
use Rattle.std.proofs.Common.{◌≡◌, ◌≢◌, ℕ, Bool, true, false, not, List, [], ◌∷◌, map, slice_index_or, length, ap, sym, subst, ◌∙◌, arith, suc, refl}
use Rattle.std.specs.Prelude.{◌+◌, ◌||◌, ◌++◌, if◌then◌else◌, All, Option, Some, None, IfSome, option_map, string_bytes, filter, reverse}
use Rattle.std.specs.List.{list_any, AllByRecursion}
use Rattle.std.specs.Str.{bytes_eq}
use Rattle.std.proofs.lemmas.Slice.Eq.{bytes_eq-Decides}
use Rattle.std.proofs.lemmas.List.Elements.{All-cons, All-filter, All-map, All-nil, filter_passes}
use Rattle.std.proofs.lemmas.List.Sorted.{IsPermutation-trans}
use Rattle.position_core.specs.TopicName.{topic_text}
use Rattle.sqlite.specs.Tree.{Trees}
use Rattle.delivery_machine.specs.Places.{KeptTopic}
use Rattle.row_forms.specs.Standing.{Stands, Same, KeepsOthers}
use Rattle.row_rounds.specs.declared.saving.Write.{Write}
use Rattle.row_rounds.specs.Rounds.{IsNamed, StandAll, name_of}
use Rattle.sqlite_trees.proofs.ListLemmas.{IsPermutation-filter}
use Rattle.row_tables.specs.Pieces.{is_within, messages_of}
use Rattle.position_core.specs.declared.topic_name.TopicName.{TopicName}
use Rattle.row_store.specs.declared.pace.Pace.{Pace}
use Rattle.row_store.specs.declared.pace.Pace.TheVariants.{AtOnce, Pieces}
use Rattle.row_store.specs.Begun.{Begun, HasSpan, IsUnread, ReadTo, StandsSoFar, begun_by, begun_of, begun_without, count_for, kept_by, left_by, read_without, span_to}
use Rattle.row_store.specs.Found.{HasMany}
use Rattle.row_store.specs.Keeping.{StoresAll, is_of_one, known_after}
use Rattle.row_store.proofs.Lists.{or_false}

-- rows that stay the same stand on
pub same_stands : (kept : KeptTopic) (old new : Trees) → Same (topic_text kept.name) old new → Stands kept old → Stands kept new
same_stands kept old new same stands = (
  stands.0,
  stands.1,
  record {
    topics = IsPermutation-trans _ _ _ stands.2.topics same.topics;
    entries = IsPermutation-trans _ _ _ stands.2.entries same.entries;
    subs = IsPermutation-trans _ _ _ stands.2.subs same.subs;
    acks = IsPermutation-trans _ _ _ stands.2.acks same.acks;
    deads = IsPermutation-trans _ _ _ stands.2.deads same.deads;
    counts = IsPermutation-trans _ _ _ stands.2.counts same.counts;
    authors = IsPermutation-trans _ _ _ stands.2.authors same.authors;
    retentions = IsPermutation-trans _ _ _ stands.2.retentions same.retentions;
  },
)

-- a topic that none of the writes is of
none_named : (writes : List Write) (text : List ℕ) → All IsNamed writes → list_any (λ w. bytes_eq (string_bytes w.topic) text) writes ≡ false → AllByRecursion (λ name. text ≢ name) (map name_of writes)
none_named [] text named none = tt
none_named (w ∷ writes) text named none =
    let both = or_false (bytes_eq (string_bytes w.topic) text) (list_any (λ (v : Write). bytes_eq (string_bytes v.topic) text) writes) none in
    let is : string_bytes w.topic ≡ name_of w = named 0 w (omega arith) in
    let other : text ≢ name_of w = λ e. absurd (cc (both.0, (bytes_eq-Decides (string_bytes w.topic) text).1 (is ∙ sym e))) in
    (other, none_named writes text (λ n d lt. named (suc n) d (omega (arith, lt))) both.1)

-- what was known of the other topics is so still
pub still_standing : (writes : List Write) (old new : Trees) (known : List KeptTopic) → All IsNamed writes → KeepsOthers (map name_of writes) old new
    → All (λ kept. Stands kept old) known → All (λ kept. Stands kept new) (filter (λ kept. not (list_any (λ w. bytes_eq (string_bytes w.topic) (topic_text kept.name)) writes)) known)
still_standing writes old new known named keeps all n d lt =
    let p : KeptTopic → Bool = λ kept. not (list_any (λ w. bytes_eq (string_bytes w.topic) (topic_text kept.name)) writes) in
    let kept = slice_index_or (filter p known) n d in
    let was = All-filter p (λ k. Stands k old) known all n d lt in
    let away : p kept ≡ true = filter_passes p known n d lt in
    let none : list_any (λ w. bytes_eq (string_bytes w.topic) (topic_text kept.name)) writes ≡ false = unnot _ away in
    same_stands kept old new (keeps (topic_text kept.name) (none_named writes (topic_text kept.name) named none)) was
  where
    unnot : (b : Bool) → not b ≡ true → b ≡ false
    unnot true h = absurd cc
    unnot false h = refl

names_of : (writes : List Write) → map (λ (kept : KeptTopic). topic_text kept.name) (map (λ (w : Write). w.snapshot) writes) ≡ map name_of writes
names_of [] = refl
names_of (w ∷ writes) = ap (λ l. name_of w ∷ l) (names_of writes)

-- what a round leaves, said of the snapshots
pub stores_all : (writes : List Write) (kepts : List KeptTopic) (old new : Trees) → map (λ (w : Write). w.snapshot) writes ≡ kepts → StandAll writes old new → StoresAll kepts old new
stores_all writes kepts old new same all =
    subst (λ k. StoresAll k old new) same (record {
      each = All-map (λ (kept : KeptTopic). Stands kept new) (λ (w : Write). w.snapshot) writes all.rows;
      others = subst (λ names. KeepsOthers names old new) (sym (names_of writes)) all.others;
    })

same_any : (writes : List Write) (text : List ℕ) → All IsNamed writes
    → list_any (λ (w : Write). bytes_eq (string_bytes w.topic) text) writes ≡ list_any (λ (one : KeptTopic). bytes_eq (topic_text one.name) text) (map (λ (w : Write). w.snapshot) writes)
same_any [] text named = refl
same_any (w ∷ writes) text named =
    let here : string_bytes w.topic ≡ topic_text w.snapshot.name = named 0 w (omega arith) in
    let rest = same_any writes text (λ n d lt. named (suc n) d (omega (arith, lt))) in
    λ i. bytes_eq (here i) text || rest i

filter_alike : {A : Type 0} (p q : A → Bool) → ((x : A) → p x ≡ q x) → (xs : List A) → filter p xs ≡ filter q xs
filter_alike p q same [] = refl
filter_alike p q same (x ∷ xs) = λ i. if same x i then x ∷ filter_alike p q same xs i else filter_alike p q same xs i

-- what is known after the writes, said of the snapshots
pub known_is : (writes : List Write) (kepts : List KeptTopic) (known : List KeptTopic) → All IsNamed writes → map (λ (w : Write). w.snapshot) writes ≡ kepts
    → filter (λ (kept : KeptTopic). not (list_any (λ (w : Write). bytes_eq (string_bytes w.topic) (topic_text kept.name)) writes)) known ++ reverse (map (λ (w : Write). w.snapshot) writes) ≡ known_after kepts known
known_is writes kepts known named same =
    ap (λ l. l ++ reverse (map (λ (w : Write). w.snapshot) writes)) (filter_alike _ (λ (kept : KeptTopic). not (is_of_one (map (λ (w : Write). w.snapshot) writes) kept)) (λ kept. ap not (same_any writes (topic_text kept.name) named)) known)
    ∙ ap (λ k. known_after k known) same

-- what was read so far of a topic stands on where its rows stay the same
pub read_stands_on : (r : ReadTo) (old new : Trees) → Same (topic_text r.name) old new → StandsSoFar old r → StandsSoFar new r
read_stands_on r old new same stands = record {
  sides = record {
    topics = IsPermutation-trans _ _ _ stands.sides.topics same.topics;
    subs = IsPermutation-trans _ _ _ stands.sides.subs same.subs;
    acks = IsPermutation-trans _ _ _ stands.sides.acks same.acks;
    deads = IsPermutation-trans _ _ _ stands.sides.deads same.deads;
    counts = IsPermutation-trans _ _ _ stands.sides.counts same.counts;
    authors = IsPermutation-trans _ _ _ stands.sides.authors same.authors;
    retentions = IsPermutation-trans _ _ _ stands.sides.retentions same.retentions;
  };
  sorted = stands.sorted;
  below = IsPermutation-trans _ _ _ stands.below (IsPermutation-filter (is_within r.front.gone (r.front.gone + length r.log)) (messages_of (topic_text r.name) old) (messages_of (topic_text r.name) new) same.entries);
}

-- and so it does after a store of others
pub still_read : (reading : Option ReadTo) (writes : List Write) (old new : Trees) → All IsNamed writes → KeepsOthers (map name_of writes) old new
    → IfSome reading (λ (r : ReadTo). list_any (λ w. bytes_eq (string_bytes w.topic) (topic_text r.name)) writes ≡ false) → IfSome reading (StandsSoFar old) → IfSome reading (StandsSoFar new)
still_read None writes old new named keeps none stands = tt
still_read (Some r) writes old new named keeps none stands = read_stands_on r old new (keeps (topic_text r.name) (none_named writes (topic_text r.name) named none)) stands

-- the writes are of topics that are not being read
each_unread : (r : ReadTo) (writes : List Write) → All IsNamed writes → list_any (λ (w : Write). bytes_eq (string_bytes w.topic) (topic_text r.name)) writes ≡ false → All (λ (w : Write). topic_text r.name ≢ topic_text w.snapshot.name) writes
each_unread r [] named none = All-nil (λ (w : Write). topic_text r.name ≢ topic_text w.snapshot.name)
each_unread r (w ∷ writes) named none =
    let both = or_false (bytes_eq (string_bytes w.topic) (topic_text r.name)) (list_any (λ (v : Write). bytes_eq (string_bytes v.topic) (topic_text r.name)) writes) none in
    let is : string_bytes w.topic ≡ name_of w = named 0 w (omega arith) in
    let other : topic_text r.name ≢ name_of w = λ e. absurd (cc (both.0, (bytes_eq-Decides (string_bytes w.topic) (topic_text r.name)).1 (is ∙ sym e))) in
    All-cons (λ (v : Write). topic_text r.name ≢ topic_text v.snapshot.name) w writes other (each_unread r writes (λ n d lt. named (suc n) d (omega (arith, lt))) both.1)

pub are_unread : (reading : Option ReadTo) (writes : List Write) (kepts : List KeptTopic) → All IsNamed writes → map (λ (w : Write). w.snapshot) writes ≡ kepts
    → IfSome reading (λ (r : ReadTo). list_any (λ w. bytes_eq (string_bytes w.topic) (topic_text r.name)) writes ≡ false) → All (IsUnread (option_map begun_of reading)) kepts
are_unread None writes kepts named same none = λ n d lt. tt
are_unread (Some r) writes kepts named same none =
    subst (All (IsUnread (Some (begun_of r)))) same (All-map (IsUnread (Some (begun_of r))) (λ (w : Write). w.snapshot) writes (each_unread r writes named none))

-- what was read of a topic stands after a deletion of another
pub read_beside : (topic : List ℕ) (old new : Trees) (reading left : Option ReadTo) → KeepsOthers (topic ∷ []) old new → left ≡ read_without topic reading → IfSome left (λ (r : ReadTo). topic_text r.name ≢ topic) → IfSome reading (StandsSoFar old) → IfSome left (StandsSoFar new)
read_beside topic old new reading None keeps is other stands = tt
read_beside topic old new None (Some r) keeps is other stands = cc
read_beside topic old new (Some q) (Some r) keeps is other stands = read_stands_on r old new (keeps (topic_text r.name) (other, tt)) (by (bytes_eq (topic_text q.name) topic) is)
  where
    by : (b : Bool) → Some r ≡ (if b then None else Some q) → StandsSoFar old r
    by true e = cc
    by false e = subst (λ o. IfSome o (StandsSoFar old)) (sym e) stands

-- what is told of that
pub begun_left : (topic : List ℕ) (reading : Option ReadTo) → option_map begun_of (read_without topic reading) ≡ begun_without topic (option_map begun_of reading)
begun_left topic None = refl
begun_left topic (Some r) = by (bytes_eq (topic_text r.name) topic)
  where
    by : (b : Bool) → option_map begun_of (if b then None else Some r) ≡ (if b then None else Some (begun_of r))
    by true = refl
    by false = refl

-- ---- a topic of which more is to be read

pub kept_stands : (pace : Pace) (r : ReadTo) (left : Option ReadTo) (db : Trees) → IfSome left (StandsSoFar db) → StandsSoFar db r → IfSome (kept_by pace r left) (StandsSoFar db)
kept_stands AtOnce r left db was stands = was
kept_stands Pieces r left db was stands = stands

pub begun_after : (pace : Pace) (name : TopicName) (r : ReadTo) (left : Option ReadTo) (old : Option Begun) (n : ℕ) → option_map begun_of left ≡ left_by pace old → r.name ≡ name → (pace ≡ Pieces → n ≡ count_for name old) → length r.log ≡ n + 256
    → option_map begun_of (kept_by pace r left) ≡ begun_by pace name old
begun_after AtOnce name r left old n same named counts many = same
begun_after Pieces name r left old n same named counts many =
    let count : length r.log ≡ count_for name old + 256 = many ∙ ap (λ k. k + 256) (counts refl) in
    λ i. Some (record { name = named i; count = count i })

pub has_many : (name : TopicName) (r : ReadTo) (db : Trees) (n : ℕ) → r.name ≡ name → length r.log ≡ n + 256 → StandsSoFar db r → HasMany name db
has_many name r db n named many stands = (span_to r, omega (arith, many), subst (λ (t : TopicName). HasSpan (topic_text t) (span_to r) db) named stands.below)
