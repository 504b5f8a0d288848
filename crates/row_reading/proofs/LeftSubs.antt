-- What is left of subscriptions' rows, where some of them were read: those of the subscriptions that follow.
use Rattle.std.proofs.Common.{◌≡◌, ℕ, suc, ◌+◌, ◌<◌, ◌≤◌, true, false, cond, List, [], ◌∷◌, ◌++◌, map, take, drop, length, get_or, pos, ap, append-nil, append_assoc, arith, refl, sym, subst, ◌∙◌}
use Rattle.std.specs.Prelude.{◌==◌}
use Rattle.std.specs.FinSet as set
use Rattle.std.specs.List.{All, AllByRecursion, IsDistinct, count_by, flat_map}
use Rattle.std.specs.List.Sorted.{IsStrictlySortedBy}
use Rattle.std.specs.Ordering.{nat_cmp}
use Rattle.std.specs.declared.cmp.Ordering.TheVariants.{Less}
use Rattle.std.proofs.Math.Seq.{drop-cons}
use Rattle.std.proofs.lemmas.Bool.Decides.{nat_tests}
use Rattle.std.proofs.lemmas.Grind.{flat_map-append}
use Rattle.std.proofs.lemmas.List.{map-append, take-append-drop}
use Rattle.std.proofs.lemmas.List.Elements.{All-from_recursion, recursion_from_All}
use Rattle.std.proofs.lemmas.List.Sums.{sum_by-append, sum_by-cons}
use Rattle.std.specs.FinMap as map_of
use Rattle.sqlite.specs.declared.types.Value.TheVariants.{Int, Text as Words}
use Rattle.sqlite.specs.Order.{Row}
use Rattle.position_core.specs.declared.message.Entry.{Entry}
use Rattle.position_core.specs.declared.topic_name.TopicName.{TopicName}
use Rattle.position_core.specs.Name.{name_order}
use Rattle.delivery_machine.specs.State.{DeadLetter}
use Rattle.delivery_machine.specs.Places.{KeptPlaces, positions_at}
use Rattle.delivery_machine.specs.WellFormed.{AreCountsOf, NamesRise}
use Rattle.machine_laws.proofs.Ordinals.{once_distinct}
use Rattle.row_forms.specs.Forms.{AreAckRows, Span, count_rows, dead_rows, kind_number, sub_row, sub_rows}
use Rattle.row_reading.specs.Reading.{ArePast, BeginWithCounts, BeginsWithAcks, BeginsWithCounts, BeginsWithDeads, BeginsWithLetters, BeginsWithRuns, IsReadable, IsReadableSub, IsSubOf, OrdinalsCame, ShowSubs, put}
use Rattle.row_reading.proofs.Letters.{counted}
use Rattle.row_reading.proofs.NextLetters.{never_came}
use Rattle.row_reading.proofs.Nexts.{all_at}
use Rattle.row_reading.proofs.Orders.{all_weaker}
use Rattle.row_reading.proofs.Subs.{own_row}
use Rattle.row_reading.proofs.OneSnapshot.{sub_is}
use Rattle.row_reading.proofs.Told.{IsOneOf, one_kind}
use Rattle.row_reading.proofs.Counts.{IsOfLog, each_of_log}
use Rattle.row_reading.proofs.FirstSub.{Begins, begins, counts_of, letters_of, of_letters, one_counting, one_letters, one_reading, own_moves, runs_of, uncovered}

-- ---- what is left

-- the rows that are left are those of the subscriptions after those that were read
pub record AreLeft (topic : List ℕ) (span : Span) (all done : List KeptPlaces) (acks deads counts : List Row) : Type 0 where
  pub more : List KeptPlaces
  pub is : all ≡ done ++ more
  pub runs : AreAckRows topic span.gone more (put topic acks)
  pub letters : put topic deads ≡ dead_rows topic span more
  pub counted : put topic counts ≡ count_rows topic span more

same_rest : (xs us vs : List Row) → xs ++ us ≡ xs ++ vs → us ≡ vs
same_rest [] us vs e = e
same_rest (x ∷ xs) us vs e = let others : xs ++ us ≡ xs ++ vs = cc in same_rest xs us vs others

-- the row that comes next is that of the next subscription
pub next_sub : (topic : List ℕ) (rows : List Row) (i : ℕ) (row : Row) (done more : List KeptPlaces) → i < length rows → row ≡ get_or rows i row → put topic (take i rows) ≡ sub_rows topic done → put topic rows ≡ sub_rows topic (done ++ more)
    → (sub : KeptPlaces) × (others : List KeptPlaces) × (more ≡ sub ∷ others) × (Words topic ∷ row ≡ sub_row topic sub)
next_sub topic rows i row done more low at so_far whole = by more rest
  where
    split : take i rows ++ row ∷ drop (suc i) rows ≡ rows
    split = ap (λ (l : List Row). take i rows ++ l) (ap (λ (r : Row). r ∷ drop (suc i) rows) at ∙ sym (drop-cons rows i row low)) ∙ take-append-drop i rows

    parts : sub_rows topic done ++ (Words topic ∷ row) ∷ put topic (drop (suc i) rows) ≡ sub_rows topic done ++ sub_rows topic more
    parts =
        ap (λ l. l ++ (Words topic ∷ row) ∷ put topic (drop (suc i) rows)) (sym so_far)
        ∙ sym (map-append (λ (r : Row). Words topic ∷ r) (take i rows) (row ∷ drop (suc i) rows))
        ∙ ap (put topic) split
        ∙ whole
        ∙ map-append (sub_row topic) done more

    rest : (Words topic ∷ row) ∷ put topic (drop (suc i) rows) ≡ sub_rows topic more
    rest = same_rest (sub_rows topic done) _ _ parts

    by : (ms : List KeptPlaces) → (Words topic ∷ row) ∷ put topic (drop (suc i) rows) ≡ sub_rows topic ms → (sub : KeptPlaces) × (others : List KeptPlaces) × (ms ≡ sub ∷ others) × (Words topic ∷ row ≡ sub_row topic sub)
    by [] e = absurd (cc)
    by (m ∷ ms) e = (m, ms, refl, cc)

names_after : (done : List KeptPlaces) (sub : KeptPlaces) (others : List KeptPlaces) → NamesRise (map (λ (s : KeptPlaces). s.name) (done ++ sub ∷ others)) → AllByRecursion (λ n. name_order sub.name n ≡ Less) (map (λ (s : KeptPlaces). s.name) others)
unfolding IsStrictlySortedBy
names_after [] sub others rise = rise.0
names_after (x ∷ xs) sub others rise = names_after xs sub others rise.1

-- the next subscription, with its rows
pub record IsNextSub (topic : List ℕ) (span : Span) (all done : List KeptPlaces) (row : Row) (acks deads counts : List Row) : Type 0 where
  pub sub : KeptPlaces
  pub others : List KeptPlaces
  pub is : all ≡ done ++ sub ∷ others
  pub shown : (t : List ℕ) → Words t ∷ row ≡ sub_row t sub
  pub begins : Begins topic span sub others acks deads counts

pub the_next : (own : TopicName) (span : Span) (next : ℕ) (topic : List ℕ) (all done : List KeptPlaces) (rows acks deads counts left_acks left_deads left_counts : List Row) (i : ℕ) (row : Row) → ShowSubs own span next topic all rows acks deads counts
    → AreLeft topic span all done left_acks left_deads left_counts → i < length rows → row ≡ get_or rows i row → put topic (take i rows) ≡ sub_rows topic done → IsNextSub topic span all done row left_acks left_deads left_counts
the_next own span next topic all done rows acks deads counts left_acks left_deads left_counts i row show left low at so_far =
    let n = next_sub topic rows i row done left.more low at so_far (show.shown ∙ ap (sub_rows topic) left.is) in
    let is : all ≡ done ++ n.0 ∷ n.1 = left.is ∙ ap (λ l. done ++ l) n.2 in
    record {
      sub = n.0;
      others = n.1;
      is = is;
      shown = λ t. own_moves topic t row n.0 n.3;
      begins = begins topic span n.0 n.1 left_acks left_deads left_counts (subst (λ l. AreAckRows topic span.gone l (put topic left_acks)) n.2 left.runs) (left.letters ∙ ap (dead_rows topic span) n.2) (left.counted ∙ ap (count_rows topic span) n.2)
          (names_after done n.0 n.1 (subst (λ l. NamesRise (map (λ (s : KeptPlaces). s.name) l)) is show.names));
    }

one_kind_shown : (row : Row) (a b : KeptPlaces) → row ≡ Words a.name ∷ Int (pos (kind_number a.kind)) ∷ [] → row ≡ Words b.name ∷ Int (pos (kind_number b.kind)) ∷ [] → (a.name ≡ b.name) × (kind_number a.kind ≡ kind_number b.kind)
one_kind_shown row a b x y = (cc, cc)

-- the rows of one subscription are the first ones, and then those of others follow
pub record IsRead (span : Span) (row : Row) (sub : KeptPlaces) (acks deads counts after_acks after_deads after_counts : List Row) : Type 0 where
  pub shown : (t : List ℕ) → Words t ∷ row ≡ sub_row t sub
  pub runs : BeginsWithAcks span.gone (sub ∷ []) acks after_acks
  pub past_runs : ArePast sub.name after_acks
  pub letters : BeginsWithDeads span (sub ∷ []) deads after_deads
  pub past_letters : ArePast sub.name after_deads
  pub counted : BeginWithCounts span (sub ∷ []) counts after_counts
  pub past_counted : ArePast sub.name after_counts

-- where the next one was read, what is left is that of the others
pub left_more : (own : TopicName) (span : Span) (next : ℕ) (topic : List ℕ) (all done : List KeptPlaces) (row : Row) (acks deads counts after_acks after_deads after_counts : List Row) (sub : KeptPlaces) → All (IsReadableSub own span.log next set.empty) all
    → IsNextSub topic span all done row acks deads counts → IsRead span row sub acks deads counts after_acks after_deads after_counts → IsSubOf own span.log next sub → AreLeft topic span all (done ++ sub ∷ []) after_acks after_deads after_counts
left_more own span next topic all done row acks deads counts after_acks after_deads after_counts sub each n read sound =
    let k : KeptPlaces = n.sub in
    let cells = one_kind_shown row k sub (own_row row k n.shown) (own_row row sub read.shown) in
    let name : k.name ≡ sub.name = cells.0 in
    let b = n.begins in
    let readable : IsReadableSub own span.log next set.empty k = all_at (IsReadableSub own span.log next set.empty) done k n.others (subst (AllByRecursion (IsReadableSub own span.log next set.empty)) n.is (recursion_from_All (IsReadableSub own span.log next set.empty) all each)) in
    let of_k : AllByRecursion (IsOneOf span.log) k.dead = all_weaker (IsReadable own span.log next) (IsOneOf span.log) (λ d r. (r.message, r.letter.named)) k.dead (recursion_from_All (IsReadable own span.log next) k.dead readable.letters.each) in
    let sub_runs : BeginsWithRuns k.name span.gone sub.acknowledged acks after_acks = subst (λ m. BeginsWithRuns m span.gone sub.acknowledged acks after_acks) (sym name) (runs_of span.gone sub acks after_acks read.runs) in
    let sub_letters : BeginsWithLetters k.name span sub.dead deads after_deads = subst (λ m. BeginsWithLetters m span sub.dead deads after_deads) (sym name) (letters_of span sub deads after_deads read.letters) in
    let sub_counts : BeginsWithCounts k.name span sub.counts counts after_counts = subst (λ m. BeginsWithCounts m span sub.counts counts after_counts) (sym name) (counts_of span sub counts after_counts read.counted) in
    let places = one_reading span.gone k.name k.acknowledged sub.acknowledged acks b.later_acks after_acks b.runs b.past_runs sub_runs (subst (λ m. ArePast m after_acks) (sym name) read.past_runs) in
    let dead = one_letters k.name span k.dead sub.dead deads b.later_deads after_deads of_k (of_letters own span.log next sub.dead sound.dead sound.letters) b.letters b.past_letters sub_letters (subst (λ m. ArePast m after_deads) (sym name) read.past_letters) in
    let counted = one_counting k.name span k.counts sub.counts counts b.later_counts after_counts (of_counts span.log k readable.counted) (of_counts span.log sub sound.counted) b.counted b.past_counted sub_counts (subst (λ m. ArePast m after_counts) (sym name) read.past_counted) in
    let same : k ≡ sub = sub_is k.name sub.name k.kind sub.kind k.acknowledged sub.acknowledged k.counts sub.counts k.dead sub.dead name (one_kind k.kind sub.kind cells.1) places.0 counted.0 dead.0 in
    record {
      more = n.others;
      is = n.is ∙ ap (λ (s : KeptPlaces). done ++ s ∷ n.others) same ∙ sym (append_assoc done (sub ∷ []) n.others);
      runs = subst (λ rows. AreAckRows topic span.gone n.others (put topic rows)) places.1 b.other_runs;
      letters = ap (put topic) (sym dead.1) ∙ b.other_letters;
      counted = ap (put topic) (sym counted.1) ∙ b.other_counted;
    }
  where
    of_counts : (log : List Entry) (s : KeptPlaces) → AreCountsOf log (positions_at log s.acknowledged) s.dead s.counts → AllByRecursion (IsOfLog log) (map_of.entries s.counts)
    of_counts log s are = each_of_log log s.counts (λ position times is. (are position times is).message)

-- ---- the ordinals of the next one did not come yet

abbrev dead_of : KeptPlaces → List DeadLetter
dead_of sub = sub.dead

abbrev count_of : ℕ → List DeadLetter → ℕ
count_of n ds = count_by (λ (x : DeadLetter). x.ordinal == n) ds

count_append : (n : ℕ) (xs ys : List DeadLetter) → count_of n (xs ++ ys) ≡ count_of n xs + count_of n ys
count_append n xs ys = sum_by-append (λ (x : DeadLetter). cond {A = ℕ} (x.ordinal == n) 1 0) xs ys

itself : (n : ℕ) → (n == n) ≡ true
itself n = grind (arith, nat_tests)

each_counts : (ds : List DeadLetter) → AllByRecursion (λ (d : DeadLetter). 1 ≤ count_of d.ordinal ds) ds
each_counts [] = tt
each_counts (d ∷ ds) = (
  let step : count_of d.ordinal (d ∷ ds) ≡ cond {A = ℕ} (d.ordinal == d.ordinal) 1 0 + count_of d.ordinal ds = sum_by-cons (λ (x : DeadLetter). cond {A = ℕ} (x.ordinal == d.ordinal) 1 0) d ds in
      let one : cond {A = ℕ} (d.ordinal == d.ordinal) 1 0 ≡ 1 = ap (λ b. cond {A = ℕ} b 1 0) (itself d.ordinal) in
      omega (arith, step, one),
  all_weaker (λ (x : DeadLetter). 1 ≤ count_of x.ordinal ds) (λ (x : DeadLetter). 1 ≤ count_of x.ordinal (d ∷ ds))
      (λ x h. let step : count_of x.ordinal (d ∷ ds) ≡ cond {A = ℕ} (d.ordinal == x.ordinal) 1 0 + count_of x.ordinal ds = sum_by-cons (λ (y : DeadLetter). cond {A = ℕ} (y.ordinal == x.ordinal) 1 0) d ds in omega (arith, step, h)) ds (each_counts ds),
)

pub readable_now : (own : TopicName) (log : List Entry) (next : ℕ) (all done : List KeptPlaces) (sub : KeptPlaces) (others : List KeptPlaces) (ordinals : set.FinSet nat_cmp) → All (IsReadableSub own log next set.empty) all → all ≡ done ++ sub ∷ others
    → IsDistinct (λ a b. a == b) (map (λ (d : DeadLetter). d.ordinal) (flat_map (λ (s : KeptPlaces). s.dead) all)) → OrdinalsCame (flat_map (λ (s : KeptPlaces). s.dead) done) set.empty ordinals → IsReadableSub own log next ordinals sub
readable_now own log next all done sub others ordinals each is distinct came =
    let readable : IsReadableSub own log next set.empty sub = all_at (IsReadableSub own log next set.empty) done sub others (subst (AllByRecursion (IsReadableSub own log next set.empty)) is (recursion_from_All (IsReadableSub own log next set.empty) all each)) in
    let first : List DeadLetter = flat_map dead_of done in
    let last : List DeadLetter = flat_map dead_of others in
    let whole : flat_map dead_of all ≡ first ++ (sub.dead ++ last) = ap (flat_map dead_of) is ∙ flat_map-append dead_of done (sub ∷ others) in
    let fresh : AllByRecursion (λ (d : DeadLetter). set.contains ordinals d.ordinal ≡ false) sub.dead =
    all_weaker (λ (d : DeadLetter). 1 ≤ count_of d.ordinal sub.dead) (λ (d : DeadLetter). set.contains ordinals d.ordinal ≡ false) (λ d counts.
    let once = once_distinct (flat_map dead_of all) distinct d.ordinal in
    let sum : count_of d.ordinal (flat_map dead_of all) ≡ count_of d.ordinal first + (count_of d.ordinal sub.dead + count_of d.ordinal last) =
    ap (count_of d.ordinal) whole ∙ count_append d.ordinal first (sub.dead ++ last) ∙ ap (λ n. count_of d.ordinal first + n) (count_append d.ordinal sub.dead last) in
    let none : count_of d.ordinal first ≡ 0 = omega (arith, sum, counts, once, counted d.ordinal (flat_map dead_of all)) in
    never_came set.empty ordinals d.ordinal (count_of d.ordinal first) (came d.ordinal) none (set.contains-empty nat_cmp d.ordinal)) sub.dead (each_counts sub.dead) in
    record {
      name = readable.name;
      text = readable.text;
      within = readable.within;
      counted = readable.counted;
      letters = record { each = readable.letters.each; dead = readable.letters.dead; fresh = All-from_recursion _ sub.dead fresh };
    }

-- ---- the end

rises_first : (xs ys : List KeptPlaces) → NamesRise (map (λ (s : KeptPlaces). s.name) (xs ++ ys)) → NamesRise (map (λ (s : KeptPlaces). s.name) xs)
unfolding IsStrictlySortedBy
rises_first [] ys rise = tt
rises_first (x ∷ xs) ys rise = (front xs rise.0, rises_first xs ys rise.1)
  where
    front : (zs : List KeptPlaces) → AllByRecursion (λ n. name_order x.name n ≡ Less) (map (λ (s : KeptPlaces). s.name) (zs ++ ys)) → AllByRecursion (λ n. name_order x.name n ≡ Less) (map (λ (s : KeptPlaces). s.name) zs)
    front [] all = tt
    front (z ∷ zs) all = (all.0, front zs all.1)

pub rises_so_far : (all xs ys : List KeptPlaces) → all ≡ xs ++ ys → NamesRise (map (λ (s : KeptPlaces). s.name) all) → NamesRise (map (λ (s : KeptPlaces). s.name) xs)
rises_so_far all xs ys is rise = rises_first xs ys (subst (λ l. NamesRise (map (λ (s : KeptPlaces). s.name) l)) is rise)

-- where all rows were read, nothing is left
pub none_left : (own : TopicName) (span : Span) (next : ℕ) (topic : List ℕ) (all done : List KeptPlaces) (rows acks deads counts left_acks left_deads left_counts : List Row) → ShowSubs own span next topic all rows acks deads counts
    → AreLeft topic span all done left_acks left_deads left_counts → put topic rows ≡ sub_rows topic done → (done ≡ all) × (left_acks ≡ []) × (left_deads ≡ []) × (left_counts ≡ [])
none_left own span next topic all done rows acks deads counts left_acks left_deads left_counts show left whole =
    let both : sub_rows topic done ++ [] ≡ sub_rows topic done ++ sub_rows topic left.more = append-nil (sub_rows topic done) ∙ sym whole ∙ show.shown ∙ ap (sub_rows topic) left.is ∙ map-append (sub_row topic) done left.more in
    let none : left.more ≡ [] = nothing left.more (same_rest (sub_rows topic done) [] (sub_rows topic left.more) both) in
    let acks_none : put topic left_acks ≡ [] = subst (λ l. AreAckRows topic span.gone l (put topic left_acks)) none left.runs in
    let deads_none : put topic left_deads ≡ [] = left.letters ∙ ap (dead_rows topic span) none in
    let counts_none : put topic left_counts ≡ [] = left.counted ∙ ap (count_rows topic span) none in
    (sym (left.is ∙ ap (λ l. done ++ l) none ∙ append-nil done), uncovered topic left_acks [] acks_none, uncovered topic left_deads [] deads_none, uncovered topic left_counts [] counts_none)
  where
    nothing : (ms : List KeptPlaces) → [] ≡ sub_rows topic ms → ms ≡ []
    nothing [] e = refl
    nothing (m ∷ ms) e = absurd (cc)
