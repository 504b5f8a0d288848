-- The rows of the first of some subscriptions, and what follows them.
use Rattle.std.proofs.Common.{◌≡◌, ℕ, ◌<◌, List, [], ◌∷◌, ◌++◌, map, ap, append-nil, refl, sym, subst, ◌∙◌}
use Rattle.std.specs.FinSet as set
use Rattle.std.specs.List.{All, AllByRecursion}
use Rattle.std.specs.Ordering.{nat_cmp}
use Rattle.std.specs.declared.cmp.Ordering.TheVariants.{Less}
use Rattle.std.proofs.lemmas.List.Elements.{All-from_recursion, recursion_from_All}
use Rattle.std.specs.FinMap as map_of
use Rattle.sqlite.specs.declared.types.Value.TheVariants.{Text as Words}
use Rattle.sqlite.specs.Order.{Row, bytes, column}
use Rattle.position_core.specs.declared.message.Entry.{Entry}
use Rattle.position_core.specs.declared.topic_name.TopicName.{TopicName}
use Rattle.position_core.specs.Name.{name_order}
use Rattle.position_core.specs.declared.position.Position.{Position}
use Rattle.position_core.specs.Position.{position_cmp}
use Rattle.ack_ranges.specs.Ranges.{spread}
use Rattle.delivery_machine.specs.State.{DeadLetter}
use Rattle.delivery_machine.specs.Places.{KeptPlaces, positions_at}
use Rattle.delivery_machine.specs.WellFormed.{AreCountsOf, AreDeadLettersOf}
use Rattle.row_forms.specs.Forms.{AreAckRows, Span, ack_row, count_row, count_rows, dead_row, dead_rows, sub_row}
use Rattle.row_reading.specs.Reading.{ArePast, BeginWithCounts, BeginsWithAcks, BeginsWithCounts, BeginsWithDeads, BeginsWithLetters, BeginsWithRuns, IsLetterOf, IsReadable, IsReadableSub, put}
use Rattle.row_reading.specs.KeyOrder.{name_in}
use Rattle.row_reading.proofs.Letters.{counted}
use Rattle.row_reading.proofs.Nexts.{past_first, same_front}
use Rattle.row_reading.proofs.Orders.{all_weaker, cons_is, same_mapped}
use Rattle.row_reading.proofs.RowOrders.{never_itself}
use Rattle.row_reading.proofs.Told.{IsOneOf, acks_after, all_of, deads_after, none_empty, one_letter, one_run}
use Rattle.row_reading.proofs.Counts.{IsOfLog, one_count}
use Rattle.row_reading.proofs.ToldCounts.{counts_after}

-- ---- rows without their topic

pub uncovered : (topic : List ℕ) (xs ys : List Row) → put topic xs ≡ put topic ys → xs ≡ ys
uncovered topic [] [] e = refl
uncovered topic [] (y ∷ ys) e = absurd (cc)
uncovered topic (x ∷ xs) [] e = absurd (cc)
uncovered topic (x ∷ xs) (y ∷ ys) e =
    let first : x ≡ y = cc in
    let others : put topic xs ≡ put topic ys = cc in
    cons_is x y xs ys first (uncovered topic xs ys others)

-- what follows some rows of the topic is rows of the topic
tail_of : (topic : List ℕ) (rows us vs : List Row) → put topic rows ≡ us ++ vs → (rest : List Row) × (vs ≡ put topic rest)
tail_of topic rows [] vs e = (rows, sym e)
tail_of topic [] (u ∷ us) vs e = absurd (cc)
tail_of topic (r ∷ rows) (u ∷ us) vs e = let others : put topic rows ≡ us ++ vs = cc in tail_of topic rows us vs others

module _ {A : Type 0} (cells : List ℕ → A → Row) (moves : (t s : List ℕ) (r : Row) (x : A) → Words t ∷ r ≡ cells t x → Words s ∷ r ≡ cells s x) where
  -- what a topic's rows begin with, those of any topic would
  of_any_topic : (t s : List ℕ) (rows : List Row) (xs : List A) (rest : List Row) → put t rows ≡ map (cells t) xs ++ put t rest → put s rows ≡ map (cells s) xs ++ put s rest
  of_any_topic t s rows [] rest e = ap (put s) (uncovered t rows rest e)
  of_any_topic t s [] (x ∷ xs) rest e = absurd (cc)
  of_any_topic t s (r ∷ rows) (x ∷ xs) rest e =
      let first : Words t ∷ r ≡ cells t x = cc in
      let others : put t rows ≡ map (cells t) xs ++ put t rest = cc in
      cons_is (Words s ∷ r) (cells s x) (put s rows) (map (cells s) xs ++ put s rest) (moves t s r x first) (of_any_topic t s rows xs rest others)

run_moves : (gone : ℕ) (sub t s : List ℕ) (r : Row) (run : ℕ × ℕ) → Words t ∷ r ≡ ack_row t sub gone run → Words s ∷ r ≡ ack_row s sub gone run
run_moves gone sub t s r run e = cc

letter_moves : (sub : List ℕ) (span : Span) (t s : List ℕ) (r : Row) (d : DeadLetter) → Words t ∷ r ≡ dead_row t sub span d → Words s ∷ r ≡ dead_row s sub span d
letter_moves sub span t s r d e = cc

count_moves : (sub : List ℕ) (span : Span) (t s : List ℕ) (r : Row) (c : Position × ℕ) → Words t ∷ r ≡ count_row t sub span c → Words s ∷ r ≡ count_row s sub span c
count_moves sub span t s r c e = cc

pub own_moves : (t s : List ℕ) (r : Row) (sub : KeptPlaces) → Words t ∷ r ≡ sub_row t sub → Words s ∷ r ≡ sub_row s sub
own_moves t s r sub e = cc

-- ---- the rows of the first of some subscriptions

past_of : (topic name : List ℕ) (rows : List Row) → AllByRecursion (λ (r : Row). name_order name (name_in r) ≡ Less) (put topic rows) → ArePast name rows
past_of topic name [] all = tt
past_of topic name (r ∷ rows) all = λ at. never_itself name (bytes (column r 0)) (sym (ap bytes at)) all.0

-- what the rows of the first one are, and what follows them
pub record Begins (topic : List ℕ) (span : Span) (sub : KeptPlaces) (others : List KeptPlaces) (acks deads counts : List Row) : Type 0 where
  pub later_acks : List Row
  pub later_deads : List Row
  pub later_counts : List Row
  pub runs : BeginsWithRuns sub.name span.gone sub.acknowledged acks later_acks
  pub past_runs : ArePast sub.name later_acks
  pub letters : BeginsWithLetters sub.name span sub.dead deads later_deads
  pub past_letters : ArePast sub.name later_deads
  pub counted : BeginsWithCounts sub.name span sub.counts counts later_counts
  pub past_counted : ArePast sub.name later_counts
  pub other_runs : AreAckRows topic span.gone others (put topic later_acks)
  pub other_letters : put topic later_deads ≡ dead_rows topic span others
  pub other_counted : put topic later_counts ≡ count_rows topic span others

pub begins : (topic : List ℕ) (span : Span) (sub : KeptPlaces) (others : List KeptPlaces) (acks deads counts : List Row) → AreAckRows topic span.gone (sub ∷ others) (put topic acks) → put topic deads ≡ dead_rows topic span (sub ∷ others)
    → put topic counts ≡ count_rows topic span (sub ∷ others) → AllByRecursion (λ n. name_order sub.name n ≡ Less) (map (λ (s : KeptPlaces). s.name) others) → Begins topic span sub others acks deads counts
begins topic span sub others acks deads counts (runs, rows, are, rest, is) letters counted after =
    let entries : List (Position × ℕ) = map_of.entries sub.counts in
    let t = tail_of topic acks (map (ack_row topic sub.name span.gone) runs) rows is in
    let u = tail_of topic deads (map (dead_row topic sub.name span) sub.dead) (dead_rows topic span others) letters in
    let v = tail_of topic counts (map (count_row topic sub.name span) entries) (count_rows topic span others) counted in
    let acks_is : put topic acks ≡ map (ack_row topic sub.name span.gone) runs ++ put topic t.0 = is ∙ ap (λ l. map (ack_row topic sub.name span.gone) runs ++ l) t.1 in
    let deads_is : put topic deads ≡ map (dead_row topic sub.name span) sub.dead ++ put topic u.0 = letters ∙ ap (λ l. map (dead_row topic sub.name span) sub.dead ++ l) u.1 in
    let counts_is : put topic counts ≡ map (count_row topic sub.name span) entries ++ put topic v.0 = counted ∙ ap (λ l. map (count_row topic sub.name span) entries ++ l) v.1 in
    let past = λ (rest : List Row) (those : List Row) (same : those ≡ put topic rest) (later : AllByRecursion (λ (r : Row). name_order sub.name (name_in r) ≡ Less) those).
    past_of topic sub.name rest (subst (AllByRecursion (λ (r : Row). name_order sub.name (name_in r) ≡ Less)) same later) in
    record {
      later_acks = t.0;
      later_deads = u.0;
      later_counts = v.0;
      runs = (runs, are, λ s. of_any_topic (λ k. ack_row k sub.name span.gone) (run_moves span.gone sub.name) topic s acks runs t.0 acks_is);
      past_runs = past t.0 rows t.1 (acks_after span.gone topic sub.name others rows rest after);
      letters = λ s. of_any_topic (λ k. dead_row k sub.name span) (letter_moves sub.name span) topic s deads sub.dead u.0 deads_is;
      past_letters = past u.0 (dead_rows topic span others) u.1 (deads_after topic sub.name span others after);
      counted = λ s. of_any_topic (λ k. count_row k sub.name span) (count_moves sub.name span) topic s counts entries v.0 counts_is;
      past_counted = past v.0 (count_rows topic span others) v.1 (counts_after topic sub.name span others after);
      other_runs = subst (AreAckRows topic span.gone others) t.1 rest;
      other_letters = sym u.1;
      other_counted = sym v.1;
    }

-- ---- what was read is the first one

runs_such : (gone : ℕ) (sub : List ℕ) (runs : List (ℕ × ℕ)) → AllByRecursion (λ (r : Row). column r 1 ≡ Words sub) (map (ack_row [] sub gone) runs)
runs_such gone sub [] = tt
runs_such gone sub (run ∷ runs) = (refl, runs_such gone sub runs)

letters_such : (sub : List ℕ) (span : Span) (ds : List DeadLetter) → AllByRecursion (λ (r : Row). column r 1 ≡ Words sub) (map (dead_row [] sub span) ds)
letters_such sub span [] = tt
letters_such sub span (d ∷ ds) = (refl, letters_such sub span ds)

counts_such : (sub : List ℕ) (span : Span) (cs : List (Position × ℕ)) → AllByRecursion (λ (r : Row). column r 1 ≡ Words sub) (map (count_row [] sub span) cs)
counts_such sub span [] = tt
counts_such sub span (c ∷ cs) = (refl, counts_such sub span cs)

-- two ways to read the runs of one name are one
pub one_reading : (gone : ℕ) (sub : List ℕ) (a b : set.FinSet nat_cmp) (rows rest others : List Row) → BeginsWithRuns sub gone a rows rest → ArePast sub rest → BeginsWithRuns sub gone b rows others → ArePast sub others → (a ≡ b) × (rest ≡ others)
one_reading gone sub a b rows rest others one past two none =
    let runs : List (ℕ × ℕ) = one.0 in
    let more : List (ℕ × ℕ) = two.0 in
    let split = same_front (λ (r : Row). column r 1 ≡ Words sub) (map (ack_row [] sub gone) runs) (put [] rest) (map (ack_row [] sub gone) more) (put [] others) (runs_such gone sub runs) (past_first sub rest past) (runs_such gone sub more) (past_first sub others none) (sym (one.2 []) ∙ two.2 []) in
    let same : runs ≡ more = same_mapped (ack_row [] sub gone) (λ (run : ℕ × ℕ). run.0 < run.1) (one_run gone [] sub) runs more (none_empty runs one.1.rise) (none_empty more two.1.rise) split.0 in
    (one.1.numbers ∙ ap (λ rs. set.from_list {R = nat_cmp} (spread rs)) same ∙ sym two.1.numbers, uncovered [] rest others split.1)

-- and of its dead letters
pub one_letters : (sub : List ℕ) (span : Span) (xs ys : List DeadLetter) (rows rest others : List Row) → AllByRecursion (IsOneOf span.log) xs → AllByRecursion (IsOneOf span.log) ys → BeginsWithLetters sub span xs rows rest → ArePast sub rest → BeginsWithLetters sub span ys rows others → ArePast sub others
    → (xs ≡ ys) × (rest ≡ others)
one_letters sub span xs ys rows rest others of_xs of_ys one past two none =
    let split = same_front (λ (r : Row). column r 1 ≡ Words sub) (map (dead_row [] sub span) xs) (put [] rest) (map (dead_row [] sub span) ys) (put [] others) (letters_such sub span xs) (past_first sub rest past) (letters_such sub span ys) (past_first sub others none) (sym (one []) ∙ two []) in
    (same_mapped (dead_row [] sub span) (IsOneOf span.log) (one_letter [] sub span) xs ys of_xs of_ys split.0, uncovered [] rest others split.1)

-- and of its counts
pub one_counting : (sub : List ℕ) (span : Span) (a b : map_of.FinMap position_cmp ℕ) (rows rest others : List Row) → AllByRecursion (IsOfLog span.log) (map_of.entries a) → AllByRecursion (IsOfLog span.log) (map_of.entries b) → BeginsWithCounts sub span a rows rest → ArePast sub rest
    → BeginsWithCounts sub span b rows others → ArePast sub others → (a ≡ b) × (rest ≡ others)
one_counting sub span a b rows rest others of_a of_b one past two none =
    let xs : List (Position × ℕ) = map_of.entries a in
    let ys : List (Position × ℕ) = map_of.entries b in
    let split = same_front (λ (r : Row). column r 1 ≡ Words sub) (map (count_row [] sub span) xs) (put [] rest) (map (count_row [] sub span) ys) (put [] others) (counts_such sub span xs) (past_first sub rest past) (counts_such sub span ys) (past_first sub others none) (sym (one []) ∙ two []) in
    (map_of.same_entries_map a b (same_mapped (count_row [] sub span) (IsOfLog span.log) (one_count [] sub span) xs ys of_a of_b split.0), uncovered [] rest others split.1)

pub runs_of : (gone : ℕ) (sub : KeptPlaces) (acks rest : List Row) → BeginsWithAcks gone (sub ∷ []) acks rest → BeginsWithRuns sub.name gone sub.acknowledged acks rest
runs_of gone sub acks rest h =
    let a = h [] in
    let rows = a.1 in
    let first : a.0 ≡ map (ack_row [] sub.name gone) rows.0 = rows.4 ∙ ap (λ l. map (ack_row [] sub.name gone) rows.0 ++ l) rows.3 ∙ append-nil (map (ack_row [] sub.name gone) rows.0) in
    (rows.0, rows.2, λ s. of_any_topic (λ k. ack_row k sub.name gone) (run_moves gone sub.name) [] s acks rows.0 rest (a.2 ∙ ap (λ l. l ++ put [] rest) first))

pub letters_of : (span : Span) (sub : KeptPlaces) (deads rest : List Row) → BeginsWithDeads span (sub ∷ []) deads rest → BeginsWithLetters sub.name span sub.dead deads rest
letters_of span sub deads rest h topic = h topic ∙ ap (λ l. l ++ put topic rest) (append-nil (map (dead_row topic sub.name span) sub.dead))

pub counts_of : (span : Span) (sub : KeptPlaces) (counts rest : List Row) → BeginWithCounts span (sub ∷ []) counts rest → BeginsWithCounts sub.name span sub.counts counts rest
counts_of span sub counts rest h topic = h topic ∙ ap (λ l. l ++ put topic rest) (append-nil (map (count_row topic sub.name span) (map_of.entries sub.counts)))

-- ---- what a subscription that is read has

pub of_letters : (own : TopicName) (log : List Entry) (next : ℕ) (ds : List DeadLetter) → AreDeadLettersOf log ds → All (IsLetterOf own next) ds → AllByRecursion (IsOneOf log) ds
of_letters own log next ds dead letters = all_of log ds dead (All-from_recursion _ ds (all_weaker (IsLetterOf own next) _ (λ d l. l.named) ds (recursion_from_All (IsLetterOf own next) ds letters)))

-- the counts of one that is read are those of what was read of it
pub its_counts : (own : TopicName) (span : Span) (next : ℕ) (ordinals : set.FinSet nat_cmp) (sub : KeptPlaces) (acknowledged : set.FinSet nat_cmp) (dead : List DeadLetter) (acks acks_rest acks_after deads deads_rest deads_after : List Row) → IsReadableSub own span.log next ordinals sub
    → BeginsWithRuns sub.name span.gone sub.acknowledged acks acks_rest → ArePast sub.name acks_rest → BeginsWithRuns sub.name span.gone acknowledged acks acks_after → ArePast sub.name acks_after
    → BeginsWithLetters sub.name span sub.dead deads deads_rest → ArePast sub.name deads_rest → BeginsWithLetters sub.name span dead deads deads_after → ArePast sub.name deads_after
    → AreDeadLettersOf span.log dead → All (IsLetterOf own next) dead → AreCountsOf span.log (positions_at span.log acknowledged) dead sub.counts
its_counts own span next ordinals sub acknowledged dead acks acks_rest acks_after deads deads_rest deads_after readable runs past found_runs found_past letters past_letters found_letters found_past_letters sound given =
    let of_sub : AllByRecursion (IsOneOf span.log) sub.dead = all_weaker (IsReadable own span.log next) (IsOneOf span.log) (λ d r. (r.message, r.letter.named)) sub.dead (recursion_from_All (IsReadable own span.log next) sub.dead readable.letters.each) in
    let places = one_reading span.gone sub.name sub.acknowledged acknowledged acks acks_rest acks_after runs past found_runs found_past in
    let same = one_letters sub.name span sub.dead dead deads deads_rest deads_after of_sub (of_letters own span.log next dead sound given) letters past_letters found_letters found_past_letters in
    subst (λ ds. AreCountsOf span.log (positions_at span.log acknowledged) ds sub.counts) same.0 (subst (λ s. AreCountsOf span.log (positions_at span.log s) sub.dead sub.counts) places.0 readable.counted)
