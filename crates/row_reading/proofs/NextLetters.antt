-- The next dead letter of those that rows show.
use Rattle.std.proofs.Common.{◌≡◌, ℕ, ◌+◌, ◌<◌, ◌≤◌, Bool, true, false, cond, List, [], ◌∷◌, ◌++◌, map, ap, arith, refl, sym, subst, ◌∙◌}
use Rattle.std.specs.Prelude.{◌==◌}
use Rattle.std.specs.FinSet as set
use Rattle.std.specs.List.{All, AllByRecursion, IsDistinct, count_by}
use Rattle.std.specs.List.Sorted.{IsStrictlySortedBy}
use Rattle.std.specs.Ordering.{nat_cmp}
use Rattle.std.specs.Cmp.{ranked}
use Rattle.std.specs.declared.cmp.Ordering.TheVariants.{Less}
use Rattle.std.proofs.lemmas.Bool.Decides.{nat_tests}
use Rattle.std.proofs.lemmas.List.Elements.{recursion_from_All}
use Rattle.std.proofs.lemmas.List.Sums.{sum_by-cons}
use Rattle.std.proofs.lemmas.Map.Keys.{sorted_from_strictly_increasing}
use Rattle.sqlite.specs.declared.types.Value.TheVariants.{Text as Words}
use Rattle.sqlite.specs.Order.{Row, column}
use Rattle.position_core.specs.declared.topic_name.TopicName.{TopicName}
use Rattle.position_core.specs.Position.{same_position}
use Rattle.delivery_machine.specs.State.{DeadLetter}
use Rattle.delivery_machine.specs.WellFormed.{AreDeadLettersOf, has_message}
use Rattle.row_forms.specs.Forms.{Span, dead_row, index_in}
use Rattle.row_reading.specs.Reading.{ArePast, AreReadable, BeginsWithLetters, IsLetterAt, IsLetterOf, IsReadable, OrdinalsCame, put, times_in}
use Rattle.row_reading.proofs.Letters.{HasLeast, HasNoOthers}
use Rattle.row_reading.proofs.Nexts.{all_at, next_is, past_first}
use Rattle.row_reading.proofs.Orders.{all_both, all_weaker}
use Rattle.row_reading.proofs.PlacesRead.{apart_places}
use Rattle.row_reading.proofs.Told.{IsOneOf, one_letter}

-- ---- those before one of the letters

lower_before : (xs : List DeadLetter) (d : DeadLetter) (more : List DeadLetter) → IsStrictlySortedBy nat_cmp (map (λ (x : DeadLetter). x.ordinal) (xs ++ d ∷ more)) → AllByRecursion (λ (x : DeadLetter). x.ordinal < d.ordinal) xs
unfolding IsStrictlySortedBy
lower_before [] d more rise = tt
lower_before (x ∷ xs) d more rise = (below xs rise.0, lower_before xs d more rise.1)
  where
    below : (ys : List DeadLetter) → AllByRecursion (λ n. nat_cmp x.ordinal n ≡ Less) (map (λ (y : DeadLetter). y.ordinal) (ys ++ d ∷ more)) → x.ordinal < d.ordinal
    below [] all = ranked x.ordinal d.ordinal Less (sym all.0)
    below (y ∷ ys) all = below ys all.1

apart_before : (xs : List DeadLetter) (d : DeadLetter) (more : List DeadLetter) → IsDistinct same_position (map (λ (x : DeadLetter). x.position) (xs ++ d ∷ more)) → AllByRecursion (λ (x : DeadLetter). same_position x.position d.position ≡ false) xs
unfolding IsDistinct
apart_before [] d more distinct = tt
apart_before (x ∷ xs) d more distinct = (unlike xs distinct.0, apart_before xs d more distinct.1)
  where
    unlike : (ys : List DeadLetter) → AllByRecursion (λ p. same_position x.position p ≡ false) (map (λ (y : DeadLetter). y.position) (ys ++ d ∷ more)) → same_position x.position d.position ≡ false
    unlike [] all = all.0
    unlike (y ∷ ys) all = unlike ys all.1

none_of : (n : ℕ) (xs : List DeadLetter) → AllByRecursion (λ (x : DeadLetter). x.ordinal < n) xs → count_by (λ (x : DeadLetter). x.ordinal == n) xs ≡ 0
none_of n [] all = refl
none_of n (x ∷ xs) all =
    let rest = none_of n xs all.1 in
    let low : x.ordinal < n = all.0 in
    let no : (x.ordinal == n) ≡ false = grind (arith, nat_tests) in
    sum_by-cons (λ (y : DeadLetter). cond {A = ℕ} (y.ordinal == n) 1 0) x xs ∙ rw (no, rest) refl

pub never_came : (s t : set.FinSet nat_cmp) (n : ℕ) (k : ℕ) → times_in t n ≡ times_in s n + k → k ≡ 0 → set.contains s n ≡ false → set.contains t n ≡ false
never_came s t n k came none fresh = by (set.contains t n) refl
  where
    by : (b : Bool) → set.contains t n ≡ b → b ≡ false
    by false e = refl
    by true e =
        let one : times_in t n ≡ 1 = ap (λ b. cond {A = ℕ} b 1 0) e in
        let zero : times_in s n ≡ 0 = ap (λ b. cond {A = ℕ} b 1 0) fresh in
        absurd (omega (arith, came, none, one, zero))

-- ---- the next letter

-- the row shows a letter that is read, and may come after those that came
pub record IsNextLetter (own : TopicName) (sub : List ℕ) (span : Span) (next least : ℕ) (places ordinals : set.FinSet nat_cmp) (row : Row) (d : DeadLetter) : Type 0 where
  pub readable : IsReadable own span.log next d
  pub shown : IsLetterAt sub span row d
  pub above : least ≤ d.ordinal
  pub new_place : set.contains places (index_in span.log d.position) ≡ false
  pub new_ordinal : set.contains ordinals d.ordinal ≡ false

at_any : (sub : List ℕ) (span : Span) (row : Row) (d : DeadLetter) → Words [] ∷ row ≡ dead_row [] sub span d → IsLetterAt sub span row d
at_any sub span row d is topic = cc

pub next_letter : (own : TopicName) (sub : List ℕ) (span : Span) (next least : ℕ) (places old ordinals : set.FinSet nat_cmp) (ds all : List DeadLetter) (rows rest after others : List Row) (row : Row)
    → AreDeadLettersOf span.log ds → All (IsLetterOf own next) ds → HasLeast least ds → HasNoOthers span.log places ds → OrdinalsCame ds old ordinals → BeginsWithLetters sub span ds rows rest → rest ≡ row ∷ after → column row 0 ≡ Words sub
    → AreReadable own span.log next old all → BeginsWithLetters sub span all rows others → ArePast sub others → (d : DeadLetter) × IsNextLetter own sub span next least places ordinals row d
next_letter own sub span next least places old ordinals ds all rows rest after others row dead letters has_least no_others came so_far split named read whole none =
    let each : AllByRecursion (IsReadable own span.log next) all = recursion_from_All (IsReadable own span.log next) all read.each in
    let messages : AllByRecursion (λ (x : DeadLetter). has_message span.log x.position ≡ true) ds = recursion_from_All _ ds dead.messages in
    let of_ds : AllByRecursion (IsOneOf span.log) ds = all_both (λ (x : DeadLetter). has_message span.log x.position ≡ true) _ ds messages (all_weaker (IsLetterOf own next) _ (λ x l. l.named) ds (recursion_from_All (IsLetterOf own next) ds letters)) in
    let of_all : AllByRecursion (IsOneOf span.log) all = all_weaker (IsReadable own span.log next) (IsOneOf span.log) (λ x r. (r.message, r.letter.named)) all each in
    let same : map (dead_row [] sub span) ds ++ (Words [] ∷ row) ∷ put [] after ≡ map (dead_row [] sub span) all ++ put [] others = ap (λ l. map (dead_row [] sub span) ds ++ put [] l) (sym split) ∙ sym (so_far []) ∙ whole [] in
    let n = next_is (dead_row [] sub span) (IsOneOf span.log) (one_letter [] sub span) (λ (r : Row). column r 1 ≡ Words sub) (λ x. refl) ds all (Words [] ∷ row) (put [] after) (put [] others) of_ds of_all same named (past_first sub others none) in
    let d : DeadLetter = n.0 in
    let is : all ≡ ds ++ d ∷ n.1 = n.2 in
    let readable : IsReadable own span.log next d = all_at (IsReadable own span.log next) ds d n.1 (subst (AllByRecursion (IsReadable own span.log next)) is each) in
    let lower : AllByRecursion (λ (x : DeadLetter). x.ordinal < d.ordinal) ds =
    lower_before ds d n.1 (subst (λ xs. IsStrictlySortedBy nat_cmp (map (λ (x : DeadLetter). x.ordinal) xs)) is (sorted_from_strictly_increasing (map (λ (x : DeadLetter). x.ordinal) all) read.dead.ordinals)) in
    let apart : AllByRecursion (λ (x : DeadLetter). same_position x.position d.position ≡ false) ds = apart_before ds d n.1 (subst (λ xs. IsDistinct same_position (map (λ (x : DeadLetter). x.position) xs)) is read.dead.once) in
    let fresh : set.contains old d.ordinal ≡ false = all_at (λ (x : DeadLetter). set.contains old x.ordinal ≡ false) ds d n.1 (subst (AllByRecursion (λ (x : DeadLetter). set.contains old x.ordinal ≡ false)) is (recursion_from_All _ all read.fresh)) in (
      d,
      record {
        readable = readable;
        shown = at_any sub span row d n.3;
        above = has_least d.ordinal lower;
        new_place = no_others (index_in span.log d.position)
            (all_weaker (λ (x : DeadLetter). (has_message span.log x.position ≡ true) × (same_position x.position d.position ≡ false)) (λ (x : DeadLetter). index_in span.log x.position ≡ index_in span.log d.position → ⊥)
            (λ x both. apart_places span.log x.position d.position both.0 readable.message both.1) ds (all_both (λ (x : DeadLetter). has_message span.log x.position ≡ true) (λ (x : DeadLetter). same_position x.position d.position ≡ false) ds messages apart));
        new_ordinal = never_came old ordinals d.ordinal (count_by (λ (x : DeadLetter). x.ordinal == d.ordinal) ds) (came d.ordinal) (none_of d.ordinal ds lower) fresh;
      },
    )
