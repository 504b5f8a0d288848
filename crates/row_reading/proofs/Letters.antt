-- Dead letters and their rows.
use Rattle.std.proofs.Common.{◌≡◌, ℕ, ◌+◌, ◌<◌, ◌≤◌, Bool, true, false, cond, inl, inr, List, [], ◌∷◌, ◌++◌, map, length, pos, refl, ap, sym, ◌∙◌, arith}
use Rattle.std.specs.Prelude.{◌==◌, ◌||◌, IsTrue}
use Rattle.std.specs.List.{All, AllByRecursion, count_by, list_any, IsDistinct}
use Rattle.std.specs.FinSet as set
use Rattle.std.specs.Ordering.{nat_cmp}
use Rattle.std.specs.Cmp.{nat_cmp_total, unsigned_tied}
use Rattle.std.proofs.lemmas.Bool.Decides.{nat_tests}
use Rattle.std.proofs.lemmas.List.Elements.{All-push, All-weaker, recursion_from_All}
use Rattle.std.proofs.lemmas.List.Sums.{sum_by-append, sum_by-cons, sum_by_push}
use Rattle.sqlite.specs.declared.types.Value.TheVariants.{Int, Text as Words}
use Rattle.sqlite.specs.Order.{Row, column}
use Rattle.position_core.specs.declared.message.Entry.{Entry}
use Rattle.position_core.specs.declared.position.Position.{Position}
use Rattle.position_core.specs.declared.topic_name.TopicName.{TopicName}
use Rattle.position_core.specs.TopicName.{topic_text}
use Rattle.position_core.specs.Position.{same_position}
use Rattle.ack_ranges.proofs.Covers.{either, or_first, or_second}
use Rattle.delivery_machine.specs.State.{DeadLetter}
use Rattle.delivery_machine.specs.WellFormed.{AreDeadLettersOf, has_message}
use Rattle.machine_laws.proofs.Letters.{dead_pushed}
use Rattle.machine_laws.proofs.Ordinals.{distinct_once, times}
use Rattle.delivery_machine.proofs.Tended.{position_is}
use Rattle.row_forms.specs.Forms.{Span, dead_row, index_in, place_in}
use Rattle.row_reading.specs.Reading.{AreDeadAt, BeginsWithLetters, IsLetterAt, OrdinalsCame, times_in}
use Rattle.row_reading.proofs.Beginnings.{one_more}
use Rattle.row_reading.proofs.Columns.{four}
use Rattle.row_reading.proofs.PlacesRead.{apart_places}

-- ---- one more letter

pub letters_more : (sub : List ℕ) (span : Span) (ds : List DeadLetter) (d : DeadLetter) (rows rest after : List Row) (row : Row) → BeginsWithLetters sub span ds rows rest → rest ≡ row ∷ after
    → ((topic : List ℕ) → Words topic ∷ row ≡ dead_row topic sub span d) → BeginsWithLetters sub span (ds ++ d ∷ []) rows after
letters_more sub span ds d rows rest after row h next shown topic = one_more (dead_row topic sub span) ds d topic rows rest after row (h topic) next (shown topic)

-- the place of each letter's message is in the set
abbrev pub HavePlaces : List Entry → set.FinSet nat_cmp → List DeadLetter → Type 0
HavePlaces log places ds = All (λ d. set.contains places (index_in log d.position) ≡ true) ds

contains_inserted : (s t : set.FinSet nat_cmp) (k n : ℕ) → t ≡ set.insert s k → set.contains t n ≡ (n == k || set.contains s n)
contains_inserted s t k n is = ap (λ u. set.contains u n) is ∙ set.contains-insert nat_cmp_total s k n ∙ ap (λ b. b || set.contains s n) (unsigned_tied n k)

pub places_more : (log : List Entry) (s t : set.FinSet nat_cmp) (ds : List DeadLetter) (d : DeadLetter) (place : ℕ) → HavePlaces log s ds → t ≡ set.insert s place → place ≡ index_in log d.position → HavePlaces log t (ds ++ d ∷ [])
places_more log s t ds d place have is at =
    All-push (λ x. set.contains t (index_in log x.position) ≡ true) ds d
    (All-weaker (λ x. set.contains s (index_in log x.position) ≡ true) (λ x. set.contains t (index_in log x.position) ≡ true) (λ x there. contains_inserted s t place (index_in log x.position) is ∙ or_second _ _ there) ds have)
    (contains_inserted s t place (index_in log d.position) is ∙ or_first _ _ (itself (index_in log d.position) (sym at)))
  where
    itself : (n : ℕ) → n ≡ place → (n == place) ≡ true
    itself n e = grind (arith, nat_tests)

-- where its place is new, no letter is of its message
not_dead : (log : List Entry) (s : set.FinSet nat_cmp) (ds : List DeadLetter) (d : DeadLetter) (place : ℕ) → HavePlaces log s ds → set.contains s place ≡ false → place ≡ index_in log d.position → list_any (λ x. same_position x.position d.position) ds ≡ false
not_dead log s ds d place have new at = each ds (recursion_from_All (λ x. set.contains s (index_in log x.position) ≡ true) ds have)
  where
    other : (x : DeadLetter) (b : Bool) → same_position x.position d.position ≡ b → set.contains s (index_in log x.position) ≡ true → b ≡ false
    other x true same there =
        let e : index_in log x.position ≡ place = ap (index_in log) (position_is x.position d.position same) ∙ sym at in
        let both : set.contains s place ≡ true = ap (set.contains s) (sym e) ∙ there in
        sym both ∙ new
    other x false same there = refl

    each : (xs : List DeadLetter) → AllByRecursion (λ x. set.contains s (index_in log x.position) ≡ true) xs → list_any (λ x. same_position x.position d.position) xs ≡ false
    each [] all = refl
    each (x ∷ xs) all = ap (λ b. b || list_any (λ y. same_position y.position d.position) xs) (other x (same_position x.position d.position) refl all.0) ∙ each xs all.1

pub dead_more : (log : List Entry) (s : set.FinSet nat_cmp) (ds : List DeadLetter) (d : DeadLetter) (place least : ℕ) → AreDeadLettersOf log ds → HavePlaces log s ds → All (λ x. x.ordinal < least) ds
    → has_message log d.position ≡ true → set.contains s place ≡ false → place ≡ index_in log d.position → least ≤ d.ordinal → AreDeadLettersOf log (ds ++ d ∷ [])
dead_more log s ds d place least all have below there new at above =
    dead_pushed log ds d there (not_dead log s ds d place have new at)
    (recursion_from_All (λ x. x.ordinal < d.ordinal) ds (All-weaker (λ x. x.ordinal < least) (λ x. x.ordinal < d.ordinal) (λ x low. omega arith) ds below)) all

pub least_more : (ds : List DeadLetter) (d : DeadLetter) (least : ℕ) → All (λ x. x.ordinal < least) ds → least ≤ d.ordinal → All (λ x. x.ordinal < d.ordinal + 1) (ds ++ d ∷ [])
least_more ds d least below above =
    All-push (λ x. x.ordinal < d.ordinal + 1) ds d (All-weaker (λ x. x.ordinal < least) (λ x. x.ordinal < d.ordinal + 1) (λ x low. omega arith) ds below) (omega arith)

-- ---- ordinals

pub came_none : (s : set.FinSet nat_cmp) → OrdinalsCame [] s s
came_none s n = omega arith

one_added : (s : set.FinSet nat_cmp) (k n : ℕ) → set.contains s k ≡ false → cond {A = ℕ} (n == k || set.contains s n) 1 0 ≡ times_in s n + cond {A = ℕ} (k == n) 1 0
one_added s k n new = by (n == k) refl
  where
    by : (b : Bool) → (n == k) ≡ b → cond {A = ℕ} (b || set.contains s n) 1 0 ≡ times_in s n + cond {A = ℕ} (k == n) 1 0
    by true e =
        let same : n ≡ k = grind (arith, nat_tests) in
        let none : set.contains s n ≡ false = ap (set.contains s) same ∙ new in
        let yes : (k == n) ≡ true = grind (arith, nat_tests) in
        rw (none, yes) refl
    by false e =
        let no : (k == n) ≡ false = grind (arith, nat_tests) in
        rw no (omega arith)

pub came_more : (ds : List DeadLetter) (d : DeadLetter) (old now new : set.FinSet nat_cmp) → OrdinalsCame ds old now → set.contains now d.ordinal ≡ false → new ≡ set.insert now d.ordinal → OrdinalsCame (ds ++ d ∷ []) old new
came_more ds d old now new came fresh is n =
    let p : DeadLetter → ℕ = λ x. cond {A = ℕ} (x.ordinal == n) 1 0 in
    let pushed : count_by (λ (x : DeadLetter). x.ordinal == n) (ds ++ d ∷ []) ≡ count_by (λ (x : DeadLetter). x.ordinal == n) ds + p d = sum_by_push p ds d in
    let step : times_in new n ≡ times_in now n + p d = ap (λ b. cond {A = ℕ} b 1 0) (contains_inserted now new d.ordinal n is) ∙ one_added now d.ordinal n fresh in
    let before = came n in
    omega (arith, pushed, step, before)

pub came_then : (xs ys : List DeadLetter) (a b c : set.FinSet nat_cmp) → OrdinalsCame xs a b → OrdinalsCame ys b c → OrdinalsCame (xs ++ ys) a c
came_then xs ys a b c first second n =
    let both : count_by (λ (x : DeadLetter). x.ordinal == n) (xs ++ ys) ≡ count_by (λ (x : DeadLetter). x.ordinal == n) xs + count_by (λ (x : DeadLetter). x.ordinal == n) ys = sum_by-append (λ (x : DeadLetter). cond {A = ℕ} (x.ordinal == n) 1 0) xs ys in
    let one = first n in
    let two = second n in
    omega (arith, both, one, two)

pub counted : (n : ℕ) (ds : List DeadLetter) → times n ds ≡ count_by (λ (x : DeadLetter). x.ordinal == n) ds
counted n [] = refl
counted n (d ∷ ds) = ap (λ k. cond {A = ℕ} (d.ordinal == n) 1 0 + k) (counted n ds) ∙ sym (sum_by-cons (λ (x : DeadLetter). cond {A = ℕ} (x.ordinal == n) 1 0) d ds)

-- where all came into an empty set, none stands twice
pub came_once : (ds : List DeadLetter) (new : set.FinSet nat_cmp) → OrdinalsCame ds set.empty new → IsDistinct (λ a b. a == b) (map (λ (d : DeadLetter). d.ordinal) ds)
came_once ds new came = distinct_once ds (λ n. once n (set.contains new n) (came n))
  where
    once : (n : ℕ) (b : Bool) → cond {A = ℕ} b 1 0 ≡ times_in set.empty n + count_by (λ (x : DeadLetter). x.ordinal == n) ds → times n ds ≤ 1
    once n true is = omega (arith, counted n ds)
    once n false is = omega (arith, counted n ds)

-- ---- a row that shows a letter

pub letter_row : (sub : List ℕ) (span : Span) (row : Row) (d : DeadLetter) → IsLetterAt sub span row d → row ≡ Words sub ∷ Int (pos d.ordinal) ∷ Int (pos (place_in span d.position)) ∷ Words (topic_text d.target) ∷ []
letter_row sub span row d shown = let here : Words [] ∷ row ≡ dead_row [] sub span d = shown [] in cc

-- a row shows one ordinal and one place
pub same_cells : (sub : List ℕ) (span : Span) (row : Row) (d e : DeadLetter) → IsLetterAt sub span row d → IsLetterAt sub span row e → (d.ordinal ≡ e.ordinal) × (index_in span.log d.position ≡ index_in span.log e.position)
same_cells sub span row d e one other =
    let a = letter_row sub span row d one in
    let b = letter_row sub span row e other in
    let places : span.gone + index_in span.log d.position ≡ span.gone + index_in span.log e.position = cc (a, b) in
    (cc (a, b), omega (arith, places))

pub letter_shown : (sub : List ℕ) (span : Span) (row : Row) (p : Position) (target : TopicName) (ordinal place : ℕ) → length row ≡ 4 → column row 0 ≡ Words sub → column row 1 ≡ Int (pos ordinal) → column row 2 ≡ Int (pos (span.gone + place))
    → column row 3 ≡ Words (topic_text target) → place ≡ index_in span.log p → IsLetterAt sub span row (record { position = p; target = target; ordinal = ordinal })
letter_shown sub span row p target ordinal place long named at stands goes is topic =
    ap (λ (r : Row). Words topic ∷ r) (four row long) ∙ rw (named, at, stands, goes, is) refl

-- ---- what may come next

-- the number is the least that is above all of their ordinals
abbrev pub HasLeast : ℕ → List DeadLetter → Type 0
HasLeast least ds = (n : ℕ) → AllByRecursion (λ (x : DeadLetter). x.ordinal < n) ds → least ≤ n

pub no_least : HasLeast 0 []
no_least n all = omega arith

pub least_below_more : (ds : List DeadLetter) (d : DeadLetter) → HasLeast (d.ordinal + 1) (ds ++ d ∷ [])
least_below_more [] d n all = let below = all.0 in omega arith
least_below_more (x ∷ xs) d n all = least_below_more xs d n all.1

-- the set has no place but those of their messages
abbrev pub HasNoOthers : List Entry → set.FinSet nat_cmp → List DeadLetter → Type 0
HasNoOthers log places ds = (n : ℕ) → AllByRecursion (λ (x : DeadLetter). index_in log x.position ≡ n → ⊥) ds → set.contains places n ≡ false

pub no_others : (log : List Entry) → HasNoOthers log set.empty []
no_others log n all = set.contains-empty nat_cmp n

pub no_others_more : (log : List Entry) (s t : set.FinSet nat_cmp) (ds : List DeadLetter) (d : DeadLetter) → HasNoOthers log s ds → t ≡ set.insert s (index_in log d.position) → HasNoOthers log t (ds ++ d ∷ [])
no_others_more log s t ds d others is n all =
    let parts = halves ds all in
    contains_inserted s t (index_in log d.position) n is ∙ neither (n == index_in log d.position) (set.contains s n) (other (index_in log d.position) parts.1) (others n parts.0)
  where
    halves : (xs : List DeadLetter) → AllByRecursion (λ (x : DeadLetter). index_in log x.position ≡ n → ⊥) (xs ++ d ∷ []) → AllByRecursion (λ (x : DeadLetter). index_in log x.position ≡ n → ⊥) xs × (index_in log d.position ≡ n → ⊥)
    halves [] all = (tt, all.0)
    halves (x ∷ xs) all = let rest = halves xs all.1 in ((all.0, rest.0), rest.1)

    other : (k : ℕ) → (k ≡ n → ⊥) → (n == k) ≡ false
    other k apart = elim (n == k) as (λ b. (n == k) ≡ b → b ≡ false) [ true ↦ λ e. let same : k ≡ n = grind (arith, nat_tests) in absurd (apart same) | false ↦ λ _. refl ] refl

    neither : (a b : Bool) → a ≡ false → b ≡ false → (a || b) ≡ false
    neither a b x y = rw (x, y) refl

-- ---- the places of those that died

neither_of : (a b : Bool) → (a || b) ≡ false → (a ≡ false) × (b ≡ false)
neither_of true b e = absurd (cc)
neither_of false b e = (refl, e)

-- a set that has their messages' places and no others has the place of a message where it died
pub dead_at : (log : List Entry) (ds : List DeadLetter) (places : set.FinSet nat_cmp) → AreDeadLettersOf log ds → HavePlaces log places ds → HasNoOthers log places ds → AreDeadAt log ds places
dead_at log ds places dead have others p there =
    by (list_any (λ d. same_position d.position p) ds) refl
  where
    one : (xs : List DeadLetter) → AllByRecursion (λ d. set.contains places (index_in log d.position) ≡ true) xs → list_any (λ d. same_position d.position p) xs ≡ true → set.contains places (index_in log p) ≡ true
    one [] all any = absurd (cc)
    one (x ∷ xs) all any = elim (either (same_position x.position p) (list_any (λ d. same_position d.position p) xs) any) [
      | inl same ↦ ap (λ q. set.contains places (index_in log q)) (sym (position_is x.position p same)) ∙ all.0
      | inr later ↦ one xs all.1 later
    ]

    none : (xs : List DeadLetter) → AllByRecursion (λ d. IsTrue (has_message log d.position)) xs → list_any (λ d. same_position d.position p) xs ≡ false → AllByRecursion (λ d. index_in log d.position ≡ index_in log p → ⊥) xs
    none [] all e = tt
    none (x ∷ xs) all e =
        let parts = neither_of (same_position x.position p) (list_any (λ d. same_position d.position p) xs) e in
        (apart_places log x.position p all.0 there parts.0, none xs all.1 parts.1)

    by : (b : Bool) → list_any (λ d. same_position d.position p) ds ≡ b → set.contains places (index_in log p) ≡ b
    by true any = one ds (recursion_from_All (λ d. set.contains places (index_in log d.position) ≡ true) ds have) any
    by false e = others (index_in log p) (none ds (recursion_from_All (λ d. IsTrue (has_message log d.position)) ds dead.messages) e)
