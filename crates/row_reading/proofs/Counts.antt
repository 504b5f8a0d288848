-- Counts and their rows.
use Rattle.std.proofs.Common.{◌≡◌, ℕ, ◌+◌, arith, Bool, true, false, cond, List, [], ◌∷◌, ◌++◌, map, length, pos, Some, refl, ap, sym, ◌∙◌, subst}
use Rattle.std.specs.List.{AllByRecursion}
use Rattle.std.specs.FinMap as map_of
use Rattle.std.specs.FinMap.Entries as entries_of
use Rattle.std.specs.FinSet as set
use Rattle.std.specs.Cmp.{IsTotalOrder}
use Rattle.std.specs.Ordering.{nat_cmp, ordering_reverse}
use Rattle.std.specs.declared.cmp.Ordering.{Ordering}
use Rattle.std.specs.declared.cmp.Ordering.TheVariants.{Less}
use Rattle.std.proofs.lemmas.List.{nil_from_length}
use Rattle.std.proofs.lemmas.List.Elements.{recursion_from_All}
use Rattle.sqlite.specs.declared.types.Value.TheVariants.{Int, Text as Words}
use Rattle.sqlite.specs.Order.{Row, column}
use Rattle.position_core.specs.declared.message.Entry.{Entry}
use Rattle.position_core.specs.declared.position.Position.{Position}
use Rattle.position_core.specs.Position.{position_cmp, positions_total, same_position}
use Rattle.delivery_machine.specs.Counts.{IsAfterAll}
use Rattle.delivery_machine.specs.Places.{positions_at}
use Rattle.delivery_machine.specs.State.{DeadLetter}
use Rattle.delivery_machine.specs.WellFormed.{AreCountsOf, has_message}
use Rattle.delivery_machine.proofs.Entries.{all_below}
use Rattle.delivery_machine.proofs.Tended.{position_is}
use Rattle.row_forms.specs.Forms.{Span, count_row, index_in, place_in}
use Rattle.row_forms.specs.Parts.{IsRising}
use Rattle.row_forms.proofs.MapEntries.{all_entries}
use Rattle.row_reading.specs.Reading.{AreDeadAt, BeginsWithCounts, IsCountAt, MayCount, put}
use Rattle.row_reading.proofs.Beginnings.{one_more}
use Rattle.row_reading.proofs.Columns.{three}
use Rattle.row_reading.proofs.Orders.{pair_is}
use Rattle.row_reading.proofs.PlacesRead.{one_place, stands_at_place}

-- ---- a row

pub count_cells_are : (sub : List ℕ) (span : Span) (row : Row) (counted : Position × ℕ) → IsCountAt sub span row counted → row ≡ Words sub ∷ Int (pos (place_in span counted.0)) ∷ Int (pos counted.1) ∷ []
count_cells_are sub span row counted shown = let here : Words [] ∷ row ≡ count_row [] sub span counted = shown [] in cc

pub count_shown : (sub : List ℕ) (span : Span) (row : Row) (position : Position) (place times : ℕ) → length row ≡ 3 → column row 0 ≡ Words sub → column row 1 ≡ Int (pos (span.gone + place)) → column row 2 ≡ Int (pos times) → place ≡ index_in span.log position
    → IsCountAt sub span row (position, times)
count_shown sub span row position place times long named stands counts is topic = ap (λ (r : Row). Words topic ∷ r) (three row long) ∙ rw (named, stands, counts, is) refl

-- the message that is counted is of the log
abbrev pub IsOfLog : List Entry → Position × ℕ → Type 0
IsOfLog log counted = has_message log counted.0 ≡ true

-- a row is that of one count
pub one_count : (topic sub : List ℕ) (span : Span) (x y : Position × ℕ) → IsOfLog span.log x → IsOfLog span.log y → count_row topic sub span x ≡ count_row topic sub span y → x ≡ y
one_count topic sub span x y here there e =
    let places : span.gone + index_in span.log x.0 ≡ span.gone + index_in span.log y.0 = cc in
    let place : index_in span.log x.0 ≡ index_in span.log y.0 = omega (arith, places) in
    let times : x.1 ≡ y.1 = cc in
    pair_is x y (one_place span.log x.0 y.0 here there place) times

-- a row shows one message
pub same_count : (sub : List ℕ) (span : Span) (row : Row) (x y : Position × ℕ) → IsOfLog span.log x → IsOfLog span.log y → IsCountAt sub span row x → IsCountAt sub span row y → x.0 ≡ y.0
same_count sub span row x y here there one other = ap (λ (c : Position × ℕ). c.0) (one_count [] sub span x y here there (sym (one []) ∙ other []))

-- ---- one more count

put_last : {K X : Type 0} {R : K → K → Ordering} → IsTotalOrder R → (k : K) (v : X) (es : List (K × X)) → AllByRecursion (λ q. R q k ≡ Less) (map (λ e. e.0) es) → entries_of.put R k v es ≡ es ++ (k, v) ∷ []
put_last total k v [] below = refl
put_last {R = R} total k v (e ∷ es) below =
    ap (λ o. entries_of.by_order o ((k, v) ∷ e ∷ es) ((e.0, v) ∷ es) (e ∷ entries_of.put R k v es)) (total.antisymm k e.0 ∙ ap ordering_reverse below.0)
    ∙ ap (λ l. e ∷ l) (put_last total k v es below.1)

abbrev Counts : Type 0
Counts = map_of.FinMap position_cmp ℕ

pub none_begins : (sub : List ℕ) (span : Span) (rows : List Row) → BeginsWithCounts sub span map_of.empty rows rows
none_begins sub span rows topic = ap (λ es. map (count_row topic sub span) es ++ put topic rows) (sym (nil_from_length (map_of.entries map_of.empty) (sym (map_of.len-entries map_of.empty) ∙ map_of.len-empty position_cmp ℕ)))

entries_more : (counts : Counts) (position : Position) (times : ℕ) → IsAfterAll counts position → map_of.entries (map_of.insert counts position times) ≡ map_of.entries counts ++ (position, times) ∷ []
entries_more counts position times after =
    map_of.entries-insert positions_total counts position times
    ∙ put_last positions_total position times (map_of.entries counts) (all_below positions_total position (map_of.keys counts) (λ q there. after q (map_of.contains_key-keys counts q ∙ there)))

pub counts_more : (sub : List ℕ) (span : Span) (counts : Counts) (position : Position) (times : ℕ) (rows rest after : List Row) (row : Row) → BeginsWithCounts sub span counts rows rest → rest ≡ row ∷ after → IsCountAt sub span row (position, times)
    → IsAfterAll counts position → BeginsWithCounts sub span (map_of.insert counts position times) rows after
counts_more sub span counts position times rows rest after row so_far next shown last topic =
    one_more (count_row topic sub span) (map_of.entries counts) (position, times) topic rows rest after row (so_far topic) next (shown topic)
    ∙ ap (λ es. map (count_row topic sub span) es ++ put topic after) (sym (entries_more counts position times last))

-- ---- which messages may be counted

-- each count is of a message that may be counted
abbrev pub MayBeCounts : List Entry → set.FinSet nat_cmp → set.FinSet nat_cmp → Counts → Type 0
MayBeCounts log acknowledged dead counts = (position : Position) (times : ℕ) → map_of.get counts position ≡ Some times → MayCount log acknowledged dead (position, times)

pub none_counted : (log : List Entry) (acknowledged dead : set.FinSet nat_cmp) → MayBeCounts log acknowledged dead map_of.empty
none_counted log acknowledged dead position times is = let none = map_of.get-empty {X = ℕ} position_cmp position in absurd (cc)

pub one_counted : (log : List Entry) (acknowledged dead : set.FinSet nat_cmp) (counts : Counts) (p : Position) (n : ℕ) → MayBeCounts log acknowledged dead counts → MayCount log acknowledged dead (p, n) → MayBeCounts log acknowledged dead (map_of.insert counts p n)
one_counted log acknowledged dead counts p n may one position times is = by (same_position position p) refl (sym (map_of.get-insert positions_total counts p n position) ∙ is)
  where
    by : (b : Bool) → same_position position p ≡ b → cond b (Some n) (map_of.get counts position) ≡ Some times → MayCount log acknowledged dead (position, times)
    by true same got =
        let number : n ≡ times = cc in
        subst (λ q. MayCount log acknowledged dead (q, times)) (sym (position_is position p same)) (subst (λ k. MayCount log acknowledged dead (p, k)) number one)
    by false other got = may position times got

-- those of a log, of which some are acknowledged and some dead
module _ (log : List Entry) (acknowledged places : set.FinSet nat_cmp) (dead : List DeadLetter) (rise : IsRising log) (died : AreDeadAt log dead places) where
  pub counts_of : (counts : Counts) → MayBeCounts log acknowledged places counts → AreCountsOf log (positions_at log acknowledged) dead counts
  counts_of counts may position times is =
      let one = may position times is in
      record {
        message = one.message;
        waits = stands_at_place log acknowledged position rise one.message ∙ one.waits;
        lives = sym (died position one.message) ∙ one.lives;
        redelivered = one.redelivered;
        most = one.most;
      }

  pub counts_may : (counts : Counts) → AreCountsOf log (positions_at log acknowledged) dead counts → MayBeCounts log acknowledged places counts
  counts_may counts are position times is =
      let one = are position times is in
      record {
        message = one.message;
        waits = sym (stands_at_place log acknowledged position rise one.message) ∙ one.waits;
        lives = died position one.message ∙ one.lives;
        redelivered = one.redelivered;
        most = one.most;
      }

-- each entry is of the log
pub each_of_log : (log : List Entry) (counts : Counts) → ((position : Position) (times : ℕ) → map_of.get counts position ≡ Some times → has_message log position ≡ true) → AllByRecursion (IsOfLog log) (map_of.entries counts)
each_of_log log counts of_log = recursion_from_All (IsOfLog log) (map_of.entries counts) (all_entries positions_total (λ position times. has_message log position ≡ true) counts of_log)
