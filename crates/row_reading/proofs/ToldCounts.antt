-- The order of the rows of counts.
use Rattle.std.proofs.Common.{◌≡◌, ℕ, ◌<◌, arith, true, inr, List, [], ◌∷◌, map, refl, sym}
use Rattle.std.specs.List.{AllByRecursion}
use Rattle.std.specs.List.Sorted.{IsStrictlySortedBy}
use Rattle.std.specs.FinMap as map_of
use Rattle.std.specs.declared.cmp.Ordering.TheVariants.{Less}
use Rattle.sqlite.specs.Order.{Row, column}
use Rattle.position_core.specs.declared.message.Entry.{Entry}
use Rattle.position_core.specs.declared.position.Position.{Position}
use Rattle.position_core.specs.Position.{position_cmp}
use Rattle.position_core.specs.Name.{name_order}
use Rattle.delivery_machine.specs.Places.{KeptPlaces}
use Rattle.delivery_machine.specs.WellFormed.{NamesRise, has_message}
use Rattle.row_forms.specs.Forms.{Span, count_row, count_rows, index_in, place_in}
use Rattle.row_forms.specs.Parts.{IsRising}
use Rattle.row_forms.proofs.MapEntries.{keys_rise}
use Rattle.row_reading.specs.KeyOrder.{BelowByNumber, InOrder, name_in, whole_of}
use Rattle.row_reading.proofs.Counts.{IsOfLog}
use Rattle.row_reading.proofs.Orders.{all_append, all_weaker, order_append}
use Rattle.row_reading.proofs.PlacesRead.{place_rises}
use Rattle.row_reading.proofs.RowOrders.{apart_by_name}

-- the messages that are counted are of the log
abbrev pub AreOfLog : List Entry → KeptPlaces → Type 0
AreOfLog log sub = AllByRecursion (IsOfLog log) (map_of.entries sub.counts)

-- each row of a subscription's counts is of its name
pub counts_named : (topic name : List ℕ) (span : Span) (counts : List (Position × ℕ)) → AllByRecursion (λ (r : Row). name_in r ≡ name) (map (count_row topic name span) counts)
counts_named topic name span [] = tt
counts_named topic name span (c ∷ counts) = (refl, counts_named topic name span counts)

named_after : (topic name other : List ℕ) (span : Span) (counts : List (Position × ℕ)) → name_order name other ≡ Less → AllByRecursion (λ (r : Row). name_order name (name_in r) ≡ Less) (map (count_row topic other span) counts)
named_after topic name other span [] less = tt
named_after topic name other span (c ∷ counts) less = (less, named_after topic name other span counts less)

pub counts_after : (topic name : List ℕ) (span : Span) (subs : List KeptPlaces) → AllByRecursion (λ n. name_order name n ≡ Less) (map (λ (sub : KeptPlaces). sub.name) subs) → AllByRecursion (λ (r : Row). name_order name (name_in r) ≡ Less) (count_rows topic span subs)
counts_after topic name span [] all = tt
counts_after topic name span (sub ∷ subs) all =
    all_append (λ (r : Row). name_order name (name_in r) ≡ Less) (map (count_row topic sub.name span) (map_of.entries sub.counts)) (count_rows topic span subs)
    (named_after topic name sub.name span (map_of.entries sub.counts) all.0) (counts_after topic name span subs all.1)

module _ (topic : List ℕ) (span : Span) (rise : IsRising span.log) where
  later : (p q : Position) → index_in span.log p < index_in span.log q → place_in span p < place_in span q
  later p q below = omega (arith, below)

  places_after : (name : List ℕ) (low : Position) (counts : List (Position × ℕ)) → has_message span.log low ≡ true → AllByRecursion (IsOfLog span.log) counts → AllByRecursion (λ p. position_cmp low p ≡ Less) (map (λ c. c.0) counts)
      → AllByRecursion (λ (r : Row). (name_in r ≡ name) × (place_in span low < whole_of (column r 2))) (map (count_row topic name span) counts)
  places_after name low [] here of_log above = tt
  places_after name low (c ∷ counts) here of_log above = ((refl, later low c.0 (place_rises span.log low c.0 rise here of_log.0 above.0)), places_after name low counts here of_log.1 above.1)

  one_in_order : (name : List ℕ) (counts : List (Position × ℕ)) → AllByRecursion (IsOfLog span.log) counts → IsStrictlySortedBy position_cmp (map (λ c. c.0) counts) → InOrder BelowByNumber (map (count_row topic name span) counts)
  unfolding IsStrictlySortedBy
  one_in_order name [] of_log sorted = tt
  one_in_order name (c ∷ counts) of_log sorted = (
    all_weaker (λ (r : Row). (name_in r ≡ name) × (place_in span c.0 < whole_of (column r 2))) (λ (r : Row). BelowByNumber (count_row topic name span c) r)
        (λ r h. inr (sym h.0, h.1)) (map (count_row topic name span) counts) (places_after name c.0 counts of_log.0 of_log.1 sorted.0),
    one_in_order name counts of_log.1 sorted.1,
  )

  pub counts_in_order : (subs : List KeptPlaces) → NamesRise (map (λ (sub : KeptPlaces). sub.name) subs) → AllByRecursion (AreOfLog span.log) subs → InOrder BelowByNumber (count_rows topic span subs)
  unfolding IsStrictlySortedBy
  counts_in_order [] names of_log = tt
  counts_in_order (sub ∷ subs) names of_log =
      let counts : List (Position × ℕ) = map_of.entries sub.counts in
      order_append BelowByNumber (map (count_row topic sub.name span) counts) (count_rows topic span subs) (one_in_order sub.name counts of_log.0 (keys_rise sub.counts)) (counts_in_order subs names.1 of_log.1)
      (apart_by_name sub.name (map (count_row topic sub.name span) counts) (count_rows topic span subs) (counts_named topic sub.name span counts) (counts_after topic sub.name span subs names.0))
