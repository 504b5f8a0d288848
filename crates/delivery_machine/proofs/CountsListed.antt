-- Counts that are kept as a list, in the order of the positions.
use Rattle.std.proofs.Common.{◌≡◌, ℕ, suc, ◌-◌, ◌<◌, ◌≤◌, List, [], ◌∷◌, ◌++◌, map, length, get_or, Bool, true, true≢false, Option, Some, None, refl, ap, ◌∙◌, sym, subst, arith}
use Rattle.std.specs.Prelude.{is_some}
use Rattle.std.specs.List.{AllByRecursion, list_any}
use Rattle.std.specs.List.Sorted.{IsStrictlySortedBy}
use Rattle.std.specs.Ordering.{is_lt}
use Rattle.std.specs.FinMap as map_of
use Rattle.std.specs.FinMap.Entries as entries_of
use Rattle.std.proofs.lemmas.List.{map-append}
use Rattle.std.specs.declared.cmp.Ordering.{Ordering}
use Rattle.std.specs.declared.cmp.Ordering.TheVariants.{Less, Equal, Greater}
use Rattle.position_core.specs.declared.position.Position.{Position}
use Rattle.position_core.specs.Position.{position_cmp, same_position, positions_total, exact_positions}
use Rattle.delivery_machine.specs.Counts.{IsAfterAll}
use Rattle.delivery_machine.specs.declared.counts.Counted.{Counted}
use Rattle.delivery_machine.proofs.Entries.{AreBelow, below_by_last, one_below, all_below, is_key, entries_rising}
use Rattle.delivery_machine.proofs.Rising.{sorted_push, below_itself}

abbrev pub listed : List Counted → List (Position × ℕ)
listed es = map (λ e. (e.position, e.times)) es

abbrev pub counts_in : List Counted → map_of.FinMap position_cmp ℕ
counts_in es = map_of.from_entries (listed es)

abbrev pub places : List Counted → List Position
places es = map (λ e. e.position) es

abbrev pub AreRising : List Counted → Type 0
AreRising es = IsStrictlySortedBy position_cmp (places es)

keys_listed : (es : List Counted) → map (λ e. e.0) (listed es) ≡ places es
keys_listed [] = refl
keys_listed (e ∷ es) = ap (λ ps. e.position ∷ ps) (keys_listed es)

pub entries_listed : (es : List Counted) → AreRising es → map_of.entries (counts_in es) ≡ listed es
entries_listed es rising = entries_rising positions_total (listed es) (subst (IsStrictlySortedBy position_cmp) (sym (keys_listed es)) rising)

is_counted : (es : List Counted) (p : Position) → map_of.contains_key (counts_in es) p ≡ list_any (same_position p) (places es)
is_counted es p = is_key positions_total (listed es) p ∙ ap (list_any (same_position p)) (keys_listed es)

-- after all is after each place
pub after_all : (es : List Counted) (p : Position) → AreBelow positions_total p (places es) → IsAfterAll (counts_in es) p
after_all es p below other counted = one_below positions_total p other (places es) below (sym (is_counted es other) ∙ counted)

pub all_before : (es : List Counted) (p : Position) → IsAfterAll (counts_in es) p → AreBelow positions_total p (places es)
all_before es p after = all_below positions_total p (places es) (λ q any. after q (is_counted es q ∙ any))

-- and after the last
pub after_last : (es : List Counted) (p : Position) (d : Counted) → AreRising es → position_cmp (get_or es (length es - 1) d).position p ≡ Less → IsAfterAll (counts_in es) p
after_last es p d rising low = after_all es p (below_by_last positions_total (λ e. e.position) p es d rising low)

pub last_before : (es : List Counted) (p : Position) (d : Counted) → 0 < length es → IsAfterAll (counts_in es) p → position_cmp (get_or es (length es - 1) d).position p ≡ Less
last_before es p d some after = at_last es some (all_before es p after)
  where
    at_last : (es : List Counted) → 0 < length es → AreBelow positions_total p (places es) → position_cmp (get_or es (length es - 1) d).position p ≡ Less
    at_last [] some below = absurd (omega arith)
    at_last (e ∷ []) some below = below.0
    at_last (e ∷ f ∷ es) some below =
        let next : length (e ∷ f ∷ es) - 1 ≡ suc (length (f ∷ es) - 1) = omega arith in
        subst (λ (n : ℕ). position_cmp (get_or (e ∷ f ∷ es) n d).position p ≡ Less) (sym next) (at_last (f ∷ es) (omega arith) below.1)

is_less : (o : Ordering) → is_lt o ≡ true → o ≡ Less
is_less Less t = refl
is_less Equal t = absurd (true≢false (sym t))
is_less Greater t = absurd (true≢false (sym t))

-- the last of the list, as the code has it
pub record IsLastOf (es : List Counted) (last : Counted) (p : Position) (before : Bool) : Type 0 where
  pub some : 0 < length es
  pub is : last ≡ get_or es (length es - 1) last
  pub tells : before ≡ is_lt (position_cmp last.position p)

pub told_after : (es : List Counted) (last : Counted) (p : Position) (before : Bool) → AreRising es → IsLastOf es last p before → before ≡ true → IsAfterAll (counts_in es) p
told_after es last p before rising at t =
    after_last es p last rising (ap (λ (e : Counted). position_cmp e.position p) (sym at.is) ∙ is_less (position_cmp last.position p) (sym at.tells ∙ t))

pub told_last : (es : List Counted) (last : Counted) (p : Position) (before : Bool) → IsLastOf es last p before → IsAfterAll (counts_in es) p → before ≡ true
told_last es last p before at after =
    at.tells ∙ ap is_lt (ap (λ (e : Counted). position_cmp e.position p) at.is ∙ last_before es p last at.some after)

pub after_none : (es : List Counted) (p : Position) → length es ≤ 0 → IsAfterAll (counts_in es) p
after_none [] p none = after_all [] p tt
after_none (e ∷ es) p none = absurd (omega arith)

-- what is pushed
pub rising_pushed : (es : List Counted) (e : Counted) → AreRising es → IsAfterAll (counts_in es) e.position → AreRising (es ++ e ∷ [])
rising_pushed es e rising after = sorted_push position_cmp (λ x. x.position) es e rising (of_places es (all_before es e.position after))
  where
    of_places : (es : List Counted) → AreBelow positions_total e.position (places es) → AllByRecursion (λ x. position_cmp x.position e.position ≡ Less) es
    of_places [] below = tt
    of_places (x ∷ es) below = (below.0, of_places es below.1)

pub counts_pushed : (es : List Counted) (e : Counted) → IsAfterAll (counts_in es) e.position → counts_in (es ++ e ∷ []) ≡ map_of.insert (counts_in es) e.position e.times
counts_pushed es e after =
    ap map_of.from_entries (map-append (λ x. (x.position, x.times)) es (e ∷ []))
    ∙ map_of.from_entries_push positions_total exact_positions (listed es) e.position e.times (by (entries_of.find position_cmp e.position (listed es)) refl)
  where
    by : (o : Option ℕ) → entries_of.find position_cmp e.position (listed es) ≡ o → entries_of.find position_cmp e.position (listed es) ≡ None
    by None is = is
    by (Some n) is = absurd (below_itself positions_total e.position (after e.position (ap is_some (map_of.get-from_entries positions_total (listed es) e.position ∙ is))))
