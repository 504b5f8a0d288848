-- The next count of those that rows show.
use Rattle.std.proofs.Common.{◌≡◌, ℕ, List, [], ◌∷◌, ◌++◌, map, ap, refl, sym, subst, ◌∙◌}
use Rattle.std.specs.List.{AllByRecursion}
use Rattle.std.specs.List.Sorted.{IsStrictlySortedBy}
use Rattle.std.specs.FinMap as map_of
use Rattle.std.specs.FinSet as set
use Rattle.std.specs.Ordering.{nat_cmp}
use Rattle.std.specs.declared.cmp.Ordering.TheVariants.{Less}
use Rattle.std.proofs.lemmas.List.Elements.{recursion_from_All}
use Rattle.sqlite.specs.declared.types.Value.TheVariants.{Text as Words}
use Rattle.sqlite.specs.Order.{Row, column}
use Rattle.position_core.specs.declared.position.Position.{Position}
use Rattle.position_core.specs.Position.{position_cmp, positions_total}
use Rattle.delivery_machine.specs.Counts.{IsAfterAll}
use Rattle.delivery_machine.proofs.Entries.{one_below}
use Rattle.row_forms.specs.Forms.{Span, count_row}
use Rattle.row_forms.proofs.MapEntries.{all_entries, keys_rise}
use Rattle.row_reading.specs.Reading.{ArePast, BeginsWithCounts, IsCountAt, MayCount, put}
use Rattle.row_reading.proofs.Counts.{IsOfLog, MayBeCounts, each_of_log, one_count}
use Rattle.row_reading.proofs.Nexts.{all_at, next_is, past_first}

below_next : (xs : List (Position × ℕ)) (x : Position × ℕ) (more : List (Position × ℕ)) → IsStrictlySortedBy position_cmp (map (λ e. e.0) (xs ++ x ∷ more)) → AllByRecursion (λ q. position_cmp q x.0 ≡ Less) (map (λ e. e.0) xs)
unfolding IsStrictlySortedBy
below_next [] x more rise = tt
below_next (y ∷ ys) x more rise = (below ys rise.0, below_next ys x more rise.1)
  where
    below : (zs : List (Position × ℕ)) → AllByRecursion (λ q. position_cmp y.0 q ≡ Less) (map (λ e. e.0) (zs ++ x ∷ more)) → position_cmp y.0 x.0 ≡ Less
    below [] all = all.0
    below (z ∷ zs) all = below zs all.1

-- the row shows a message that may be counted, and comes after those that were
pub record IsNextCount (sub : List ℕ) (span : Span) (acknowledged dead : set.FinSet nat_cmp) (counts : map_of.FinMap position_cmp ℕ) (row : Row) (counted : Position × ℕ) : Type 0 where
  pub may : MayCount span.log acknowledged dead counted
  pub shown : IsCountAt sub span row counted
  pub after : IsAfterAll counts counted.0

at_any : (sub : List ℕ) (span : Span) (row : Row) (counted : Position × ℕ) → Words [] ∷ row ≡ count_row [] sub span counted → IsCountAt sub span row counted
at_any sub span row counted is topic = cc

pub next_count : (sub : List ℕ) (span : Span) (acknowledged dead : set.FinSet nat_cmp) (counts all : map_of.FinMap position_cmp ℕ) (rows rest after others : List Row) (row : Row) → MayBeCounts span.log acknowledged dead counts → MayBeCounts span.log acknowledged dead all
    → BeginsWithCounts sub span counts rows rest → rest ≡ row ∷ after → column row 0 ≡ Words sub → BeginsWithCounts sub span all rows others → ArePast sub others → (counted : Position × ℕ) × IsNextCount sub span acknowledged dead counts row counted
next_count sub span acknowledged dead counts all rows rest after others row may may_all so_far split named whole none =
    let came : List (Position × ℕ) = map_of.entries counts in
    let entries : List (Position × ℕ) = map_of.entries all in
    let same : map (count_row [] sub span) came ++ (Words [] ∷ row) ∷ put [] after ≡ map (count_row [] sub span) entries ++ put [] others = ap (λ l. map (count_row [] sub span) came ++ put [] l) (sym split) ∙ sym (so_far []) ∙ whole [] in
    let n = next_is (count_row [] sub span) (IsOfLog span.log) (one_count [] sub span) (λ (r : Row). column r 1 ≡ Words sub) (λ x. refl) came entries (Words [] ∷ row) (put [] after) (put [] others)
    (each_of_log span.log counts (λ position times is. (may position times is).message)) (each_of_log span.log all (λ position times is. (may_all position times is).message)) same named (past_first sub others none) in
    let counted : Position × ℕ = n.0 in
    let is : entries ≡ came ++ counted ∷ n.1 = n.2 in
    let each : AllByRecursion (MayCount span.log acknowledged dead) entries = recursion_from_All (MayCount span.log acknowledged dead) entries (all_entries positions_total (λ position times. MayCount span.log acknowledged dead (position, times)) all may_all) in
    let below : AllByRecursion (λ q. position_cmp q counted.0 ≡ Less) (map (λ e. e.0) came) = below_next came counted n.1 (subst (λ es. IsStrictlySortedBy position_cmp (map (λ e. e.0) es)) is (keys_rise all)) in (
      counted,
      record {
        may = all_at (MayCount span.log acknowledged dead) came counted n.1 (subst (AllByRecursion (MayCount span.log acknowledged dead)) is each);
        shown = at_any sub span row counted n.3;
        after = λ other there. one_below positions_total counted.0 other (map_of.keys counts) below (sym (map_of.contains_key-keys counts other) ∙ there);
      },
    )
