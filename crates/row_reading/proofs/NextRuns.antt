-- The next run of those that rows show.
use Rattle.std.proofs.Common.{◌≡◌, ℕ, ◌+◌, ◌-◌, ◌<◌, ◌≤◌, true, List, [], ◌∷◌, ◌++◌, map, ap, arith, refl, sym, subst, ◌∙◌}
use Rattle.std.specs.FinSet as set
use Rattle.std.specs.Ordering.{nat_cmp}
use Rattle.sqlite.specs.declared.types.Value.TheVariants.{Text as Words}
use Rattle.sqlite.specs.Order.{Row, column}
use Rattle.ack_ranges.specs.Ranges.{MayFollow, Rise, spread}
use Rattle.ack_ranges.proofs.Covers.{contains_spread, covers, in_first, or_second}
use Rattle.ack_ranges.proofs.Reading.{next_follows}
use Rattle.delivery_machine.specs.Places.{AreBelow}
use Rattle.row_forms.specs.Forms.{ack_row}
use Rattle.row_reading.specs.Reading.{ArePast, BeginsWithRuns, IsRunAt, put}
use Rattle.row_reading.proofs.Nexts.{next_is, past_first}
use Rattle.row_reading.proofs.Told.{none_empty, one_run}

covers_at : (runs : List (ℕ × ℕ)) (run : ℕ × ℕ) (more : List (ℕ × ℕ)) (q : ℕ) → run.0 ≤ q → q < run.1 → covers (runs ++ run ∷ more) q ≡ true
covers_at [] run more q low high = in_first run.0 run.1 q (covers more q) low high
covers_at (r ∷ rs) run more q low high = or_second _ _ (covers_at rs run more q low high)

-- the row shows a run below the count, which may follow those that came
pub record IsNextRun (gone : ℕ) (sub : List ℕ) (count : ℕ) (places : set.FinSet nat_cmp) (row : Row) (first last : ℕ) : Type 0 where
  pub shown : IsRunAt sub gone row first last
  pub below : last < count
  pub may : MayFollow places first (last + 1)

pub next_run : (gone : ℕ) (sub : List ℕ) (count : ℕ) (places all : set.FinSet nat_cmp) (rows rest after others : List Row) (row : Row) → BeginsWithRuns sub gone places rows rest → rest ≡ row ∷ after → column row 0 ≡ Words sub
    → BeginsWithRuns sub gone all rows others → AreBelow count all → ArePast sub others → (first : ℕ) × (last : ℕ) × IsNextRun gone sub count places row first last
next_run gone sub count places all rows rest after others row came split named whole below none =
    let runs : List (ℕ × ℕ) = came.0 in
    let all_runs : List (ℕ × ℕ) = whole.0 in
    let rise : Rise all_runs = whole.1.rise in
    let same : map (ack_row [] sub gone) runs ++ (Words [] ∷ row) ∷ put [] after ≡ map (ack_row [] sub gone) all_runs ++ put [] others = ap (λ l. map (ack_row [] sub gone) runs ++ put [] l) (sym split) ∙ sym (came.2 []) ∙ whole.2 [] in
    let n = next_is (ack_row [] sub gone) (λ (run : ℕ × ℕ). run.0 < run.1) (one_run gone [] sub) (λ (r : Row). column r 1 ≡ Words sub) (λ run. refl) runs all_runs (Words [] ∷ row) (put [] after) (put [] others)
    (none_empty runs came.1.rise) (none_empty all_runs rise) same named (past_first sub others none) in
    let run : ℕ × ℕ = n.0 in
    let is : all_runs ≡ runs ++ run ∷ n.1 = n.2 in
    let may : MayFollow (set.from_list {R = nat_cmp} (spread runs)) run.0 run.1 = next_follows runs run n.1 (subst Rise is rise) in
    let some : run.0 < run.1 = may.some in
    let end : run.1 - 1 + 1 ≡ run.1 = omega (arith, some) in
    let shown : Words [] ∷ row ≡ ack_row [] sub gone run = n.3 in
    let covered : covers all_runs (run.1 - 1) ≡ true = subst (λ rs. covers rs (run.1 - 1) ≡ true) (sym is) (covers_at runs run n.1 (run.1 - 1) (omega (arith, some)) (omega (arith, some))) in
    let there : set.contains all (run.1 - 1) ≡ true = ap (λ s. set.contains s (run.1 - 1)) whole.1.numbers ∙ contains_spread all_runs (run.1 - 1) ∙ covered in (
      run.0,
      run.1 - 1,
      record {
        shown = (cc);
        below = below (run.1 - 1) there;
        may = subst (λ e. MayFollow places run.0 e) (sym end) (subst (λ s. MayFollow s run.0 run.1) (sym came.1.numbers) may);
      },
    )

-- a row shows one run
pub followed : (gone : ℕ) (sub : List ℕ) (places : set.FinSet nat_cmp) (row : Row) (first last start end : ℕ) → IsRunAt sub gone row first last → IsRunAt sub gone row start end → MayFollow places first (last + 1) → MayFollow places start (end + 1)
followed gone sub places row first last start end one other may =
    let here : gone + first ≡ gone + start = cc in
    let there : gone + last ≡ gone + end = cc in
    let firsts : first ≡ start = omega (arith, here) in
    let lasts : last ≡ end = omega (arith, there) in
    subst (λ l. MayFollow places start (l + 1)) lasts (subst (λ f. MayFollow places f (last + 1)) firsts may)
