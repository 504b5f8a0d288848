-- Rows of runs.
use Rattle.std.proofs.Common.{◌≡◌, ℕ, ◌+◌, ◌-◌, List, [], ◌∷◌, ◌++◌, map, refl, ap, sym, subst, ◌∙◌, append-nil, append_assoc}
use Rattle.std.specs.FinSet as set
use Rattle.std.specs.Ordering.{nat_cmp}
use Rattle.std.proofs.lemmas.List.{map-append}
use Rattle.ack_ranges.specs.Ranges.{AreRangesOf}
use Rattle.ack_ranges.proofs.Equal.{ranges_unique}
use Rattle.sqlite.specs.Order.{Row}
use Rattle.delivery_machine.specs.Places.{KeptPlaces}
use Rattle.row_forms.specs.declared.change.AckRow.{AckRow}
use Rattle.row_forms.specs.declared.change.Difference.{Difference}
use Rattle.row_forms.specs.Changes.{IsDifference, ack_cells}
use Rattle.row_forms.specs.Forms.{AreAckRows, ack_row}
use Rattle.row_forms.specs.Parts.{AcksDiffer, ExtendsByRuns}
use Rattle.row_forms.specs.Places.{number_of}
use Rattle.row_forms.proofs.Differences.{difference-none, extends-append, nothing_more}

pub run_is : (row : AckRow) (sub : List ℕ) (gone : ℕ) (run : ℕ × ℕ) → row.sub ≡ sub → number_of row.first ≡ gone + run.0 → number_of row.last ≡ gone + (run.1 - 1) → (topic : List ℕ) → ack_cells topic row ≡ ack_row topic sub gone run
run_is row sub gone run name first last topic = rw (name, first, last) refl

pub run_same : (sub : List ℕ) (was now : ℕ) (a b : ℕ × ℕ) → was + a.0 ≡ now + b.0 → was + (a.1 - 1) ≡ now + (b.1 - 1) → (topic : List ℕ) → ack_row topic sub was a ≡ ack_row topic sub now b
run_same sub was now a b first last topic = rw (first, last) refl

module _ (sub : List ℕ) (was now : ℕ) where
  pub no_run_more : (d : Difference AckRow) → ExtendsByRuns sub was now [] [] d d
  no_run_more d = nothing_more ack_cells (λ topic. map (ack_row topic sub was)) (λ topic. map (ack_row topic sub now)) d (λ topic. refl) (λ topic. refl)

  pub runs-append : (d e f : Difference AckRow) (olds news olds2 news2 : List (ℕ × ℕ)) → ExtendsByRuns sub was now olds news d e → ExtendsByRuns sub was now olds2 news2 e f → ExtendsByRuns sub was now (olds ++ olds2) (news ++ news2) d f
  runs-append = extends-append ack_cells (λ topic. map (ack_row topic sub was)) (λ topic. map (ack_row topic sub now)) (λ topic. map-append (ack_row topic sub was)) (λ topic. map-append (ack_row topic sub now))

-- ---- the rows of one subscription after another

split_rows : (topic : List ℕ) (gone : ℕ) (first second : List KeptPlaces) (rows : List Row) → AreAckRows topic gone (first ++ second) rows
    → (begin : List Row) × (end : List Row) × AreAckRows topic gone first begin × AreAckRows topic gone second end × (rows ≡ begin ++ end)
split_rows topic gone [] second rows are = ([], rows, refl, are, refl)
split_rows topic gone (sub ∷ first) second rows are =
    let later = split_rows topic gone first second are.1 are.3 in (
      map (ack_row topic sub.name gone) are.0 ++ later.0,
      later.1,
      (are.0, later.0, are.2, later.2, refl),
      later.3,
      are.4 ∙ ap (λ l. map (ack_row topic sub.name gone) are.0 ++ l) later.4 ∙ sym (append_assoc (map (ack_row topic sub.name gone) are.0) later.0 later.1),
    )

pub join_rows : (topic : List ℕ) (gone : ℕ) (first second : List KeptPlaces) (begin end : List Row) → AreAckRows topic gone first begin → AreAckRows topic gone second end → AreAckRows topic gone (first ++ second) (begin ++ end)
join_rows topic gone [] second begin end are others = rw are others
join_rows topic gone (sub ∷ first) second begin end are others = (
  are.0,
  are.1 ++ end,
  are.2,
  join_rows topic gone first second are.1 end are.3 others,
  ap (λ l. l ++ end) are.4 ∙ append_assoc (map (ack_row topic sub.name gone) are.0) are.1 end,
)

-- one more step, by subscriptions whose rows are known to become others
pub acks_more : (was now : ℕ) (olds news olds2 news2 : List KeptPlaces) (d e : Difference AckRow) → AcksDiffer was now olds news d
    → ((topic : List ℕ) (rows : List Row) → AreAckRows topic was olds2 rows → (others : List Row) × AreAckRows topic now news2 others × ((before after : List Row) → IsDifference before after (map (ack_cells topic) d.gone.items) (map (ack_cells topic) d.news.items)
    → IsDifference (before ++ rows) (after ++ others) (map (ack_cells topic) e.gone.items) (map (ack_cells topic) e.news.items)))
    → AcksDiffer was now (olds ++ olds2) (news ++ news2) e
acks_more was now olds news olds2 news2 d e first step topic rows are =
    let parts = split_rows topic was olds olds2 rows are in
    let one = first topic parts.0 parts.2 in
    let two = step topic parts.1 parts.3 in (
      one.0 ++ two.0,
      join_rows topic now news news2 one.0 two.0 one.1 two.1,
      subst (λ l. IsDifference l (one.0 ++ two.0) (map (ack_cells topic) e.gone.items) (map (ack_cells topic) e.news.items)) (sym parts.4) (two.2 parts.0 one.0 one.2),
    )

-- ---- a subscription alone

pub one_sub : (topic : List ℕ) (gone : ℕ) (sub : KeptPlaces) (runs : List (ℕ × ℕ)) → AreRangesOf sub.acknowledged runs → AreAckRows topic gone (sub ∷ []) (map (ack_row topic sub.name gone) runs)
one_sub topic gone sub runs are = (runs, [], are, refl, sym (append-nil (map (ack_row topic sub.name gone) runs)))

rows_of_one : (topic : List ℕ) (gone : ℕ) (sub : KeptPlaces) (runs : List (ℕ × ℕ)) (rows : List Row) → AreRangesOf sub.acknowledged runs → AreAckRows topic gone (sub ∷ []) rows → rows ≡ map (ack_row topic sub.name gone) runs
rows_of_one topic gone sub runs rows are h =
    let same : h.0 ≡ runs = ranges_unique sub.acknowledged h.0 runs h.2 are in
    h.4 ∙ ap (λ l. map (ack_row topic sub.name gone) h.0 ++ l) h.3 ∙ append-nil (map (ack_row topic sub.name gone) h.0) ∙ ap (λ l. map (ack_row topic sub.name gone) l) same

no_runs : (runs : List (ℕ × ℕ)) → AreRangesOf set.empty runs → runs ≡ []
no_runs runs are = ranges_unique set.empty runs [] are (record { numbers = refl; rise = tt })

-- ---- a walk over two lists of subscriptions

abbrev pub SetsExtend : List ℕ → ℕ → ℕ → set.FinSet nat_cmp → set.FinSet nat_cmp → Difference AckRow → Difference AckRow → Type 0
SetsExtend sub was now old new d e = (olds : List (ℕ × ℕ)) × (news : List (ℕ × ℕ)) × AreRangesOf old olds × AreRangesOf new news × ExtendsByRuns sub was now olds news d e

pub acks_go : (was now : ℕ) (sub : KeptPlaces) (none : set.FinSet nat_cmp) (d e : Difference AckRow) → none ≡ set.empty → SetsExtend sub.name was now sub.acknowledged none d e
    → (olds news : List KeptPlaces) → AcksDiffer was now olds news d → AcksDiffer was now (olds ++ sub ∷ []) (news ++ []) e
acks_go was now sub none d e empty h olds news first =
    let nothing : h.1 ≡ [] = no_runs h.1 (subst (λ s. AreRangesOf s h.1) empty h.3) in
    acks_more was now olds news (sub ∷ []) [] d e first (λ topic rows are. (
      [],
      refl,
      λ before after first_ones.
          subst (λ l. IsDifference (before ++ l) (after ++ []) (map (ack_cells topic) e.gone.items) (map (ack_cells topic) e.news.items)) (sym (rows_of_one topic was sub h.0 rows h.2 are))
          (subst (λ l. IsDifference (before ++ map (ack_row topic sub.name was) h.0) (after ++ map (ack_row topic sub.name now) l) (map (ack_cells topic) e.gone.items) (map (ack_cells topic) e.news.items)) nothing (h.4 topic before after first_ones)),
    ))

pub acks_come : (was now : ℕ) (sub : KeptPlaces) (none : set.FinSet nat_cmp) (d e : Difference AckRow) → none ≡ set.empty → SetsExtend sub.name was now none sub.acknowledged d e
    → (olds news : List KeptPlaces) → AcksDiffer was now olds news d → AcksDiffer was now (olds ++ []) (news ++ sub ∷ []) e
acks_come was now sub none d e empty h olds news first =
    let nothing : h.0 ≡ [] = no_runs h.0 (subst (λ s. AreRangesOf s h.0) empty h.2) in
    acks_more was now olds news [] (sub ∷ []) d e first (λ topic rows are. (
      map (ack_row topic sub.name now) h.1,
      one_sub topic now sub h.1 h.3,
      λ before after first_ones.
          subst (λ l. IsDifference (before ++ l) (after ++ map (ack_row topic sub.name now) h.1) (map (ack_cells topic) e.gone.items) (map (ack_cells topic) e.news.items)) (sym are)
          (subst (λ l. IsDifference (before ++ map (ack_row topic sub.name was) l) (after ++ map (ack_row topic sub.name now) h.1) (map (ack_cells topic) e.gone.items) (map (ack_cells topic) e.news.items)) nothing (h.4 topic before after first_ones)),
    ))

pub acks_change : (was now : ℕ) (old new : KeptPlaces) (d e : Difference AckRow) → old.name ≡ new.name → SetsExtend new.name was now old.acknowledged new.acknowledged d e
    → (olds news : List KeptPlaces) → AcksDiffer was now olds news d → AcksDiffer was now (olds ++ old ∷ []) (news ++ new ∷ []) e
acks_change was now old new d e same h olds news first =
    acks_more was now olds news (old ∷ []) (new ∷ []) d e first (λ topic rows are. (
      map (ack_row topic new.name now) h.1,
      one_sub topic now new h.1 h.3,
      λ before after first_ones.
          subst (λ l. IsDifference (before ++ l) (after ++ map (ack_row topic new.name now) h.1) (map (ack_cells topic) e.gone.items) (map (ack_cells topic) e.news.items))
          (sym (rows_of_one topic was old h.0 rows h.2 are ∙ ap (λ name. map (ack_row topic name was) h.0) same)) (h.4 topic before after first_ones),
    ))

pub no_acks : (was now : ℕ) (d : Difference AckRow) → d.gone.items ≡ [] → d.news.items ≡ [] → AcksDiffer was now [] [] d
no_acks was now d gone news topic rows are = ([], refl, rw (are, gone, news) (difference-none []))
