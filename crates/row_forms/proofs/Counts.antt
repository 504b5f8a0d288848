-- Rows of messages that were redelivered.
use Rattle.std.proofs.Common.{◌≡◌, ℕ, List, [], ◌∷◌, ◌++◌, map, refl, ap, sym, ◌∙◌, subst, append-nil, Bor}
use Rattle.std.specs.Prelude.{IsTrue}
use Rattle.std.specs.FinMap as map_of
use Rattle.std.specs.List.{All, AllByRecursion}
use Rattle.std.proofs.lemmas.Grind.{flat_map-append}
use Rattle.std.proofs.lemmas.List.{map-append}
use Rattle.std.proofs.lemmas.List.Elements.{All-from_recursion, recursion_from_All}
use Rattle.position_core.specs.declared.position.Position.{Position}
use Rattle.position_core.specs.Position.{positions_total}
use Rattle.delivery_machine.specs.declared.counts.Counted.{Counted}
use Rattle.delivery_machine.specs.Places.{KeptPlaces, KeptTopic, MayRestart, kept_in}
use Rattle.delivery_machine.specs.WellFormed.{IsSoundSubscription, has_message}
use Rattle.row_forms.specs.declared.change.CountRow.{CountRow}
use Rattle.row_forms.specs.declared.change.Difference.{Difference}
use Rattle.row_forms.specs.declared.side.Side.{Side}
use Rattle.row_forms.specs.declared.side.Side.TheVariants.{Gone, New, Both}
use Rattle.row_forms.specs.Changes.{IsDifference, count_cells}
use Rattle.row_forms.specs.Forms.{Span, count_row, count_rows, place_in}
use Rattle.row_forms.specs.Places.{number_of}
use Rattle.row_forms.specs.Parts.{AreCountedIn, ExtendsByCounts, ExtendsByEntries, IsCountedIn, IsLater, IsRising}
use Rattle.row_forms.specs.Sides.{new_of, old_of}
use Rattle.row_forms.proofs.Differences.{IsJoined, extends-append, extends_in_all, nothing_more}
use Rattle.row_forms.proofs.MapEntries.{all_entries}
use Rattle.row_forms.proofs.PlacesIn.{place_stays}

-- a message and how often it was redelivered
abbrev pub entry_of : Counted → Position × ℕ
entry_of counted = (counted.position, counted.times)

-- ---- a count's row

pub count_is : (row : CountRow) (sub : List ℕ) (log : Span) (counted : Position × ℕ) → row.sub ≡ sub → number_of row.place ≡ place_in log counted.0 → row.times ≡ counted.1 → (topic : List ℕ) → count_cells topic row ≡ count_row topic sub log counted
count_is row sub log counted name place times topic = rw (name, place, times) refl

-- a message of both logs that is counted as often has the same row
pub count_same : (sub : List ℕ) (was log : Span) (old new : Position × ℕ) → IsRising was.log → IsRising log.log → IsLater was log → IsCountedIn was.log old → IsCountedIn log.log new → old.0 ≡ new.0 → old.1 ≡ new.1
    → (topic : List ℕ) → count_row topic sub was old ≡ count_row topic sub log new
count_same sub was log old new rising after later there here position times topic =
    let now : IsCountedIn log.log old = subst (λ (p : Position). IsTrue (has_message log.log p)) (sym position) here in
    rw (← position, ← times, place_stays was log old.0 rising after later there now) refl

-- ---- the parts of a walk

-- what holds of all holds of what comes next
pub all_next : {A : Type 0} (P : A → Type 0) (all before left next rest : List A) → before ++ left ≡ all → next ++ rest ≡ left → All P all → All P next
all_next {A} P all before left next rest whole is holds =
    All-from_recursion P next (first next (second before (recursion_from_All P (before ++ (next ++ rest)) (subst (All P) (sym (ap (λ l. before ++ l) is ∙ whole)) holds))))
  where
    second : (xs : List A) → AllByRecursion P (xs ++ (next ++ rest)) → AllByRecursion P (next ++ rest)
    second [] both = both
    second (x ∷ xs) both = second xs both.1

    first : (xs : List A) → AllByRecursion P (xs ++ rest) → AllByRecursion P xs
    first [] both = tt
    first (x ∷ xs) both = (both.0, first xs both.1)

-- the parts of a list, as they are seen
pub seen_parts : {A B : Type 0} (f : A → B) (all before left : List A) → before ++ left ≡ all → map f before ++ map f left ≡ map f all
seen_parts f all before left whole = sym (map-append f before left) ∙ ap (map f) whole

pub old_entries : (side : Side (Bor Counted)) → map entry_of (old_of (λ x. x.now) side) ≡ old_of (λ c. (c.now.position, c.now.times)) side
old_entries (Gone old) = refl
old_entries (New new) = refl
old_entries (Both old new) = refl

pub new_entries : (side : Side (Bor Counted)) → map entry_of (new_of (λ x. x.now) side) ≡ new_of (λ c. (c.now.position, c.now.times)) side
new_entries (Gone old) = refl
new_entries (New new) = refl
new_entries (Both old new) = refl

-- ---- one after another

module _ (sub : List ℕ) (was log : Span) where
  pub no_entry_more : (d : Difference CountRow) → ExtendsByEntries sub was log [] [] d d
  no_entry_more d = nothing_more count_cells (λ topic. map (count_row topic sub was)) (λ topic. map (count_row topic sub log)) d (λ topic. refl) (λ topic. refl)

  pub entries-append : (d e f : Difference CountRow) (olds news olds2 news2 : List (Position × ℕ)) → ExtendsByEntries sub was log olds news d e → ExtendsByEntries sub was log olds2 news2 e f
      → ExtendsByEntries sub was log (olds ++ olds2) (news ++ news2) d f
  entries-append = extends-append count_cells (λ topic. map (count_row topic sub was)) (λ topic. map (count_row topic sub log)) (λ topic. map-append (count_row topic sub was)) (λ topic. map-append (count_row topic sub log))

pub counts_joined : (log : Span) → IsJoined (λ topic. count_rows topic log)
counts_joined log topic first second = flat_map-append (λ (sub : KeptPlaces). map (count_row topic sub.name log) (map_of.entries sub.counts)) first second

module _ (was log : Span) where
  pub no_count_more : (d : Difference CountRow) → ExtendsByCounts was log [] [] d d
  no_count_more d = nothing_more count_cells (λ topic. count_rows topic was) (λ topic. count_rows topic log) d (λ topic. refl) (λ topic. refl)

  pub counts-append : (d e f : Difference CountRow) (olds news olds2 news2 : List KeptPlaces) → ExtendsByCounts was log olds news d e → ExtendsByCounts was log olds2 news2 e f
      → ExtendsByCounts was log (olds ++ olds2) (news ++ news2) d f
  counts-append = extends-append count_cells (λ topic. count_rows topic was) (λ topic. count_rows topic log) (counts_joined was) (counts_joined log)

  pub counts_in_all : (d e : Difference CountRow) (all others olds news : List KeptPlaces) → d.gone.items ≡ [] → d.news.items ≡ [] → olds ≡ all → news ≡ others → ExtendsByCounts was log olds news d e
      → (topic : List ℕ) → IsDifference (count_rows topic was all) (count_rows topic log others) (map (count_cells topic) e.gone.items) (map (count_cells topic) e.news.items)
  counts_in_all = extends_in_all count_cells (λ topic. count_rows topic was) (λ topic. count_rows topic log)

  -- the counts of one subscription, or of two of one name, are those of the subscription alone
  pub counts_go : (sub : KeptPlaces) (d e : Difference CountRow) → ExtendsByEntries sub.name was log (map_of.entries sub.counts) [] d e → ExtendsByCounts was log (sub ∷ []) [] d e
  counts_go sub d e h topic rows others first =
      rw (append-nil (map (count_row topic sub.name was) (map_of.entries sub.counts))) (h topic rows others first)

  pub counts_come : (sub : KeptPlaces) (d e : Difference CountRow) → ExtendsByEntries sub.name was log [] (map_of.entries sub.counts) d e → ExtendsByCounts was log [] (sub ∷ []) d e
  counts_come sub d e h topic rows others first =
      rw (append-nil (map (count_row topic sub.name log) (map_of.entries sub.counts))) (h topic rows others first)

  pub counts_change : (old new : KeptPlaces) (d e : Difference CountRow) → old.name ≡ new.name → ExtendsByEntries new.name was log (map_of.entries old.counts) (map_of.entries new.counts) d e → ExtendsByCounts was log (old ∷ []) (new ∷ []) d e
  counts_change old new d e same h topic rows others first =
      rw (same, append-nil (map (count_row topic new.name was) (map_of.entries old.counts)), append-nil (map (count_row topic new.name log) (map_of.entries new.counts))) (h topic rows others first)

-- ---- what a snapshot counts

-- each message that is counted is one of the log
pub counted_in : (kept : KeptTopic) → MayRestart kept → All (AreCountedIn kept.log) kept.subscriptions
counted_in kept may = All-from_recursion (AreCountedIn kept.log) kept.subscriptions (each kept.subscriptions (recursion_from_All (IsSoundSubscription kept.log) (map (kept_in kept.log) kept.subscriptions) may.sound.subscriptions))
  where
    each : (subs : List KeptPlaces) → AllByRecursion (IsSoundSubscription kept.log) (map (kept_in kept.log) subs) → AllByRecursion (AreCountedIn kept.log) subs
    each [] sound = tt
    each (sub ∷ subs) sound = (all_entries positions_total (λ position times. IsCountedIn kept.log (position, times)) sub.counts (λ position times is. (sound.0.counted position times is).message), each subs sound.1)

pub rising_in : (kept : KeptTopic) → MayRestart kept → IsRising kept.log
rising_in kept may = may.sound.log.positions
