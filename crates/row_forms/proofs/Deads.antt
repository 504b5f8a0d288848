-- Rows of dead letters.
use Rattle.std.proofs.Common.{◌≡◌, ℕ, List, [], ◌∷◌, ◌++◌, map, refl, append-nil}
use Rattle.std.proofs.lemmas.Grind.{flat_map-append}
use Rattle.std.proofs.lemmas.List.{map-append}
use Rattle.position_core.specs.declared.message.Entry.{Entry}
use Rattle.delivery_machine.specs.State.{DeadLetter}
use Rattle.delivery_machine.specs.Places.{KeptPlaces}
use Rattle.std.specs.Prelude.{string_bytes}
use Rattle.position_core.specs.TopicName.{topic_text}
use Rattle.row_forms.specs.declared.change.DeadRow.{DeadRow}
use Rattle.row_forms.specs.declared.change.Difference.{Difference}
use Rattle.row_forms.specs.Changes.{IsDifference, dead_cells}
use Rattle.row_forms.specs.Forms.{Span, dead_row, dead_rows, place_in}
use Rattle.row_forms.specs.Places.{number_of}
use Rattle.row_forms.specs.Parts.{ExtendsByDeads, ExtendsByLetters, IsSameLetter}
use Rattle.row_forms.proofs.Differences.{IsJoined, extends-append, extends_in_all, nothing_more}

pub letter_is : (row : DeadRow) (sub : List ℕ) (log : Span) (d : DeadLetter) → row.sub ≡ sub → row.ordinal ≡ d.ordinal → number_of row.place ≡ place_in log d.position → string_bytes row.target ≡ topic_text d.target
    → (topic : List ℕ) → dead_cells topic row ≡ dead_row topic sub log d
letter_is row sub log d name ordinal place target topic = rw (name, ordinal, place, target) refl

pub letter_same : (sub : List ℕ) (was log : Span) (old new : DeadLetter) → IsSameLetter was log old new → (topic : List ℕ) → dead_row topic sub was old ≡ dead_row topic sub log new
letter_same sub was log old new same topic = rw (same.ordinal, same.place, same.target) refl

module _ (sub : List ℕ) (was log : Span) where
  pub no_letter_more : (d : Difference DeadRow) → ExtendsByLetters sub was log [] [] d d
  no_letter_more d = nothing_more dead_cells (λ topic. map (dead_row topic sub was)) (λ topic. map (dead_row topic sub log)) d (λ topic. refl) (λ topic. refl)

  pub letters-append : (d e f : Difference DeadRow) (olds news olds2 news2 : List DeadLetter) → ExtendsByLetters sub was log olds news d e → ExtendsByLetters sub was log olds2 news2 e f
      → ExtendsByLetters sub was log (olds ++ olds2) (news ++ news2) d f
  letters-append = extends-append dead_cells (λ topic. map (dead_row topic sub was)) (λ topic. map (dead_row topic sub log)) (λ topic. map-append (dead_row topic sub was)) (λ topic. map-append (dead_row topic sub log))

pub rows-append : (log : Span) → IsJoined (λ topic. dead_rows topic log)
rows-append log topic first second = flat_map-append (λ (sub : KeptPlaces). map (dead_row topic sub.name log) sub.dead) first second

module _ (was log : Span) where
  pub no_dead_more : (d : Difference DeadRow) → ExtendsByDeads was log [] [] d d
  no_dead_more d = nothing_more dead_cells (λ topic. dead_rows topic was) (λ topic. dead_rows topic log) d (λ topic. refl) (λ topic. refl)

  pub deads-append : (d e f : Difference DeadRow) (olds news olds2 news2 : List KeptPlaces) → ExtendsByDeads was log olds news d e → ExtendsByDeads was log olds2 news2 e f
      → ExtendsByDeads was log (olds ++ olds2) (news ++ news2) d f
  deads-append = extends-append dead_cells (λ topic. dead_rows topic was) (λ topic. dead_rows topic log) (rows-append was) (rows-append log)

  pub deads_in_all : (d e : Difference DeadRow) (all others olds news : List KeptPlaces) → d.gone.items ≡ [] → d.news.items ≡ [] → olds ≡ all → news ≡ others → ExtendsByDeads was log olds news d e
      → (topic : List ℕ) → IsDifference (dead_rows topic was all) (dead_rows topic log others) (map (dead_cells topic) e.gone.items) (map (dead_cells topic) e.news.items)
  deads_in_all = extends_in_all dead_cells (λ topic. dead_rows topic was) (λ topic. dead_rows topic log)

  -- the dead letters of one subscription, or of two of one name, are those of the subscription alone
  pub deads_go : (sub : KeptPlaces) (d e : Difference DeadRow) → ExtendsByLetters sub.name was log sub.dead [] d e → ExtendsByDeads was log (sub ∷ []) [] d e
  deads_go sub d e h topic rows others first =
      rw (append-nil (map (dead_row topic sub.name was) sub.dead)) (h topic rows others first)

  pub deads_come : (sub : KeptPlaces) (d e : Difference DeadRow) → ExtendsByLetters sub.name was log [] sub.dead d e → ExtendsByDeads was log [] (sub ∷ []) d e
  deads_come sub d e h topic rows others first =
      rw (append-nil (map (dead_row topic sub.name log) sub.dead)) (h topic rows others first)

  pub deads_change : (old new : KeptPlaces) (d e : Difference DeadRow) → old.name ≡ new.name → ExtendsByLetters new.name was log old.dead new.dead d e → ExtendsByDeads was log (old ∷ []) (new ∷ []) d e
  deads_change old new d e same h topic rows others first =
      rw (same, append-nil (map (dead_row topic new.name was) old.dead), append-nil (map (dead_row topic new.name log) new.dead)) (h topic rows others first)
