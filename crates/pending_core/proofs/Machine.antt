-- What the map does, in the words of the delivery machine.
use Rattle.std.proofs.Common.{◌≡◌, ℕ, Bool, true, false, cond, [], ◌∷◌, sym, ap, ◌∙◌}
use Rattle.std.specs.FinMap as map_of
use Rattle.position_core.specs.declared.position.Position.{Position}
use Rattle.position_core.specs.Position.{position_cmp}
use Rattle.delivery_machine.specs.State.{Subscription, DeadLetter}
use Rattle.delivery_machine.specs.Acknowledging.{acknowledging}
use Rattle.delivery_machine.specs.Dying.{burying}
use Rattle.delivery_machine.specs.Ticking.{redelivering}
use Rattle.delivery_machine.proofs.Retained.{removed_one}
use Rattle.pending_core.specs.Pending.{Pending, without, IsPendingOf, CountedAndReleased}

pub acknowledged_one : (s new : Pending) (position : Position) → new ≡ without position s → (sub : Subscription) → IsPendingOf s sub → IsPendingOf new (acknowledging (position ∷ []) sub)
acknowledged_one s new position is sub agrees = (
  sym (removed_one sub.pending position) ∙ ap (λ m. map_of.remove m position) agrees.0 ∙ sym (ap (λ (p : Pending). p.pending) is),
  sym (removed_one sub.counts position) ∙ ap (λ m. map_of.remove m position) agrees.1 ∙ sym (ap (λ (p : Pending). p.counts) is),
)

pub dead_one : (s new : Pending) (position : Position) → new ≡ without position s → (letter : DeadLetter) (sub : Subscription) → letter.position ≡ position → IsPendingOf s sub → IsPendingOf new (burying letter sub)
dead_one s new position is letter sub at agrees =
    acknowledged_one s new letter.position (is ∙ ap (λ (p : Position). without p s) (sym at)) sub agrees

pub counted : CountedAndReleased
counted s sub position there agrees = (
  sym (removed_one sub.pending position) ∙ ap (λ m. map_of.remove m position) (agrees.0 ∙ by (map_of.contains_key s.pending position)),
  ap (λ m. counts_more m) agrees.1 ∙ ap (λ t. (chosen t).counts) (sym there),
)
  where
    counts_more : map_of.FinMap position_cmp ℕ → map_of.FinMap position_cmp ℕ
    counts_more m = (redelivering (position ∷ []) (record sub { counts = m })).counts

    chosen : Bool → Pending
    chosen t = cond t (record s { counts = counts_more s.counts }) s

    by : (t : Bool) → s.pending ≡ (chosen t).pending
    by true = λ _. s.pending
    by false = λ _. s.pending
