-- A subscription that comes in, goes, or takes another kind.
use Rattle.std.proofs.Common.{◌≡◌, ℕ, suc, ◌+◌, ◌<◌, ◌≤◌, List, Some, length, refl, ap, ◌∙◌, sym, subst, arith}
use Rattle.std.specs.Prelude.{slice_get}
use Rattle.std.specs.List.{position, insert, remove}
use Rattle.std.proofs.lemmas.List.Edits.{length-insert, length-remove}
use Rattle.std.proofs.lemmas.Option.{same_Some}
use Rattle.position_core.specs.declared.kind.Kind.{Kind}
use Rattle.delivery_machine.specs.State.{State, Subscription}
use Rattle.delivery_machine.specs.Words.{is_named}
use Rattle.machine_laws.proofs.Ranks.{KeepsRanks}
use Rattle.dispatch_core.specs.Changes.{Kept}
use Rattle.topic_served.specs.Happening.{ComesAt, GoesAt, OthersKept}
use Rattle.topic_served.specs.Stepping.{of_kind, with_kind}
use Rattle.topic_served.proofs.Seeing.{alike_kept, looks_itself, others_kept, same_line}
use Rattle.topic_served.proofs.Spots.{inserted_at, inserted_before, inserted_after, removed_before, removed_after}

module _ (s t : State) (log : t.log ≡ s.log) (durable : s.durable ≤ t.durable) (ranks : KeepsRanks s.members t.members) where
  -- the same subscription, at either place
  kept_itself : (sub other : Subscription) (j k : ℕ) → slice_get t.subscriptions j ≡ slice_get s.subscriptions k → slice_get s.subscriptions k ≡ Some sub → slice_get t.subscriptions j ≡ Some other → Kept s sub t other
  kept_itself sub other j k same was is =
      subst (λ (x : Subscription). Kept s sub t x) (same_Some sub other (sym was ∙ sym same ∙ is))
      (alike_kept s t sub sub log durable (same_line s t sub sub refl ranks) (looks_itself sub))

  pub comes : (i : ℕ) (new : Subscription) → i ≤ length s.subscriptions → t.subscriptions ≡ insert s.subscriptions i new → ComesAt i s t new
  comes i new within inserted = record {
    within = within;
    many = ap length inserted ∙ length-insert s.subscriptions i new within;
    is = ap (λ (xs : List Subscription). slice_get xs i) inserted ∙ inserted_at s.subscriptions i new within;
    before = λ k sub other low was is. kept_itself sub other k k (ap (λ (xs : List Subscription). slice_get xs k) inserted ∙ inserted_before s.subscriptions i k new low within) was is;
    after = λ k sub other past was is. kept_itself sub other (suc k) k (ap (λ (xs : List Subscription). slice_get xs (suc k)) inserted ∙ inserted_after s.subscriptions i k new past within) was is;
  }

  pub goes : (i : ℕ) → i < length s.subscriptions → t.subscriptions ≡ remove s.subscriptions i → GoesAt i s t
  goes i within taken = record {
    within = within;
    many = ap (λ (xs : List Subscription). length xs + 1) taken ∙ length-remove s.subscriptions i within;
    before = λ k sub other low was is. kept_itself sub other k k (ap (λ (xs : List Subscription). slice_get xs k) taken ∙ removed_before s.subscriptions i k low within) was is;
    after = λ k sub other past was is. kept_itself sub other k (suc k) (ap (λ (xs : List Subscription). slice_get xs k) taken ∙ removed_after s.subscriptions i k past within) was is;
  }

-- where its dispatcher begins anew
pub others_of_kind : (s : State) (name : List ℕ) (i : ℕ) (sub : Subscription) (kind : Kind) → position (is_named name) s.subscriptions ≡ Some i → slice_get s.subscriptions i ≡ Some sub → OthersKept i s (with_kind s name kind)
others_of_kind s name i sub kind place was =
    others_kept s (with_kind s name kind) name (of_kind kind) i sub place was refl refl (omega arith)
    (λ k other _ _. same_line s (with_kind s name kind) other other refl refl)
