-- Each dispatcher of a topic is told of a change that is everyone's, one after another.
use Rattle.std.proofs.Common.{◌≡◌, ℕ, ◌+◌, ◌<◌, ◌≤◌, List, Some, set, length, inl, inr, sym, ◌∙◌, subst, arith}
use Rattle.std.specs.Prelude.{slice_get}
use Rattle.std.proofs.lemmas.Bool.{cases_eq}
use Rattle.std.proofs.lemmas.List.{length-set}
use Rattle.std.proofs.lemmas.Option.{slice_get_within, same_Some}
use Rattle.delivery_machine.specs.State.{State, Subscription}
use Rattle.topic_served.specs.declared.dispatch.Dispatch.{Dispatch}
use Rattle.topic_served.specs.Agreeing.{agrees}
use Rattle.topic_served.specs.Told.{AreTold, IsToldAt}
use Rattle.topic_served.proofs.Spots.{set_at, set_other}

-- the first n were told, and agree with the topic after the change, and the others with it before
pub record AreToldTo (n : ℕ) (ds : List Dispatch) (s t : State) : Type 0 where
  pub many : length ds ≡ length t.subscriptions
  pub same : length t.subscriptions ≡ length s.subscriptions
  pub told : (k : ℕ) (d : Dispatch) (new : Subscription) → k < n → slice_get ds k ≡ Some d → slice_get t.subscriptions k ≡ Some new → agrees d t new
  pub others : (k : ℕ) (d : Dispatch) (sub : Subscription) → n ≤ k → slice_get ds k ≡ Some d → slice_get s.subscriptions k ≡ Some sub → agrees d s sub

module _ (s t : State) where
  pub told_to_none : (ds : List Dispatch) → AreTold ds s → length t.subscriptions ≡ length s.subscriptions → AreToldTo 0 ds s t
  told_to_none ds told same = record {
    many = told.many ∙ sym same;
    same = same;
    told = λ k d new low. absurd (omega (arith, low));
    others = λ k d sub _. told.each k d sub;
  }

  pub told_to_next : (n : ℕ) (Changes : State → Subscription → State → Subscription → Type 0) (ds after : List Dispatch) (sub new : Subscription) → slice_get s.subscriptions n ≡ Some sub → slice_get t.subscriptions n ≡ Some new → Changes s sub t new → IsToldAt n Changes ds after t new → AreToldTo n ds s t → AreToldTo (n + 1) after s t
  told_to_next n Changes ds after sub new was is change tell to =
      subst (λ (xs : List Dispatch). AreToldTo (n + 1) xs s t) (sym tell.is) (record {
        many = length-set ds n tell.told ∙ to.many;
        same = to.same;
        told = λ k d other low at there. elim (cases_eq k n) [
          | inr apart ↦ to.told k d other (omega (arith, low, apart)) (sym (set_other ds n k tell.told apart) ∙ at) there
          | inl here ↦
              let told_is : tell.told ≡ d = same_Some tell.told d (sym (set_at ds n tell.told within) ∙ subst (λ (j : ℕ). slice_get (set ds n tell.told) j ≡ Some d) here at) in
              let new_is : new ≡ other = same_Some new other (sym is ∙ subst (λ (j : ℕ). slice_get t.subscriptions j ≡ Some other) here there) in
              subst (λ (x : Dispatch). agrees x t other) told_is (subst (λ (x : Subscription). agrees tell.told t x) new_is agreeing)
        ];
        others = λ k d other past at there. to.others k d other (omega (arith, past)) (sym (set_other ds n k tell.told (λ here. omega (arith, here, past))) ∙ at) there;
      })
    where
      within : n < length ds
      within = slice_get_within ds n tell.old tell.was

      agreeing : agrees tell.told t new
      agreeing = tell.agreeing s sub change (to.others n tell.old sub (omega arith) tell.was was)

  pub told_to_all : (n : ℕ) (ds : List Dispatch) → length t.subscriptions ≤ n → AreToldTo n ds s t → AreTold ds t
  told_to_all n ds all to = record {
    many = to.many;
    each = λ k d new at is. to.told k d new (omega (arith, slice_get_within t.subscriptions k new is, all)) at is;
  }
