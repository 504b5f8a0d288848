-- The dispatchers of a topic agree with it after a change, where those were told that had to be.
use Rattle.std.proofs.Common.{◌≡◌, ℕ, zero, suc, ◌<◌, ◌≤◌, List, [], Some, set, length, inl, inr, refl, subst, sym, ◌∙◌, arith}
use Rattle.std.specs.Prelude.{◌≢◌, slice_get}
use Rattle.std.specs.List.{insert, remove}
use Rattle.std.proofs.lemmas.Bool.{cases_eq, cases_lt}
use Rattle.std.proofs.lemmas.List.{length-set}
use Rattle.std.proofs.lemmas.List.Edits.{length-insert, length-remove}
use Rattle.std.proofs.lemmas.Option.{slice_get_within, same_Some}
use Rattle.position_core.specs.declared.topic_name.TopicName.{TopicName}
use Rattle.delivery_machine.specs.State.{State, Subscription, fresh}
use Rattle.dispatch_core.specs.Changes.{Appended, TakenBack}
use Rattle.topic_served.specs.declared.dispatch.Dispatch.{Dispatch}
use Rattle.topic_served.specs.Agreeing.{agrees}
use Rattle.topic_served.specs.Happening.{AllKept, OthersKept, HappensAt, ComesAt, GoesAt}
use Rattle.topic_served.specs.Told.{AreTold, IsToldAt}
use Rattle.topic_served.proofs.Keeping.{agrees-kept, agrees-appended, agrees-taken_back}
use Rattle.topic_served.proofs.Spots.{set_at, set_other, inserted_at, inserted_before, inserted_after, removed_before, removed_after, there}

one_there : {A : Type 0} (xs : List A) (i : ℕ) (x y : A) → slice_get xs i ≡ Some x → slice_get xs i ≡ Some y → x ≡ y
one_there xs i x y at_x at_y = same_Some x y (sym at_x ∙ at_y)

module _ (ds : List Dispatch) (s t : State) (told : AreTold ds s) where
  -- each dispatcher agrees with the topic as it was
  agreed : (k : ℕ) (d : Dispatch) → slice_get ds k ≡ Some d → (sub : Subscription) × (slice_get s.subscriptions k ≡ Some sub) × agrees d s sub
  agreed k d at =
      let here = there s.subscriptions k (omega (arith, told.many, slice_get_within ds k d at)) in
      (here.0, here.1, told.each k d here.0 at here.1)

  pub told_kept : AllKept s t → AreTold ds t
  told_kept kept = record {
    many = told.many ∙ sym kept.many;
    each = λ k d new at is.
        let was = agreed k d at in
        agrees-kept s was.0 t new d (kept.each k was.0 new was.1 is) was.2;
  }

  -- where one was told of the change, or begins anew
  pub told_at : (i : ℕ) (d : Dispatch) (new : Subscription) → OthersKept i s t → i < length ds → slice_get t.subscriptions i ≡ Some new → agrees d t new → AreTold (set ds i d) t
  told_at i d new others within is agrees_now = record {
    many = length-set ds i d ∙ told.many ∙ sym others.many;
    each = λ k x sub at here. elim (cases_eq k i) [
      | inl same ↦ one k x sub same at here
      | inr other ↦
          let before : slice_get ds k ≡ Some x = sym (set_other ds i k d other) ∙ at in
          let was = agreed k x before in
          agrees-kept s was.0 t sub x (others.each k was.0 sub other was.1 here) was.2
    ];
  }
    where
      one : (k : ℕ) (x : Dispatch) (sub : Subscription) → k ≡ i → slice_get (set ds i d) k ≡ Some x → slice_get t.subscriptions k ≡ Some sub → agrees x t sub
      one k x sub same at here =
          let at_i : slice_get (set ds i d) i ≡ Some x = subst (λ (n : ℕ). slice_get (set ds i d) n ≡ Some x) same at in
          let here_i : slice_get t.subscriptions i ≡ Some sub = subst (λ (n : ℕ). slice_get t.subscriptions n ≡ Some sub) same here in
          let is_d : d ≡ x = one_there (set ds i d) i d x (set_at ds i d within) at_i in
          let is_new : new ≡ sub = one_there t.subscriptions i new sub is here_i in
          subst (λ (y : Dispatch). agrees y t sub) is_d (subst (λ (z : Subscription). agrees d t z) is_new agrees_now)

  pub told_inserted : (i : ℕ) (d : Dispatch) (new : Subscription) → ComesAt i s t new → agrees d t new → AreTold (insert ds i d) t
  told_inserted i d new comes agrees_now =
      let low : i ≤ length ds = omega (arith, comes.within, told.many) in
      record {
        many = omega (arith, length-insert ds i d low, comes.many, told.many);
        each = λ k x sub at here. elim (cases_lt k i) [
          | inl before ↦
              let was = agreed k x (sym (inserted_before ds i k d before low) ∙ at) in
              agrees-kept s was.0 t sub x (comes.before k was.0 sub before was.1 here) was.2
          | inr past ↦ from low k x sub past at here
        ];
      }
    where
      from : i ≤ length ds → (k : ℕ) (x : Dispatch) (sub : Subscription) → i ≤ k → slice_get (insert ds i d) k ≡ Some x → slice_get t.subscriptions k ≡ Some sub → agrees x t sub
      from low k x sub past at here = elim (cases_eq k i) [
        | inl same ↦
            let at_i : slice_get (insert ds i d) i ≡ Some x = subst (λ (n : ℕ). slice_get (insert ds i d) n ≡ Some x) same at in
            let here_i : slice_get t.subscriptions i ≡ Some sub = subst (λ (n : ℕ). slice_get t.subscriptions n ≡ Some sub) same here in
            let is_d : d ≡ x = one_there (insert ds i d) i d x (inserted_at ds i d low) at_i in
            let is_new : new ≡ sub = one_there t.subscriptions i new sub comes.is here_i in
            subst (λ (y : Dispatch). agrees y t sub) is_d (subst (λ (z : Subscription). agrees d t z) is_new agrees_now)
        | inr other ↦ behind low k x sub past other at here
      ]
        where
          behind : i ≤ length ds → (k : ℕ) (x : Dispatch) (sub : Subscription) → i ≤ k → k ≢ i → slice_get (insert ds i d) k ≡ Some x → slice_get t.subscriptions k ≡ Some sub → agrees x t sub
          behind low zero x sub past other at here = absurd (other (omega arith))
          behind low (suc k) x sub past other at here =
              let after : i ≤ k = omega arith in
              let was = agreed k x (sym (inserted_after ds i k d after low) ∙ at) in
              agrees-kept s was.0 t sub x (comes.after k was.0 sub after was.1 here) was.2

  pub told_removed : (i : ℕ) → GoesAt i s t → AreTold (remove ds i) t
  told_removed i goes =
      let low : i < length ds = omega (arith, goes.within, told.many) in
      record {
        many = omega (arith, length-remove ds i low, goes.many, told.many);
        each = λ k x sub at here. elim (cases_lt k i) [
          | inl before ↦
              let was = agreed k x (sym (removed_before ds i k before low) ∙ at) in
              agrees-kept s was.0 t sub x (goes.before k was.0 sub before was.1 here) was.2
          | inr past ↦
              let was = agreed (suc k) x (sym (removed_after ds i k past low) ∙ at) in
              agrees-kept s was.0 t sub x (goes.after k was.0 sub past was.1 here) was.2
        ];
      }

  -- nobody need be told of a message that is appended, or taken back
  pub told_appended : length t.subscriptions ≡ length s.subscriptions → ((k : ℕ) (sub new : Subscription) → slice_get s.subscriptions k ≡ Some sub → slice_get t.subscriptions k ≡ Some new → Appended s sub t new) → AreTold ds t
  told_appended many each = record {
    many = told.many ∙ sym many;
    each = λ k d new at is.
        let was = agreed k d at in
        agrees-appended s was.0 t new d (each k was.0 new was.1 is) was.2;
  }

  pub told_taken_back : length t.subscriptions ≡ length s.subscriptions → ((k : ℕ) (sub new : Subscription) → slice_get s.subscriptions k ≡ Some sub → slice_get t.subscriptions k ≡ Some new → TakenBack s sub t new) → AreTold ds t
  told_taken_back many each = record {
    many = told.many ∙ sym many;
    each = λ k d new at is.
        let was = agreed k d at in
        agrees-taken_back s was.0 t new d (each k was.0 new was.1 is) was.2;
  }

-- where the one at the place is told of the change of its subscription
pub told_of : (ds after : List Dispatch) (s t : State) (i : ℕ) (Changes : State → Subscription → State → Subscription → Type 0) (sub new : Subscription) → AreTold ds s → HappensAt i Changes s sub t new → IsToldAt i Changes ds after t new → AreTold after t
told_of ds after s t i Changes sub new told happens tell =
    subst (λ (xs : List Dispatch). AreTold xs t) (sym tell.is)
    (told_at ds s t told i tell.told new happens.others (slice_get_within ds i tell.old tell.was) happens.is
    (tell.agreeing s sub happens.change (told.each i tell.old sub tell.was happens.was)))

-- so where the topic is known by another account of it
pub told_as : (ds after : List Dispatch) (s t u : State) (i : ℕ) (Changes : State → Subscription → State → Subscription → Type 0) (sub new seen : Subscription) → AreTold ds s → HappensAt i Changes s sub t new → u ≡ t → slice_get u.subscriptions i ≡ Some seen → IsToldAt i Changes ds after u seen → AreTold after u
told_as ds after s t u i Changes sub new seen told happens same at tell =
    subst (λ (x : State). AreTold after x) (sym same)
    (told_of ds after s t i Changes sub new told happens
    (subst (λ (x : Subscription). IsToldAt i Changes ds after t x) (one_there t.subscriptions i seen new (subst (λ (x : State). slice_get x.subscriptions i ≡ Some seen) same at) happens.is)
    (subst (λ (x : State). IsToldAt i Changes ds after x seen) same tell)))

-- a topic without subscriptions has no dispatchers
pub told_fresh : (name : TopicName) (ledger_size : ℕ) → AreTold [] (fresh name ledger_size)
told_fresh name ledger_size = record { many = refl; each = λ i d sub at is. cc }
