-- Which pairs of a Key_Shared subscription are eligible.
use Rattle.std.proofs.Common.{◌≡◌, ℕ, ◌<◌, ◌≤◌, ◌∙◌, true, Some, None, get_or, length, refl, sym, ap, subst, arith, inl, inr}
use Rattle.std.specs.Prelude.{◌==◌}
use Rattle.std.specs.List.{find}
use Rattle.std.proofs.lemmas.Bool.{cases_lt, false_from_ne_true, eq-eqb, eqb-true, and_parts, and_from}
use Rattle.std.proofs.lemmas.List.Recursion.{found_at}
use Rattle.std.proofs.lemmas.Option.{slice_get_cases}
use Rattle.position_core.specs.declared.kind.Kind.{Kind}
use Rattle.position_core.specs.declared.kind.Kind.TheVariants.{KeyShared}
use Rattle.position_core.specs.declared.message.Entry.{Entry}
use Rattle.delivery_machine.specs.State.{State, Subscription}
use Rattle.delivery_machine.specs.Words.{is_waiting, hash_of, waits_with_hash, visible, ChoosesBy, IsNextOfItsHash, NoneEligible}
use Rattle.dispatch_core.specs.Log.{IsReadyAt, IsNextReady, NoneReady}
use Rattle.dispatch_core.specs.Offers.{IsGoodOffer}
use Rattle.dispatch_core.proofs.Ready.{waits_at-visible}
use Rattle.hash_rows.specs.Hashes.{hash_at}
use Rattle.dispatch_keyed.specs.Hashes.{MayTake, IsFreeFor, NoneFreeBefore}
use Rattle.delivery_machine.proofs.Firsts.{found_somewhere}
use Rattle.dispatch_keyed.proofs.Owners.{hash_at-visible}

-- ---- as the waiting messages are gone through

pub none_ready_past : (s : State) (sub : Subscription) (from : ℕ) → length (visible s) ≤ from → NoneReady s sub from
none_ready_past s sub from past k after ready = omega (arith, ready.seen)

-- ---- eligible pairs

-- no earlier message of its hash waits
abbrev pub IsFirstOfItsHash : State → Subscription → ℕ → Type 0
IsFirstOfItsHash s sub i = IsReadyAt s sub i × ((k : ℕ) → k < i → IsReadyAt s sub k → hash_at s k ≡ hash_at s i → ⊥)

first_of_hash : (s : State) (sub : Subscription) (i : ℕ) (e : Entry) → IsFirstOfItsHash s sub i → i < length (visible s) → get_or (visible s) i e ≡ e → find (waits_with_hash sub (hash_of e)) (visible s) ≡ Some e
first_of_hash s sub i e first seen there =
    found_at (find (waits_with_hash sub (hash_of e))) (waits_with_hash sub (hash_of e)) Some None refl (λ _ _. refl) (visible s) i e seen
    (λ k below. false_from_ne_true _ (λ passes. not_before k below (omega arith) (and_parts (is_waiting sub (get_or (visible s) k e)) (hash_of (get_or (visible s) k e) == hash_of e) passes)))
    (ap (waits_with_hash sub (hash_of e)) there ∙ and_from (is_waiting sub e) (hash_of e == hash_of e) waits (eq-eqb (hash_of e) (hash_of e) refl))
    ∙ ap Some there
  where
    waits : is_waiting sub e ≡ true
    waits = ap (is_waiting sub) (sym there) ∙ sym (waits_at-visible s sub i e seen) ∙ first.0.waits

    not_before : (k : ℕ) → k < i → k < length (visible s) → (is_waiting sub (get_or (visible s) k e) ≡ true) × ((hash_of (get_or (visible s) k e) == hash_of e) ≡ true) → ⊥
    not_before k below within passes =
        first.1 k below (record { seen = within; waits = waits_at-visible s sub k e within ∙ passes.0 })
        (hash_at-visible s k e within ∙ eqb-true _ _ passes.1 ∙ sym (hash_at-visible s i e seen ∙ ap hash_of there))

-- the first of its hash may be sent to the owner
pub good_first : (s : State) (sub : Subscription) (i consumer : ℕ) → sub.kind ≡ KeyShared → IsFirstOfItsHash s sub i → IsFreeFor s sub (hash_at s i) consumer → IsGoodOffer s sub (record { index = i; consumer = consumer })
good_first s sub i consumer kind first free =
    elim (slice_get_cases (visible s) i).1 [
      | inl at ↦
          let take : MayTake s sub (hash_of at.0) free.0 =
          subst (λ (h : ℕ). MayTake s sub h free.0) (hash_at-visible s i at.0 at.1 ∙ ap hash_of at.3) free.2 in record {
            message = at.0;
            member = free.0;
            found = at.2;
            number = free.1;
            eligible = (
              take.room,
              subst (λ (k : Kind). ChoosesBy k s sub at.0 free.0) (sym kind) (first_of_hash s sub i at.0 first at.1 at.3, take.owner, take.still),
            );
          }
      | inr past ↦ absurd (omega (arith, past.0, first.0.seen))
    ]

-- the next message that waits, where none of the earlier ones may be sent
pub good_offer : (s : State) (sub : Subscription) (from i consumer : ℕ) → sub.kind ≡ KeyShared → IsNextReady s sub from i → NoneFreeBefore s sub from → IsFreeFor s sub (hash_at s i) consumer → IsGoodOffer s sub (record { index = i; consumer = consumer })
good_offer s sub from i consumer kind next none free = good_first s sub i consumer kind (next.ready, earlier) free
  where
    earlier : (k : ℕ) → k < i → IsReadyAt s sub k → hash_at s k ≡ hash_at s i → ⊥
    earlier k below ready same = elim (cases_lt k from) [
      | inl sooner ↦ none k sooner ready free.0 (subst (λ (h : ℕ). MayTake s sub h free.0) (sym same) free.2)
      | inr later ↦ omega (arith, below, next.least k later ready)
    ]

-- no message waits any more
pub none_eligible : (s : State) (sub : Subscription) (from : ℕ) → sub.kind ≡ KeyShared → NoneReady s sub from → NoneFreeBefore s sub from → NoneEligible s sub
none_eligible s sub from kind none before e m pair =
    let chosen : IsNextOfItsHash s sub e m = subst (λ (k : Kind). ChoosesBy k s sub e m) kind pair.1 in
    let at = found_somewhere (waits_with_hash sub (hash_of e)) (visible s) e chosen.0 in
    let waits : is_waiting sub e ≡ true = (and_parts (is_waiting sub e) (hash_of e == hash_of e) at.3).0 in
    let ready : IsReadyAt s sub at.0 =
    record { seen = at.1; waits = waits_at-visible s sub at.0 e at.1 ∙ ap (is_waiting sub) at.2 ∙ waits } in
    let hash : hash_of e ≡ hash_at s at.0 = sym (hash_at-visible s at.0 e at.1 ∙ ap hash_of at.2) in
    elim (cases_lt at.0 from) [
      | inl earlier ↦ before at.0 earlier ready m (subst (λ (h : ℕ). MayTake s sub h m) hash (record { owner = chosen.1; room = pair.0; still = chosen.2 }))
      | inr later ↦ none at.0 later ready
    ]
