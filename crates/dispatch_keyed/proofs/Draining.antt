-- When no message of a hash is pending at another consumer.
use Rattle.std.proofs.Common.{◌≡◌, ℕ, zero, suc, ◌<◌, ◌≤◌, Bool, true, false, not, Option, Some, None, take, length, refl, sym, ap, ◌∙◌, arith, true≢false}
use Rattle.std.specs.Prelude.{◌==◌, ◌&&◌, is_some}
use Rattle.std.specs.List.{list_any}
use Rattle.std.specs.Option.{option_map_or}
use Rattle.std.proofs.Math.Numerals.{add-one}
use Rattle.std.proofs.lemmas.Bool.{eq-eqb, eqb-true, and_parts, and_from, false_from_ne_true}
use Rattle.delivery_machine.specs.State.{State, Subscription}
use Rattle.delivery_machine.specs.Words.{is_draining}
use Rattle.dispatch_core.specs.Log.{holder_at}
use Rattle.hash_rows.specs.Hashes.{hash_at}
use Rattle.dispatch_keyed.specs.Hashes.{drains_at}
use Rattle.dispatch_keyed.proofs.Owners.{drains, drains_more, drains_here, drains_nowhere}

none_among : (s : State) (sub : Subscription) (hash owner n : ℕ) → n ≤ length s.log → ((i : ℕ) → i < length s.log → drains_at s sub hash owner i ≡ false) → list_any (drains sub hash owner) (take n s.log) ≡ false
none_among s sub hash owner zero within none = refl
none_among s sub hash owner (suc n) within none =
    ap (λ (k : ℕ). list_any (drains sub hash owner) (take k s.log)) (sym (add-one n))
    ∙ drains_more s sub hash owner n (omega (arith, within)) (none n (omega (arith, within))) (none_among s sub hash owner n (omega (arith, within)) none)

pub still : (s : State) (sub : Subscription) (hash owner : ℕ) → ((i : ℕ) → i < length s.log → drains_at s sub hash owner i ≡ false) → is_draining s sub hash owner ≡ false
still s sub hash owner none =
    drains_nowhere s sub hash owner (length s.log) (omega arith) (omega arith) (none_among s sub hash owner (length s.log) (omega arith) none)

-- what is pending of the hash is so at the owner
pub at_owner : (s : State) (sub : Subscription) (hash owner i : ℕ) → ((holder : ℕ) → hash_at s i ≡ hash → holder_at s sub i ≡ Some holder → holder ≡ owner) → drains_at s sub hash owner i ≡ false
at_owner s sub hash owner i all = by (holder_at s sub i) refl
  where
    by : (o : Option ℕ) → holder_at s sub i ≡ o → (hash_at s i == hash && option_map_or (λ holder. not (holder == owner)) (holder_at s sub i) false) ≡ false
    by None is = ap (λ (o : Option ℕ). hash_at s i == hash && option_map_or (λ holder. not (holder == owner)) o false) is ∙ and_false (hash_at s i == hash)
      where
        and_false : (b : Bool) → (b && false) ≡ false
        and_false true = refl
        and_false false = refl
    by (Some holder) is = false_from_ne_true _ (λ drains.
        let both = and_parts (hash_at s i == hash) (not (holder == owner)) (sym (ap (λ (o : Option ℕ). hash_at s i == hash && option_map_or (λ holder. not (holder == owner)) o false) is) ∙ drains) in
        let same = all holder (eqb-true (hash_at s i) hash both.0) is in
        true≢false (sym both.1 ∙ ap not (eq-eqb holder owner same)))

pub held_by_owner : (s : State) (sub : Subscription) (hash owner i : ℕ) → is_draining s sub hash owner ≡ false → i < length s.log → hash_at s i ≡ hash → is_some (holder_at s sub i) ≡ true → holder_at s sub i ≡ Some owner
held_by_owner s sub hash owner i not_draining within is held = by (holder_at s sub i) refl held
  where
    by : (o : Option ℕ) → holder_at s sub i ≡ o → is_some o ≡ true → holder_at s sub i ≡ Some owner
    by None _ never = absurd (true≢false (sym never))
    by (Some holder) at _ = at ∙ ap Some (same (holder == owner) refl)
      where
        same : (b : Bool) → (holder == owner) ≡ b → holder ≡ owner
        same true equal = eqb-true holder owner equal
        same false other =
            absurd (true≢false (sym (drains_here s sub hash owner i within
            (and_from (hash_at s i == hash) _ (eq-eqb (hash_at s i) hash is)
            (ap (λ (o : Option ℕ). option_map_or (λ h. not (h == owner)) o false) at ∙ ap not other))) ∙ not_draining))
