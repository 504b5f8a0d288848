-- The first waiting message, by its index.
use Rattle.std.proofs.Common.{◌≡◌, ℕ, ◌<◌, false, Some, None, Option, get_or, length, refl, ap, ◌∙◌, sym, arith}
use Rattle.std.specs.Option.{option_map_or}
use Rattle.std.specs.List.{find}
use Rattle.std.proofs.lemmas.Bool.{false_from_ne_true}
use Rattle.std.proofs.lemmas.List.{get_or-take, length-take}
use Rattle.std.proofs.lemmas.List.Recursion.{found_at, found_nowhere}
use Rattle.std.proofs.lemmas.Option.{slice_get-get_or}
use Rattle.position_core.specs.declared.message.Entry.{Entry}
use Rattle.delivery_machine.specs.State.{State, Subscription}
use Rattle.delivery_machine.specs.Words.{is_waiting, first_waiting, visible}
use Rattle.dispatch_core.specs.Log.{waits_at, IsReadyAt, IsNextReady, NoneReady}

-- at an index that may be seen
pub waits_at-visible : (s : State) (sub : Subscription) (i : ℕ) (d : Entry) → i < length (visible s) → waits_at s sub i ≡ is_waiting sub (get_or (visible s) i d)
unfolding waits_at
waits_at-visible s sub i d seen =
    let within : (i < s.durable) × (i < length s.log) =
    let l = length-take s.durable s.log in (omega arith, omega arith) in
    ap (λ (o : Option Entry). option_map_or (is_waiting sub) o false) (slice_get-get_or s.log i d within.1)
    ∙ ap (is_waiting sub) (sym (get_or-take s.durable s.log i d within.0))

not_before : (s : State) (sub : Subscription) (d : Entry) (k : ℕ) → k < length (visible s) → (IsReadyAt s sub k → ⊥) → is_waiting sub (get_or (visible s) k d) ≡ false
not_before s sub d k seen none =
    false_from_ne_true _ (λ waits. none (record { seen = seen; waits = waits_at-visible s sub k d seen ∙ waits }))

pub first_waiting-next : (s : State) (sub : Subscription) (i : ℕ) (d : Entry) → IsNextReady s sub 0 i → first_waiting s sub ≡ Some (get_or (visible s) i d)
first_waiting-next s sub i d next =
    let seen = next.ready.seen in
    found_at (find (is_waiting sub)) (is_waiting sub) Some None refl (λ _ _. refl) (visible s) i d seen
    (λ k before. not_before s sub d k (omega arith) (λ ready. omega (arith, next.least k (omega arith) ready)))
    (sym (waits_at-visible s sub i d seen) ∙ next.ready.waits)

pub first_waiting-none : (s : State) (sub : Subscription) (d : Entry) → NoneReady s sub 0 → first_waiting s sub ≡ None
first_waiting-none s sub d none =
    found_nowhere (find (is_waiting sub)) (is_waiting sub) Some None refl (λ _ _. refl) (visible s) d
    (λ k seen. not_before s sub d k seen (none k (omega arith)))
