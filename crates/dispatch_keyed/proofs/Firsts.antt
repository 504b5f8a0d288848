-- The first messages of hashes, from their rows.
use Rattle.std.proofs.Common.{◌≡◌, ◌≢◌, ℕ, ◌+◌, ◌-◌, ◌<◌, inl, inr, arith, Bool, false, cond, Option, Some, None, refl, sym, ap, ◌∙◌, subst, true≢false}
use Rattle.std.specs.Cmp.{nat_cmp_total, unsigned_tied}
use Rattle.std.specs.Ordering.{nat_cmp}
use Rattle.std.specs.FinMap as map_of
use Rattle.std.specs.Option.{is_some, option_map_or}
use Rattle.std.proofs.lemmas.Bool.{cases_eq, cases_lt, ne_eqb, eq-eqb}
use Rattle.std.proofs.lemmas.Option.{same_Some, none-some}
use Rattle.number_sets.specs.Places.{IsNext, NoneFrom}
use Rattle.delivery_machine.specs.State.{State, Subscription}
use Rattle.number_sets.specs.Firsts.{Firsts}
use Rattle.hash_rows.specs.declared.row.Row.{Row}
use Rattle.hash_rows.specs.Rows.{waits_in, AreAllAt, KeepsAll}
use Rattle.hash_rows.specs.Standing.{Found, waits_there, holds_there, keeper_of}
use Rattle.hash_rows.specs.Knowing.{IsFirstOf, AreHeldBy, KeeperIsRight, WaitBefore}
use Rattle.dispatch_keyed.specs.Tables.{found_in}

-- ---- of one row

pub keeps_all : (row : Row) (base : ℕ) (s : State) (sub : Subscription) → KeeperIsRight (found_in base (Some row)) s sub → KeepsAll row base s sub
unfolding keeper_of holds_there
keeps_all row base s sub right = right

all_at : (row : Row) (base : ℕ) (s : State) (sub : Subscription) (c : ℕ) → AreHeldBy (found_in base (Some row)) s sub c → AreAllAt row base s sub c
unfolding holds_there
all_at row base s sub c all = all

held_by : (row : Row) (base : ℕ) (s : State) (sub : Subscription) (c : ℕ) → AreAllAt row base s sub c → AreHeldBy (found_in base (Some row)) s sub c
unfolding holds_there
held_by row base s sub c all = all

none_is : (x : ℕ) → None ≡ Some x → ⊥
none_is x e = none-some x e

module _ (row : Row) (base owner : ℕ) (s : State) (sub : Subscription) where
  pub not_free : (AreAllAt row base s sub owner → ⊥) → IsFirstOf (found_in base (Some row)) None (Some owner) s sub
  not_free elsewhere = record {
    some = λ n is. absurd (none_is n is);
    none = λ _ free. absurd (elsewhere (subst (λ (c : ℕ). AreAllAt row base s sub c) (sym (same_Some owner free.0 free.1)) (all_at row base s sub free.0 free.2)));
  }

  pub first_there : (first : ℕ) → AreAllAt row base s sub owner → IsNext (λ i. waits_in row (base + i)) 0 first → IsFirstOf (found_in base (Some row)) (Some first) (Some owner) s sub
  unfolding waits_there
  first_there first all next = record {
    some = λ n is. (subst (λ (k : ℕ). IsNext (λ i. waits_in row (base + i)) 0 k) (same_Some first n is) next, (owner, refl, held_by row base s sub owner all));
    none = λ is _. absurd (none_is first (sym is));
  }

  pub none_there : NoneFrom (λ i. waits_in row (base + i)) 0 → IsFirstOf (found_in base (Some row)) None (Some owner) s sub
  unfolding waits_there
  none_there none = record {
    some = λ n is. absurd (none_is n is);
    none = λ _ _. none;
  }

  pub not_beyond : (first limit : ℕ) → WaitBefore (found_in base (Some row)) limit → IsNext (λ i. waits_in row (base + i)) 0 first → first < limit
  unfolding waits_there
  not_beyond first limit before next = before first next.is_in

-- ---- of a hash

pub nothing_waits : (o : Found) → o.row ≡ None → (i : ℕ) → waits_there o i ≡ false
unfolding waits_there
nothing_waits o none i = ap (λ (row : Option Row). option_map_or (λ r. waits_in r (o.base + i)) row false) none

pub rowless : (o : Found) (owner : Option ℕ) (s : State) (sub : Subscription) → o.row ≡ None → IsFirstOf o None owner s sub
rowless o owner s sub none = record { some = λ n is. absurd (none_is n is); none = λ _ _ i _. nothing_waits o none i }

pub ownerless : (o : Found) (owner : Option ℕ) (s : State) (sub : Subscription) → owner ≡ None → IsFirstOf o None owner s sub
ownerless o owner s sub none = record {
  some = λ n is. absurd (none_is n is);
  none = λ _ free. absurd (none_is free.0 (sym none ∙ free.1));
}

-- no row, no first
pub no_first : (o : Found) (first owner : Option ℕ) (s : State) (sub : Subscription) → o.row ≡ None → IsFirstOf o first owner s sub → first ≡ None
no_first o None owner s sub none is = refl
no_first o (Some n) owner s sub none is = absurd (true≢false (sym (is.some n refl).0.is_in ∙ nothing_waits o none n))

-- ---- the numbers that are kept

module _ (old new : Firsts) (k : ℕ) where
  pub put_others : (v : ℕ) → new ≡ record old { numbers = map_of.insert old.numbers k v } → (h : ℕ) → h ≢ k → map_of.get new.numbers h ≡ map_of.get old.numbers h
  put_others v is h other =
      ap (λ (f : Firsts). map_of.get f.numbers h) is ∙ map_of.get-insert nat_cmp_total old.numbers k v h
      ∙ ap (λ (b : Bool). cond b (Some v) (map_of.get old.numbers h)) (unsigned_tied h k ∙ ne_eqb h k other)

  pub put_here : (v : ℕ) → new ≡ record old { numbers = map_of.insert old.numbers k v } → map_of.get new.numbers k ≡ Some v
  put_here v is =
      ap (λ (f : Firsts). map_of.get f.numbers k) is ∙ map_of.get-insert nat_cmp_total old.numbers k v k
      ∙ ap (λ (b : Bool). cond b (Some v) (map_of.get old.numbers k)) (unsigned_tied k k ∙ eq-eqb k k refl)

  pub take_others : new ≡ record old { numbers = map_of.remove old.numbers k } → (h : ℕ) → h ≢ k → map_of.get new.numbers h ≡ map_of.get old.numbers h
  take_others is h other =
      ap (λ (f : Firsts). map_of.get f.numbers h) is ∙ map_of.get-remove nat_cmp_total old.numbers k h
      ∙ ap (λ (b : Bool). cond b None (map_of.get old.numbers h)) (unsigned_tied h k ∙ ne_eqb h k other)

  pub take_here : new ≡ record old { numbers = map_of.remove old.numbers k } → map_of.get new.numbers k ≡ None
  take_here is =
      ap (λ (f : Firsts). map_of.get f.numbers k) is ∙ map_of.get-remove nat_cmp_total old.numbers k k
      ∙ ap (λ (b : Bool). cond b None (map_of.get old.numbers k)) (unsigned_tied k k ∙ eq-eqb k k refl)

-- without one of them there are fewer
pub fewer : (m : map_of.FinMap nat_cmp ℕ) (k n : ℕ) → map_of.get m k ≡ Some n → map_of.len (map_of.remove m k) < map_of.len m
fewer m k n there = elim (cases_lt 0 (map_of.len m)) [
  | inl some ↦ omega (arith, less, some)
  | inr none ↦ absurd (none-some n (sym (map_of.get-empty nat_cmp k) ∙ ap (λ (x : map_of.FinMap nat_cmp ℕ). map_of.get x k) (sym (map_of.empty_of_len m (omega (arith, none)))) ∙ there))
]
  where
    less : map_of.len (map_of.remove m k) ≡ map_of.len m - 1
    less = map_of.len-remove nat_cmp_total m k ∙ ap (λ (t : Bool). cond t (map_of.len m - 1) (map_of.len m)) (ap is_some there)

-- and none that was not there comes
pub still_none : (old new : Firsts) (k h : ℕ) → new ≡ record old { numbers = map_of.remove old.numbers k } → map_of.get old.numbers h ≡ None → map_of.get new.numbers h ≡ None
still_none old new k h is none = elim (cases_eq h k) [
  | inl same ↦ ap (map_of.get new.numbers) same ∙ take_here old new k is
  | inr other ↦ take_others old new k is h other ∙ none
]
