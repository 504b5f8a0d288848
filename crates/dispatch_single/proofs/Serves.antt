-- Whom the active member is, and which pairs are eligible.
use Rattle.std.proofs.Common.{◌≡◌, ℕ, zero, suc, ◌<◌, List, ◌∷◌, [], map, length, get_or, Some, None, Option, Bool, true, false, IsTrue, cond, refl, ap, ◌∙◌, sym, subst, arith, inl, inr}
use Rattle.std.specs.Prelude.{slice_get}
use Rattle.std.specs.Option.{option_map, option_map_or}
use Rattle.std.proofs.lemmas.Bool.{false≢true}
use Rattle.std.proofs.lemmas.List.{get_or-map, length-map}
use Rattle.std.proofs.lemmas.Option.{slice_get_cases, slice_get-get_or, slice_get-map, same_Some, none-some}
use Rattle.position_core.specs.declared.kind.Kind.{Kind}
use Rattle.position_core.specs.declared.kind.Kind.TheVariants.{Exclusive, Failover, Shared, KeyShared}
use Rattle.position_core.specs.Kind.{is_in_order}
use Rattle.position_core.specs.declared.message.Entry.{Entry}
use Rattle.delivery_machine.specs.State.{State, Subscription, Member}
use Rattle.delivery_machine.specs.Words as machine
use Rattle.delivery_machine.specs.Words.{active_at, active_of, has_room, members_of, visible, ChoosesBy, IsNextInOrder, NoneEligible}
use Rattle.dispatch_core.specs.Log.{line_of, IsNextReady, NoneReady}
use Rattle.dispatch_core.specs.Offers.{seen_of, seen_at, IsGoodOffer}
use Rattle.dispatch_core.specs.declared.view.Seen.{Seen}
use Rattle.dispatch_core.proofs.Ready.{first_waiting-next, first_waiting-none}
use Rattle.dispatch_single.specs.InOrder.{comes_before, IsActiveAt, IsActive}
use Rattle.dispatch_single.specs.declared.active.Active.{Active}

-- ---- the active member

abbrev pair : Member → ℕ × ℕ
pair m = (m.number, m.level)

-- a later member that is no better
stays_first : (m : Member) (o : Option Member) → ((b : Member) → o ≡ Some b → comes_before (pair b) (pair m) ≡ false) → option_map_or (machine.earlier m) o m ≡ m
stays_first m None behind = refl
stays_first m (Some b) behind = ap (λ (t : Bool). cond t b m) (behind b refl)

-- what holds of each member holds of the active one
active_has : (P : Member → Type 0) (ms : List Member) → ((k : ℕ) (d : Member) → k < length ms → P (get_or ms k d)) → (b : Member) → active_of ms ≡ Some b → P b
active_has P [] each b is = absurd (none-some b is)
active_has P (m ∷ ms) each b is =
    by (active_of ms) (active_has P ms (λ k d below. each (suc k) d (omega (arith, below)))) (same_Some _ _ is)
  where
    by : (o : Option Member) → ((c : Member) → o ≡ Some c → P c) → option_map_or (machine.earlier m) o m ≡ b → P b
    by None others same = subst P same (each 0 m (omega arith))
    by (Some c) others same = either (machine.comes_before c m) same
      where
        either : (t : Bool) → cond t c m ≡ b → P b
        either true same = subst P same (others c refl)
        either false same = subst P same (each 0 m (omega arith))

-- the member at the place of the active one
pub active_there : (ms : List Member) (place : ℕ) → IsActiveAt (map pair ms) (length ms) place → slice_get ms place ≡ active_of ms
active_there [] place is = absurd (omega (arith, is.within))
active_there (m ∷ ms) zero is =
    ap Some (sym (stays_first m (active_of ms) (λ b found.
    active_has (λ (x : Member). comes_before (pair x) (pair m) ≡ false) ms
    (λ k d below. subst (λ (y : ℕ × ℕ). comes_before y (pair m) ≡ false) (get_or-map pair ms k d (0, 0) below) (is.best (suc k) (omega (arith, below))))
    b found)))
active_there (m ∷ ms) (suc place) is =
    let within : place < length ms = omega (arith, is.within) in
    let there = slice_get-get_or ms place m within in
    let rest : slice_get ms place ≡ active_of ms = active_there ms place (record {
      within = within;
      best = λ k below. is.best (suc k) (omega (arith, below));
      first = λ k before. is.first (suc k) (omega (arith, before));
    }) in
    let before : comes_before (pair (get_or ms place m)) (pair m) ≡ true =
    ap (λ (y : ℕ × ℕ). comes_before y (pair m)) (sym (get_or-map pair ms place m (0, 0) within)) ∙ is.first 0 (omega arith) in
    there
    ∙ ap Some (sym (
    ap (λ (o : Option Member). option_map_or (machine.earlier m) o m) (sym rest ∙ there)
    ∙ ap (λ (t : Bool). cond t (get_or ms place m) m) before))

-- ---- nobody

ChoosesBy-in_order : (kind : Kind) (s : State) (sub : Subscription) (e : Entry) (m : Member) → IsTrue (is_in_order kind) → IsNextInOrder s sub e m → ChoosesBy kind s sub e m
ChoosesBy-in_order Exclusive s sub e m served next = next
ChoosesBy-in_order Failover s sub e m served next = next
ChoosesBy-in_order Shared s sub e m served next = absurd (false≢true served)
ChoosesBy-in_order KeyShared s sub e m served next = absurd (false≢true served)

next_in_order : (kind : Kind) (s : State) (sub : Subscription) (e : Entry) (m : Member) → IsTrue (is_in_order kind) → ChoosesBy kind s sub e m → IsNextInOrder s sub e m
next_in_order Exclusive s sub e m served chosen = chosen
next_in_order Failover s sub e m served chosen = chosen
next_in_order Shared s sub e m served chosen = absurd (false≢true served)
next_in_order KeyShared s sub e m served chosen = absurd (false≢true served)

none_without_active : (s : State) (sub : Subscription) → IsTrue (is_in_order sub.kind) → active_of (members_of s sub.name) ≡ None → NoneEligible s sub
none_without_active s sub served none e m pair =
    none-some m (sym none ∙ (next_in_order sub.kind s sub e m served pair.1).1)

pub none_without_message : (s : State) (sub : Subscription) → IsTrue (is_in_order sub.kind) → NoneReady s sub 0 → NoneEligible s sub
none_without_message s sub served none e m pair =
    none-some e (sym (first_waiting-none s sub e none) ∙ (next_in_order sub.kind s sub e m served pair.1).0)

no_members : (ms : List Member) → length ms ≡ 0 → active_of ms ≡ None
no_members [] none = refl
no_members (m ∷ ms) none = absurd (omega (arith, none))

pub none_in_line : (s : State) (sub : Subscription) (active : Option Active) → IsTrue (is_in_order sub.kind) → active ≡ None → IsActive (line_of s sub) active → NoneEligible s sub
unfolding line_of
none_in_line s sub active served is nobody =
    let none : length (line_of s sub) ≡ 0 = subst (IsActive (line_of s sub)) is nobody in
    none_without_active s sub served (no_members (members_of s sub.name) (omega (arith, none, length-map (members_of s sub.name) pair)))

-- ---- the active member is seen

numbers_of_pairs : (o : Option Member) → option_map (λ (p : ℕ × ℕ). p.0) (option_map pair o) ≡ option_map (λ (m : Member). m.number) o
numbers_of_pairs None = refl
numbers_of_pairs (Some m) = refl

-- nobody is active where nobody is in line
pub none_is_active : (s : State) (sub : Subscription) (active : Option Active) → active ≡ None → IsActive (line_of s sub) active → None ≡ active_at s sub.name
unfolding line_of
none_is_active s sub active is nobody =
    let none : length (line_of s sub) ≡ 0 = subst (IsActive (line_of s sub)) is nobody in
    sym (ap (option_map (λ (m : Member). m.number)) (no_members (members_of s sub.name) (omega (arith, none, length-map (members_of s sub.name) pair))))

module _ (s : State) (sub : Subscription) (active : Option Active) (first : Active) (served : IsTrue (is_in_order sub.kind)) (is : active ≡ Some first) (in_line : IsActive (line_of s sub) active) where
  there : slice_get (members_of s sub.name) first.place ≡ active_of (members_of s sub.name)
  unfolding line_of
  there =
      let here : IsActive (line_of s sub) (Some first) = subst (IsActive (line_of s sub)) is in_line in
      active_there (members_of s sub.name) first.place
      (subst (λ (n : ℕ). IsActiveAt (line_of s sub) n first.place) (length-map (members_of s sub.name) pair) here.0)

  -- the number that is kept is the machine's
  pub its_number : Some first.consumer ≡ active_at s sub.name
  unfolding line_of
  its_number =
      let here : IsActive (line_of s sub) (Some first) = subst (IsActive (line_of s sub)) is in_line in
      ap (option_map (λ (p : ℕ × ℕ). p.0)) (sym here.1 ∙ slice_get-map pair (members_of s sub.name) first.place ∙ ap (option_map pair) there)
      ∙ numbers_of_pairs (active_of (members_of s sub.name))

  active_seen : (seen : Option Seen) → seen ≡ seen_at s sub first.place → seen ≡ option_map (seen_of s sub) (active_of (members_of s sub.name))
  active_seen seen shown = shown ∙ ap (option_map (seen_of s sub)) there

  pub none_unseen : (seen : Option Seen) → seen ≡ None → seen ≡ seen_at s sub first.place → NoneEligible s sub
  none_unseen seen none shown = by (active_of (members_of s sub.name)) refl (active_seen seen shown)
    where
      by : (o : Option Member) → active_of (members_of s sub.name) ≡ o → seen ≡ option_map (seen_of s sub) o → NoneEligible s sub
      by None is_none same = none_without_active s sub served is_none
      by (Some m) is_some same = absurd (none-some _ (sym none ∙ same))

  pub none_without_room : (seen : Seen) → Some seen ≡ seen_at s sub first.place → seen.room ≡ false → NoneEligible s sub
  none_without_room seen shown full e m eligible =
      let is_m = (next_in_order sub.kind s sub e m served eligible.1).1 in
      let same : seen ≡ seen_of s sub m = same_Some _ _ (active_seen (Some seen) shown ∙ ap (option_map (seen_of s sub)) is_m) in
      false≢true (sym full ∙ ap (λ (x : Seen). x.room) same ∙ eligible.0)

  -- the first waiting message may be sent to the active member, where it has room
  pub good_offer : (i : ℕ) (seen : Seen) → Some seen ≡ seen_at s sub first.place → seen.room ≡ true → IsNextReady s sub 0 i → IsGoodOffer s sub (record { index = i; consumer = seen.consumer })
  good_offer i seen shown room next = by (active_of (members_of s sub.name)) refl (active_seen (Some seen) shown)
    where
      by : (o : Option Member) → active_of (members_of s sub.name) ≡ o → Some seen ≡ option_map (seen_of s sub) o → IsGoodOffer s sub (record { index = i; consumer = seen.consumer })
      by None is_none same = absurd (none-some seen (sym same))
      by (Some m) is_some equal =
          let same : seen ≡ seen_of s sub m = same_Some _ _ equal in
          elim (slice_get_cases (visible s) i).1 [
            | inl found ↦ record {
              message = found.0;
              member = m;
              found = found.2;
              number = sym (ap (λ (x : Seen). x.consumer) same);
              eligible = (
                sym (ap (λ (x : Seen). x.room) same) ∙ room,
                ChoosesBy-in_order sub.kind s sub found.0 m served (first_waiting-next s sub i found.0 next ∙ ap Some found.3, is_some),
              );
            }
            | inr past ↦ absurd (omega (arith, past.0, next.ready.seen))
          ]
