-- All subscriptions' pending messages are tended, whichever subscription is changed.
use Rattle.std.proofs.Common.{◌≡◌, ℕ, List, [], ◌∷◌, ◌++◌, map, Some, None, Bool, true, false, cond, refl, ap, ◌∙◌, sym, subst, inl, inr, Option, subst₂}
use Rattle.std.specs.List.{find}
use Rattle.std.specs.Str.{bytes_eq}
use Rattle.std.specs.FinMap as map_of
use Rattle.position_core.specs.declared.position.Position.{Position}
use Rattle.position_core.specs.declared.message.Entry.{Entry}
use Rattle.position_core.specs.declared.held.Held.{Held}
use Rattle.position_core.specs.declared.kind.Kind.{Kind}
use Rattle.position_core.specs.Position.{position_cmp, exact_positions}
use Rattle.delivery_machine.specs.State.{Member, Subscription}
use Rattle.delivery_machine.specs.Words.{changed, removed, is_named, is_held_by}
use Rattle.delivery_machine.specs.Joining.{placed}
use Rattle.delivery_machine.proofs.Keyed.{kept_if}
use Rattle.delivery_machine.proofs.Firsts.{found_changed, found_mapped, found_inserted, any_changed, any_mapped, any_pushed}
use Rattle.delivery_machine.proofs.Behind.{IsIdle, AllBehindIdle, same_name, is_same_name, behind_changed, behind_mapped, behind_placed, behind_removed, found_removed}
use Rattle.delivery_machine.proofs.Tended.{tended_empty, IsTended, IsPartOf, KeepsSeats, is_seat, tended_part, tended_seats, got_inserted}
use Rattle.delivery_machine.proofs.Deciding.{number_is}

-- ---- parts of what is pending

-- what is kept passes the test, and was pending
pub got_retained : {X : Type 0} (pending : map_of.FinMap position_cmp X) (keeps : Position → Bool) (p : Position) (h : X) → map_of.get (map_of.retain_keys pending keeps) p ≡ Some h → (keeps p ≡ true) × (map_of.get pending p ≡ Some h)
got_retained {X} pending keeps p h is =
    by (keeps p) refl (sym (map_of.get-retain_keys pending keeps p (λ x t. ap keeps (sym (exact_positions p x t)))) ∙ is)
  where
    by : (b : Bool) → keeps p ≡ b → cond b (map_of.get pending p) None ≡ Some h → (keeps p ≡ true) × (map_of.get pending p ≡ Some h)
    by true t e = (t, e)
    by false f e = cc

pub part_retained : (pending : map_of.FinMap position_cmp Held) (keeps : Position → Bool) → IsPartOf (map_of.retain_keys pending keeps) pending
part_retained pending keeps p h is = (h, (got_retained pending keeps p h is).1, refl)

pub none_pending : {X : Type 0} (p : Position) (h : X) → map_of.get (map_of.empty {X = X} {R = position_cmp}) p ≡ Some h → ⊥
none_pending {X} p h is = let none = map_of.get-empty {X = X} position_cmp p in cc

pub part_empty : (pending : map_of.FinMap position_cmp Held) → IsPartOf map_of.empty pending
part_empty pending p h is = absurd (none_pending p h is)

-- a message that is pending at the consumer falls due at another moment
pub part_held_again : (pending : map_of.FinMap position_cmp Held) (p : Position) (held : Held) → is_held_by held.consumer (map_of.get pending p) ≡ true → IsPartOf (map_of.insert pending p held) pending
part_held_again pending p held was q h is = elim (got_inserted pending p held q h is) [
  | inl new ↦ by (map_of.get pending p) refl was new.0 new.1
  | inr old ↦ (h, old, refl)
]
  where
    by : (o : Option Held) → map_of.get pending p ≡ o → is_held_by held.consumer o ≡ true → q ≡ p → h ≡ held → (k : Held) × (map_of.get pending q ≡ Some k) × (k.consumer ≡ h.consumer)
    by None e t here same = cc
    by (Some k) e t here same = (k, ap (map_of.get pending) here ∙ e, number_is k.consumer held.consumer t ∙ sym (ap (λ (z : Held). z.consumer) same))

-- ---- members that stay

pub same_seat_if : (b : Bool) (name : List ℕ) (number : ℕ) (m n : Member) → is_seat name number n ≡ is_seat name number m → is_seat name number (cond b n m) ≡ is_seat name number m
same_seat_if b name number m n same = kept_if (is_seat name number) b m n same

pub seats_changed : (q : Member → Bool) (f : Member → Member) → ((name : List ℕ) (number : ℕ) (m : Member) → is_seat name number (f m) ≡ is_seat name number m) → (members : List Member) → KeepsSeats members (changed q f members)
seats_changed q f same members name number t = any_changed (is_seat name number) q f (same name number) members ∙ t

pub seats_mapped : (f : Member → Member) → ((name : List ℕ) (number : ℕ) (m : Member) → is_seat name number (f m) ≡ is_seat name number m) → (members : List Member) → KeepsSeats members (map f members)
seats_mapped f same members name number t = any_mapped (is_seat name number) f (same name number) members ∙ t

pub seats_pushed : (members : List Member) (m : Member) → KeepsSeats members (members ++ m ∷ [])
seats_pushed members m name number t = any_pushed (is_seat name number) members m t

-- ---- all subscriptions

abbrev pub IsTendedIn : List Entry → List Member → Subscription → Type 0
IsTendedIn log members sub = IsTended log members sub.name sub.kind sub.pending

-- the first of each name is tended, and those behind them are idle
pub record AllTended (log : List Entry) (members : List Member) (subs : List Subscription) : Type 0 where
  pub first : (name : List ℕ) (sub : Subscription) → find (is_named name) subs ≡ Some sub → IsTendedIn log members sub
  pub behind : AllBehindIdle subs

pub names_apart : (name n : List ℕ) (x y : Subscription) → is_named n x ≡ true → is_named name x ≡ false → is_named name y ≡ true → is_named n y ≡ false
names_apart name n x y xn xname yname = by (is_named n y) refl
  where
    by : (b : Bool) → is_named n y ≡ b → b ≡ false
    by false f = refl
    by true t =
        let same : x.name ≡ name = same_name x.name n xn ∙ sym (same_name y.name n t) ∙ same_name y.name name yname in
        sym (is_same_name x.name name same) ∙ xname

pub tended_changed : (log log' : List Entry) (members members' : List Member) (n : List ℕ) (f : Subscription → Subscription) (subs : List Subscription)
    → ((sub : Subscription) → (f sub).name ≡ sub.name)
    → ((sub : Subscription) → is_named n sub ≡ false → IsTendedIn log members sub → IsTendedIn log' members' sub)
    → ((sub : Subscription) → find (is_named n) subs ≡ Some sub → IsTendedIn log members sub → IsTendedIn log' members' (f sub))
    → AllTended log members subs → AllTended log' members' (changed (is_named n) f subs)
tended_changed log log' members members' n f subs same others there all = record {
  first = λ name sub found.
      elim (found_changed (is_named name) (is_named n) f (λ x. ap (λ (m : List ℕ). bytes_eq m name) (same x)) (names_apart name n) subs sub found) [
        | inl a ↦ others sub a.1 (all.first name sub a.0)
        | inr b ↦ subst (IsTendedIn log' members') (sym b.3) (there b.0 b.2 (all.first name b.0 b.1))
      ];
  behind = behind_changed n f subs same all.behind;
}

-- where a subscription only loses what is pending, and the members stay
pub tended_taken : (log : List Entry) (members members' : List Member) (n : List ℕ) (f : Subscription → Subscription) (subs : List Subscription)
    → ((sub : Subscription) → (f sub).name ≡ sub.name) → ((sub : Subscription) → (f sub).kind ≡ sub.kind)
    → ((sub : Subscription) → find (is_named n) subs ≡ Some sub → IsPartOf (f sub).pending sub.pending)
    → KeepsSeats members members' → AllTended log members subs → AllTended log members' (changed (is_named n) f subs)
tended_taken log members members' n f subs name_stays kind_stays part stay =
    tended_changed log log members members' n f subs name_stays
    (λ sub _ t. tended_seats log members members' sub.name sub.kind sub.pending stay t)
    (λ sub found t. subst₂ (λ (m : List ℕ) (k : Kind). IsTended log members' m k (f sub).pending) (sym (name_stays sub)) (sym (kind_stays sub))
    (tended_seats log members members' sub.name sub.kind (f sub).pending stay (tended_part log members sub.name sub.kind sub.pending (f sub).pending (part sub found) t)))

-- where each subscription keeps its name, its kind and what is pending
pub tended_mapped : (log : List Entry) (members : List Member) (f : Subscription → Subscription) (subs : List Subscription)
    → ((sub : Subscription) → (f sub).name ≡ sub.name) → ((sub : Subscription) → (f sub).kind ≡ sub.kind) → ((sub : Subscription) → (f sub).pending ≡ sub.pending)
    → AllTended log members subs → AllTended log members (map f subs)
tended_mapped log members f subs names kinds same all = record {
  first = λ name sub found.
      let was = found_mapped (is_named name) f (λ x. ap (λ (m : List ℕ). bytes_eq m name) (names x)) subs sub found in
      let as_before : IsTended log members (f was.0).name (f was.0).kind (f was.0).pending =
      subst (λ (pending : map_of.FinMap position_cmp Held). IsTended log members (f was.0).name (f was.0).kind pending) (sym (same was.0))
      (subst₂ (λ (m : List ℕ) (k : Kind). IsTended log members m k was.0.pending) (sym (names was.0)) (sym (kinds was.0)) (all.first name was.0 was.1)) in
      subst (IsTendedIn log members) (sym was.2) as_before;
  behind = behind_mapped f subs names same all.behind;
}

pub tended_stay : (log : List Entry) (members members' : List Member) (subs : List Subscription) → KeepsSeats members members' → AllTended log members subs → AllTended log members' subs
tended_stay log members members' subs stay all = record {
  first = λ name sub found. tended_seats log members members' sub.name sub.kind sub.pending stay (all.first name sub found);
  behind = all.behind;
}

-- where a further subscription comes
pub tended_placed : (log : List Entry) (members members' : List Member) (new : Subscription) (subs : List Subscription) → IsIdle new → find (is_named new.name) subs ≡ None → KeepsSeats members members' → AllTended log members subs → AllTended log members' (placed new subs)
tended_placed log members members' new subs idle none stay all = record {
  first = λ name sub found.
      elim (found_inserted (is_named name) subs _ new sub found) [
        | inl a ↦ subst (IsTendedIn log members') (sym a) (tended_empty log members' new.name new.kind new.pending idle)
        | inr b ↦ tended_seats log members members' sub.name sub.kind sub.pending stay (all.first name sub b)
      ];
  behind = behind_placed subs _ new idle none all.behind;
}

-- where a subscription goes
pub tended_removed : (log : List Entry) (members : List Member) (n : List ℕ) (subs : List Subscription) → AllTended log members subs → AllTended log members (removed (is_named n) subs)
tended_removed log members n subs all = record {
  first = λ name sub found.
      elim (found_removed name n subs sub all.behind found) [
        | inl a ↦ all.first name sub a
        | inr idle ↦ tended_empty log members sub.name sub.kind sub.pending idle
      ];
  behind = behind_removed (is_named n) subs all.behind;
}
