-- The best of the members, as the line is gone through.
use Rattle.std.proofs.Common.{◌≡◌, ℕ, ◌+◌, ◌<◌, ◌≤◌, true, false, List, Option, Some, None, length, inl, inr, refl, sym, ap, ◌∙◌, subst, arith}
use Rattle.std.specs.Prelude.{slice_get}
use Rattle.std.specs.Option.{option_map}
use Rattle.std.proofs.lemmas.Bool.{cases_eq, cases_lt}
use Rattle.std.proofs.lemmas.Bool.Decides.{nat_tests}
use Rattle.std.proofs.lemmas.List.{length-map}
use Rattle.std.proofs.lemmas.Option.{slice_get_within, get_or_from_slice_get, slice_get-get_or, slice_get-map, none-some}
use Rattle.delivery_machine.specs.State.{State, Subscription, Member}
use Rattle.delivery_machine.specs.Words.{members_of}
use Rattle.dispatch_core.specs.Log.{line_of}
use Rattle.dispatch_core.specs.Offers.{seen_of, seen_at}
use Rattle.dispatch_core.specs.declared.view.Seen.{Seen}
use Rattle.dispatch_single.specs.InOrder.{pair_of, comes_before, at, IsActiveAt, IsActiveIn}
use Rattle.dispatch_single.specs.declared.active.Active.{Active}

not_before_itself : (a : ℕ × ℕ) → comes_before a a ≡ false
not_before_itself a = grind (arith, nat_tests)

-- who is not before one is not before what is before that one
still_behind : (a b c : ℕ × ℕ) → comes_before b c ≡ true → comes_before a c ≡ false → comes_before a b ≡ false
still_behind a b c first behind = grind (arith, nat_tests)

-- what is before one is before what is not before that one
still_before : (a b c : ℕ × ℕ) → comes_before a b ≡ true → comes_before c b ≡ false → comes_before a c ≡ true
still_before a b c first behind = grind (arith, nat_tests)

module _ (line : List (ℕ × ℕ)) (n : ℕ) (x : ℕ × ℕ) (there : slice_get line n ≡ Some x) where
  at_next : at line n ≡ x
  at_next = get_or_from_slice_get line n x (0, 0) there

  pub next_is_better : (place : ℕ) → comes_before x (at line place) ≡ true → IsActiveAt line n place → IsActiveAt line (n + 1) n
  next_is_better place before was = record {
    within = omega arith;
    best = λ k below. elim (cases_eq k n) [
      | inl is ↦ ap (λ (j : ℕ). comes_before (at line j) (at line n)) is ∙ not_before_itself (at line n)
      | inr other ↦
          ap (λ (y : ℕ × ℕ). comes_before (at line k) y) at_next
          ∙ still_behind (at line k) x (at line place) before (was.best k (omega (arith, other, below)))
    ];
    first = λ k below.
        ap (λ (y : ℕ × ℕ). comes_before y (at line k)) at_next
        ∙ still_before x (at line place) (at line k) before (was.best k below);
  }

  pub best_stays : (place : ℕ) → comes_before x (at line place) ≡ false → IsActiveAt line n place → IsActiveAt line (n + 1) place
  best_stays place behind was = record {
    within = omega (arith, was.within);
    best = λ k below. elim (cases_eq k n) [
      | inl is ↦ ap (λ (j : ℕ). comes_before (at line j) (at line place)) is ∙ ap (λ (y : ℕ × ℕ). comes_before y (at line place)) at_next ∙ behind
      | inr other ↦ was.best k (omega (arith, other, below))
    ];
    first = was.first;
  }

-- the next in line was compared with the best of those before it
pub goes_on : (line : List (ℕ × ℕ)) (place : ℕ) (best : Option Active) (next better : Active) → Some (pair_of next) ≡ slice_get line place → next.place ≡ place → (slice_get line next.place ≡ Some (pair_of next) → IsActiveIn line next.place best → IsActiveIn line (next.place + 1) (Some better)) → IsActiveIn line place best → IsActiveIn line (place + 1) (Some better)
goes_on line place best next better seen there compared was =
    subst (λ (n : ℕ). IsActiveIn line (n + 1) (Some better)) there
    (compared (ap (slice_get line) there ∙ sym seen) (subst (λ (n : ℕ). IsActiveIn line n best) (sym there) was))

-- ---- the line as it is seen

pub seen_within : (line : List (ℕ × ℕ)) (place : ℕ) (m : ℕ × ℕ) → Some m ≡ slice_get line place → place < length line
seen_within line place m seen = slice_get_within line place m (sym seen)

pub unseen_past : (line : List (ℕ × ℕ)) (place : ℕ) → None ≡ slice_get line place → length line ≤ place
unseen_past line place unseen =
    elim (cases_lt place (length line)) [
      | inl within ↦ absurd (none-some _ (unseen ∙ slice_get-get_or line place (0, 0) within))
      | inr past ↦ past
    ]

abbrev pair : Member → ℕ × ℕ
pair m = (m.number, m.level)

abbrev pub pair_seen : Seen → ℕ × ℕ
pair_seen m = (m.consumer, m.level)

pub seen_in_line : (s : State) (sub : Subscription) (place : ℕ) (seen : Option Seen) → seen ≡ seen_at s sub place → option_map pair_seen seen ≡ slice_get (line_of s sub) place
unfolding line_of
seen_in_line s sub place seen shown =
    ap (option_map pair_seen) shown
    ∙ through (slice_get (members_of s sub.name) place)
    ∙ sym (slice_get-map pair (members_of s sub.name) place)
  where
    through : (o : Option Member) → option_map pair_seen (option_map (seen_of s sub) o) ≡ option_map pair o
    through None = refl
    through (Some m) = refl

pub few_in_line : (s : State) (sub : Subscription) (n : ℕ) → length (members_of s sub.name) < n → length (line_of s sub) < n
unfolding line_of
few_in_line s sub n few = omega (arith, length-map (members_of s sub.name) pair, few)
