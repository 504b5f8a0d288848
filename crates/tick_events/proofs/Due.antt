-- The pending message that is due first tells whether any is due.
use Rattle.std.proofs.Common.{◌≡◌, ℕ, ◌<◌, List, [], ◌∷◌, Some, None, Option, Bool, true, false, get_or, refl, ap, ◌∙◌, sym, arith, true≢false}
use Rattle.std.specs.Prelude.{◌||◌, nat_le, is_some}
use Rattle.std.specs.List.{position}
use Rattle.std.specs.Option.{option_and_then, option_map_or}
use Rattle.std.specs.Ordering.{is_gt, nat_cmp, ordering_then}
use Rattle.std.specs.BTreeMap.Range.{IsLeBy}
use Rattle.std.specs.declared.cmp.Ordering.{Ordering}
use Rattle.std.specs.declared.cmp.Ordering.TheVariants.{Greater}
use Rattle.std.specs.FinMap as map_of
use Rattle.std.proofs.lemmas.Bool.{leb-true, leb-false}
use Rattle.std.proofs.lemmas.Bool.Decides.{nat_tests}
use Rattle.position_core.specs.declared.position.Position.{Position}
use Rattle.position_core.specs.declared.message.Entry.{Entry}
use Rattle.position_core.specs.declared.held.Held.{Held}
use Rattle.position_core.specs.Position.{position_cmp, same_position}
use Rattle.delivery_machine.specs.State.{Subscription}
use Rattle.delivery_machine.specs.Ticking.{any_due, any_due_in, is_due}
use Rattle.delivery_machine.specs.WellFormed.{has_message}
use Rattle.delivery_machine.proofs.Tended.{position_is}
use Rattle.pending_core.specs.declared.due.Due.{Due}
use Rattle.pending_core.specs.Due.{due_cmp}
use Rattle.pending_core.specs.Pending.{IsDue, Pending}
use Rattle.topic_subscriptions.specs.Placed.{Placed, is_placed, sub_in}
use Rattle.topic_parts.specs.Parts.{AreTied, log_of, state_of}
use Rattle.topic_parts.specs.declared.parts.Parts.{Parts}
use Rattle.topic_parts.proofs.Changing.{placed_there}
use Rattle.tick_events.proofs.Recounted.{of_log}

abbrev due_at : ℕ → Position → Due
due_at moment position = record { moment = moment; position = position }

-- the one that is due first is due
pub first_is_due : (s : Pending) (now : ℕ) (due : Due) → IsDue s due → nat_le due.moment now ≡ true → is_due now (map_of.get s.pending due.position) ≡ true
first_is_due s now due is low = by (map_of.get s.pending due.position) is
  where
    by : (o : Option Held) → option_and_then (λ (h : Held). h.due) o ≡ Some due.moment → is_due now o ≡ true
    by None none = cc
    by (Some h) some = ap (λ (o : Option ℕ). option_map_or (λ (n : ℕ). nat_le n now) o false) some ∙ low

-- where each due moment is later, none is due
pub none_is_due : (s : Pending) (now : ℕ) → ((due : Due) → IsDue s due → nat_le due.moment now ≡ false) → (q : Position) → is_due now (map_of.get s.pending q) ≡ false
none_is_due s now later q = by (map_of.get s.pending q) refl
  where
    by_moment : (o : Option ℕ) → option_and_then (λ (h : Held). h.due) (map_of.get s.pending q) ≡ o → option_map_or (λ (n : ℕ). nat_le n now) o false ≡ false
    by_moment None never = refl
    by_moment (Some n) is = later (due_at n q) is

    by : (o : Option Held) → map_of.get s.pending q ≡ o → is_due now o ≡ false
    by None free = refl
    by (Some h) held = by_moment h.due (ap (option_and_then (λ (h : Held). h.due)) held)

pub never_due : (s : Pending) (now : ℕ) → ((due : Due) → IsDue s due → ⊥) → (due : Due) → IsDue s due → nat_le due.moment now ≡ false
never_due s now none due is = absurd (none due is)

-- what comes first is due no later
not_after : (a b : Due) → IsLeBy due_cmp a b → b.moment < a.moment → ⊥
not_after a b first before = true≢false (sym (ap (λ (o : Ordering). is_gt (ordering_then o (position_cmp a.position b.position))) (greater a.moment b.moment before)) ∙ first)
  where
    greater : (x y : ℕ) → y < x → nat_cmp x y ≡ Greater
    greater x y low = grind (arith, nat_tests)

pub later_than_first : (s : Pending) (now : ℕ) (first : Due) → ((other : Due) → IsDue s other → IsLeBy due_cmp first other) → nat_le first.moment now ≡ false → (due : Due) → IsDue s due → nat_le due.moment now ≡ false
later_than_first s now first least late due is = by (nat_le due.moment now) refl
  where
    by : (b : Bool) → nat_le due.moment now ≡ b → nat_le due.moment now ≡ false
    by false e = e
    by true e =
        let low = leb-true due.moment now e in
        let high = leb-false first.moment now late in
        absurd (not_after first due (least due is) (omega (arith, low, high)))

-- what is due is pending
pub due_is_pending : (now : ℕ) (o : Option Held) → is_due now o ≡ true → is_some o ≡ true
due_is_pending now None none = absurd (true≢false (sym none))
due_is_pending now (Some h) some = refl

-- ---- among the messages of a log

pub none_due_in : (log : List Entry) (sub : Subscription) (now : ℕ) → ((q : Position) → is_due now (map_of.get sub.pending q) ≡ false) → any_due_in log sub now ≡ false
none_due_in [] sub now none = refl
none_due_in (e ∷ log) sub now none = ap (λ b. b || any_due_in log sub now) (none e.position) ∙ none_due_in log sub now none

pub one_due_in : (log : List Entry) (sub : Subscription) (now : ℕ) (q : Position) → has_message log q ≡ true → is_due now (map_of.get sub.pending q) ≡ true → any_due_in log sub now ≡ true
one_due_in [] sub now q there due = there
one_due_in (e ∷ log) sub now q there due = by (same_position e.position q) refl there (is_due now (map_of.get sub.pending e.position)) refl (λ later. one_due_in log sub now q later due)
  where
    by : (b : Bool) → same_position e.position q ≡ b → (b || has_message log q) ≡ true → (c : Bool) → is_due now (map_of.get sub.pending e.position) ≡ c → (has_message log q ≡ true → any_due_in log sub now ≡ true) → (c || any_due_in log sub now) ≡ true
    by b is some true here rest = refl
    by true same some false not_here rest = absurd (true≢false (sym due ∙ ap (λ (p : Position). is_due now (map_of.get sub.pending p)) (sym (position_is e.position q same)) ∙ not_here))
    by false differ some false not_here rest = rest some

-- what is pending in a topic's subscription is of its log
pub due_there : (t : Parts) (name : List ℕ) (place : ℕ) (x : Placed) (now : ℕ) (q : Position) → Some place ≡ position (is_placed name) t.subscriptions.items → x ≡ get_or t.subscriptions.items place x → AreTied t
    → is_due now (map_of.get x.pending.pending q) ≡ true → any_due (state_of t) (sub_in (log_of t) x) now ≡ true
due_there t name place x now q named at tied due =
    one_due_in (log_of t) (sub_in (log_of t) x) now q
    (of_log (log_of t) t.members.members x (placed_there (log_of t) t.subscriptions.items name place named t.members.members x tied at) q (due_is_pending now (map_of.get x.pending.pending q) due)) due
