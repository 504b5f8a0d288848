-- The subscription that a newcomer enters, in the machine's words: of its kind, of another, or made for it.
use Rattle.std.proofs.Common.{◌≡◌, ℕ, zero, suc, ◌≤◌, List, [], ◌∷◌, Some, None, Option, set, length, get_or, refl, ap, ◌∙◌, sym, arith}
use Rattle.std.specs.Prelude.{not, is_some, if◌then◌else◌}
use Rattle.std.specs.List.{find, insert, position, position_or_len}
use Rattle.std.specs.Ordering.{is_lt}
use Rattle.std.proofs.lemmas.List.Sums.{prefix_len-le-length}
use Rattle.std.proofs.lemmas.Option.{get_or_from_slice_get}
use Rattle.position_core.specs.declared.ranges.HashRange.{HashRange}
use Rattle.position_core.specs.declared.kind.Kind.{Kind}
use Rattle.position_core.specs.Name.{name_order}
use Rattle.delivery_machine.specs.State.{State, Member, Subscription}
use Rattle.delivery_machine.specs.Words.{changed, is_named, removed}
use Rattle.delivery_machine.specs.Joining.{joined, joining, new_subscription, placed, with_member}
use Rattle.delivery_machine.specs.declared.event.Initial.{Initial}
use Rattle.delivery_machine.proofs.Behind.{is_same_name}
use Rattle.delivery_machine.proofs.Places.{changed_there}
use Rattle.topic_served.specs.Stepping.{of_kind, opened, unshared, with_kind}
use Rattle.topic_served.proofs.Chaining.{changed_alike, changed_twice}
use Rattle.topic_served.proofs.Opening.{placed_there}
use Rattle.topic_served.proofs.Spots.{inserted_at}
use Rattle.topic_subscriptions.specs.Placed.{Placed, is_placed, sub_in}
use Rattle.topic_parts.specs.declared.parts.Parts.{Parts}
use Rattle.topic_parts.specs.Parts.{log_of, state_of}
use Rattle.topic_parts.proofs.Changing.{named_sub}
use Rattle.topic_served.proofs.Telling.{at_place, named_place}
use Rattle.member_events.specs.Entering.{entered}
use Rattle.member_events.proofs.Opened.{taken_out}
use Rattle.member_events.proofs.Standing.{one_there}

-- ---- where the subscription is there

module _ (t : Parts) (place : ℕ) (m : Member) (x : Placed) (kind : Kind) (ranges : Option (List HashRange)) (initial : Initial) (named : Some place ≡ position (is_placed m.subscription) t.subscriptions.items) (at : x ≡ get_or t.subscriptions.items place x) where
  abbrev s : State
  s = state_of t

  joined_there : joined s m.subscription kind ranges m.number initial ≡ changed (is_named m.subscription) (joining kind ranges m.number) s.subscriptions
  joined_there =
      ap (λ (o : Option Subscription). if is_some o then changed (is_named m.subscription) (joining kind ranges m.number) s.subscriptions else placed (new_subscription m.subscription kind ranges m.number initial s.log) s.subscriptions)
      (named_sub (log_of t) t.subscriptions.items m.subscription place named x at)

  pub entered_of_kind : x.kind ≡ kind → entered s ranges m ≡ with_member s kind ranges initial m
  entered_of_kind same =
      ap (λ (subs : List Subscription). record (entered s ranges m) { subscriptions = subs })
      (changed_alike (is_named m.subscription) (λ (z : Subscription). joining z.kind ranges m.number z) (joining kind ranges m.number) s.subscriptions place (sub_in (log_of t) x) (named_place t m.subscription place named)
      (at_place t place x (one_there t.subscriptions.items m.subscription place x named at)) (ap (λ (k : Kind). joining k ranges m.number (sub_in (log_of t) x)) same)
      ∙ sym joined_there)

  pub entered_kinded : entered (with_kind s m.subscription kind) ranges m ≡ with_member s kind ranges initial m
  entered_kinded =
      ap (λ (subs : List Subscription). record (entered s ranges m) { subscriptions = subs })
      (changed_twice (is_named m.subscription) (of_kind kind) (λ (z : Subscription). joining z.kind ranges m.number z) s.subscriptions (λ _. refl) ∙ sym joined_there)

-- ---- where it is made

written_in : {A : Type 0} (xs : List A) (i : ℕ) (y z : A) → i ≤ length xs → set (insert xs i y) i z ≡ insert xs i z
written_in xs zero y z low = refl
written_in [] (suc i) y z low = absurd (omega arith)
written_in (x ∷ xs) (suc i) y z low = ap (λ ys. x ∷ ys) (written_in xs i y z (omega arith))

module _ (s : State) (name : List ℕ) (kind : Kind) (initial : Initial) (absent : find (is_named name) s.subscriptions ≡ None) where
  abbrev first : Subscription
  first = unshared name kind initial s.log

  abbrev place : ℕ
  place = position_or_len (λ (other : Subscription). is_lt (name_order name other.name)) s.subscriptions

  low : place ≤ length s.subscriptions
  low = prefix_len-le-length (λ (other : Subscription). not (is_lt (name_order name other.name))) s.subscriptions

  -- it goes again
  pub closed_again : (u : State) → u ≡ opened s name kind initial → record u { subscriptions = removed (is_named name) u.subscriptions } ≡ s
  closed_again u is =
      ap (λ (v : State). let w : State = record v { subscriptions = removed (is_named name) v.subscriptions } in w) is
      ∙ ap (λ (subs : List Subscription). record s { subscriptions = subs }) (taken_out (is_named name) s.subscriptions place first absent (is_same_name name name refl) low)

module _ (s : State) (m : Member) (kind : Kind) (ranges : Option (List HashRange)) (initial : Initial) (absent : find (is_named m.subscription) s.subscriptions ≡ None) where
  abbrev new : Subscription
  new = unshared m.subscription kind initial s.log

  abbrev made : Subscription
  made = new_subscription m.subscription kind ranges m.number initial s.log

  abbrev at : ℕ
  at = position_or_len (λ (other : Subscription). is_lt (name_order m.subscription other.name)) s.subscriptions

  within : at ≤ length s.subscriptions
  within = low s m.subscription kind initial absent

  pub entered_new : entered (opened s m.subscription kind initial) ranges m ≡ with_member s kind ranges initial m
  entered_new =
      ap (λ (subs : List Subscription). record (entered s ranges m) { subscriptions = subs })
      (sym (changed_there (is_named m.subscription) (λ (z : Subscription). joining z.kind ranges m.number z) (placed new s.subscriptions) at new made (sym (placed_there s new absent))
      (ap (λ (z : Subscription). joining z.kind ranges m.number z) (sym (get_or_from_slice_get (placed new s.subscriptions) at new new (inserted_at s.subscriptions at new within)))))
      ∙ written_in s.subscriptions at new made within
      ∙ sym (ap (λ (o : Option Subscription). if is_some o then changed (is_named m.subscription) (joining kind ranges m.number) s.subscriptions else placed made s.subscriptions) absent))
