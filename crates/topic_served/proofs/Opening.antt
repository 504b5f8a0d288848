-- A subscription whose first member makes it, or brings another kind: it is first made without the member.
use Rattle.std.proofs.Common.{◌≡◌, ℕ, zero, suc, ◌+◌, ◌≤◌, List, [], ◌∷◌, Some, None, Option, Bool, true, false, cond, length, refl, ap, ◌∙◌, sym, arith}
use Rattle.std.specs.Prelude.{not, nat_lt, slice_get, is_some, if◌then◌else◌}
use Rattle.std.specs.List.{find, insert, position, position_or_len}
use Rattle.std.specs.Ordering.{is_lt}
use Rattle.std.proofs.lemmas.Bool.Decides.{nat_tests}
use Rattle.std.proofs.lemmas.List.Edits.{length-insert}
use Rattle.position_core.specs.declared.kind.Kind.{Kind}
use Rattle.position_core.specs.declared.ranges.HashRange.{HashRange}
use Rattle.position_core.specs.Name.{name_order}
use Rattle.delivery_machine.specs.State.{State, Subscription, Member}
use Rattle.delivery_machine.specs.Words.{changed, removed, is_named}
use Rattle.delivery_machine.specs.Joining.{joining, placed, new_subscription, with_member}
use Rattle.delivery_machine.specs.declared.event.Initial.{Initial}
use Rattle.delivery_machine.proofs.Behind.{is_same_name}
use Rattle.delivery_machine.proofs.Places.{find-position, removed_there}
use Rattle.dispatch_core.specs.Changes.{Joined}
use Rattle.topic_served.specs.Happening.{ComesAt, GoesAt, HappensAt}
use Rattle.topic_served.specs.Stepping.{of_kind, with_kind, opened, unshared}
use Rattle.topic_served.proofs.Chaining.{changed_twice}
use Rattle.topic_served.proofs.Coming.{comes, goes}
use Rattle.topic_served.proofs.Joining.{MayJoin, joined_at}
use Rattle.std.proofs.lemmas.Option.{slice_get_within}

-- ---- lists

module _ {A : Type 0} where
  found_later : (q : A → Bool) (x : A) (xs : List A) → find q (x ∷ xs) ≡ None → (q x ≡ false) × (find q xs ≡ None)
  found_later q x xs none = by (q x) refl none
    where
      by : (b : Bool) → q x ≡ b → cond b (Some x) (find q xs) ≡ None → (q x ≡ false) × (find q xs ≡ None)
      by true is some = absurd (cc)
      by false is rest = (is, rest)

  -- the one that came in is the first that passes
  first_inserted : (q : A → Bool) (xs : List A) (i : ℕ) (y : A) → find q xs ≡ None → q y ≡ true → i ≤ length xs → position_or_len q (insert xs i y) ≡ i
  first_inserted q xs zero y none is low = ap (λ b. cond (not b) (1 + position_or_len q xs) 0) is
  first_inserted q [] (suc i) y none is low = absurd (omega arith)
  first_inserted q (x ∷ xs) (suc i) y none is low =
      let rest = found_later q x xs none in
      let behind = first_inserted q xs i y rest.1 is (omega arith) in
      ap (λ b. cond (not b) (1 + position_or_len q (insert xs i y)) 0) rest.0 ∙ omega (arith, behind)

  position_inserted : (q : A → Bool) (xs : List A) (i : ℕ) (y : A) → find q xs ≡ None → q y ≡ true → i ≤ length xs → position q (insert xs i y) ≡ Some i
  position_inserted q xs i y none is low =
      ap (λ n. cond (nat_lt n (length (insert xs i y))) (Some n) None) (first_inserted q xs i y none is low)
      ∙ ap (λ b. cond b (Some i) None) (within i (length (insert xs i y)) (length xs) low (length-insert xs i y low))
    where
      within : (i n m : ℕ) → i ≤ m → n ≡ m + 1 → nat_lt i n ≡ true
      within i n m low more = grind (arith, nat_tests)

  changed_inserted : (q : A → Bool) (f : A → A) (xs : List A) (i : ℕ) (y : A) → find q xs ≡ None → q y ≡ true → changed q f (insert xs i y) ≡ insert xs i (f y)
  changed_inserted q f xs zero y none is = ap (λ b. cond b (f y ∷ xs) (y ∷ changed q f xs)) is
  changed_inserted q f [] (suc i) y none is = ap (λ b. cond b (f y ∷ []) (y ∷ [])) is
  changed_inserted q f (x ∷ xs) (suc i) y none is =
      let rest = found_later q x xs none in
      ap (λ b. cond b (f x ∷ insert xs i y) (x ∷ changed q f (insert xs i y))) rest.0
      ∙ ap (λ (ys : List A). x ∷ ys) (changed_inserted q f xs i y rest.1 is)

  first_within : (q : A → Bool) (xs : List A) → position_or_len q xs ≤ length xs
  first_within q [] = omega arith
  first_within q (x ∷ xs) = by (q x) (first_within q xs)
    where
      by : (b : Bool) → position_or_len q xs ≤ length xs → cond (not b) (1 + position_or_len q xs) 0 ≤ length (x ∷ xs)
      by true low = omega arith
      by false low = omega (arith, low)

-- ---- made

-- where a subscription goes by its name
abbrev pub place_for : Subscription → List Subscription → ℕ
place_for new subs = position_or_len (λ other. is_lt (name_order new.name other.name)) subs

pub comes_placed : (s : State) (new : Subscription) → ComesAt (place_for new s.subscriptions) s (record s { subscriptions = placed new s.subscriptions }) new
comes_placed s new =
    comes s (record s { subscriptions = placed new s.subscriptions }) refl (omega arith) refl (place_for new s.subscriptions) new
    (first_within (λ other. is_lt (name_order new.name other.name)) s.subscriptions) refl

pub placed_there : (s : State) (new : Subscription) → find (is_named new.name) s.subscriptions ≡ None → position (is_named new.name) (placed new s.subscriptions) ≡ Some (place_for new s.subscriptions)
placed_there s new none =
    position_inserted (is_named new.name) s.subscriptions (place_for new s.subscriptions) new none (is_same_name new.name new.name refl)
    (first_within (λ other. is_lt (name_order new.name other.name)) s.subscriptions)

-- the first member joins it
pub joined_opened : (s : State) (kind : Kind) (ranges : Option (List HashRange)) (initial : Initial) (i : ℕ) (m : Member) → find (is_named m.subscription) s.subscriptions ≡ None → MayJoin (opened s m.subscription kind initial) i (unshared m.subscription kind initial s.log) m
    → HappensAt i (Joined ranges m.number) (opened s m.subscription kind initial) (unshared m.subscription kind initial s.log) (with_member s kind ranges initial m) (new_subscription m.subscription kind ranges m.number initial s.log)
joined_opened s kind ranges initial i m none may =
    joined_at (opened s m.subscription kind initial) (with_member s kind ranges initial m) i (unshared m.subscription kind initial s.log) m may ranges refl refl refl
    (ap (λ (o : Option Subscription). if is_some o then changed (is_named m.subscription) (joining kind ranges m.number) s.subscriptions else placed (new_subscription m.subscription kind ranges m.number initial s.log) s.subscriptions) none
    ∙ sym (changed_inserted (is_named m.subscription) (joining kind ranges m.number) s.subscriptions (place_for (unshared m.subscription kind initial s.log) s.subscriptions) (unshared m.subscription kind initial s.log) none (is_same_name m.subscription m.subscription refl)))

-- ---- of another kind

pub joined_of_kind : (s : State) (kind : Kind) (ranges : Option (List HashRange)) (initial : Initial) (i : ℕ) (sub : Subscription) (m : Member) → position (is_named m.subscription) s.subscriptions ≡ Some i → MayJoin (with_kind s m.subscription kind) i (of_kind kind sub) m
    → HappensAt i (Joined ranges m.number) (with_kind s m.subscription kind) (of_kind kind sub) (with_member s kind ranges initial m) (joining kind ranges m.number sub)
joined_of_kind s kind ranges initial i sub m place may =
    joined_at (with_kind s m.subscription kind) (with_member s kind ranges initial m) i (of_kind kind sub) m may ranges refl refl refl
    (ap (λ (o : Option Subscription). if is_some o then changed (is_named m.subscription) (joining kind ranges m.number) s.subscriptions else placed (new_subscription m.subscription kind ranges m.number initial s.log) s.subscriptions)
    (find-position (is_named m.subscription) s.subscriptions i sub place)
    ∙ sym (changed_twice (is_named m.subscription) (of_kind kind) (joining kind ranges m.number) s.subscriptions (λ _. refl)))

-- ---- dropped

pub goes_dropped : (s : State) (name : List ℕ) (i : ℕ) (sub : Subscription) → position (is_named name) s.subscriptions ≡ Some i → slice_get s.subscriptions i ≡ Some sub → GoesAt i s (record s { subscriptions = removed (is_named name) s.subscriptions })
goes_dropped s name i sub place was =
    goes s (record s { subscriptions = removed (is_named name) s.subscriptions }) refl (omega arith) refl i
    (slice_get_within s.subscriptions i sub was) (sym (removed_there (is_named name) s.subscriptions i sub (sym place)))
