-- A subscription goes.
use Rattle.std.proofs.Common.{◌≡◌, ℕ, zero, suc, List, [], ◌∷◌, map, length, Some, None, Bool, All, get_or, slice_get, refl, ap, ◌∙◌, sym, subst}
use Rattle.std.specs.Prelude.{◌||◌, nat_lt, if◌then◌else◌}
use Rattle.std.specs.List.{filter, find, position, remove}
use Rattle.std.proofs.lemmas.List.{length-map}
use Rattle.std.proofs.lemmas.List.Quantifiers.{position-Some}
use Rattle.std.proofs.lemmas.List.Elements.{All-cons, All-head, All-tail}
use Rattle.position_core.specs.declared.fault.Fault.TheVariants.{NoSuchSubscription, SubscriptionBusy}
use Rattle.delivery_machine.specs.State.{State, Member, Subscription}
use Rattle.delivery_machine.specs.Words.{is_at, is_named, members_of, removed}
use Rattle.delivery_machine.specs.Refusals.{dropping_refused}
use Rattle.delivery_machine.proofs.Behind.{same_name}
use Rattle.delivery_machine.proofs.Places.{removed_there}
use Rattle.topic_log.specs.Written.{all_of}
use Rattle.dedup_core.specs.Sequences.{AgreesWith}
use Rattle.topic_served.specs.declared.dispatch.Dispatch.{Dispatch}
use Rattle.topic_served.specs.Told.{AreTold}
use Rattle.topic_served.proofs.Agreed.{told_removed}
use Rattle.topic_served.proofs.Opening.{goes_dropped}
use Rattle.topic_subscriptions.specs.Placed.{IsPlacedIn, Placed, is_placed, sub_in}
use Rattle.topic_parts.specs.Parts.{AreTied, log_of, state_of}
use Rattle.topic_parts.specs.declared.parts.Parts.{Parts}
use Rattle.topic_parts.proofs.Changing.{named_sub, placed_there}
use Rattle.topic_served.proofs.Telling.{at_place, named_place, one_stands}

map_removed : {A B : Type 0} (f : A → B) (xs : List A) (i : ℕ) → map f (remove xs i) ≡ remove (map f xs) i
map_removed f [] zero = refl
map_removed f [] (suc i) = refl
map_removed f (x ∷ xs) zero = refl
map_removed f (x ∷ xs) (suc i) = ap (λ ys. f x ∷ ys) (map_removed f xs i)

all_removed : {A : Type 0} (P : A → Type 0) (xs : List A) (i : ℕ) → All P xs → All P (remove xs i)
all_removed P [] zero all = all
all_removed P [] (suc i) all = all
all_removed P (x ∷ xs) zero all = All-tail P x xs all
all_removed P (x ∷ xs) (suc i) all = All-cons P x (remove xs i) (All-head P x xs all) (all_removed P xs i (All-tail P x xs all))

-- whether members or dead letters are left, as the subscription itself tells
busy_is : (t : Parts) (name : List ℕ) (place : ℕ) (x : Placed) → AreTied t → Some place ≡ position (is_placed name) t.subscriptions.items → x ≡ get_or t.subscriptions.items place x
    → (nat_lt 0 (length x.line) || nat_lt 0 (length x.letters.dead)) ≡ (nat_lt 0 (length (members_of (state_of t) name)) || nat_lt 0 (length (sub_in (log_of t) x).dead))
busy_is t name place x tied there at = ap (λ n. nat_lt 0 n || nat_lt 0 (length x.letters.dead)) many
  where
    placed : IsPlacedIn (log_of t) t.members.members x
    placed = placed_there (log_of t) t.subscriptions.items name place there t.members.members x tied at

    name_is : x.name ≡ name
    name_is = same_name x.name name (ap (is_placed name) at ∙ (position-Some (is_placed name) t.subscriptions.items place x (sym there)).1)

    many : length x.line ≡ length (members_of (state_of t) name)
    many =
        ap length placed.line
        ∙ length-map (filter (is_at x.name) t.members.members) (λ (m : Member). m.number)
        ∙ ap (λ (n : List ℕ). length (filter (is_at n) t.members.members)) name_is

pub refused_by : (t : Parts) (name : List ℕ) (place : ℕ) (x : Placed) (b : Bool) → AreTied t → Some place ≡ position (is_placed name) t.subscriptions.items → x ≡ get_or t.subscriptions.items place x
    → (nat_lt 0 (length x.line) || nat_lt 0 (length x.letters.dead)) ≡ b
    → dropping_refused (state_of t) name (find (is_named name) (state_of t).subscriptions) ≡ (if b then Some SubscriptionBusy else None)
refused_by t name place x b tied there at is =
    ap (dropping_refused (state_of t) name) (named_sub (log_of t) t.subscriptions.items name place there x at)
    ∙ ap (λ (c : Bool). if c then Some SubscriptionBusy else None) (sym (busy_is t name place x tied there at) ∙ is)

pub refused_nowhere : (s : State) (name : List ℕ) → find (is_named name) s.subscriptions ≡ None → dropping_refused s name (find (is_named name) s.subscriptions) ≡ Some NoSuchSubscription
refused_nowhere s name nowhere = ap (dropping_refused s name) nowhere

module _ (old new : Parts) (name : List ℕ) (place : ℕ) (there : Some place ≡ position (is_placed name) old.subscriptions.items)
    (items : new.subscriptions.items ≡ remove old.subscriptions.items place) (rest : new ≡ record old { subscriptions = new.subscriptions }) where
  pub dropped_state : state_of new ≡ record (state_of old) { subscriptions = removed (is_named name) (state_of old).subscriptions }
  dropped_state =
      ap state_of rest
      ∙ ap (λ (subs : List Subscription). record (state_of old) { subscriptions = subs })
      (ap (map (sub_in (log_of old))) items ∙ map_removed (sub_in (log_of old)) old.subscriptions.items place
      ∙ removed_there (is_named name) (state_of old).subscriptions place (sub_in (log_of old) one.0) (sym (named_place old name place there)))
    where
      one : (x : Placed) × (Some x ≡ slice_get old.subscriptions.items place) × (x ≡ get_or old.subscriptions.items place x)
      one = one_stands (is_placed name) old.subscriptions.items place there

  pub dropped_tied : AreTied old → AreTied new
  dropped_tied tied =
      subst (λ (t : Parts). AreTied t) (sym rest)
      (subst (λ (subs : List Placed). All (IsPlacedIn (log_of old) old.members.members) subs) (sym items) (all_removed (IsPlacedIn (log_of old) old.members.members) old.subscriptions.items place tied))

  pub dropped_told : (ds after : List Dispatch) → AreTold ds (state_of old) → after ≡ remove ds place → AreTold after (state_of new)
  dropped_told ds after told is =
      subst (λ (xs : List Dispatch). AreTold xs (state_of new)) (sym is)
      (subst (λ (s : State). AreTold (remove ds place) s) (sym dropped_state)
      (told_removed ds (state_of old) (record (state_of old) { subscriptions = removed (is_named name) (state_of old).subscriptions }) told place
      (goes_dropped (state_of old) name place (sub_in (log_of old) one.0) (named_place old name place there) (at_place old place one.0 one.1))))
    where
      one : (x : Placed) × (Some x ≡ slice_get old.subscriptions.items place) × (x ≡ get_or old.subscriptions.items place x)
      one = one_stands (is_placed name) old.subscriptions.items place there

  pub dropped_numbers : AgreesWith (all_of old.log) old.log.numbers → AgreesWith (all_of new.log) new.log.numbers
  dropped_numbers agree = subst (λ (t : Parts). AgreesWith (all_of t.log) t.log.numbers) (sym rest) agree
