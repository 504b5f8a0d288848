-- A consumer that is there can always leave: nothing stands before that.
use Rattle.std.proofs.Common.{◌≡◌, ◌==◌, ◌||◌, ℕ, Bool, true, false, List, [], ◌∷◌, Option, Some, is_some, map, cond, refl}
use Rattle.std.specs.List.{find, list_any}
use Rattle.delivery_machine.specs.State.{State, Member}
use Rattle.delivery_machine.specs.Words.{is_member}
use Rattle.delivery_machine.specs.Journals.{is_storing}
use Rattle.delivery_machine.specs.declared.event.Event.{Event}
use Rattle.delivery_machine.specs.declared.event.Event.TheVariants.{Leave}
use Rattle.session_links.specs.Creating.{is_leave}
use Rattle.broker_parts.specs.Ends.{is_ending}
use Rattle.topic_shared.specs.Kept.{Kept, is_end}

found_among : (consumer : ℕ) (ms : List Member) → is_some (find (is_member consumer) ms) ≡ true → list_any (λ n. n == consumer) (map (λ (m : Member). m.number) ms) ≡ true
found_among consumer [] found = absurd (cc found)
found_among consumer (m ∷ ms) found = by (m.number == consumer) found (found_among consumer ms)
  where
    by : (b : Bool) → is_some (cond b (Some m) (find (is_member consumer) ms)) ≡ true
        → (is_some (find (is_member consumer) ms) ≡ true → list_any (λ n. n == consumer) (map (λ (n : Member). n.number) ms) ≡ true)
        → (b || list_any (λ n. n == consumer) (map (λ (n : Member). n.number) ms)) ≡ true
    by true found rest = refl
    by false found rest = rest found

-- it is detached by that
pub detached : (k : Kept) (event : Event) → is_leave k.state event ≡ true → is_end k event ≡ true
detached k (Leave consumer) leaves = found_among consumer k.state.members leaves
detached k event leaves = absurd (cc leaves)

pub ending : (s : State) (event : Event) → is_leave s event ≡ true → is_ending event ≡ true
ending s (Leave consumer) leaves = refl
ending s event leaves = absurd (cc leaves)

pub not_storing : {X : Type 0} (s : State) (event : Event) → is_storing event ≡ true → is_leave s event ≡ true → X
not_storing s (Leave consumer) stores leaves = absurd (cc stores)
not_storing s event stores leaves = absurd (cc leaves)
