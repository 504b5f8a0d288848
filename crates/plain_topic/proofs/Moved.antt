-- The first letter is moved as the machine moves it.
use Rattle.std.proofs.Common.{◌≡◌, arith, ℕ, List, [], ◌∷◌, Bool, true, false, Option, Some, None, cond, refl, ap, sym, ◌∙◌, subst, map}
use Rattle.std.specs.Prelude.{IsSomeAnd, ◌==◌, if◌then◌else◌}
use Rattle.std.specs.List.{find}
use Rattle.std.specs.Option.{option_map_or}
use Rattle.std.proofs.lemmas.Bool.Decides.{nat_tests}
use Rattle.position_core.specs.declared.fault.Fault.TheVariants.{NoSuchMessage}
use Rattle.delivery_machine.specs.State.{State, Subscription, DeadLetter}
use Rattle.delivery_machine.specs.Words.{changed, is_named}
use Rattle.delivery_machine.specs.Acknowledging.{forgetting}
use Rattle.delivery_machine.specs.Dying.{first_safe, moving, moved, is_next_letter, MovesLetter}
use Rattle.delivery_machine.specs.Refusals.{moving_refused}
use Rattle.delivery_machine.specs.Run.{Answers}
use Rattle.delivery_machine.specs.declared.event.Event.TheVariants.{DeadDone}
use Rattle.delivery_machine.specs.declared.reply.Reply.TheVariants.{Done}
use Rattle.plain_lists.specs.Letters.{moving_first}
use Rattle.plain_topic.specs.Letters.{first_moved}

-- what is found is changed, and nothing else
changed_alike : {A : Type 0} (p : A → Bool) (f g : A → A) (xs : List A) (x : A) → find p xs ≡ Some x → f x ≡ g x → changed p f xs ≡ changed p g xs
changed_alike p f g [] x is alike = refl
changed_alike {A} p f g (y ∷ ys) x is alike = by_case (p y) is (changed_alike p f g ys x)
  where
    by_case : (b : Bool) → cond b (Some y) (find p ys) ≡ Some x → (find p ys ≡ Some x → f x ≡ g x → changed p f ys ≡ changed p g ys) → (if b then f y ∷ ys else y ∷ changed p f ys) ≡ (if b then g y ∷ ys else y ∷ changed p g ys)
    by_case true here rest = ap (λ z. z ∷ ys) (subst (λ (z : A). f z ≡ g z) (sym (found here)) alike)
      where
        found : ◌≡◌ {A = Option A} (Some y) (Some x) → y ≡ x
        found e = cc
    by_case false later rest = ap (λ zs. y ∷ zs) (rest later alike)

at_some : {A : Type 0} (o : Option A) (x : A) (P : A → Type 0) → o ≡ Some x → P x → IsSomeAnd o P
at_some o x P is holds = subst (λ (z : Option _). IsSomeAnd z P) (sym is) holds

same_number : (a b : ℕ) → a ≡ b → (a == b) ≡ true
same_number a b is = grind (arith, nat_tests)

pub moves_letter : (s : State) (name : List ℕ) (ordinal : ℕ) (sub : Subscription) (d : DeadLetter)
    → find (is_named name) s.subscriptions ≡ Some sub → first_safe sub ≡ Some d → d.ordinal ≡ ordinal
    → Answers s (DeadDone name ordinal) Done (first_moved s name d.position)
moves_letter s name ordinal sub d there first same = (allowed, taken)
  where
    is_next : is_next_letter ordinal sub ≡ true
    is_next = ap (λ (o : Option DeadLetter). option_map_or (λ d. d.ordinal == ordinal) o false) first ∙ same_number d.ordinal ordinal same

    allowed : moving_refused ordinal (find (is_named name) s.subscriptions) ≡ None
    allowed = ap (moving_refused ordinal) there ∙ ap (λ b. if b then None else Some NoSuchMessage) is_next

    is_moved : first_moved s name d.position ≡ moved s name d
    is_moved =
        ap (λ (subs : List Subscription). record s { subscriptions = subs; members = map (forgetting name (d.position ∷ [])) s.members })
        (changed_alike (is_named name) moving_first (moving d) s.subscriptions sub there (ap (λ (o : Option DeadLetter). option_map_or (λ d. moving d sub) o sub) first))

    taken : IsSomeAnd (find (is_named name) s.subscriptions) (λ sub. MovesLetter s name sub Done (first_moved s name d.position))
    taken =
        at_some (find (is_named name) s.subscriptions) sub (λ sub. MovesLetter s name sub Done (first_moved s name d.position)) there
        (refl, at_some (first_safe sub) d (λ other. first_moved s name d.position ≡ moved s name other) first is_moved)
