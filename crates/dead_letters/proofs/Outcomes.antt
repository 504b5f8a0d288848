-- What an answer at the topic that letters die in comes to, for the letters of one subscription.
use Rattle.std.proofs.Common.{◌≡◌, ℕ, suc, ◌-◌, ◌≤◌, List, [], ◌∷◌, drop, Some, None, Bool, true, false, cond, refl, ap, ap₂, ◌∙◌, sym, subst, arith, ◌⊎◌, inl, inr}
use Rattle.std.specs.Prelude.{nat_lt, nat_le, ◌==◌, slice_get, if◌then◌else◌}
use Rattle.std.specs.List.{find}
use Rattle.std.specs.Option.{option_map_or, option_and_then, option_to_list}
use Rattle.std.specs.Str.{bytes_eq}
use Rattle.std.proofs.lemmas.Bool.Decides.{nat_tests}
use Rattle.delivery_machine.specs.State.{State, Subscription, DeadLetter}
use Rattle.delivery_machine.specs.Words.{changed, is_named}
use Rattle.delivery_machine.specs.Refusals.{refusal_of, moving_refused}
use Rattle.delivery_machine.specs.Producing.{had, stored_to}
use Rattle.delivery_machine.specs.Dying.{first_safe, is_next_letter, moving, moved}
use Rattle.delivery_machine.specs.Run.{Answers}
use Rattle.delivery_machine.specs.declared.event.Event.{Event}
use Rattle.delivery_machine.specs.declared.event.Event.TheVariants.{Stored, StoredTo, Tick, DeadDone}
use Rattle.delivery_machine.specs.declared.reply.Reply.{Reply}
use Rattle.delivery_machine.specs.declared.reply.Reply.TheVariants.{Done, Refused}
use Rattle.position_core.specs.declared.fault.Fault.{Fault}
use Rattle.position_core.specs.declared.fault.Fault.TheVariants.{NoMemory}
use Rattle.delivery_machine.proofs.Firsts.{some_elim}
use Rattle.delivery_machine.proofs.Behind.{same_name, other_name, names_differ}
use Rattle.delivery_machine.proofs.Deciding.{and_first, and_second, number_is, holds_unless_refused}
use Rattle.machine_laws.proofs.WellReached.{IsAllKept}
use Rattle.machine_laws.proofs.WellFormedStates.{stored_is}
use Rattle.dead_letters.specs.Worlds.{done_with, first_letter, says_stored}
use Rattle.dead_letters.proofs.LettersAt.{letters_found, letters_in, letters_beside, letters_itself}
use Rattle.dead_letters.proofs.SourceSteps.{letters_at, IsCalm, Dies, Changes, source_changes}

-- the topic is told of what is stored
abbrev pub Tells : State → Event → State → Type 0
Tells s e t =
    (count : ℕ) × (ordinal : ℕ) × (t ≡ stored_to s count ordinal)
    × ((past : State) → says_stored past s e ≡ true → (count ≤ had past) × (ordinal ≤ past.next_ordinal))

-- the first letter of the subscription is done with
pub record IsDone (n : List ℕ) (s : State) (e : Event) (r : Reply) (t : State) : Type 0 where
  pub letter : DeadLetter
  pub rest : List DeadLetter
  pub count : ℕ
  pub letters : letters_at s n ≡ (letter ∷ rest, suc count)
  pub after : letters_at t n ≡ (rest, count)
  pub done : done_with n s e r ≡ letter ∷ []
  pub first : first_letter s n ≡ Some letter
  pub next : t.next_ordinal ≡ s.next_ordinal
  pub event : e ≡ DeadDone n letter.ordinal

abbrev pub Outcome : List ℕ → State → Event → Reply → State → Type 0
Outcome n s e r t = ((done_with n s e r ≡ []) × (IsCalm n s t ⊎ (Dies n s t ⊎ Tells s e t))) ⊎ IsDone n s e r t

-- ---- the first safe letter

pub first_of : (dead : List DeadLetter) (safe : ℕ) (d : DeadLetter) → (if nat_lt 0 safe then slice_get dead 0 else None) ≡ Some d
    → (rest : List DeadLetter) × (count : ℕ) × (dead ≡ d ∷ rest) × (safe ≡ suc count)
first_of dead safe d is = by (nat_lt 0 safe) refl is dead is
  where
    above : (k : ℕ) → nat_lt 0 k ≡ true → k ≡ suc (k - 1)
    above k e = grind (arith, nat_tests)

    by : (b : Bool) → nat_lt 0 safe ≡ b → cond b (slice_get dead 0) None ≡ Some d → (ds : List DeadLetter) → cond b (slice_get ds 0) None ≡ Some d
        → (rest : List DeadLetter) × (count : ℕ) × (ds ≡ d ∷ rest) × (safe ≡ suc count)
    by true e _ [] is = absurd (let i = is in cc)
    by true e _ (x ∷ ds) is = let same : x ≡ d = cc in (ds, safe - 1, ap (λ (y : DeadLetter). y ∷ ds) same, above safe e)
    by false e _ ds is = absurd (let i = is in cc)

module _ (n : List ℕ) where
  -- the event names the first safe letter
  asked : (s : State) (name : List ℕ) (ordinal : ℕ) (sub : Subscription) (d : DeadLetter) → moving_refused ordinal (find (is_named name) s.subscriptions) ≡ None → find (is_named name) s.subscriptions ≡ Some sub → first_safe sub ≡ Some d → d.ordinal ≡ ordinal
  asked s name ordinal sub d allowed found first =
      let test : is_next_letter ordinal sub ≡ true = holds_unless_refused _ _ (sym (ap (moving_refused ordinal) found) ∙ allowed) in
      number_is d.ordinal ordinal (sym (ap (λ o. option_map_or (λ (x : DeadLetter). x.ordinal == ordinal) o false) first) ∙ test)

  done : (s : State) (name : List ℕ) (ordinal : ℕ) (t : State) (sub : Subscription) (d : DeadLetter) → d.ordinal ≡ ordinal → find (is_named name) s.subscriptions ≡ Some sub → first_safe sub ≡ Some d → t ≡ moved s name d → Outcome n s (DeadDone name ordinal) Done t
  done s name ordinal t sub d own found first is = by (bytes_eq name n) refl
    where
      by : (b : Bool) → bytes_eq name n ≡ b → Outcome n s (DeadDone name ordinal) Done t
      by true e =
          let same : name ≡ n = same_name name n e in
          let at : find (is_named n) s.subscriptions ≡ Some sub = subst (λ (k : List ℕ). find (is_named k) s.subscriptions ≡ Some sub) same found in
          let parts = first_of sub.dead sub.safe d first in
          let was : letters_at s n ≡ (sub.dead, sub.safe) = ap letters_found at in
          let left : letters_in (changed (is_named n) (moving d) s.subscriptions) n ≡ (drop 1 sub.dead, sub.safe - 1) = letters_itself n (moving d) (λ _. refl) s.subscriptions sub at in
          let now : letters_at t n ≡ (drop 1 sub.dead, sub.safe - 1) =
          subst (λ (k : List ℕ). letters_at t n ≡ letters_in (changed (is_named k) (moving d) s.subscriptions) n) same (ap (λ (u : State). letters_at u n) is) ∙ left in
          let dead = parts.2 in
          let safe = parts.3 in
          let first_is : first_letter s name ≡ Some d = ap (option_and_then first_safe) found ∙ first in
          let less : suc parts.1 - 1 ≡ parts.1 = omega arith in
          inr (record {
            letter = d;
            rest = parts.0;
            count = parts.1;
            letters = was ∙ ap (λ (ds : List DeadLetter). (ds, sub.safe)) dead ∙ ap (λ (k : ℕ). (d ∷ parts.0, k)) safe;
            after = now ∙ ap (λ (ds : List DeadLetter). (drop 1 ds, sub.safe - 1)) dead ∙ ap (λ (k : ℕ). (parts.0, k - 1)) safe ∙ ap (λ (k : ℕ). (parts.0, k)) less;
            done = ap (λ b. if b then option_to_list (first_letter s name) else []) e ∙ ap option_to_list first_is;
            first = ap (option_and_then first_safe) at ∙ first;
            next = ap (λ (u : State). u.next_ordinal) is;
            event = ap₂ (λ (k : List ℕ) (o : ℕ). DeadDone k o) same (sym own);
          })
      by false e = inl (
        ap (λ b. if b then option_to_list (first_letter s name) else []) e,
        inl (record {
          letters = ap (λ (u : State). letters_at u n) is ∙ letters_beside n name (moving d) (λ _. refl) (λ other u. other_name n name other (names_differ name n e) u) s.subscriptions;
          ordinal = let same = ap (λ (u : State). u.next_ordinal) is in omega arith;
        }),
      )

  told_all : (s : State) → IsAllKept s → (t : State) → t ≡ stored_to s (had s) s.next_ordinal → Tells s Stored t
  told_all s all t is = (had s, s.next_ordinal, is, λ past says. (at_most _ _ (and_first _ _ says), at_most _ _ (and_second _ _ says)))
    where
      at_most : (a b : ℕ) → nat_le a b ≡ true → a ≤ b
      at_most a b e = grind (arith, nat_tests)

  told : (s : State) (count ordinal : ℕ) (t : State) → t ≡ stored_to s count ordinal → Tells s (StoredTo count ordinal) t
  told s count ordinal t is = (count, ordinal, is, λ past says. (at_most _ _ (and_first _ _ says), at_most _ _ (and_second _ _ says)))
    where
      at_most : (a b : ℕ) → nat_le a b ≡ true → a ≤ b
      at_most a b e = grind (arith, nat_tests)

  changed_to : (s : State) (e : Event) (r : Reply) (t : State) → IsAllKept s → refusal_of s e ≡ None → Changes n s e r t → Outcome n s e r t
  changed_to s (Tick name now) r t all allowed h = inl (
    refl,
    elim h [
      | inl a ↦ inl a
      | inr b ↦ inr (inl b)
    ],
  )
  changed_to s Stored r t all allowed h = inl (refl, inr (inr (told_all s all t (h ∙ stored_is s all))))
  changed_to s (StoredTo count ordinal) r t all allowed h = inl (refl, inr (inr (told s count ordinal t h)))
  changed_to s (DeadDone name ordinal) r t all allowed h =
      some_elim (find (is_named name) s.subscriptions) _ (Outcome n s (DeadDone name ordinal) r t) h (λ sub found h.
      some_elim (first_safe sub) _ (Outcome n s (DeadDone name ordinal) r t) h.1 (λ d first is.
      subst (λ (q : Reply). Outcome n s (DeadDone name ordinal) q t) (sym h.0) (done s name ordinal t sub d (asked s name ordinal sub d allowed found first) found first is)))
  changed_to s e r t all allowed h = inl (refl, inl h)

  refused : (s : State) (e : Event) (fault : Fault) → done_with n s e (Refused fault) ≡ []
  refused s (DeadDone name ordinal) fault = refl
  refused s e fault = refl

  unchanged : (s : State) (e : Event) (fault : Fault) (t : State) → t ≡ s → Outcome n s e (Refused fault) t
  unchanged s e fault t is = inl (refused s e fault, inl (subst (IsCalm n s) (sym is) (record { letters = refl; ordinal = omega arith })))

  pub outcome : (s : State) (e : Event) (r : Reply) (t : State) → IsAllKept s → Answers s e r t → Outcome n s e r t
  outcome s e (Refused NoMemory) t all h = unchanged s e NoMemory t h.2
  outcome s e (Refused fault) t all h = unchanged s e fault t h.1
  outcome s e r t all h = changed_to s e r t all h.0 (source_changes n s e r t all h.0 h.1)
