-- Only a store's word makes letters safe.
use Rattle.std.proofs.Common.{◌≡◌, ℕ, zero, suc, ◌+◌, ◌<◌, ◌≤◌, List, [], ◌∷◌, map, length, take, Some, None, Option, Bool, true, false, cond, refl, ap, ◌∙◌, sym, subst, arith, ◌⊎◌, inl, inr, Contains}
use Rattle.std.specs.Prelude.{nat_lt, nat_le, max}
use Rattle.std.specs.List.{All, AllByRecursion, find}
use Rattle.std.specs.List.Sorted.{IsStrictlyIncreasing, IsStrictlySortedBy}
use Rattle.std.specs.Ordering.{nat_cmp}
use Rattle.std.specs.declared.cmp.Ordering.TheVariants.{Less}
use Rattle.std.proofs.lemmas.Bool.Decides.{nat_tests}
use Rattle.std.proofs.lemmas.List.{take-append-le}
use Rattle.std.proofs.lemmas.List.Elements.{All-from_recursion, All-contains, All-contains_itself, All-take, All-weaker}
use Rattle.std.proofs.lemmas.List.Sums.{sum_by-cons}
use Rattle.std.proofs.lemmas.Map.Keys.{sorted_from_strictly_increasing}
use Rattle.delivery_machine.specs.State.{State, Subscription, DeadLetter}
use Rattle.delivery_machine.specs.Words.{is_named}
use Rattle.delivery_machine.specs.Producing.{had, stored, stored_to}
use Rattle.delivery_machine.specs.Run.{Answers}
use Rattle.delivery_machine.specs.declared.event.Event.{Event}
use Rattle.delivery_machine.specs.declared.event.Event.TheVariants.{Stored, StoredTo}
use Rattle.delivery_machine.specs.declared.reply.Reply.{Reply}
use Rattle.delivery_machine.proofs.Among.{contained_later}
use Rattle.delivery_machine.proofs.Given.{increasing_later}
use Rattle.delivery_machine.proofs.RunSteps.{split}
use Rattle.machine_laws.proofs.WellReached.{IsAllKept}
use Rattle.machine_laws.proofs.WellFormedStates.{stored_is}
use Rattle.dead_letters.specs.Worlds.{says_stored}
use Rattle.dead_letters.specs.Letters.{dead_of, safe_of, SaysStored, OnlyStoresMakeSafe}
use Rattle.dead_letters.proofs.LettersAt.{Letters, letters_found}
use Rattle.dead_letters.proofs.SourceSteps.{letters_at, Dies}
use Rattle.dead_letters.proofs.Outcomes.{Tells, IsDone, Outcome, outcome}
use Rattle.dead_letters.proofs.Topics.{all_kept}
use Rattle.dead_letters.proofs.Deaths.{dead_at, safe_at, counted, counted_most, told_letters}
use Rattle.dead_letters.proofs.DeadLetters.{dead_is, safe_is}

-- ---- those below an ordinal come first

above_first : (d : DeadLetter) (ds : List DeadLetter) → IsStrictlyIncreasing (map (λ (x : DeadLetter). x.ordinal) (d ∷ ds)) → AllByRecursion (λ (x : DeadLetter). d.ordinal < x.ordinal) ds
unfolding IsStrictlySortedBy
above_first d ds rising = by ds (sorted_from_strictly_increasing (map (λ (x : DeadLetter). x.ordinal) (d ∷ ds)) rising).0
  where
    less : (a b : ℕ) → nat_cmp a b ≡ Less → a < b
    less a b is = grind (arith, nat_tests)

    by : (xs : List DeadLetter) → AllByRecursion (λ k. nat_cmp d.ordinal k ≡ Less) (map (λ (x : DeadLetter). x.ordinal) xs) → AllByRecursion (λ (x : DeadLetter). d.ordinal < x.ordinal) xs
    by [] all = tt
    by (x ∷ xs) all = (less d.ordinal x.ordinal all.0, by xs all.1)

none_counted : (n : List ℕ) (ordinal : ℕ) (d : DeadLetter) (ds : List DeadLetter) → ordinal ≤ d.ordinal → AllByRecursion (λ (x : DeadLetter). d.ordinal < x.ordinal) ds → counted n ordinal (d ∷ ds) ≤ 0
none_counted n ordinal d ds high above = counted_most n ordinal [] (d ∷ ds) (high, by ds above)
  where
    by : (xs : List DeadLetter) → AllByRecursion (λ (x : DeadLetter). d.ordinal < x.ordinal) xs → AllByRecursion (λ (x : DeadLetter). ordinal ≤ x.ordinal) xs
    by [] all = tt
    by (x ∷ xs) all = (let low = all.0 in omega arith, by xs all.1)

-- so many as are below it are the first
below_taken : (n : List ℕ) (ordinal k : ℕ) (ds : List DeadLetter) → IsStrictlyIncreasing (map (λ (d : DeadLetter). d.ordinal) ds) → k ≤ counted n ordinal ds → AllByRecursion (λ (d : DeadLetter). d.ordinal < ordinal) (take k ds)
below_taken n ordinal zero ds rising low = tt
below_taken n ordinal (suc k) [] rising low = tt
below_taken n ordinal (suc k) (d ∷ ds) rising low =
    by (nat_lt d.ordinal ordinal) refl (sum_by-cons (λ (e : DeadLetter). cond {A = ℕ} (nat_lt e.ordinal ordinal) 1 0) d ds) (below_taken n ordinal k ds (increasing_later (λ (x : DeadLetter). x.ordinal) d ds rising))
  where
    under : (a b : ℕ) → nat_lt a b ≡ true → a < b
    under a b is = grind (arith, nat_tests)

    over : (a b : ℕ) → nat_lt a b ≡ false → b ≤ a
    over a b is = grind (arith, nat_tests)

    by : (b : Bool) → nat_lt d.ordinal ordinal ≡ b → counted n ordinal (d ∷ ds) ≡ cond {A = ℕ} (nat_lt d.ordinal ordinal) 1 0 + counted n ordinal ds
        → (k ≤ counted n ordinal ds → AllByRecursion (λ (x : DeadLetter). x.ordinal < ordinal) (take k ds)) → AllByRecursion (λ (x : DeadLetter). x.ordinal < ordinal) (d ∷ take k ds)
    by true is counts rest =
        let one : cond {A = ℕ} (nat_lt d.ordinal ordinal) 1 0 ≡ 1 = ap (λ (c : Bool). cond {A = ℕ} c 1 0) is in
        (under d.ordinal ordinal is, rest (omega arith))
    by false is counts rest = let none = none_counted n ordinal d ds (over d.ordinal ordinal is) (above_first d ds rising) in absurd (omega arith)

either : (a b : ℕ) → (max a b ≡ a) ⊎ (max a b ≡ b)
either a b = by (nat_le a b) refl
  where
    above : (x y : ℕ) → nat_le x y ≡ true → x ≤ y
    above x y is = grind (arith, nat_tests)

    below : (x y : ℕ) → nat_le x y ≡ false → y ≤ x
    below x y is = grind (arith, nat_tests)

    by : (c : Bool) → nat_le a b ≡ c → (max a b ≡ a) ⊎ (max a b ≡ b)
    by true is = let low = above a b is in inr (omega arith)
    by false is = let low = below a b is in inl (omega arith)

-- ---- each answer

module _ (n : List ℕ) where
  abbrev safe_letters : State → List DeadLetter
  safe_letters s = take (safe_at s n) (dead_at s n)

  abbrev IsTold : State → Event → DeadLetter → Type 0
  IsTold s e d = Contains (safe_letters s) d ⊎ (Contains (dead_at s n) d × SaysStored e d)

  each_told : (s : State) (e : Event) (t : State) → ((d : DeadLetter) → Contains (safe_letters t) d → IsTold s e d) → All (IsTold s e) (safe_letters t)
  each_told s e t f = All-weaker (Contains (safe_letters t)) (IsTold s e) f (safe_letters t) (All-contains_itself (safe_letters t))

  still_safe : (s : State) (e : Event) (t : State) → safe_letters t ≡ safe_letters s → All (IsTold s e) (safe_letters t)
  still_safe s e t same = each_told s e t (λ d at. inl (subst (λ (ds : List DeadLetter). Contains ds d) same at))

  formed_letters : (s : State) → IsAllKept s → (safe_at s n ≤ length (dead_at s n)) × IsStrictlyIncreasing (map (λ (d : DeadLetter). d.ordinal) (dead_at s n))
  formed_letters s all = by (find (is_named n) s.subscriptions) refl
    where
      by : (o : Option Subscription) → find (is_named n) s.subscriptions ≡ o
          → ((letters_found o).1 ≤ length (letters_found o).0) × IsStrictlyIncreasing (map (λ (d : DeadLetter). d.ordinal) (letters_found o).0)
      by None e = (omega arith, λ k low. absurd (omega arith))
      by (Some sub) e = let formed = all.well.each n sub e in (formed.safe, formed.dead.ordinals)

  one_dies : (s : State) (e : Event) (t : State) → IsAllKept s → Dies n s t → All (IsTold s e) (safe_letters t)
  one_dies s e t all dies =
      still_safe s e t (ap (λ (l : Letters). take l.1 l.0) dies.letters ∙ take-append-le (safe_at s n) (dead_at s n) (dies.letter ∷ []) (formed_letters s all).0)

  one_done : (s : State) (e : Event) (r : Reply) (t : State) → IsDone n s e r t → All (IsTold s e) (safe_letters t)
  one_done s e r t done = each_told s e t (λ d at.
      inl (subst (λ (l : Letters). Contains (take l.1 l.0) d) (sym done.letters)
      (contained_later done.letter (take done.count done.rest) d (subst (λ (l : Letters). Contains (take l.1 l.0) d) done.after at))))

  -- those below the ordinal become safe
  told_below : (s : State) (count ordinal : ℕ) (t : State) → IsAllKept s → t ≡ stored_to s count ordinal → (d : DeadLetter) → Contains (safe_letters t) d
      → Contains (safe_letters s) d ⊎ (Contains (dead_at s n) d × (d.ordinal < ordinal))
  told_below s count ordinal t all is d at = elim (either (safe_at s n) (counted n ordinal (dead_at s n))) [
    | inl same ↦ inl (subst (λ (k : ℕ). Contains (take k (dead_at s n)) d) same there)
    | inr more ↦ inr (first (subst (λ (k : ℕ). Contains (take k (dead_at s n)) d) more there))
  ]
    where
      there : Contains (take (max (safe_at s n) (counted n ordinal (dead_at s n))) (dead_at s n)) d
      there = subst (λ (l : Letters). Contains (take l.1 l.0) d) (ap (λ (u : State). letters_at u n) is ∙ told_letters n s.subscriptions ordinal) at

      first : Contains (take (counted n ordinal (dead_at s n)) (dead_at s n)) d → Contains (dead_at s n) d × (d.ordinal < ordinal)
      first at =
          let front = take (counted n ordinal (dead_at s n)) (dead_at s n) in (
            All-contains (Contains (dead_at s n)) front d (All-take (Contains (dead_at s n)) (counted n ordinal (dead_at s n)) (dead_at s n) (All-contains_itself (dead_at s n))) at,
            All-contains (λ (x : DeadLetter). x.ordinal < ordinal) front d
                (All-from_recursion (λ (x : DeadLetter). x.ordinal < ordinal) front (below_taken n ordinal (counted n ordinal (dead_at s n)) (dead_at s n) (formed_letters s all).1 (omega arith))) at,
          )

  all_told : (s t : State) → IsAllKept s → t ≡ stored s → All (IsTold s Stored) (safe_letters t)
  all_told s t all is = each_told s Stored t (λ d at. elim (told_below s (had s) s.next_ordinal t all (is ∙ stored_is s all) d at) [
    | inl safe ↦ inl safe
    | inr told ↦ inr (told.0, tt)
  ])

  -- an event that is no store's word tells of none
  silent : (s : State) (e : Event) (r : Reply) (t : State) → IsAllKept s → ((past : State) → says_stored past s e ≡ true) → Outcome n s e r t → All (IsTold s e) (safe_letters t)
  silent s e r t all quiet (inl a) = elim a.1 [
    | inl calm ↦ still_safe s e t (ap (λ (l : Letters). take l.1 l.0) calm.letters)
    | inr other ↦ elim other [
      | inl dies ↦ one_dies s e t all dies
      | inr tells ↦ none tells
    ]
  ]
    where
      none : Tells s e t → All (IsTold s e) (safe_letters t)
      none tells =
          let past = record s { next_ordinal = 0 } in
          let low = (tells.3 past (quiet past)).1 in
          each_told s e t (λ d at. elim (told_below s tells.0 tells.1 t all tells.2 d at) [
            | inl safe ↦ inl safe
            | inr told ↦ let under = told.1 in absurd (omega arith)
          ])
  silent s e r t all quiet (inr done) = one_done s e r t done

  told : (s : State) (e : Event) (r : Reply) (t : State) → IsAllKept s → Answers s e r t → All (IsTold s e) (safe_letters t)
  told s Stored r t all h = elim (split s Stored r t h) [
    | inl same ↦ still_safe s Stored t (ap safe_letters same)
    | inr taken ↦ all_told s t all taken.1.1
  ]
  told s (StoredTo count ordinal) r t all h = elim (split s (StoredTo count ordinal) r t h) [
    | inl same ↦ still_safe s (StoredTo count ordinal) t (ap safe_letters same)
    | inr taken ↦ each_told s (StoredTo count ordinal) t (told_below s count ordinal t all taken.1.1)
  ]
  told s e r t all h = silent s e r t all (λ past. refl) (outcome n s e r t all h)

pub only_stores_make_safe : OnlyStoresMakeSafe
only_stores_make_safe s e r t n at h =
    subst (All (λ d. Contains (safe_of s n) d ⊎ (Contains (dead_of s n) d × SaysStored e d))) (sym (safe_is t n))
    (subst (λ (ds : List DeadLetter). All (λ d. Contains ds d ⊎ (Contains (dead_of s n) d × SaysStored e d)) (take (safe_at t n) (dead_at t n))) (sym (safe_is s n))
    (subst (λ (ds : List DeadLetter). All (λ d. Contains (take (safe_at s n) (dead_at s n)) d ⊎ (Contains ds d × SaysStored e d)) (take (safe_at t n) (dead_at t n))) (sym (dead_is s n))
    (told n s e r t (all_kept s at) h)))
