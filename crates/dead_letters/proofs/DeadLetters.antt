-- What an answer or a snapshot makes of the dead letters of a subscription: they leave by moves alone, and their ordinals rise.
use Rattle.std.proofs.Common.{◌≡◌, ℕ, ◌<◌, ◌≤◌, List, [], ◌∷◌, ◌++◌, map, take, Some, None, Option, Bool, true, false, cond, refl, ap, ◌∙◌, sym, subst, arith, ◌⊎◌, inl, inr, Contains}
use Rattle.std.specs.List.{All, find}
use Rattle.std.specs.List.Sorted.{IsStrictlyIncreasing}
use Rattle.std.specs.Option.{option_map_or}
use Rattle.std.specs.Str.{bytes_eq}
use Rattle.std.proofs.lemmas.List.{append-nil}
use Rattle.std.proofs.lemmas.List.Elements.{All-from_recursion, All-nil, All-take, All-contains_itself, All-weaker, Contains-append_cases}
use mathlib.Core.List.{IsPrefix}
use Rattle.delivery_machine.specs.State.{State, Subscription, DeadLetter}
use Rattle.delivery_machine.specs.Words.{is_named}
use Rattle.delivery_machine.specs.Snapshot.{Snapshot, KeptSubscription, snapshot_of, kept_of, restarted, subscription_from}
use Rattle.delivery_machine.specs.Laws.{IsReached}
use Rattle.delivery_machine.specs.declared.event.Event.{Event}
use Rattle.delivery_machine.specs.declared.reply.Reply.{Reply}
use Rattle.delivery_machine.proofs.Among.{contained_cases, contained_later}
use Rattle.delivery_machine.proofs.Firsts.{found_contained}
use Rattle.machine_laws.proofs.Ordinals.{below_next}
use Rattle.machine_laws.proofs.ReachedOn.{reached_step}
use Rattle.machine_laws.proofs.WellKept.{letters}
use Rattle.dead_letters.specs.Worlds.{done_with}
use Rattle.dead_letters.specs.Letters.{dead_of, safe_of, dead_in, LettersLeaveByMoves, OrdinalsRise}
use Rattle.dead_letters.proofs.Fronts.{front_same, front_pushed, taken_whole}
use Rattle.dead_letters.proofs.LettersAt.{Letters, letters_found}
use Rattle.dead_letters.proofs.SourceSteps.{Dies}
use Rattle.dead_letters.proofs.Outcomes.{Tells, IsDone, Outcome, outcome}
use Rattle.dead_letters.proofs.Topics.{all_kept}
use Rattle.dead_letters.proofs.Deaths.{dead_at, safe_at, told_letters}
use Rattle.dead_letters.proofs.Invariant.{ordinal_after}

pub dead_is : (s : State) (n : List ℕ) → dead_of s n ≡ dead_at s n
dead_is s n = by (find (is_named n) s.subscriptions)
  where
    by : (o : Option Subscription) → option_map_or (λ (sub : Subscription). sub.dead) o [] ≡ (letters_found o).0
    by None = refl
    by (Some sub) = refl

pub safe_is : (s : State) (n : List ℕ) → safe_of s n ≡ take (safe_at s n) (dead_at s n)
safe_is s n = by (find (is_named n) s.subscriptions)
  where
    by : (o : Option Subscription) → option_map_or (λ (sub : Subscription). take sub.safe sub.dead) o []
        ≡ take (letters_found o).1 (letters_found o).0
    by None = refl
    by (Some sub) = refl

-- ---- in a snapshot, and in what goes on from it

pub dead_kept : (s : State) (n : List ℕ) → dead_in (snapshot_of s) n ≡ dead_of s n
dead_kept s n = by s.subscriptions
  where
    by : (subs : List Subscription) → option_map_or (λ (kept : KeptSubscription). kept.dead) (find (λ (kept : KeptSubscription). bytes_eq kept.name n) (map kept_of subs)) []
        ≡ option_map_or (λ (sub : Subscription). sub.dead) (find (is_named n) subs) []
    by [] = refl
    by (sub ∷ subs) = at (is_named n sub) (by subs)
      where
        at : (b : Bool) → option_map_or (λ (kept : KeptSubscription). kept.dead) (find (λ (kept : KeptSubscription). bytes_eq kept.name n) (map kept_of subs)) []
            ≡ option_map_or (λ (sub : Subscription). sub.dead) (find (is_named n) subs) []
            → option_map_or (λ (kept : KeptSubscription). kept.dead) (cond b (Some (kept_of sub)) (find (λ (kept : KeptSubscription). bytes_eq kept.name n) (map kept_of subs))) []
            ≡ option_map_or (λ (sub : Subscription). sub.dead) (cond b (Some sub) (find (is_named n) subs)) []
        at true rest = refl
        at false rest = rest

-- all of them are safe then
pub safe_restarted : (kept : Snapshot) (n : List ℕ) → safe_of (restarted kept) n ≡ dead_in kept n
safe_restarted kept n = by kept.subscriptions
  where
    by : (subs : List KeptSubscription) → option_map_or (λ (sub : Subscription). take sub.safe sub.dead) (find (is_named n) (map subscription_from subs)) []
        ≡ option_map_or (λ (kept : KeptSubscription). kept.dead) (find (λ (kept : KeptSubscription). bytes_eq kept.name n) subs) []
    by [] = refl
    by (sub ∷ subs) = at (bytes_eq sub.name n) (by subs)
      where
        at : (b : Bool) → option_map_or (λ (sub : Subscription). take sub.safe sub.dead) (find (is_named n) (map subscription_from subs)) []
            ≡ option_map_or (λ (kept : KeptSubscription). kept.dead) (find (λ (kept : KeptSubscription). bytes_eq kept.name n) subs) []
            → option_map_or (λ (sub : Subscription). take sub.safe sub.dead) (cond b (Some (subscription_from sub)) (find (is_named n) (map subscription_from subs))) []
            ≡ option_map_or (λ (kept : KeptSubscription). kept.dead) (cond b (Some sub) (find (λ (kept : KeptSubscription). bytes_eq kept.name n) subs)) []
        at true rest = taken_whole sub.dead
        at false rest = rest

-- what is safe is among the letters
pub safe_among : (s : State) (n : List ℕ) → All (Contains (dead_of s n)) (safe_of s n)
safe_among s n = by (find (is_named n) s.subscriptions)
  where
    by : (o : Option Subscription) → All (Contains (option_map_or (λ (sub : Subscription). sub.dead) o [])) (option_map_or (λ (sub : Subscription). take sub.safe sub.dead) o [])
    by None = All-nil (Contains [])
    by (Some sub) = All-take (Contains sub.dead) sub.safe sub.dead (All-contains_itself sub.dead)

module _ (n : List ℕ) where
  pub told_dead : (s : State) (e : Event) (t : State) → Tells s e t → dead_at t n ≡ dead_at s n
  told_dead s e t tells = ap (λ (u : State). dead_at u n) tells.2 ∙ ap (λ (l : Letters). l.0) (told_letters n s.subscriptions tells.1)

  -- ---- none leaves but by a move

  goes_on : (s : State) (e : Event) (r : Reply) (t : State) → Outcome n s e r t → IsPrefix (dead_at s n) (done_with n s e r ++ dead_at t n)
  goes_on s e r t (inl a) = subst (λ (ds : List DeadLetter). IsPrefix (dead_at s n) (ds ++ dead_at t n)) (sym a.0) (elim a.1 [
    | inl calm ↦ subst (IsPrefix (dead_at s n)) (sym (ap (λ (l : Letters). l.0) calm.letters)) (front_same (dead_at s n))
    | inr other ↦ elim other [
      | inl dies ↦ subst (IsPrefix (dead_at s n)) (sym (ap (λ (l : Letters). l.0) dies.letters)) (front_pushed (dead_at s n) (dies.letter ∷ []))
      | inr tells ↦ subst (IsPrefix (dead_at s n)) (sym (told_dead s e t tells)) (front_same (dead_at s n))
    ]
  ])
  goes_on s e r t (inr done) = (
    [],
    append-nil (dead_at s n) ∙ ap (λ (l : Letters). l.0) done.letters ∙ ap (λ (ds : List DeadLetter). done.letter ∷ ds) (sym (ap (λ (l : Letters). l.0) done.after)) ∙ ap (λ (ds : List DeadLetter). ds ++ dead_at t n) (sym done.done),
  )

  -- ---- what dies has none below the next ordinal

  abbrev IsLate : State → DeadLetter → Type 0
  IsLate s d = Contains (dead_at s n) d ⊎ s.next_ordinal ≤ d.ordinal

  there : (s : State) (ds : List DeadLetter) → ((d : DeadLetter) → Contains ds d → IsLate s d) → All (IsLate s) ds
  there s ds f = All-weaker (Contains ds) (IsLate s) f ds (All-contains_itself ds)

  same_dead : (s t : State) → dead_at t n ≡ dead_at s n → All (IsLate s) (dead_at t n)
  same_dead s t same = there s (dead_at t n) (λ d at. inl (subst (λ (ds : List DeadLetter). Contains ds d) same at))

  one_more : (s t : State) → Dies n s t → All (IsLate s) (dead_at t n)
  one_more s t dies = subst (All (IsLate s)) (sym (ap (λ (l : Letters). l.0) dies.letters)) (there s (dead_at s n ++ dies.letter ∷ []) (λ d at.
      elim (Contains-append_cases (dead_at s n) (dies.letter ∷ []) d at) [
        | inl before ↦ inl before
        | inr last ↦ inr (own d (only d last))
      ]))
    where
      only : (d : DeadLetter) → Contains (dies.letter ∷ []) d → dies.letter ≡ d
      only d at = elim (contained_cases dies.letter [] d at) [
        | inl is ↦ is
        | inr none ↦ absurd (let low = none.1 in omega arith)
      ]

      own : (d : DeadLetter) → dies.letter ≡ d → s.next_ordinal ≤ d.ordinal
      own d is = let at = ap (λ (x : DeadLetter). x.ordinal) is in let next = dies.ordinal in omega arith

  one_less : (s t : State) (e : Event) (r : Reply) → IsDone n s e r t → All (IsLate s) (dead_at t n)
  one_less s t e r done = there s (dead_at t n) (λ d at. inl (subst (λ (ds : List DeadLetter). Contains ds d) (sym (ap (λ (l : Letters). l.0) done.letters))
      (later d (subst (λ (ds : List DeadLetter). Contains ds d) (ap (λ (l : Letters). l.0) done.after) at))))
    where
      later : (d : DeadLetter) → Contains done.rest d → Contains (done.letter ∷ done.rest) d
      later d at = contained_later done.letter done.rest d at

  late : (s : State) (e : Event) (r : Reply) (t : State) → Outcome n s e r t → All (IsLate s) (dead_at t n)
  late s e r t (inl a) = elim a.1 [
    | inl calm ↦ same_dead s t (ap (λ (l : Letters). l.0) calm.letters)
    | inr other ↦ elim other [
      | inl dies ↦ one_more s t dies
      | inr tells ↦ same_dead s t (told_dead s e t tells)
    ]
  ]
  late s e r t (inr done) = one_less s t e r done

  -- ---- ordinals

  rising : (t : State) → IsReached t → IsStrictlyIncreasing (map (λ (d : DeadLetter). d.ordinal) (dead_of t n))
  rising t reached = by (find (is_named n) t.subscriptions) refl
    where
      by : (o : Option Subscription) → find (is_named n) t.subscriptions ≡ o → IsStrictlyIncreasing (map (λ (d : DeadLetter). d.ordinal) (option_map_or (λ (sub : Subscription). sub.dead) o []))
      by None e = λ k low. absurd (omega arith)
      by (Some sub) e = (((all_kept t reached).well.each n sub e).dead).ordinals

  below : (t : State) → IsReached t → All (λ (d : DeadLetter). d.ordinal < t.next_ordinal) (dead_of t n)
  below t reached = by (find (is_named n) t.subscriptions) refl
    where
      by : (o : Option Subscription) → find (is_named n) t.subscriptions ≡ o → All (λ (d : DeadLetter). d.ordinal < t.next_ordinal) (option_map_or (λ (sub : Subscription). sub.dead) o [])
      by None e = All-nil (λ (d : DeadLetter). d.ordinal < t.next_ordinal)
      by (Some sub) e = All-from_recursion (λ (d : DeadLetter). d.ordinal < t.next_ordinal) sub.dead
          (below_next letters t.next_ordinal t.subscriptions sub (found_contained (is_named n) t.subscriptions sub e) ((all_kept t reached).well.ordinals))

pub letters_leave_by_moves : LettersLeaveByMoves
letters_leave_by_moves s e r t n at h =
    subst (λ (ds : List DeadLetter). IsPrefix ds (done_with n s e r ++ dead_of t n)) (sym (dead_is s n))
    (subst (λ (ds : List DeadLetter). IsPrefix (dead_at s n) (done_with n s e r ++ ds)) (sym (dead_is t n)) (goes_on n s e r t (outcome n s e r t (all_kept s at) h)))

pub ordinals_rise : OrdinalsRise
ordinals_rise s e r t n at h =
    let reached = reached_step s e r t h at in
    record {
      rising = rising n t reached;
      below = below n t reached;
      later = subst (λ (ds : List DeadLetter). All (λ d. Contains ds d ⊎ s.next_ordinal ≤ d.ordinal) (dead_of t n)) (sym (dead_is s n))
          (subst (All (IsLate n s)) (sym (dead_is t n)) (late n s e r t (outcome n s e r t (all_kept s at) h)));
      next = ordinal_after s e r t at h;
      last = ((all_kept t reached).well.ordinals).last_ordinal;
    }
