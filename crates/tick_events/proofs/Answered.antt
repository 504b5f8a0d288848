-- What a tick did, as the machine answers it.
use Rattle.std.proofs.Common.{◌≡◌, ℕ, List, [], ◌∷◌, length, Some, None, Option, true, false, refl, ap, sym, subst}
use Rattle.std.specs.Prelude.{⊤, is_some, not, if◌then◌else◌, IsSomeAnd}
use Rattle.std.specs.List.{find, position}
use Rattle.std.specs.FinMap as map_of
use Rattle.position_core.specs.declared.position.Position.{Position}
use Rattle.position_core.specs.declared.fault.Fault.TheVariants.{NoMemory, NoSuchSubscription}
use Rattle.position_core.specs.Kind.{is_in_order}
use Rattle.delivery_machine.specs.State.{State, Member, Subscription}
use Rattle.delivery_machine.specs.Words.{is_named}
use Rattle.delivery_machine.specs.Dying.{died, dying_at}
use Rattle.delivery_machine.specs.Refusals.{absence_refused}
use Rattle.delivery_machine.specs.Run.{Answers}
use Rattle.delivery_machine.specs.Ticking.{any_due, is_due, pending_positions, redelivered}
use Rattle.delivery_machine.specs.declared.event.Event.TheVariants.{Tick}
use Rattle.delivery_machine.specs.declared.reply.Reply.TheVariants.{Died, Quiet, Refused, Released, Rewound}
use Rattle.delivery_machine.proofs.Places.{found_nothing}

-- where the subscription is there, what holds of it
there_and : (s : State) (name : List ℕ) (sub : Subscription) (P : Subscription → Type 0) → find (is_named name) s.subscriptions ≡ Some sub → P sub → (absence_refused s name ≡ None) × IsSomeAnd (find (is_named name) s.subscriptions) P
there_and s name sub P there holds = subst (λ (o : Option Subscription). ((if is_some o then None else Some NoSuchSubscription) ≡ None) × IsSomeAnd o P) (sym there) (refl, holds)

pub not_there : (s : State) (name : List ℕ) (now : ℕ) → None ≡ position (is_named name) s.subscriptions → Answers s (Tick name now) (Refused NoSuchSubscription) s
not_there s name now nowhere = (ap (λ (o : Option Subscription). if is_some o then None else Some NoSuchSubscription) (found_nothing (is_named name) s.subscriptions nowhere), refl)

module _ (s : State) (name : List ℕ) (now : ℕ) (sub : Subscription) (there : find (is_named name) s.subscriptions ≡ Some sub) where
  pub no_memory : (t : State) → t ≡ s → Answers s (Tick name now) (Refused NoMemory) t
  no_memory t same = (refl, (there_and s name sub (λ _. ⊤) there tt).0, same)

  pub is_quiet : any_due s sub now ≡ false → Answers s (Tick name now) Quiet s
  is_quiet none = there_and s name sub _ there (none, refl)

  pub is_rewound : (t : State) (count : ℕ) → is_in_order sub.kind ≡ true → any_due s sub now ≡ true → count ≡ length (pending_positions s sub) → t ≡ redelivered s name (pending_positions s sub) → Answers s (Tick name now) (Rewound count) t
  is_rewound t count order due count_is is = there_and s name sub _ there (order, due, count_is, is)

  pub is_released : (t : State) (q : Position) → is_in_order sub.kind ≡ false → is_due now (map_of.get sub.pending q) ≡ true → dying_at s sub q ≡ None → t ≡ redelivered s name (q ∷ []) → Answers s (Tick name now) (Released q) t
  is_released t q order due lives is = there_and s name sub _ there (ap not order, due, lives, is)

  pub is_dead : (t : State) (q : Position) (m : Member) (ordinal : ℕ) → is_in_order sub.kind ≡ false → is_due now (map_of.get sub.pending q) ≡ true → dying_at s sub q ≡ Some m → ordinal ≡ s.next_ordinal → t ≡ died s name q m → Answers s (Tick name now) (Died q ordinal) t
  is_dead t q m ordinal order due dies next is =
      there_and s name sub _ there (ap not order, due, next, subst (λ (o : Option Member). IsSomeAnd o (λ m. t ≡ died s name q m)) (sym dies) is)
