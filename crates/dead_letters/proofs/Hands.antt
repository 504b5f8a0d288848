-- What a courier has in its hand: its letter is done with already or the next one, and its copy may be there.
use Rattle.std.proofs.Common.{◌≡◌, ℕ, ◌<◌, ◌≤◌, List, ◌∷◌, ◌++◌, length, take, Some, true, ap, ◌∙◌, sym, subst, arith, append_assoc}
use Rattle.std.specs.Prelude.{⊤, negsuc}
use Rattle.std.specs.List.{find, filter}
use mathlib.Core.List.{IsPrefix}
use Rattle.position_core.specs.declared.topic_name.TopicName.{TopicName}
use Rattle.position_core.specs.declared.message.Entry.{Entry}
use Rattle.delivery_machine.specs.State.{State, Producer, DeadLetter}
use Rattle.delivery_machine.specs.Words.{is_producer, has_position}
use Rattle.dead_letters.specs.declared.route.Route.{Route}
use Rattle.dead_letters.specs.declared.hand.Hand.{Hand}
use Rattle.dead_letters.specs.declared.hand.Hand.TheVariants.{Empty, Holds, Joined, Copied, Leaves, Waits, Moved}
use Rattle.dead_letters.specs.declared.hand.Letter.{Letter}
use Rattle.dead_letters.specs.Worlds.{Topic, everything, is_for}
use Rattle.dead_letters.proofs.Fronts.{front_length, front_filtered, front_both}
use Rattle.dead_letters.proofs.TargetSteps.{copies, StaysConnected, found_before}
use Rattle.dead_letters.proofs.Deaths.{safe_deaths}

-- the deaths that went to the topic
abbrev pub wanted : TopicName → List DeadLetter → List DeadLetter
wanted target dead = filter (is_for target) dead

-- what becomes of the deaths: more of them are safe, or done with, and the messages go on
pub record SourceGoes (n : List ℕ) (s : Topic) (moved : List DeadLetter) (t : Topic) (after : List DeadLetter) : Type 0 where
  pub safe : IsPrefix (safe_deaths n s.state moved) (safe_deaths n t.state after)
  pub done : IsPrefix moved after
  pub log : IsPrefix (everything s) (everything t)

module _ (route : Route) (target : TopicName) where
  -- the letter is one of the deaths that went to the topic; those before it are done with
  pub record IsHeld (s : Topic) (moved : List DeadLetter) (l : Letter) : Type 0 where
    pub before : List DeadLetter
    pub letter : DeadLetter
    pub after : List DeadLetter
    pub died : Entry
    pub is : l ≡ record { message = died; target = letter.target; ordinal = letter.ordinal }
    pub found : find (has_position letter.position) (everything s) ≡ Some died
    pub for_target : is_for target letter ≡ true
    pub stands : safe_deaths route.subscription s.state moved ≡ before ++ letter ∷ after
    pub early : length before ≤ length moved

  -- the messages have copies of those before it, and one more
  abbrev pub HasCopy : List DeadLetter → List Entry → Type 0
  HasCopy before log = length (wanted target before) < length (copies route.name log)

  -- a courier is connected under the number
  abbrev pub IsCourier : State → ℕ → Type 0
  IsCourier t number = (p : Producer) × (find (is_producer number) t.producers ≡ Some p) × (p.name ≡ route.name) × (p.base ≡ negsuc 0)

  abbrev pub HandHolds : Topic → List DeadLetter → Topic → Topic → Topic → Hand → Type 0
  HandHolds s moved t stored viewed Empty = ⊤
  HandHolds s moved t stored viewed (Holds l) = IsHeld s moved l
  HandHolds s moved t stored viewed (Joined l number) = IsHeld s moved l × IsCourier t.state number
  HandHolds s moved t stored viewed (Copied l number count) = (h : IsHeld s moved l) × IsCourier t.state number × HasCopy h.before (take count (everything t))
  HandHolds s moved t stored viewed (Leaves number) = IsCourier t.state number
  HandHolds s moved t stored viewed (Waits l count) = (h : IsHeld s moved l) × HasCopy h.before (take count (everything t))
  HandHolds s moved t stored viewed (Moved l) = (h : IsHeld s moved l) × HasCopy h.before (everything stored) × HasCopy h.before (everything viewed)

  -- the courier is connected
  abbrev pub IsInside : Hand → Type 0
  IsInside (Joined l number) = ⊤
  IsInside (Copied l number count) = ⊤
  IsInside (Leaves number) = ⊤
  IsInside hand = ⊥

  -- ---- what happens at the topic that letters die in

  goes_found : (s t : Topic) (d : DeadLetter) (e : Entry) → IsPrefix (everything s) (everything t) → find (has_position d.position) (everything s) ≡ Some e → find (has_position d.position) (everything t) ≡ Some e
  goes_found s t d e log found = subst (λ (l : List Entry). find (has_position d.position) l ≡ Some e) log.1 (found_before (has_position d.position) (everything s) log.0 e found)

  pub held_goes : (s : Topic) (moved : List DeadLetter) (t : Topic) (after : List DeadLetter) (l : Letter) → SourceGoes route.subscription s moved t after → IsHeld s moved l → IsHeld t after l
  held_goes s moved t after l goes h = record {
    before = h.before;
    letter = h.letter;
    after = h.after ++ goes.safe.0;
    died = h.died;
    is = h.is;
    found = goes_found s t h.letter h.died goes.log h.found;
    for_target = h.for_target;
    stands = sym goes.safe.1 ∙ ap (λ (ds : List DeadLetter). ds ++ goes.safe.0) h.stands ∙ append_assoc h.before (h.letter ∷ h.after) goes.safe.0;
    early = let a = h.early in let b = front_length moved after goes.done in omega arith;
  }

  pub hand_source : (s : Topic) (moved : List DeadLetter) (u : Topic) (after : List DeadLetter) (t stored viewed : Topic) (hand : Hand) → SourceGoes route.subscription s moved u after
      → HandHolds s moved t stored viewed hand → HandHolds u after t stored viewed hand
  unfolding held_goes
  hand_source s moved u after t stored viewed Empty goes h = tt
  hand_source s moved u after t stored viewed (Holds l) goes h = held_goes s moved u after l goes h
  hand_source s moved u after t stored viewed (Joined l number) goes h = (held_goes s moved u after l goes h.0, h.1)
  hand_source s moved u after t stored viewed (Copied l number count) goes h = (held_goes s moved u after l goes h.0, h.1, h.2)
  hand_source s moved u after t stored viewed (Leaves number) goes h = h
  hand_source s moved u after t stored viewed (Waits l count) goes h = (held_goes s moved u after l goes h.0, h.1)
  hand_source s moved u after t stored viewed (Moved l) goes h = (held_goes s moved u after l goes h.0, h.1, h.2)

  -- ---- what happens at the topic that letters go to

  pub copy_kept : (before : List DeadLetter) (log later : List Entry) → IsPrefix log later → HasCopy before log → HasCopy before later
  copy_kept before log later front has = let more = front_length (copies route.name log) (copies route.name later) (front_filtered _ log later front) in omega arith

  courier_stays : (t u : State) (number : ℕ) → StaysConnected route.name t.producers u.producers → IsCourier t number → IsCourier u number
  courier_stays t u number stays c = (c.0, stays number c.0 c.1 c.2, c.2, c.3)

  pub hand_target : (s : Topic) (moved : List DeadLetter) (t u stored viewed : Topic) (hand : Hand) → IsPrefix (everything t) (everything u) → (IsInside hand → StaysConnected route.name t.state.producers u.state.producers)
      → HandHolds s moved t stored viewed hand → HandHolds s moved u stored viewed hand
  hand_target s moved t u stored viewed Empty log stays h = tt
  hand_target s moved t u stored viewed (Holds l) log stays h = h
  hand_target s moved t u stored viewed (Joined l number) log stays h = (h.0, courier_stays t.state u.state number (stays tt) h.1)
  hand_target s moved t u stored viewed (Copied l number count) log stays h =
      (h.0, courier_stays t.state u.state number (stays tt) h.1, copy_kept (h.0).before (take count (everything t)) (take count (everything u)) (front_both count (everything t) (everything u) log) h.2)
  hand_target s moved t u stored viewed (Leaves number) log stays h = courier_stays t.state u.state number (stays tt) h
  hand_target s moved t u stored viewed (Waits l count) log stays h = (h.0, copy_kept (h.0).before (take count (everything t)) (take count (everything u)) (front_both count (everything t) (everything u) log) h.1)
  hand_target s moved t u stored viewed (Moved l) log stays h = h

  -- what is stored, or viewed, is another snapshot, that has the same messages and more
  pub hand_stored : (s : Topic) (moved : List DeadLetter) (t stored viewed stored' viewed' : Topic) (hand : Hand)
      → ((before : List DeadLetter) → HasCopy before (everything stored) → HasCopy before (everything viewed) → HasCopy before (everything stored') × HasCopy before (everything viewed'))
      → HandHolds s moved t stored viewed hand → HandHolds s moved t stored' viewed' hand
  hand_stored s moved t stored viewed stored' viewed' Empty keeps h = tt
  hand_stored s moved t stored viewed stored' viewed' (Holds l) keeps h = h
  hand_stored s moved t stored viewed stored' viewed' (Joined l number) keeps h = h
  hand_stored s moved t stored viewed stored' viewed' (Copied l number count) keeps h = h
  hand_stored s moved t stored viewed stored' viewed' (Leaves number) keeps h = h
  hand_stored s moved t stored viewed stored' viewed' (Waits l count) keeps h = h
  hand_stored s moved t stored viewed stored' viewed' (Moved l) keeps h = (h.0, (keeps (h.0).before h.1 h.2).0, (keeps (h.0).before h.1 h.2).1)
