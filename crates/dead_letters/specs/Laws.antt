-- Laws over moves: what holds of the letters that were moved.
use Rattle.std.specs.Prelude.{◌≡◌, ℕ, ◌+◌, codes, nat_eq, IsTrue, ◌&&◌, Bool, List, [], ◌∷◌, ◌++◌, map, take, Some, None, ℤ, int_le}
use Rattle.std.specs.List.{filter, find, starts_with, All}
use Rattle.std.specs.List.Sorted.{IsStrictlyIncreasing}
use mathlib.Core.List.{IsPrefix}
use Rattle.position_core.specs.declared.topic_name.TopicName.{TopicName}
use Rattle.position_core.specs.declared.message.Entry.{Entry}
use Rattle.position_core.specs.declared.body.Content.{Content}
use Rattle.delivery_machine.specs.State.{DeadLetter}
use Rattle.delivery_machine.specs.Words.{is_by, signed, has_position}
use Rattle.dead_letters.specs.declared.route.Route.{Route}
use Rattle.dead_letters.specs.Moving.{sequence_of}
use Rattle.dead_letters.specs.Worlds.{World, everything, Act, delete_source, delete_target, crash, Happens, AllHappen, opened, is_for}
use Rattle.dead_letters.specs.Letters.{dead_of, safe_of}

abbrev pub same_sequence : ℤ → ℤ → Bool
same_sequence a b = int_le a b && int_le b a

-- the producer of the message has the name
abbrev pub is_from : List ℕ → Entry → Bool
is_from name e = is_by name (signed e)

-- the message is the couriers', under the ordinal
abbrev pub is_copy : Route → ℕ → Entry → Bool
is_copy route ordinal e = is_from route.name e && same_sequence e.sequence (sequence_of ordinal)

-- one of the messages is the couriers' under the letter's ordinal, and it has the body of the message that died
abbrev pub StandsOnce : Route → List Entry → List Entry → DeadLetter → Type 0
StandsOnce route source log d =
    (copy : Entry) × (died : Entry) × (filter (is_copy route d.ordinal) log ≡ copy ∷ [])
    × (find (has_position d.position) source ≡ Some died) × (copy.body ≡ died.body)

-- the couriers' first messages are of those deaths, in their order
abbrev pub StandInOrder : Route → List Entry → List DeadLetter → Type 0
StandInOrder route log dead = IsPrefix (map (λ d. sequence_of d.ordinal) dead) (map (λ e. e.sequence) (filter (is_from route.name) log))

-- so stand the deaths among the messages: each once, in their order, which is that of dying
pub record AreMoved (route : Route) (source log : List Entry) (dead : List DeadLetter) : Type 0 where
  pub once : All (StandsOnce route source log) dead
  pub ordered : StandInOrder route log dead
  pub dying : IsStrictlyIncreasing (map (λ d. d.ordinal) dead)

-- the deaths that were done with and went to the topic
abbrev pub moved_to : TopicName → World → List DeadLetter
moved_to target w = filter (is_for target) w.moved

-- the couriers have a name that a topic never forgets
abbrev pub IsNamed : Route → Type 0
IsNamed route = IsTrue (starts_with nat_eq route.name (codes "dlq/"))

-- Whatever happens at two topics and between them, and whatever name of theirs the couriers have: of all messages that the other
-- topic has had, one is of each death of a subscription that was done with and went there, by the couriers' name and under its
-- ordinal, with the body of what died, and in the order of dying. So it is of what is stored of that topic, and was before the last
-- act: before the death was done with. A message that every subscription has done with may go from either topic; its topic has had it.
-- Either topic may be deleted and made again: a message of a deleted topic went like one that was trimmed.
abbrev pub MovedOnce : Type 0
MovedOnce =
    (route : Route) (target : TopicName) (ledger_size : ℕ) (acts : List Act) (w : World) (act : Act) (v : World) → IsNamed route
    → AllHappen route target (opened route.source target ledger_size) acts w → Happens route target w act v
    → AreMoved route (everything v.source) (everything v.target) (moved_to target v)
    × AreMoved route (everything v.source) (everything v.target_stored) (moved_to target v)
    × AreMoved route (everything v.source) (everything w.target_stored) (moved_to target v)

-- Whatever happens, the deaths that were done with and those that are safe to be moved are, in this order, the first of those that
-- what is stored of their topic knows; and of all messages that the other topic has had, those that are durable are the first of
-- those that what is stored of it has had.
abbrev pub SafeIsStored : Type 0
SafeIsStored =
    (route : Route) (target : TopicName) (ledger_size : ℕ) (acts : List Act) (w : World) → IsNamed route
    → AllHappen route target (opened route.source target ledger_size) acts w
    → IsPrefix (w.moved ++ safe_of w.source.state route.subscription) (w.moved_stored ++ dead_of w.source_stored.state route.subscription)
    × IsPrefix (take (w.target.state.gone + w.target.state.durable) (everything w.target)) (everything w.target_stored)

-- The first law speaks of something: whatever a message holds, it may die and be moved.
abbrev pub MayBeMoved : Type 0
MayBeMoved =
    (body : Content)
    → (route : Route) × IsNamed route × (target : TopicName) × (acts : List Act) × (w : World) × AllHappen route target (opened route.source target 1) acts w
    × (d : DeadLetter) × (died : Entry) × (moved_to target w ≡ d ∷ []) × (find (has_position d.position) (everything w.source) ≡ Some died) × (died.body ≡ body)

-- It speaks of copies that went: whatever a message holds, it may die and be moved, its copy goes from the other topic, and this is
-- stored; a crash takes back that the death was done with, and it is moved again. The copy still is one of all messages.
abbrev pub MayGo : Type 0
MayGo =
    (body : Content)
    → (route : Route) × IsNamed route × (target : TopicName)
    × (acts : List Act) × (u : World) × AllHappen route target (opened route.source target 1) acts u
    × (w : World) × Happens route target u crash w × (more : List Act) × (v : World) × AllHappen route target w more v
    × (d : DeadLetter) × (copy : Entry) × (copy.body ≡ body)
    × (moved_to target u ≡ d ∷ []) × (moved_to target w ≡ []) × (moved_to target v ≡ d ∷ [])
    × (filter (is_copy route d.ordinal) w.target.state.log ≡ []) × (filter (is_copy route d.ordinal) (everything v.target) ≡ copy ∷ [])

-- It speaks of deletions: whatever a message holds, it may die and be moved, both topics are deleted and made again, and a message
-- that came later dies and is moved. Both deaths are done with, and the couriers' messages are one copy of each, with that body.
abbrev pub MayGoOn : Type 0
MayGoOn =
    (body : Content)
    → (route : Route) × IsNamed route × (target : TopicName)
    × (acts : List Act) × (u : World) × AllHappen route target (opened route.source target 1) acts u
    × (w : World) × AllHappen route target u (delete_source ∷ delete_target ∷ []) w × (more : List Act) × (v : World) × AllHappen route target w more v
    × (d : DeadLetter) × (e : DeadLetter) × (copy : Entry) × (other : Entry) × (copy.body ≡ body) × (other.body ≡ body)
    × (moved_to target u ≡ d ∷ []) × (moved_to target v ≡ d ∷ e ∷ []) × (find (has_position e.position) (everything w.source) ≡ None)
    × (filter (is_from route.name) (everything v.target) ≡ copy ∷ other ∷ [])
    × IsTrue (is_copy route d.ordinal copy) × IsTrue (is_copy route e.ordinal other)
