-- What an answer makes of the dead letters of a subscription, and what a snapshot keeps of them.
use Rattle.std.specs.Prelude.{ℕ, ◌^◌, ◌<◌, ◌≤◌, List, [], ◌++◌, map, take, ◌⊎◌, ⊤}
use Rattle.std.specs.List.{find, All, Contains}
use Rattle.std.specs.List.Sorted.{IsStrictlyIncreasing}
use Rattle.std.specs.Option.{option_map_or}
use Rattle.std.specs.Str.{bytes_eq}
use mathlib.Core.List.{IsPrefix}
use Rattle.delivery_machine.specs.State.{State, DeadLetter}
use Rattle.delivery_machine.specs.Words.{is_named}
use Rattle.delivery_machine.specs.Snapshot.{Snapshot}
use Rattle.delivery_machine.specs.Laws.{IsReached}
use Rattle.delivery_machine.specs.Run.{Answers}
use Rattle.delivery_machine.specs.declared.event.Event.{Event}
use Rattle.delivery_machine.specs.declared.event.Event.TheVariants.{Stored, StoredTo}
use Rattle.delivery_machine.specs.declared.reply.Reply.{Reply}
use Rattle.dead_letters.specs.Worlds.{done_with}

-- the dead letters of the subscription of the name, none where it is not there
abbrev pub dead_of : State → List ℕ → List DeadLetter
dead_of s name = option_map_or (λ sub. sub.dead) (find (is_named name) s.subscriptions) []

-- those of them that are safe
abbrev pub safe_of : State → List ℕ → List DeadLetter
safe_of s name = option_map_or (λ sub. take sub.safe sub.dead) (find (is_named name) s.subscriptions) []

-- those that a snapshot keeps of the subscription of the name
abbrev pub dead_in : Snapshot → List ℕ → List DeadLetter
dead_in kept name = option_map_or (λ sub. sub.dead) (find (λ sub. bytes_eq sub.name name) kept.subscriptions) []

-- the letters stay in their order, and only `DeadDone` takes one away, the first; what dies comes after them
abbrev pub LettersLeaveByMoves : Type 0
LettersLeaveByMoves =
    (s : State) (event : Event) (reply : Reply) (t : State) (name : List ℕ) → IsReached s → Answers s event reply t
    → IsPrefix (dead_of s name) (done_with name s event reply ++ dead_of t name)

-- the ordinals of the letters rise, each below the topic's next one, which never falls; what dies has none below the next one
pub record OrdinalsGoOn (name : List ℕ) (s t : State) : Type 0 where
  pub rising : IsStrictlyIncreasing (map (λ d. d.ordinal) (dead_of t name))
  pub below : All (λ d. d.ordinal < t.next_ordinal) (dead_of t name)
  pub later : All (λ d. Contains (dead_of s name) d ⊎ s.next_ordinal ≤ d.ordinal) (dead_of t name)
  pub next : s.next_ordinal ≤ t.next_ordinal
  pub last : t.next_ordinal ≤ 2 ^ 62

abbrev pub OrdinalsRise : Type 0
OrdinalsRise =
    (s : State) (event : Event) (reply : Reply) (t : State) (name : List ℕ) → IsReached s → Answers s event reply t → OrdinalsGoOn name s t

-- the event says that the letter is stored
abbrev pub SaysStored : Event → DeadLetter → Type 0
SaysStored Stored d = ⊤
SaysStored (StoredTo count ordinal) d = d.ordinal < ordinal
SaysStored event d = ⊥

-- a letter that is safe was so before, or was there, and the event says that it is stored
abbrev pub OnlyStoresMakeSafe : Type 0
OnlyStoresMakeSafe =
    (s : State) (event : Event) (reply : Reply) (t : State) (name : List ℕ) → IsReached s → Answers s event reply t
    → All (λ d. Contains (safe_of s name) d ⊎ (Contains (dead_of s name) d × SaysStored event d)) (safe_of t name)
