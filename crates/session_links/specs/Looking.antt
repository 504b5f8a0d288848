-- What a look at a topic shows of a subscription: its next messages.
use Rattle.std.specs.Prelude.{◌≡◌, ℕ, suc, ◌+◌, ◌-◌, Bool, not, ◌&&◌, List, [], ◌∷◌, map, take, MatchResult, Result, if◌then◌else◌}
use Rattle.std.specs.List.{find, list_any}
use Rattle.std.specs.Option.{option_map_or, unwrap_or}
use Rattle.std.specs.FinSet as set
use Rattle.std.specs.FinMap as map_of
use Rattle.std.specs.Str.{bytes_eq}
use Rattle.position_core.specs.declared.fault.Fault.{Fault}
use Rattle.position_core.specs.declared.fault.Fault.TheVariants.{NoMemory, NoSuchSubscription}
use Rattle.position_core.specs.declared.message.Entry.{Entry}
use Rattle.position_core.specs.declared.position.Position.{Position}
use Rattle.position_core.specs.Position.{same_position}
use Rattle.delivery_machine.specs.Places.{KeptPlaces, KeptTopic, snapshot_in}
use Rattle.delivery_machine.specs.Snapshot.{snapshot_of}
use Rattle.delivery_machine.specs.State.{State}
use Rattle.delivery_machine.specs.declared.delivery.Delivery.{Delivery}
use Rattle.delivery_machine.specs.declared.reply.Reply.{Reply}
use Rattle.delivery_machine.specs.declared.reply.Reply.TheVariants.{Copies, Refused}

abbrev pub is_dead : KeptPlaces → Position → Bool
is_dead kept position = list_any (λ d. same_position d.position position) kept.dead

-- the message at the place is neither acknowledged nor dead
abbrev pub is_left : KeptPlaces → ℕ → Entry → Bool
is_left kept place e = not (set.contains kept.acknowledged place) && not (is_dead kept e.position)

-- the messages that are left, in order, where the first of the log stands at the place
abbrev pub left_from : KeptPlaces → ℕ → List Entry → List Entry
left_from kept place [] = []
left_from kept place (e ∷ log) = if is_left kept place e then e ∷ left_from kept (suc place) log else left_from kept (suc place) log

-- how often the message was redelivered
abbrev pub times_of : KeptPlaces → Position → ℕ
times_of kept position = unwrap_or (map_of.get kept.counts position) 0

-- the message as a consumer gets it
abbrev pub delivered : KeptPlaces → Entry → Delivery
delivered kept e = record { message = e; count = times_of kept e.position }

-- the first of these messages that are left, so many, where the first of all stands at the place
abbrev pub next_from : KeptPlaces → ℕ → ℕ → List Entry → List Delivery
next_from kept place count messages = map (delivered kept) (take count (left_from kept place messages))

-- the next messages of the subscription, of those that are stored; the log begins after those that are gone
abbrev pub next_in : KeptTopic → ℕ → KeptPlaces → ℕ → List Delivery
next_in kept stored sub count = next_from sub 0 count (take (stored - kept.gone) kept.log)

abbrev pub is_called : List ℕ → KeptPlaces → Bool
is_called name sub = bytes_eq sub.name name

-- what is shown of the subscription of the name, where so many messages are stored of all that the topic has had
abbrev pub shown_of : KeptTopic → ℕ → List ℕ → ℕ → Reply
shown_of kept stored name count = option_map_or (λ sub. Copies (next_in kept stored sub count)) (find (is_called name) kept.subscriptions) (Refused NoSuchSubscription)

-- it is shown of what the topic keeps in the state; or there was no memory for it
unfoldable pub Shows : State → List ℕ → ℕ → Result Reply Fault → Type 0
Shows s name count answer =
    MatchResult answer (λ reply. (kept : KeptTopic) × (snapshot_in kept ≡ snapshot_of s) × (reply ≡ shown_of kept (s.gone + s.durable) name count)) (λ fault. fault ≡ NoMemory)
