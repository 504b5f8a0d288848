-- Producers and the log: connecting, leaving, publishing, storing.
use Rattle.std.specs.Prelude.{◌≡◌, ℕ, ◌+◌, ◌-◌, ◌<◌, nat_lt, min, max, Bool, true, false, ◌||◌, List, [], ◌∷◌, ◌++◌, map, length, Option, Some, None, if◌then◌else◌, ℤ, codes}
use Rattle.std.specs.List.{count_by, list_any}
use Rattle.std.specs.Fmt.{decimal}
use Rattle.position_core.specs.declared.body.Content.{Content}
use Rattle.position_core.specs.declared.message.Entry.{Entry}
use Rattle.position_core.specs.Numbers.{ProducerNumber, Ordinal}
use Rattle.delivery_machine.specs.State.{State, Producer, Subscription}
use Rattle.delivery_machine.specs.Words.{known, removed, is_producer, is_connected, is_by, last_sequence, next_position}
use Rattle.delivery_machine.specs.Refusals.{is_duplicate}
use Rattle.delivery_machine.specs.declared.reply.Reply.{Reply}
use Rattle.delivery_machine.specs.declared.reply.Reply.TheVariants.{ProducerAdded, Published, Duplicate, Durable, Progress, Done}

-- the name that the topic makes of a number: `auto-0` and on
abbrev pub auto_name : ℕ → List ℕ
auto_name n = codes "auto-" ++ decimal n

-- a producer of the name is connected, or is known by a message
abbrev pub is_used : State → List ℕ → Bool
is_used s name = is_connected s name || list_any (is_by name) (known s)

-- the least number whose name is not used
abbrev pub IsLeastFree : State → ℕ → Type 0
IsLeastFree s n = (is_used s (auto_name n) ≡ false) × ((k : ℕ) → k < n → is_used s (auto_name k) ≡ true)

abbrev pub with_producer : State → Producer → State
with_producer s p = record s { producers = s.producers ++ p ∷ []; next_producer = s.next_producer + 1 }

abbrev pub Connects : State → List ℕ → Option ℕ → ℤ → Reply → State → Type 0
Connects s name auto base reply t =
    (reply ≡ ProducerAdded s.next_producer auto (last_sequence (known s) name base))
    × (t ≡ with_producer s (record { number = s.next_producer; name = name; base = base }))

-- the name that was asked for, or else one of the topic's making
abbrev pub IsGiven : State → Option (List ℕ) → List ℕ → Option ℕ → Type 0
IsGiven s (Some asked) name auto = (name ≡ asked) × (auto ≡ None)
IsGiven s None name auto = (n : ℕ) × IsLeastFree s n × (name ≡ auto_name n) × (auto ≡ Some n)

abbrev pub AddsProducer : State → Option (List ℕ) → ℤ → Reply → State → Type 0
AddsProducer s asked base reply t = (name : List ℕ) × (auto : Option ℕ) × IsGiven s asked name auto × Connects s name auto base reply t

abbrev pub with_message : State → Entry → State
with_message s e = record s { log = s.log ++ e ∷ []; ledger = e.position.ledger }

abbrev pub message_of : State → Producer → ℤ → Content → ℕ → Entry
message_of s p sequence body now =
    record { position = next_position s; producer = p.name; sequence = sequence; time = now; body = body }

-- how many messages the topic has had, those among them that are gone
abbrev pub had : State → ℕ
had s = s.gone + length s.log

-- a duplicate changes nothing; another message is appended
abbrev pub Publishes : State → Producer → ℤ → Content → ℕ → Reply → State → Type 0
Publishes s p sequence body now reply t =
    (reply ≡ (if is_duplicate s p sequence then Duplicate (had s) else Published (next_position s) (had s + 1)))
    × (t ≡ (if is_duplicate s p sequence then s else with_message s (message_of s p sequence body now)))

abbrev pub DropsProducer : State → ProducerNumber → Reply → State → Type 0
DropsProducer s producer reply t = (reply ≡ Done) × (t ≡ record s { producers = removed (is_producer producer) s.producers })

-- all deaths are stored
abbrev pub storing : Subscription → Subscription
storing sub = record sub { safe = length sub.dead }

-- all messages are stored, and all deaths
abbrev pub stored : State → State
stored s = record s { durable = length s.log; subscriptions = map storing s.subscriptions }

abbrev pub Stores : State → Reply → State → Type 0
Stores s reply t = (reply ≡ Durable (had s)) × (t ≡ stored s)

-- the deaths below the ordinal are stored, and those that were
abbrev pub storing_below : Ordinal → Subscription → Subscription
storing_below ordinal sub = record sub { safe = max sub.safe (count_by (λ d. nat_lt d.ordinal ordinal) sub.dead) }

-- how many messages of the log are stored, once so many of all that the topic has had are: at least those that were
abbrev pub durable_to : State → ℕ → ℕ
durable_to s count = max s.durable (min (count - s.gone) (length s.log))

-- so many of all messages that the topic has had are stored, and the deaths below the ordinal
abbrev pub stored_to : State → ℕ → Ordinal → State
stored_to s count ordinal = record s { durable = durable_to s count; subscriptions = map (storing_below ordinal) s.subscriptions }

abbrev pub StoresTo : State → ℕ → Ordinal → Reply → State → Type 0
StoresTo s count ordinal reply t = (reply ≡ Durable (s.gone + durable_to s count)) × (t ≡ stored_to s count ordinal)

abbrev pub Progresses : State → Reply → State → Type 0
Progresses s reply t = (reply ≡ Progress (s.gone + s.durable) (had s)) × (t ≡ s)
