-- Events whose values are within the limits of their types, and where such a run begins.
use Rattle.std.specs.Prelude.{◌≡◌, ℕ, ◌≤◌, ◌≤ℤ◌, ◌⊎◌, IfSome, IsTrue, IsUtf8, List, length, negsuc}
use Rattle.std.specs.List.{All}
use Rattle.position_core.specs.declared.topic_name.TopicName.{TopicName}
use Rattle.position_core.specs.Name.{is_name}
use Rattle.position_core.specs.TopicName.{topic_text}
use Rattle.delivery_machine.specs.State.{State, fresh}
use Rattle.delivery_machine.specs.Snapshot.{restarted, snapshot_of}
use Rattle.delivery_machine.specs.Places.{AreBelow, KeptPlaces, KeptTopic, snapshot_in}
use Rattle.delivery_machine.specs.Run.{Run}
use Rattle.delivery_machine.specs.declared.event.Event.{Event}
use Rattle.delivery_machine.specs.declared.event.Event.TheVariants.{AddProducer, Publish, SetRetention, Subscribe}
use Rattle.delivery_machine.specs.declared.reply.Reply.{Reply}
use Rattle.row_reading.specs.Reading.{IsContent, IsLedgerSize, IsNamed, IsReadBack, IsText, MayBeRule}

-- a topic with a name of UTF-8
abbrev pub IsTopic : TopicName → Type 0
IsTopic name = IsNamed name × IsUtf8 (topic_text name)

-- a subscription's name, of UTF-8
abbrev pub IsSubscriptionName : List ℕ → Type 0
IsSubscriptionName name = IsTrue (is_name name) × IsUtf8 name

-- the event's values are within the limits of their types
abbrev pub IsWithinLimits : Event → Type 0
IsWithinLimits (AddProducer name base) = IfSome name (IsText 1 1280) × (negsuc 0 ≤ℤ base)
IsWithinLimits (Publish producer sequence body now) = IsContent body × (now ≤ 253402300799999)
IsWithinLimits (Subscribe name kind level flow ack_timeout nack_delay max_redeliver dead_topic initial ranges) = IsSubscriptionName name × IsTopic dead_topic
IsWithinLimits (SetRetention retention) = MayBeRule retention
IsWithinLimits event = Unit {0}

-- a topic with nothing in it, or one that goes on from a snapshot that is read back
abbrev pub BeginsWithinLimits : State → Type 0
BeginsWithinLimits s =
    ((name : TopicName) × (ledger_size : ℕ) × IsLedgerSize ledger_size × (s ≡ fresh name ledger_size))
    ⊎ ((kept : KeptTopic) × IsReadBack kept × (s ≡ restarted (snapshot_in kept)))

-- its places are those of messages
abbrev pub IsWithinLog : KeptTopic → Type 0
IsWithinLog kept = All (λ (sub : KeptPlaces). AreBelow (length kept.log) sub.acknowledged) kept.subscriptions

-- whatever is kept of a state that such a run comes to is read back
abbrev pub WhatRunsKeepIsRead : Type 0
WhatRunsKeepIsRead =
    (s : State) (events : List Event) (replies : List Reply) (t : State) → BeginsWithinLimits s → All IsWithinLimits events → Run s events replies t
    → (kept : KeptTopic) → snapshot_in kept ≡ snapshot_of t → IsWithinLog kept → IsReadBack kept
