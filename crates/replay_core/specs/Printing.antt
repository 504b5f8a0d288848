-- The line of each reply.
use Rattle.std.specs.Prelude.{ℕ, ◌==◌, nat_le, Bool, ◌&&◌, ◌||◌, List, [], ◌∷◌, ◌++◌, length, flat_map, Option, Some, None, codes, if◌then◌else◌}
use Rattle.std.specs.Fmt.{decimal, signed_decimal}
use Rattle.std.specs.Str.{bytes_eq}
use Rattle.percent_encoding.specs.Percent.{percent_encode_byte}
use Rattle.value_texts.specs.Id.{text_of}
use Rattle.position_core.specs.declared.fault.Fault.{Fault}
use Rattle.position_core.specs.Fault.{number_of}
use Rattle.position_core.specs.declared.position.Position.{Position}
use Rattle.position_core.specs.declared.kind.Kind.{Kind}
use Rattle.position_core.specs.declared.kind.Kind.TheVariants.{Exclusive, Failover, Shared, KeyShared}
use Rattle.position_core.specs.declared.topic_name.TopicName.{TopicName}
use Rattle.position_core.specs.TopicName.{scheme}
use Rattle.delivery_machine.specs.declared.delivery.Delivery.{Delivery}
use Rattle.delivery_machine.specs.declared.event.Event.{Event}
use Rattle.delivery_machine.specs.declared.event.Event.TheVariants.{AddProducer}
use Rattle.delivery_machine.specs.declared.reply.Reply.{Reply}
use Rattle.delivery_machine.specs.declared.reply.Reply.TheVariants.{ProducerAdded, Published, Duplicate, Durable, Progress, Subscribed, Done, Sent, Idle, Copies, Released, Died, Rewound, Quiet, Stats, Dead, NoDead, Trimmed, Untrimmed, Refused}
use Rattle.replay_lines.specs.Payloads.{payload_text}

-- ---- names

abbrev pub is_within : ℕ → ℕ → ℕ → Bool
is_within least most byte = nat_le least byte && nat_le byte most

-- letters, digits and `-` `_` `.` `~` `/` `:`
abbrev pub is_plain : ℕ → Bool
is_plain byte =
    is_within 97 122 byte || is_within 65 90 byte || is_within 48 57 byte
    || byte == 45 || byte == 95 || byte == 46 || byte == 126 || byte == 47 || byte == 58

abbrev pub escaped_byte : ℕ → List ℕ
escaped_byte byte = if is_plain byte then byte ∷ [] else percent_encode_byte byte

abbrev pub escaped : List ℕ → List ℕ
escaped name = flat_map escaped_byte name

-- a name that is `-` is no sign for none
abbrev pub name_text : List ℕ → List ℕ
name_text name = if bytes_eq name (codes "-") then codes "%2D" else escaped name

-- the name that the topic made, or else that of the event
abbrev pub producer_name : Event → Option ℕ → List ℕ
producer_name event (Some number) = codes "auto-" ++ decimal number
producer_name (AddProducer (Some name) base) None = name_text name
producer_name event None = []

-- the text of a topic, each of its names escaped
abbrev pub target_text : TopicName → List ℕ
target_text name = scheme ++ (escaped name.tenant ++ codes "/" ++ escaped name.namespace ++ codes "/" ++ escaped name.topic)

-- ---- other words

abbrev pub kind_text : Kind → List ℕ
kind_text Exclusive = codes "Exclusive"
kind_text Failover = codes "Failover"
kind_text Shared = codes "Shared"
kind_text KeyShared = codes "Key_Shared"

-- `-` for none
abbrev pub position_text : Option Position → List ℕ
position_text None = codes "-"
position_text (Some position) = text_of position

-- what a subscription is, and how far it has come
abbrev pub subscription_text : Kind → ℕ → Option Position → List ℕ
subscription_text kind members mark_delete =
    codes "stats " ++ kind_text kind ++ codes " " ++ decimal members ++ codes " " ++ position_text mark_delete

-- how many of its messages are acknowledged, live, pending and dead
abbrev pub counts_text : ℕ → ℕ → ℕ → ℕ → List ℕ
counts_text acknowledged live pending dead =
    codes " " ++ decimal acknowledged ++ codes " " ++ decimal live ++ codes " " ++ decimal pending ++ codes " " ++ decimal dead

-- ---- replies

abbrev pub refused_text : Fault → List ℕ
refused_text fault = codes "refused F" ++ decimal (number_of fault)

-- the line of a restart, with the ledger that messages go into then
abbrev pub restarted_text : ℕ → List ℕ
restarted_text ledger = codes "restarted " ++ decimal ledger

abbrev pub copy_text : Delivery → List ℕ
copy_text d = codes " " ++ text_of d.message.position ++ codes ":" ++ decimal d.count ++ codes ":" ++ payload_text d.message.body.payload

abbrev pub reply_text : Event → Reply → List ℕ
reply_text event (ProducerAdded producer auto last) =
    codes "producer " ++ decimal producer ++ codes " " ++ producer_name event auto ++ codes " " ++ signed_decimal last
reply_text event (Published position length) = codes "published " ++ text_of position ++ codes " " ++ decimal length
reply_text event (Duplicate length) = codes "duplicate " ++ decimal length
reply_text event (Durable length) = codes "durable " ++ decimal length
reply_text event (Progress durable length) = codes "progress " ++ decimal durable ++ codes " " ++ decimal length
reply_text event (Subscribed consumer) = codes "consumer " ++ decimal consumer
reply_text event Done = codes "done"
reply_text event (Sent consumer position count) =
    codes "sent " ++ decimal consumer ++ codes " " ++ text_of position ++ codes " " ++ decimal count
reply_text event Idle = codes "idle"
reply_text event (Copies copies) = codes "copies " ++ decimal (length copies) ++ flat_map copy_text copies
reply_text event (Released position) = codes "released " ++ text_of position
reply_text event (Died position ordinal) = codes "died " ++ text_of position ++ codes " " ++ decimal ordinal
reply_text event (Rewound count) = codes "rewound " ++ decimal count
reply_text event Quiet = codes "quiet"
reply_text event (Stats kind members mark_delete acknowledged live pending dead gone oldest) =
    subscription_text kind members mark_delete ++ counts_text acknowledged live pending dead
reply_text event (Dead message target ordinal) =
    codes "dead " ++ decimal ordinal ++ codes " " ++ text_of message.position ++ codes " " ++ target_text target
reply_text event NoDead = codes "nodead"
reply_text event (Trimmed gone) = codes "trimmed " ++ decimal gone
reply_text event Untrimmed = codes "untrimmed"
reply_text event (Refused fault) = refused_text fault
