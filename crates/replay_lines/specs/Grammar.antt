-- What each line stands for.
use Rattle.std.specs.Prelude.{◌≡◌, ℕ, ℤ, List, [], ◌∷◌, ◌++◌, ◌≤◌, length, codes, Option, Some, None, option_map, if◌then◌else◌}
use Rattle.position_core.specs.declared.topic_name.TopicName.{TopicName}
use Rattle.position_core.specs.declared.position.Position.{Position}
use Rattle.position_core.specs.declared.body.Content.{Content}
use Rattle.value_texts.specs.Id.{IsIdOf}
use Rattle.delivery_machine.specs.declared.event.Event.{Event}
use Rattle.delivery_machine.specs.declared.event.Event.TheVariants.{AddProducer, DropProducer, Publish, Stored, Progress, Subscribe, Leave, Permit, Ack, AckUpTo, Nack, Tick, Seek, SeekTime, Skip, DropSubscription, Stats, Dispatch, Collect, DeadNext, DeadDone, Trim}
use Rattle.position_core.specs.declared.kind.Kind.{Kind}
use Rattle.position_core.specs.declared.ranges.HashRange.{HashRange}
use Rattle.position_core.specs.Kind.{same_kind}
use Rattle.value_texts.specs.declared.ranges_text.LeadingZeros.TheVariants.{Refused}
use Rattle.value_texts.specs.RangesText.{ranges_of}
use Rattle.position_core.specs.declared.kind.Kind.TheVariants.{Exclusive, Failover, Shared, KeyShared}
use Rattle.position_core.specs.declared.flow.Flow.{Flow}
use Rattle.position_core.specs.declared.flow.Flow.TheVariants.{Window, Credit}
use Rattle.delivery_machine.specs.declared.event.Target.{Target}
use Rattle.delivery_machine.specs.declared.event.Target.TheVariants as targets
use Rattle.delivery_machine.specs.declared.event.Initial.{Initial}
use Rattle.delivery_machine.specs.declared.event.Initial.TheVariants.{Earliest, Latest}
use Rattle.replay_lines.specs.declared.command.Command.{Command}
use Rattle.replay_lines.specs.declared.command.Command.TheVariants as commands
use Rattle.replay_lines.specs.declared.reading.Line.{Line}
use Rattle.replay_lines.specs.declared.reading.Line.TheVariants as lines
use Rattle.replay_lines.specs.Splitting.{NoneEmpty, words_of}
use Rattle.value_texts.specs.Decimals.{IsNumber}
use Rattle.replay_lines.specs.Numbers.{IsSequence, IsBase, IsMoment, IsBetween}
use Rattle.replay_lines.specs.Names.{IsNameWord, IsProducerWord, IsKeyWord, IsDeadTopic}
use Rattle.replay_lines.specs.Payloads.{IsPayload}

-- how many bytes a line may have
abbrev pub longest_line : ℕ
longest_line = 1500000

-- ---- words of a few values

abbrev pub command_text : Command → List ℕ
command_text commands.Producer = codes "producer"
command_text commands.DropProducer = codes "drop"
command_text commands.Publish = codes "publish"
command_text commands.Stored = codes "stored"
command_text commands.Progress = codes "progress"
command_text commands.Subscribe = codes "subscribe"
command_text commands.Leave = codes "leave"
command_text commands.Permit = codes "permit"
command_text commands.Ack = codes "ack"
command_text commands.AckUpTo = codes "ackupto"
command_text commands.Nack = codes "nack"
command_text commands.Tick = codes "tick"
command_text commands.Seek = codes "seek"
command_text commands.SeekTime = codes "seektime"
command_text commands.Skip = codes "skip"
command_text commands.DropSubscription = codes "dropsub"
command_text commands.Stats = codes "stats"
command_text commands.Dispatch = codes "dispatch"
command_text commands.Collect = codes "collect"
command_text commands.DeadNext = codes "deadnext"
command_text commands.DeadDone = codes "deaddone"
command_text commands.Trim = codes "trim"
command_text commands.Restart = codes "restart"

abbrev pub IsKind : List ℕ → Kind → Type 0
IsKind word Exclusive = word ≡ codes "Exclusive"
IsKind word Failover = word ≡ codes "Failover"
IsKind word Shared = word ≡ codes "Shared"
IsKind word KeyShared = word ≡ codes "Key_Shared"

abbrev pub IsFlow : List ℕ → Flow → Type 0
IsFlow word (Window size) = (number : List ℕ) × (word ≡ codes "push:" ++ number) × IsBetween 1 100000 number size
IsFlow word (Credit left) = (word ≡ codes "pull") × (left ≡ 0)

abbrev pub IsInitial : List ℕ → Initial → Type 0
IsInitial word Earliest = word ≡ codes "Earliest"
IsInitial word Latest = word ≡ codes "Latest"

-- the word says where to go on from; without a target it says nothing, and is no id
abbrev pub IsTarget : List ℕ → Option Target → Type 0
IsTarget word (Some targets.Earliest) = word ≡ codes "earliest"
IsTarget word (Some targets.Latest) = word ≡ codes "latest"
IsTarget word (Some (targets.At position)) = IsIdOf word position
IsTarget word None =
    (word ≡ codes "earliest" → ⊥) × (word ≡ codes "latest" → ⊥)
    × ((position : Position) → IsIdOf word position → ⊥)

-- the words are those of the body's key and payload
abbrev pub IsBody : List ℕ → List ℕ → Content → Type 0
IsBody key payload body = IsKeyWord key body.key × (body.properties ≡ []) × IsPayload payload body.payload

-- the words say how often a message is sent again before it dies, and to which topic it goes then
abbrev pub IsDeath : TopicName → List ℕ → List ℕ → List ℕ → ℕ × TopicName → Type 0
IsDeath this subscription limit target death =
    IsBetween 0 1000000 limit death.0 × IsDeadTopic this subscription death.0 target death.1

-- the words at the end of a consumer's line, of which there is at most one
abbrev pub last_word : Option (List ℕ) → List (List ℕ)
last_word None = []
last_word (Some word) = word ∷ []

-- the ranges that the last word says; only in Key_Shared it is looked at
abbrev pub ranges_said : Kind → Option (List ℕ) → Option (Option (List HashRange))
ranges_said kind None = Some None
ranges_said kind (Some word) = if same_kind kind KeyShared then option_map Some (ranges_of Refused word) else Some None

abbrev pub AreSaid : Kind → Option (List ℕ) → Option (List HashRange) → Type 0
AreSaid kind last ranges = ranges_said kind last ≡ Some ranges

-- ---- lines

-- the line stands for the event of the id's position, or the id is that of no position
abbrev pub IsById : (Position → Event) → List ℕ → Line → Type 0
IsById event_at id (lines.Event event) = (position : Position) × IsIdOf id position × (event ≡ event_at position)
IsById event_at id lines.Restart = ⊥
IsById event_at id lines.BadId = (position : Position) → IsIdOf id position → ⊥

-- the line of a seek: a word that says nothing is an invalid id
abbrev pub seek_line : List ℕ → Option Target → Line
seek_line name (Some target) = lines.Event (Seek name target)
seek_line name None = lines.BadId

-- what a line of the command stands for by its further words
abbrev pub IsLineOf : TopicName → Command → List (List ℕ) → Line → Type 0
IsLineOf this commands.Producer words line =
    (n b : List ℕ) × (name : Option (List ℕ)) × (base : ℤ) × (words ≡ n ∷ b ∷ [])
    × IsProducerWord n name × IsBase b base
    × (line ≡ lines.Event (AddProducer name base))
IsLineOf this commands.DropProducer words line =
    (p : List ℕ) × (producer : ℕ) × (words ≡ p ∷ [])
    × IsNumber p producer
    × (line ≡ lines.Event (DropProducer producer))
IsLineOf this commands.Publish words line =
    (p s k b n : List ℕ) × (producer : ℕ) × (sequence : ℤ) × (body : Content) × (now : ℕ) × (words ≡ p ∷ s ∷ k ∷ b ∷ n ∷ [])
    × IsNumber p producer × IsSequence s sequence × IsBody k b body × IsMoment n now
    × (line ≡ lines.Event (Publish producer sequence body now))
IsLineOf this commands.Stored words line = (words ≡ []) × (line ≡ lines.Event Stored)
IsLineOf this commands.Progress words line = (words ≡ []) × (line ≡ lines.Event Progress)
IsLineOf this commands.Subscribe words line =
    (s k l f a n m d i : List ℕ) × (last : Option (List ℕ)) × (name : List ℕ) × (kind : Kind) × (level : ℕ) × (flow : Flow) × (ack_timeout nack_delay max_redeliver : ℕ) × (dead_topic : TopicName) × (initial : Initial) × (ranges : Option (List HashRange))
    × (words ≡ s ∷ k ∷ l ∷ f ∷ a ∷ n ∷ m ∷ d ∷ i ∷ last_word last)
    × IsNameWord s name × IsKind k kind × IsBetween 0 2147483647 l level × IsFlow f flow
    × IsBetween 0 2147483647 a ack_timeout × IsBetween 0 2147483647 n nack_delay
    × IsDeath this name m d (max_redeliver, dead_topic) × IsInitial i initial × AreSaid kind last ranges
    × (line ≡ lines.Event (Subscribe name kind level flow ack_timeout nack_delay max_redeliver dead_topic initial ranges))
IsLineOf this commands.Leave words line =
    (c : List ℕ) × (consumer : ℕ) × (words ≡ c ∷ [])
    × IsNumber c consumer
    × (line ≡ lines.Event (Leave consumer))
IsLineOf this commands.Permit words line =
    (c n : List ℕ) × (consumer permits : ℕ) × (words ≡ c ∷ n ∷ [])
    × IsNumber c consumer × IsBetween 1 2147483647 n permits
    × (line ≡ lines.Event (Permit consumer permits))
IsLineOf this commands.Ack words line =
    (c id : List ℕ) × (consumer : ℕ) × (words ≡ c ∷ id ∷ [])
    × IsNumber c consumer × IsById (λ position. Ack consumer position) id line
IsLineOf this commands.AckUpTo words line =
    (c id : List ℕ) × (consumer : ℕ) × (words ≡ c ∷ id ∷ [])
    × IsNumber c consumer × IsById (λ position. AckUpTo consumer position) id line
IsLineOf this commands.Nack words line =
    (c id n : List ℕ) × (consumer now : ℕ) × (words ≡ c ∷ id ∷ n ∷ [])
    × IsNumber c consumer × IsMoment n now × IsById (λ position. Nack consumer position now) id line
IsLineOf this commands.Tick words line =
    (s n : List ℕ) × (name : List ℕ) × (now : ℕ) × (words ≡ s ∷ n ∷ [])
    × IsNameWord s name × IsMoment n now
    × (line ≡ lines.Event (Tick name now))
IsLineOf this commands.Seek words line =
    (s w : List ℕ) × (name : List ℕ) × (target : Option Target) × (words ≡ s ∷ w ∷ [])
    × IsNameWord s name × IsTarget w target
    × (line ≡ seek_line name target)
IsLineOf this commands.SeekTime words line =
    (s n : List ℕ) × (name : List ℕ) × (time : ℕ) × (words ≡ s ∷ n ∷ [])
    × IsNameWord s name × IsMoment n time
    × (line ≡ lines.Event (SeekTime name time))
IsLineOf this commands.Skip words line =
    (s n : List ℕ) × (name : List ℕ) × (count : ℕ) × (words ≡ s ∷ n ∷ [])
    × IsNameWord s name × IsBetween 0 2147483647 n count
    × (line ≡ lines.Event (Skip name count))
IsLineOf this commands.DropSubscription words line =
    (s : List ℕ) × (name : List ℕ) × (words ≡ s ∷ [])
    × IsNameWord s name
    × (line ≡ lines.Event (DropSubscription name))
IsLineOf this commands.Stats words line =
    (s : List ℕ) × (name : List ℕ) × (words ≡ s ∷ [])
    × IsNameWord s name
    × (line ≡ lines.Event (Stats name))
IsLineOf this commands.Dispatch words line =
    (s n : List ℕ) × (name : List ℕ) × (now : ℕ) × (words ≡ s ∷ n ∷ [])
    × IsNameWord s name × IsMoment n now
    × (line ≡ lines.Event (Dispatch name now))
IsLineOf this commands.Collect words line =
    (c : List ℕ) × (consumer : ℕ) × (words ≡ c ∷ [])
    × IsNumber c consumer
    × (line ≡ lines.Event (Collect consumer))
IsLineOf this commands.DeadNext words line =
    (s : List ℕ) × (name : List ℕ) × (words ≡ s ∷ [])
    × IsNameWord s name
    × (line ≡ lines.Event (DeadNext name))
IsLineOf this commands.DeadDone words line =
    (s n : List ℕ) × (name : List ℕ) × (ordinal : ℕ) × (words ≡ s ∷ n ∷ [])
    × IsNameWord s name × IsNumber n ordinal
    × (line ≡ lines.Event (DeadDone name ordinal))
IsLineOf this commands.Trim words line =
    (k n m : List ℕ) × (keep before most : ℕ) × (words ≡ k ∷ n ∷ m ∷ [])
    × IsNumber k keep × IsMoment n before × IsNumber m most
    × (line ≡ lines.Event (Trim keep before most))
IsLineOf this commands.Restart words line = (words ≡ []) × (line ≡ lines.Restart)

-- none of the words is empty, and with the command they stand for the line
abbrev pub Complete : TopicName → Command → List (List ℕ) → Line → Type 0
Complete this command words line = NoneEmpty words × IsLineOf this command words line

-- the first of the words is a command, and the others complete it
abbrev pub StandFor : TopicName → List (List ℕ) → Line → Type 0
StandFor this words line =
    (command : Command) × (rest : List (List ℕ)) × (words ≡ command_text command ∷ rest) × Complete this command rest line

-- the line is not too long, and stands for what its words do
abbrev pub IsLine : TopicName → List ℕ → Line → Type 0
IsLine this line read = (length line ≤ longest_line) × StandFor this (words_of line) read

abbrev pub IsBadLine : TopicName → List ℕ → Type 0
IsBadLine this line = (read : Line) → IsLine this line read → ⊥

-- no line stands for two things
abbrev pub EachLineIsOne : Type 0
EachLineIsOne = (this : TopicName) (line : List ℕ) (one other : Line) → IsLine this line one → IsLine this line other → one ≡ other
