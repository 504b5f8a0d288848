-- What a journal of events and replies tells: whether a snapshot has changed, whether a store spoke, and who is attached.
use Rattle.std.specs.Prelude.{◌==◌, Bool, true, false, List, [], ◌∷◌, ◌++◌, map}
use Rattle.position_core.specs.Numbers.{ProducerNumber, ConsumerNumber}
use Rattle.delivery_machine.specs.State.{State}
use Rattle.delivery_machine.specs.Words.{removed}
use Rattle.delivery_machine.specs.declared.event.Event.{Event}
use Rattle.delivery_machine.specs.declared.event.Event.TheVariants.{Stored, StoredTo, DropProducer, Leave, Ack, AckUpTo, Seek, SeekTime, Skip, DropSubscription, SetRetention, DeadDone}
use Rattle.delivery_machine.specs.declared.reply.Reply.{Reply}
use Rattle.delivery_machine.specs.declared.reply.Reply.TheVariants.{ProducerAdded, Published, Subscribed, Done, Released, Rewound, Died, Trimmed}

-- ---- snapshots

-- what the event does, once it is done, is kept by a snapshot
abbrev pub is_kept_once_done : Event → Bool
is_kept_once_done (Ack consumer position) = true
is_kept_once_done (AckUpTo consumer position) = true
is_kept_once_done (Seek name target) = true
is_kept_once_done (SeekTime name time) = true
is_kept_once_done (Skip name count) = true
is_kept_once_done (DropSubscription name) = true
is_kept_once_done (SetRetention retention) = true
is_kept_once_done (DeadDone name ordinal) = true
is_kept_once_done event = false

-- an event that is so answered may have changed what a snapshot has
abbrev pub changes_snapshot : Event → Reply → Bool
changes_snapshot event (Published position length) = true
changes_snapshot event (Subscribed consumer) = true
changes_snapshot event (Released position) = true
changes_snapshot event (Rewound count) = true
changes_snapshot event (Died position ordinal) = true
changes_snapshot event (Trimmed gone) = true
changes_snapshot event Done = is_kept_once_done event
changes_snapshot event reply = false

-- the events by which a store says what it holds
abbrev pub is_storing : Event → Bool
is_storing Stored = true
is_storing (StoredTo count ordinal) = true
is_storing event = false

-- ---- who is attached

abbrev pub producers_in : State → List ProducerNumber
producers_in s = map (λ p. p.number) s.producers

abbrev pub consumers_in : State → List ConsumerNumber
consumers_in s = map (λ m. m.number) s.members

-- the producers that are attached after an answer
abbrev pub producers_noted : List ProducerNumber → Event → Reply → List ProducerNumber
producers_noted attached event (ProducerAdded producer auto last) = attached ++ producer ∷ []
producers_noted attached (DropProducer producer) Done = removed (λ number. number == producer) attached
producers_noted attached event reply = attached

-- the consumers that are attached after an answer
abbrev pub consumers_noted : List ConsumerNumber → Event → Reply → List ConsumerNumber
consumers_noted attached event (Subscribed consumer) = attached ++ consumer ∷ []
consumers_noted attached (Leave consumer) Done = removed (λ number. number == consumer) attached
consumers_noted attached event reply = attached
