-- Which events and replies a line keeps in short, and which stand in a box.
use Rattle.std.specs.Prelude.{Bool, true, false}
use Rattle.delivery_machine.specs.declared.event.Event.{Event}
use Rattle.delivery_machine.specs.declared.event.Event.TheVariants as event
use Rattle.delivery_machine.specs.declared.reply.Reply.{Reply}
use Rattle.delivery_machine.specs.declared.reply.Reply.TheVariants as reply
use Rattle.topic_shared.specs.declared.short.ShortEvent.{ShortEvent}
use Rattle.topic_shared.specs.declared.short.ShortEvent.TheVariants as event_in
use Rattle.topic_shared.specs.declared.short_reply.ShortReply.{ShortReply}
use Rattle.topic_shared.specs.declared.short_reply.ShortReply.TheVariants as reply_in

-- an event that comes seldom, or has long names
abbrev pub is_long : Event → Bool
is_long (event.AddProducer name base) = true
is_long (event.Subscribe subscription kind level flow ack_timeout nack_delay max_redeliver dead_topic initial ranges) = true
is_long (event.Seek subscription target) = true
is_long (event.SeekTime subscription time) = true
is_long (event.Skip subscription count) = true
is_long (event.DropSubscription subscription) = true
is_long (event.Stats subscription) = true
is_long (event.SetRetention retention) = true
is_long (event.DeadNext subscription) = true
is_long (event.DeadDone subscription ordinal) = true
is_long event = false

-- a reply that only such an event gets
abbrev pub is_long_reply : Reply → Bool
is_long_reply (reply.ProducerAdded producer auto last) = true
is_long_reply (reply.Subscribed consumer) = true
is_long_reply (reply.Stats kind members mark_delete acknowledged live pending dead gone oldest) = true
is_long_reply (reply.Dead message target ordinal) = true
is_long_reply reply.NoDead = true
is_long_reply reply = false

-- the event that is kept in short
abbrev pub event_of : ShortEvent → Event
event_of (event_in.DropProducer producer) = event.DropProducer producer
event_of (event_in.Publish producer sequence body now) = event.Publish producer sequence body now
event_of event_in.Stored = event.Stored
event_of (event_in.StoredTo length ordinal) = event.StoredTo length ordinal
event_of event_in.Progress = event.Progress
event_of (event_in.Leave consumer) = event.Leave consumer
event_of (event_in.Permit consumer permits) = event.Permit consumer permits
event_of (event_in.Ack consumer position) = event.Ack consumer position
event_of (event_in.AckUpTo consumer position) = event.AckUpTo consumer position
event_of (event_in.Nack consumer position now) = event.Nack consumer position now
event_of (event_in.Tick subscription now) = event.Tick subscription now
event_of (event_in.Trim keep before most) = event.Trim keep before most
event_of (event_in.Dispatch subscription now) = event.Dispatch subscription now
event_of (event_in.Collect consumer) = event.Collect consumer

-- the reply that is kept in short
abbrev pub reply_of : ShortReply → Reply
reply_of (reply_in.Published position length) = reply.Published position length
reply_of (reply_in.Duplicate length) = reply.Duplicate length
reply_of (reply_in.Durable value) = reply.Durable value
reply_of (reply_in.Progress durable length) = reply.Progress durable length
reply_of reply_in.Done = reply.Done
reply_of (reply_in.Sent consumer position count) = reply.Sent consumer position count
reply_of reply_in.Idle = reply.Idle
reply_of (reply_in.Copies value) = reply.Copies value
reply_of (reply_in.Released position) = reply.Released position
reply_of (reply_in.Died position ordinal) = reply.Died position ordinal
reply_of (reply_in.Rewound count) = reply.Rewound count
reply_of reply_in.Quiet = reply.Quiet
reply_of (reply_in.Trimmed gone) = reply.Trimmed gone
reply_of reply_in.Untrimmed = reply.Untrimmed
reply_of (reply_in.Refused value) = reply.Refused value
