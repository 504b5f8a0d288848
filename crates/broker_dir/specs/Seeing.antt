-- What is seen of a topic, as far as its state says it.
use Rattle.std.specs.Prelude.{◌≡◌, ◌⊎◌, ℕ, ◌+◌, ◌-◌, Option, All, length, true}
use Rattle.std.specs.String.{string_bytes}
use Rattle.position_core.specs.declared.position.Position.{Position}
use Rattle.position_core.specs.TopicName.{topic_text}
use Rattle.delivery_machine.specs.State.{State}
use Rattle.delivery_machine.specs.declared.saved.Saved as saved
use Rattle.delivery_machine.specs.declared.topic.Topic as topic
use Rattle.marks.specs.declared.history.Naming as naming
use Rattle.broker_parts.specs.declared.stage.Stage.TheVariants.{Open}
use Rattle.broker_dir.specs.declared.inside.Inside.{Inside}
use Rattle.delivery_machine.specs.Statistics.{oldest as oldest_of}
use Rattle.delivery_machine.specs.Run.{Step}
use Rattle.delivery_machine.specs.declared.event.Event.TheVariants.{Stats as AsksStats}
use Rattle.delivery_machine.specs.declared.reply.Reply.{Reply}
use Rattle.delivery_machine.specs.declared.reply.Reply.TheVariants.{Stats}
use Rattle.status_pages.specs.declared.seen.SubscriptionSeen.{SubscriptionSeen}
use Rattle.status_pages.specs.declared.seen.TopicSeen.{TopicSeen}

-- a subscription's kind, its consumers, and how much of it waits, is pending, is acknowledged and is dead are those of the statistics:
-- what is live waits, or is pending
pub record ShowsReply (reply : Reply) (seen : SubscriptionSeen) : Type 0 where
  pub mark_delete : Option Position
  pub live : ℕ
  pub gone : ℕ
  pub oldest : Option ℕ
  pub numbers : reply ≡ Stats seen.kind seen.consumers mark_delete seen.acknowledged live seen.pending seen.dead gone oldest
  pub waiting : seen.waiting ≡ live - seen.pending

-- these are the statistics that the topic tells of it in that state
pub record ShowsSubscription (s : State) (seen : SubscriptionSeen) : Type 0 where
  pub reply : Reply
  pub told : Step s (AsksStats (string_bytes seen.name)) reply s
  pub shows : ShowsReply reply seen

-- the topic's name, how much of it went, is kept and is stored, how old it is, and its subscriptions' numbers are those of one state
pub record ShowsTopic (s : State) (seen : TopicSeen) : Type 0 where
  pub name : string_bytes seen.name ≡ topic_text s.name
  pub gone : seen.gone ≡ s.gone
  pub kept : seen.kept ≡ length s.log
  pub durable : seen.durable ≡ s.gone + s.durable
  pub oldest : seen.oldest ≡ oldest_of s.log
  pub subscriptions : All (ShowsSubscription s) seen.subscriptions.items

module _ (T J B : Type 0) (asks : topic.Ghosts T) (saves : saved.Ghosts T) (names : naming.Ghosts J) where
  -- it is what was seen of an open topic, as it was then
  pub record IsLook (seen : TopicSeen) : Type 0 where
    pub at : Inside T J B asks saves names
    pub open_then : at.stage ≡ Open
    pub shows : ShowsTopic at.topic.cell.cell.state seen

  -- it is that, or what was seen last of a topic that rests
  abbrev pub IsSeen : TopicSeen → Type 0
  IsSeen seen = IsLook seen ⊎ (seen.is_resting ≡ true)
