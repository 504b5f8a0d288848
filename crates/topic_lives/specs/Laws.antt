-- Laws over a topic's life, over restarts and deletions.
use Rattle.std.specs.Prelude.{◌≡◌, ℕ, false, List, ◌∷◌, Some, codes, nat_eq, IsTrue}
use Rattle.std.specs.List.{All, Contains, starts_with}
use Rattle.std.specs.declared.cmp.Ordering.TheVariants.{Less}
use Rattle.position_core.specs.declared.position.Position.{Position}
use Rattle.position_core.specs.declared.topic_name.TopicName.{TopicName}
use Rattle.position_core.specs.declared.body.Content.{Content}
use Rattle.position_core.specs.declared.message.Entry.{Entry}
use Rattle.position_core.specs.Position.{position_cmp}
use Rattle.delivery_machine.specs.State.{State, fresh}
use Rattle.delivery_machine.specs.Words.{greatest_under, known, next_position}
use Rattle.delivery_machine.specs.Producing.{had}
use Rattle.delivery_machine.specs.Laws.{IsReached, is_acknowledged_at, is_reset, is_sent_at}
use Rattle.delivery_machine.specs.declared.event.Event.{Event}
use Rattle.delivery_machine.specs.declared.reply.Reply.{Reply}
use Rattle.topic_lives.specs.Deleting.{IsDeletable, made_again}
use Rattle.topic_lives.specs.Lives.{Deed, Lives, some_deed}
use Rattle.topic_lives.specs.Lives.Deed.{begins_again}

-- each number goes on: how many messages there were, the next ordinal, the last sequence number of who moves dead letters there, and
-- the next position, which is above those of all messages
pub record KeepsNumbers (s t : State) : Type 0 where
  pub had_so_many : had t ≡ had s
  pub ordinal : t.next_ordinal ≡ s.next_ordinal
  pub couriers : (name : List ℕ) → IsTrue (starts_with nat_eq name (codes "dlq/")) → greatest_under name (known t) ≡ greatest_under name (known s)
  pub later : All (λ e. position_cmp e.position (next_position t) ≡ Less) s.log

-- a run may begin from what is left of a deleted topic, and all numbers go on there
abbrev pub DeletionsKeepNumbers : Type 0
DeletionsKeepNumbers = (s : State) → IsReached s → IsDeletable s → IsReached (made_again s) × KeepsNumbers s (made_again s)

-- the topic may be deleted, and a producer that moves dead letters to it has a last sequence number, also in the topic that is made again
abbrev pub IsLeftByCourier : Content → List Event → List Reply → State → Type 0
IsLeftByCourier body events replies s =
    IsDeletable s × (e : Entry) × Contains s.log e × (e.body ≡ body) × IsTrue (starts_with nat_eq e.producer (codes "dlq/"))
    × (greatest_under e.producer (known (made_again s)) ≡ Some e.sequence)

-- a position that was a message's is never another's, over restarts and deletions
abbrev pub PositionsAreNotGivenAgain : Type 0
PositionsAreNotGivenAgain =
    (s : State) (deeds : List Deed) (t : State) → IsReached s → Lives s deeds t
    → (e f : Entry) → Contains s.log e → Contains t.log f → f.position ≡ e.position → f ≡ e

-- a message that is acknowledged in a subscription is not sent there again, over restarts and deletions, unless the subscription is sought or dropped
abbrev pub AcknowledgedStaysSo : Type 0
AcknowledgedStaysSo =
    (s : State) (deeds : List Deed) (t : State) → IsReached s → Lives s deeds t
    → (name : List ℕ) (position : Position) → IsTrue (is_acknowledged_at s name position)
    → some_deed (is_reset name) deeds ≡ false → some_deed (is_sent_at name position) deeds ≡ false

-- in the one life a message was sent in a subscription and is acknowledged there; in the next another one is sent in a subscription of
-- that name, which was not sought or dropped
abbrev pub IsSentInBothLives : Content → List Deed → State → List Deed → State → Type 0
IsSentInBothLives body first s second t =
    (name : List ℕ) × (e : Entry) × (f : Entry) × Contains s.log e × Contains t.log f × (e.body ≡ body) × (f.body ≡ body)
    × IsTrue (some_deed (is_sent_at name e.position) first) × IsTrue (is_acknowledged_at s name e.position)
    × (some_deed (is_reset name) second ≡ false) × IsTrue (some_deed (is_sent_at name f.position) second)

-- whatever a message holds, this may come of a topic that is deleted and made again
abbrev pub MayBeSentInBothLives : Type 0
MayBeSentInBothLives =
    (topic : TopicName) (body : Content)
    → (first : List Deed) × (s : State) × (second : List Deed) × (t : State)
    × Lives (fresh topic 1) first s × Lives s (begins_again ∷ second) t × IsSentInBothLives body first s second t
