-- All subscriptions of a topic at once, each with couriers of its own.
use Rattle.std.specs.Prelude.{◌≡◌, ℕ, Bool, true, false, IsTrue, List, [], ◌∷◌, Some}
use Rattle.std.specs.List.{filter, find}
use Rattle.std.specs.Str.{bytes_eq}
use Rattle.position_core.specs.declared.topic_name.TopicName.{TopicName}
use Rattle.position_core.specs.declared.message.Entry.{Entry}
use Rattle.position_core.specs.declared.body.Content.{Content}
use Rattle.position_core.specs.declared.fault.Fault.{Fault}
use Rattle.delivery_machine.specs.Words.{has_position}
use Rattle.delivery_machine.specs.State.{DeadLetter}
use Rattle.delivery_machine.specs.declared.reply.Reply.{Reply}
use Rattle.dead_letters.specs.declared.route.Route.{Route}
use Rattle.dead_letters.specs.declared.hand.Hand.{Hand}
use Rattle.dead_letters.specs.Moving.{courier_name}
use Rattle.dead_letters.specs.Worlds.{Topic, everything, new_topic, World, Act, courier, turned_away, let_go, Happens, idle, is_for}
use Rattle.dead_letters.specs.Laws.{AreMoved}

-- the two topics, and by the name of each subscription what was done with and what its couriers have in their hands
pub record TwoTopics : Type 0 where
  pub source : Topic
  pub source_viewed : Topic
  pub source_stored : Topic
  pub target : Topic
  pub target_viewed : Topic
  pub target_stored : Topic
  pub moved : List ℕ → List DeadLetter
  pub moved_viewed : List ℕ → List DeadLetter
  pub moved_stored : List ℕ → List DeadLetter
  pub hands : List ℕ → ℕ → Hand

-- what the couriers of one subscription see of it
abbrev pub seen_by : List ℕ → TwoTopics → World
seen_by name b = record {
  source = b.source;
  source_viewed = b.source_viewed;
  source_stored = b.source_stored;
  target = b.target;
  target_viewed = b.target_viewed;
  target_stored = b.target_stored;
  moved = b.moved name;
  moved_viewed = b.moved_viewed name;
  moved_stored = b.moved_stored name;
  hands = b.hands name;
}

abbrev pub route_of : TopicName → List ℕ → Route
route_of source name = record { source = source; subscription = name; name = courier_name source name }

abbrev pub begun : TopicName → TopicName → ℕ → TwoTopics
begun source target ledger_size = record {
  source = new_topic source ledger_size;
  source_viewed = new_topic source ledger_size;
  source_stored = new_topic source ledger_size;
  target = new_topic target ledger_size;
  target_viewed = new_topic target ledger_size;
  target_stored = new_topic target ledger_size;
  moved = λ _. [];
  moved_viewed = λ _. [];
  moved_stored = λ _. [];
  hands = λ _. idle;
}

-- what happens for all, or a courier of one subscription does
pub data Deed : Type 0 where
  all_see : Act → Deed
  courier_of : List ℕ → ℕ → ℕ → Reply → Deed
  turned_away_of : List ℕ → ℕ → Fault → Deed
  let_go_of : List ℕ → ℕ → Deed

-- what is another subscription's stays
pub record Stays (name : List ℕ) (b c : TwoTopics) : Type 0 where
  pub moved : c.moved name ≡ b.moved name
  pub moved_viewed : c.moved_viewed name ≡ b.moved_viewed name
  pub moved_stored : c.moved_stored name ≡ b.moved_stored name
  pub hands : c.hands name ≡ b.hands name

abbrev pub OneDoes : TopicName → TopicName → List ℕ → TwoTopics → Act → TwoTopics → Type 0
OneDoes source target name b act c =
    Happens (route_of source name) target (seen_by name b) act (seen_by name c) × ((other : List ℕ) → bytes_eq other name ≡ false → Stays other b c)

-- the act is not a courier's
abbrev pub is_no_couriers : Act → Bool
is_no_couriers (courier number now reply) = false
is_no_couriers (turned_away number fault) = false
is_no_couriers (let_go number) = false
is_no_couriers act = true

-- an act that all see is one in the world of each subscription; a courier's is one in its own
abbrev pub Does : TopicName → TopicName → TwoTopics → Deed → TwoTopics → Type 0
Does source target b (all_see act) c = IsTrue (is_no_couriers act) × ((name : List ℕ) → Happens (route_of source name) target (seen_by name b) act (seen_by name c))
Does source target b (courier_of name number now reply) c = OneDoes source target name b (courier number now reply) c
Does source target b (turned_away_of name number fault) c = OneDoes source target name b (turned_away number fault) c
Does source target b (let_go_of name number) c = OneDoes source target name b (let_go number) c

abbrev pub DoesAll : TopicName → TopicName → TwoTopics → List Deed → TwoTopics → Type 0
DoesAll source target b [] c = c ≡ b
DoesAll source target b (deed ∷ deeds) c = (mid : TwoTopics) × Does source target b deed mid × DoesAll source target mid deeds c

-- So it is for all subscriptions at once, also where either topic is deleted and made again.
abbrev pub AllMovedOnce : Type 0
AllMovedOnce =
    (source target : TopicName) (ledger_size : ℕ) (deeds : List Deed) (b : TwoTopics) (deed : Deed) (c : TwoTopics)
    → DoesAll source target (begun source target ledger_size) deeds b → Does source target b deed c
    → (name : List ℕ)
    → let dead = filter (is_for target) (c.moved name) in
    AreMoved (route_of source name) (everything c.source) (everything c.target) dead
    × AreMoved (route_of source name) (everything c.source) (everything c.target_stored) dead
    × AreMoved (route_of source name) (everything c.source) (everything b.target_stored) dead

-- The law above speaks of something: whatever a message holds, it may die and be moved.
abbrev pub AllMayBeMoved : Type 0
AllMayBeMoved =
    (body : Content)
    → (source : TopicName) × (target : TopicName) × (deeds : List Deed) × (b : TwoTopics) × DoesAll source target (begun source target 1) deeds b
    × (name : List ℕ) × (d : DeadLetter) × (died : Entry) × (filter (is_for target) (b.moved name) ≡ d ∷ [])
    × (find (has_position d.position) (everything b.source) ≡ Some died) × (died.body ≡ body)
