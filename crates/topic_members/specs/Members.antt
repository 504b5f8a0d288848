-- A member as it joins, and what it is given.
use Rattle.std.specs.Prelude.{ℕ, ◌-◌, List, [], ◌∷◌, ◌++◌, take, length, map}
use Rattle.std.specs.List.Sorted.{IsStrictlyIncreasing}
use Rattle.position_core.specs.declared.topic_name.TopicName.{TopicName}
use Rattle.position_core.specs.declared.position.Position.{Position}
use Rattle.position_core.specs.Flow.{begun, spent}
use Rattle.delivery_machine.specs.State.{Member}
use Rattle.delivery_machine.specs.Acknowledging.{without}
use Rattle.delivery_machine.specs.declared.delivery.Delivery.{Delivery}
use Rattle.topic_members.specs.declared.member.Terms.{Terms}

abbrev pub joining : ℕ → List ℕ → Terms → TopicName → Member
joining number name terms dead_topic = record {
  number = number;
  subscription = name;
  level = terms.level;
  flow = begun terms.flow;
  ack_timeout = terms.ack_timeout;
  nack_delay = terms.nack_delay;
  max_redeliver = terms.max_redeliver;
  dead_topic = dead_topic;
  out = [];
}

-- with one message more to collect
abbrev pub pushed : Delivery → Member → Member
pushed d m = record m { out = m.out ++ d ∷ [] }

-- with a credit of one less
abbrev pub spending : Member → Member
spending m = record m { flow = spent m.flow }

-- without what it was given last
abbrev pub shortened : Member → Member
shortened m = record m { out = take (length m.out - 1) m.out }

-- without the copies of the messages
abbrev pub leaving_out : List Position → Member → Member
leaving_out positions m = record m { out = without positions m.out }

-- each number is above those before it
abbrev pub NumbersRise : List Member → Type 0
NumbersRise members = IsStrictlyIncreasing (map (λ m. m.number) members)
