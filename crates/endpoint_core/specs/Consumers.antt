-- A consumer's endpoint.
use Rattle.std.specs.Prelude.{ℕ, ◌==◌, Bool, false, List, Result, Ok, if◌then◌else◌}
use Rattle.position_core.specs.declared.topic_name.TopicName.{TopicName}
use Rattle.position_core.specs.declared.kind.Kind.{Kind}
use Rattle.position_core.specs.declared.kind.Kind.TheVariants.{Exclusive}
use Rattle.position_core.specs.declared.flow.Flow.{Flow}
use Rattle.position_core.specs.declared.flow.Flow.TheVariants.{Window, Credit}
use Rattle.delivery_machine.specs.declared.event.Initial.{Initial}
use Rattle.delivery_machine.specs.declared.event.Initial.TheVariants.{Latest}
use Rattle.endpoint_core.specs.declared.faults.Cause.{Cause}
use Rattle.endpoint_core.specs.declared.consumers.ConsumerEndpoint.{ConsumerEndpoint}
use Rattle.endpoint_core.specs.declared.consumers.Settings.{Settings}
use Rattle.endpoint_core.specs.declared.fields.Field.TheVariants.{SubscriptionType, PriorityLevel, PullMode, ReceiverQueueSize, AckTimeoutMillis, NegativeAckRedeliveryDelay, SubscriptionInitialPosition, SubscriptionMode}
use Rattle.endpoint_core.specs.declared.modes.Mode.{Mode}
use Rattle.endpoint_core.specs.declared.modes.Mode.TheVariants.{Durable}
use Rattle.endpoint_core.specs.Faults.{and_then}
use Rattle.endpoint_core.specs.Queries.{Parameter, said}
use Rattle.endpoint_core.specs.Numbers.{number_up_to}
use Rattle.endpoint_core.specs.Words.{truth_of, kind_of, initial_of, mode_of}
use Rattle.endpoint_core.specs.DeadLetters.{death_in}
use Rattle.endpoint_core.specs.Ranges.{ranges_in}

abbrev pub kind_said : List Parameter → Result Kind Cause
kind_said query = said SubscriptionType Exclusive kind_of query

abbrev pub level_said : List Parameter → Result ℕ Cause
level_said query = said PriorityLevel 0 (number_up_to 2147483647) query

-- a window of 0 counts as 1
abbrev pub window_of : ℕ → Flow
window_of size = if size == 0 then Window 1 else Window size

abbrev pub window_said : List Parameter → Result Flow Cause
window_said query =
    and_then (said ReceiverQueueSize 1000 (number_up_to 100000) query) (λ size. Ok (window_of size))

abbrev pub pulls_said : List Parameter → Result Bool Cause
pulls_said query = said PullMode false truth_of query

-- a consumer that pulls begins without credit, and has no window
abbrev pub flow_said : List Parameter → Result Flow Cause
flow_said query = and_then (pulls_said query) (λ pulls. if pulls then Ok (Credit 0) else window_said query)

-- in milliseconds
abbrev pub ack_timeout_said : List Parameter → Result ℕ Cause
ack_timeout_said query = said AckTimeoutMillis 0 (number_up_to 2147483647) query

abbrev pub nack_delay_said : List Parameter → Result ℕ Cause
nack_delay_said query = said NegativeAckRedeliveryDelay 60000 (number_up_to 2147483647) query

abbrev pub initial_said : List Parameter → Result Initial Cause
initial_said query = said SubscriptionInitialPosition Latest initial_of query

abbrev pub mode_said : List Parameter → Result Mode Cause
mode_said query = said SubscriptionMode Durable mode_of query

-- the consumer of the topic and the subscription that has these settings
abbrev pub with_settings : TopicName → List ℕ → Settings → ConsumerEndpoint
with_settings topic subscription s = record {
  topic = topic;
  subscription = subscription;
  kind = s.kind;
  level = s.level;
  flow = s.flow;
  ack_timeout = s.ack_timeout;
  nack_delay = s.nack_delay;
  max_redeliver = s.max_redeliver;
  dead_topic = s.dead_topic;
  initial = s.initial;
  ranges = s.ranges;
  mode = s.mode;
}

abbrev pub consumer_of : TopicName → List ℕ → List Parameter → Result ConsumerEndpoint Cause
consumer_of topic subscription query =
    and_then (kind_said query) (λ kind.
    and_then (level_said query) (λ level.
    and_then (flow_said query) (λ flow.
    and_then (ack_timeout_said query) (λ ack_timeout.
    and_then (nack_delay_said query) (λ nack_delay.
    and_then (death_in topic subscription kind query) (λ death.
    and_then (initial_said query) (λ initial.
    and_then (ranges_in kind query) (λ ranges.
    and_then (mode_said query) (λ mode.
    Ok (record {
      topic = topic;
      subscription = subscription;
      kind = kind;
      level = level;
      flow = flow;
      ack_timeout = ack_timeout;
      nack_delay = nack_delay;
      max_redeliver = death.0;
      dead_topic = death.1;
      initial = initial;
      ranges = ranges;
      mode = mode;
    }))))))))))
