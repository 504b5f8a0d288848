-- What is asked of the first messages, so that they may go.
use Rattle.std.specs.Prelude.{◌≡◌, ℕ, ◌+◌, ◌%◌, ◌^◌, ◌<◌, ◌≤◌, length}
use Rattle.std.specs.List.{All}
use Rattle.topic_subscriptions.specs.Placed.{AreAcknowledged}
use Rattle.topic_parts.specs.Parts.{log_of}
use Rattle.topic_parts.specs.declared.parts.Parts.{Parts}

-- whole sixty-fours, stored, and acknowledged in each subscription, and a message stays
pub record MayGo (t : Parts) (count : ℕ) : Type 0 where
  pub whole : count % 64 ≡ 0
  pub within : count < length (log_of t)
  pub stored : count ≤ t.log.durable
  pub room : t.log.gone + count ≤ 2 ^ 62
  pub acknowledged : All (AreAcknowledged count) t.subscriptions.items
