-- Where nobody has a share, a newcomer asks for nothing that is taken, and keeps the policy.
use Rattle.std.proofs.Common.{◌≡◌, ◌∙◌, List, Option, false, inl, ap}
use Rattle.position_core.specs.declared.ranges.HashRange.{HashRange}
use Rattle.delivery_machine.specs.Shares.{asks_taken, no_shares}
use Rattle.delivery_machine.proofs.Asking.{asks_nobody}
use Rattle.topic_subscriptions.specs.Placed.{KeepsPolicy, Placed}

pub asks_none : (p : Placed) (ranges : Option (List HashRange)) → p.shares ≡ no_shares → (asks_taken p.kind ranges p.shares ≡ false) × KeepsPolicy ranges p.shares
asks_none p ranges none = (ap (asks_taken p.kind ranges) none ∙ asks_nobody p.kind ranges, inl none)
