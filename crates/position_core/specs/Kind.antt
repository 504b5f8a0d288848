-- Kinds of subscription: compared, and whether they keep the order of the log.
use Rattle.std.specs.Prelude.{Bool, true, false}
use Rattle.position_core.specs.declared.kind.Kind.{Kind}
use Rattle.position_core.specs.declared.kind.Kind.TheVariants.{Exclusive, Failover, Shared, KeyShared}

abbrev pub same_kind : Kind → Kind → Bool
same_kind Exclusive Exclusive = true
same_kind Failover Failover = true
same_kind Shared Shared = true
same_kind KeyShared KeyShared = true
same_kind kind other = false

-- one consumer takes the messages in their order
abbrev pub is_in_order : Kind → Bool
is_in_order Exclusive = true
is_in_order Failover = true
is_in_order Shared = false
is_in_order KeyShared = false
