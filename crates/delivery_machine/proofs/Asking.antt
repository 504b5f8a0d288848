-- Nothing that is asked for is taken where nobody has a share, or where nothing is asked for.
use Rattle.std.proofs.Common.{◌≡◌, List, [], ◌∷◌, Option, Some, None, false, refl}
use Rattle.position_core.specs.declared.kind.Kind.{Kind}
use Rattle.position_core.specs.declared.kind.Kind.TheVariants.{Exclusive, Failover, KeyShared, Shared}
use Rattle.position_core.specs.declared.ranges.HashRange.{HashRange}
use Rattle.delivery_machine.specs.Shares.{Shares, asks_taken, is_taken, no_shares}

none_taken : (ranges : List HashRange) → is_taken ranges no_shares ≡ false
none_taken [] = refl
none_taken (r ∷ rs) = none_taken rs

pub asks_nobody : (kind : Kind) (ranges : Option (List HashRange)) → asks_taken kind ranges no_shares ≡ false
asks_nobody KeyShared None = refl
asks_nobody KeyShared (Some ranges) = none_taken ranges
asks_nobody Exclusive ranges = refl
asks_nobody Failover ranges = refl
asks_nobody Shared ranges = refl

pub asks_nothing : (kind : Kind) (shares : Shares) → asks_taken kind None shares ≡ false
asks_nothing KeyShared shares = refl
asks_nothing Exclusive shares = refl
asks_nothing Failover shares = refl
asks_nothing Shared shares = refl
