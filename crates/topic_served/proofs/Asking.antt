-- What a consumer asks for that joins: where no hash is another's by the subscription's shares, none is by the dispatcher's,
-- and but for Key_Shared it is as if nothing was asked for.
use Rattle.std.proofs.Common.{◌≡◌, ℕ, List, Option, Some, None, true, false, refl, ap, ◌∙◌, sym, true≢false}
use Rattle.position_core.specs.declared.ranges.HashRange.{HashRange}
use Rattle.position_core.specs.declared.kind.Kind.{Kind}
use Rattle.position_core.specs.declared.kind.Kind.TheVariants.{Exclusive, Failover, Shared, KeyShared}
use Rattle.position_core.specs.Kind.{is_in_order}
use Rattle.delivery_machine.specs.State.{State, Subscription}
use Rattle.delivery_machine.specs.Shares.{Shares, asks_taken, is_taken, shares_with}
use Rattle.dispatch_core.specs.Changes.{Joined}
use Rattle.dispatch_keyed.specs.declared.seats.Owners.{Owners}
use Rattle.topic_served.specs.declared.dispatch.Dispatch.{Dispatch}
use Rattle.topic_served.specs.declared.dispatch.Dispatch.TheVariants.{InOrder, InTurn, ByKey}
use Rattle.topic_served.specs.Agreeing.{agrees, AsksForFree}

pub asks_for_free : (d : Dispatch) (s : State) (sub : Subscription) (ranges : Option (List HashRange)) → agrees d s sub → asks_taken sub.kind ranges sub.shares ≡ false → AsksForFree d ranges
asks_for_free (InOrder d) s sub ranges agreed free = tt
asks_for_free (InTurn d) s sub ranges agreed free = tt
asks_for_free (ByKey d) s sub None agreed free = tt
asks_for_free (ByKey d) s sub (Some ranges) agreed free =
    ap (λ (o : Owners). is_taken ranges o.shares) agreed.owners ∙ sym (ap (λ (k : Kind). asks_taken k (Some ranges) sub.shares) agreed.kind) ∙ free

-- where none is asked for
pub asks_for_none : (d : Dispatch) → AsksForFree d None
asks_for_none (InOrder d) = tt
asks_for_none (InTurn d) = tt
asks_for_none (ByKey d) = tt

-- ---- but for Key_Shared

shares_alike : (kind : Kind) (ranges : Option (List HashRange)) (consumer : ℕ) (shares : Shares) → (kind ≡ KeyShared → ⊥) → shares_with kind ranges consumer shares ≡ shares_with kind None consumer shares
shares_alike KeyShared ranges consumer shares other = absurd (other refl)
shares_alike Exclusive ranges consumer shares other = refl
shares_alike Failover ranges consumer shares other = refl
shares_alike Shared ranges consumer shares other = refl

pub in_order_has_none : (kind : Kind) → is_in_order kind ≡ true → kind ≡ KeyShared → ⊥
in_order_has_none kind in_order is = true≢false (sym in_order ∙ ap is_in_order is)

pub shared_has_none : (kind : Kind) → kind ≡ Shared → kind ≡ KeyShared → ⊥
shared_has_none kind shared is = cc

pub joined_without : (ranges : Option (List HashRange)) (consumer : ℕ) (s : State) (sub : Subscription) (t : State) (new : Subscription) → (sub.kind ≡ KeyShared → ⊥) → Joined ranges consumer s sub t new → Joined None consumer s sub t new
joined_without ranges consumer s sub t new other change = record {
  stays = change.stays;
  level = change.level;
  line = change.line;
  shares = change.shares ∙ shares_alike sub.kind ranges consumer sub.shares other;
  absent = change.absent;
  few = change.few;
}
