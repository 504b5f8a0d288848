-- What a refused store says of the keeper.
use Rattle.std.proofs.Common.{◌≡◌, ◌⊎◌, inl, inr, Bool, true, false, Result, Ok, Err, refl, ap, subst}
use Rattle.position_core.specs.declared.fault.Fault.{Fault}
use Rattle.position_core.specs.declared.fault.Fault.TheVariants.{NoMemory, NoSuchSubscription, TooMany}
use Rattle.row_store.specs.Unstored.{HasFailed}
use Rattle.row_store.specs.declared.unstored.Unstored.{Unstored}
use Rattle.row_store.specs.declared.unstored.Unstored.TheVariants as stores
use Rattle.broker_dir.specs.Refusing.{IsRefusal}

-- a keeper that lacked memory had not failed
pub had_worked : {V : Type 0} (r : Result V Unstored) (failed : Bool) → r ≡ Err stores.NoMemory → (failed ≡ true → HasFailed r) → failed ≡ false
had_worked {V} r true lacked stuck = absurd (subst (λ (q : Result V Unstored). HasFailed q) lacked (stuck refl))
had_worked r false lacked stuck = refl

err_or : {W E : Type 0} → E → Result W E → E
err_or d (Ok w) = d
err_or d (Err e) = e

pub same_err : {W E : Type 0} (a b : E) → ◌≡◌ {A = Result W E} (Err a) (Err b) → a ≡ b
unfolding err_or
same_err a b is = ap (err_or a) is

-- whoever was to wait for a topic is refused for want of room or of memory
pub not_unknown : {X : Type 0} (fault : Fault) → (fault ≡ TooMany) ⊎ (fault ≡ NoMemory) → fault ≡ NoSuchSubscription → X
not_unknown fault (inl full) unknown = absurd (cc (full, unknown))
not_unknown fault (inr lacked) unknown = absurd (cc (lacked, unknown))

pub is_refusal : (fault : Fault) → (fault ≡ TooMany) ⊎ (fault ≡ NoMemory) → IsRefusal fault
is_refusal fault (inl full) = inl full
is_refusal fault (inr lacked) = inr (inr (inl lacked))
