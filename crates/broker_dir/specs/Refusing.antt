-- What an attach is refused for.
use Rattle.std.specs.Prelude.{◌≡◌, ◌⊎◌}
use Rattle.position_core.specs.declared.fault.Fault.{Fault}
use Rattle.position_core.specs.declared.fault.Fault.TheVariants.{NoMemory, StoreFailed, NoSuchSubscription, NoRoom, TooMany}

-- no memory (F1), no such topic (F11), or the store fails or has rows that are none (F16)
abbrev pub IsLoadRefusal : Fault → Type 0
IsLoadRefusal fault = (fault ≡ NoMemory) ⊎ (fault ≡ NoSuchSubscription) ⊎ (fault ≡ StoreFailed)

-- one of these, or no seat is free (F21)
abbrev pub IsSeatRefusal : Fault → Type 0
IsSeatRefusal fault = (fault ≡ NoRoom) ⊎ IsLoadRefusal fault

-- one of these, or too many topics are open (F7)
abbrev pub IsRefusal : Fault → Type 0
IsRefusal fault = (fault ≡ TooMany) ⊎ IsSeatRefusal fault
