-- Why a target is refused, and how its handshake is closed.
use Rattle.std.specs.Prelude.{◌≡◌, ℕ, ◌⊎◌, List, codes, Option, Some, None, Result, Ok, Err}
use Rattle.position_core.specs.declared.fault.Fault.{Fault}
use Rattle.position_core.specs.declared.fault.Fault.TheVariants as faults
use Rattle.endpoint_core.specs.declared.faults.Role.{Role}
use Rattle.endpoint_core.specs.declared.faults.Role.TheVariants as roles
use Rattle.endpoint_core.specs.declared.faults.Cause.{Cause}
use Rattle.endpoint_core.specs.declared.faults.Cause.TheVariants.{UnknownPath, BadName, BadParameter, Encryption, NoMemory}
use Rattle.endpoint_core.specs.declared.faults.RouteFault.{RouteFault}
use Rattle.endpoint_core.specs.Fields.{name_of}

-- the next step, unless this one is refused
abbrev pub and_then : {A B : Type 0} → Result A Cause → (A → Result B Cause) → Result B Cause
and_then (Ok x) next = next x
and_then (Err cause) next = Err cause

abbrev pub map_ok : {A B : Type 0} → (A → B) → Result A Cause → Result B Cause
map_ok view (Ok x) = Ok (view x)
map_ok view (Err cause) = Err cause

-- what is read is what is meant, and so is a refusal, unless memory ran out
abbrev pub Gives : {A : Type 0} → Result A Cause → Result A Cause → Type 0
Gives (Ok x) meant = meant ≡ Ok x
Gives (Err cause) meant = (cause ≡ NoMemory) ⊎ (meant ≡ Err cause)

-- the code of a refused endpoint
abbrev pub code_of : Role → ℕ
code_of roles.Unknown = 4008
code_of roles.Producer = 4001
code_of roles.Consumer = 4002
code_of roles.Admin = 4008

-- a path that is none's and want of memory have a code of their own
abbrev pub close_code_by : Role → Cause → ℕ
close_code_by role UnknownPath = 4008
close_code_by role BadName = code_of role
close_code_by role (BadParameter field) = code_of role
close_code_by role Encryption = code_of role
close_code_by role NoMemory = 4008

abbrev pub close_code : RouteFault → ℕ
close_code fault = close_code_by fault.role fault.cause

abbrev pub fault_by : Cause → Fault
fault_by UnknownPath = faults.BadRoute
fault_by BadName = faults.BadRoute
fault_by (BadParameter field) = faults.BadRoute
fault_by Encryption = faults.BadRoute
fault_by NoMemory = faults.NoMemory

-- what of a target is wrong: its path, a name in that, or a parameter; nothing, where memory was wanted
abbrev pub wrong_by : Cause → Option (List ℕ)
wrong_by UnknownPath = Some (codes "path")
wrong_by BadName = Some (codes "name")
wrong_by (BadParameter field) = Some (name_of field)
wrong_by Encryption = Some (codes "encryptionKeys")
wrong_by NoMemory = None

-- a path of no endpoint is nobody's; any other refusal is that of the role
abbrev pub refusal : Role → Cause → RouteFault
refusal role UnknownPath = record { role = roles.Unknown; cause = UnknownPath }
refusal role BadName = record { role = role; cause = BadName }
refusal role (BadParameter field) = record { role = role; cause = BadParameter field }
refusal role Encryption = record { role = role; cause = Encryption }
refusal role NoMemory = record { role = role; cause = NoMemory }
