-- Who has which hashes, and who is in line.
use Rattle.std.specs.Prelude.{ℕ, List, map}
use Rattle.delivery_machine.specs.State.{State, Subscription}
use Rattle.delivery_machine.specs.Shares.{Shares}
use Rattle.dispatch_core.specs.Log.{line_of}
use Rattle.dispatch_keyed.specs.declared.seats.Owners.{Owners}

abbrev pub owners_with : Shares → List ℕ → Owners
owners_with shares line = record { shares = shares; line = line }

-- the numbers of the subscription's members, in the order of joining
abbrev pub numbers_in : State → Subscription → List ℕ
numbers_in s sub = map (λ m. m.0) (line_of s sub)

-- the shares and the members as the subscription has them
abbrev pub owners_in : State → Subscription → Owners
owners_in s sub = owners_with sub.shares (numbers_in s sub)
