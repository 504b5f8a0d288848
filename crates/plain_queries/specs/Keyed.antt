-- The next message of a hash, and whom it may be sent to.
use Rattle.std.specs.Prelude.{◌≡◌, ℕ, List, IsTrue}
use Rattle.position_core.specs.declared.message.Entry.{Entry}
use Rattle.delivery_machine.specs.State.{Member, Subscription}
use Rattle.delivery_machine.specs.Words.{hash_of, has_room_in, IsNextOfItsHashIn}

-- the message may be sent to the member, as the next of its hash
abbrev pub GoesByHash : List Entry → List Entry → List Member → Subscription → Entry → Member → Type 0
GoesByHash log visible members sub e m = IsTrue (has_room_in log sub m) × IsNextOfItsHashIn log visible members sub e m

-- no message of the hash may be sent to anybody
abbrev pub NoneGoesOfHash : List Entry → List Entry → List Member → Subscription → ℕ → Type 0
NoneGoesOfHash log visible members sub hash = (e : Entry) (m : Member) → hash_of e ≡ hash → GoesByHash log visible members sub e m → ⊥

abbrev pub NoneGoesByHash : List Entry → List Entry → List Member → Subscription → Type 0
NoneGoesByHash log visible members sub = (e : Entry) (m : Member) → GoesByHash log visible members sub e m → ⊥
