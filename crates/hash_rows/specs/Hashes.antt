-- The hashes of messages by their indexes.
use Rattle.std.specs.Prelude.{ℕ}
use Rattle.murmur_core.specs.Sticky.{sticky_hash}
use Rattle.delivery_machine.specs.State.{State}
use Rattle.dispatch_core.specs.Log.{key_at}

-- the hash of the message at the index; past the end that of no key
abbrev pub hash_at : State → ℕ → ℕ
hash_at s i = sticky_hash (key_at s i)
