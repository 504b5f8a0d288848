-- What a key's hash is, for proofs that do not compute it.
use Rattle.std.proofs.Common.{◌≡◌, ℕ, ◌<◌, ◌%◌, ◌^◌, List, [], refl, arith}
use Rattle.std.specs.Prelude.{Option, Some, None}
use Rattle.murmur_core.specs.Murmur.{murmur3, with_bytes}
use Rattle.murmur_core.specs.Sticky.{no_key, sticky_hash}

pub sticky_hash-some : (key : List ℕ) → sticky_hash (Some key) ≡ murmur3 key 0 % 2 ^ 16
unfolding sticky_hash
sticky_hash-some key = refl

-- no key is as good as the one that stands for it
pub sticky_hash-none : sticky_hash None ≡ sticky_hash (Some no_key)
unfolding sticky_hash
sticky_hash-none = refl

pub sticky_hash-empty : sticky_hash (Some []) ≡ 0
unfolding sticky_hash murmur3 with_bytes
sticky_hash-empty = refl

-- a hash has 16 bits
pub sticky_hash-lt : (key : Option (List ℕ)) → sticky_hash key < 2 ^ 16
unfolding sticky_hash
sticky_hash-lt key = omega arith
