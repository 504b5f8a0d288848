-- The hash that keeps the messages of one key with one consumer.
use Rattle.std.specs.Prelude.{ℕ, ◌%◌, ◌^◌, List, Option, unwrap_or, codes}
use Rattle.murmur_core.specs.Murmur.{murmur3}

-- what is hashed of a message without a key
abbrev pub no_key : List ℕ
no_key = codes "NONE_KEY"

-- the hash of a key's bytes, or of a message without a key
unfoldable pub sticky_hash : Option (List ℕ) → ℕ
sticky_hash key = murmur3 (unwrap_or key no_key) 0 % 2 ^ 16
