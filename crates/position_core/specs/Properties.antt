-- The properties of a message, as pairs of a name and a value.
use Rattle.std.specs.Prelude.{ℕ, nat_le, Bool, ◌&&◌, List, map, length, string_bytes}
use Rattle.std.specs.List.{list_all}
use Rattle.std.specs.BTreeMap.{BTreeMap}
use Rattle.std.specs.declared.string.String.{String}

-- the pairs that a map from names to values stands for
abbrev pub pairs_of : {Z : Type 0} → BTreeMap (String Z) (String Z) → List (List ℕ × List ℕ)
pairs_of values = map (λ e. (string_bytes e.0, string_bytes e.1)) values.entries

-- a name of at most 255 bytes with a value of at most 1,024
abbrev pub fits : List ℕ × List ℕ → Bool
fits p = nat_le (length p.0) 255 && nat_le (length p.1) 1024

-- at most 64 properties, all of which fit
abbrev pub are_properties : List (List ℕ × List ℕ) → Bool
are_properties pairs = nat_le (length pairs) 64 && list_all fits pairs
