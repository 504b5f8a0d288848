-- Names of tenants, namespaces, topics and subscriptions.
use Rattle.std.specs.Prelude.{ℕ, ◌==◌, nat_lt, nat_le, Bool, not, ◌&&◌, ◌||◌, List, length}
use Rattle.std.specs.List.{list_any}
use Rattle.std.specs.Ordering.{nat_cmp}
use Rattle.std.specs.Cmp.Lexicographic.{slice_cmp}
use Rattle.std.specs.declared.cmp.Ordering.{Ordering}

-- `/` and the control characters
abbrev pub is_barred : ℕ → Bool
is_barred byte = byte == 47 || nat_lt byte 32 || byte == 127

-- 1 to 255 bytes, none of them barred
abbrev pub is_name : List ℕ → Bool
is_name text = not (length text == 0) && nat_le (length text) 255 && not (list_any is_barred text)

-- names stand in the order of their bytes
abbrev pub name_order : List ℕ → List ℕ → Ordering
name_order a b = slice_cmp nat_cmp a b
