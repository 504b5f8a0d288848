-- The words that a parameter may be.
use Rattle.std.specs.Prelude.{ℕ, ◌==◌, ◌&&◌, Bool, true, false, not, nat_le, List, map, length, codes, nat_eq, Option, Some, None, if◌then◌else◌}
use Rattle.std.specs.List.{starts_with}
use Rattle.std.specs.Str.{bytes_eq}
use Rattle.std.specs.Char.{to_ascii_lowercase}
use Rattle.position_core.specs.declared.kind.Kind.{Kind}
use Rattle.position_core.specs.declared.kind.Kind.TheVariants.{Exclusive, Failover, Shared, KeyShared}
use Rattle.delivery_machine.specs.declared.event.Initial.{Initial}
use Rattle.delivery_machine.specs.declared.event.Initial.TheVariants.{Earliest, Latest}
use Rattle.endpoint_core.specs.declared.modes.Mode.{Mode}
use Rattle.endpoint_core.specs.declared.modes.Mode.TheVariants.{Durable, NonDurable}

-- `true` or `false`, in letters of either case
abbrev pub truth_of : List ℕ → Option Bool
truth_of text =
    if bytes_eq (map to_ascii_lowercase text) (codes "true") then Some true
    else (if bytes_eq (map to_ascii_lowercase text) (codes "false") then Some false else None)

abbrev pub kind_of : List ℕ → Option Kind
kind_of text =
    if bytes_eq text (codes "Exclusive") then Some Exclusive
    else (if bytes_eq text (codes "Failover") then Some Failover
    else (if bytes_eq text (codes "Shared") then Some Shared
    else (if bytes_eq text (codes "Key_Shared") then Some KeyShared else None)))

abbrev pub initial_of : List ℕ → Option Initial
initial_of text =
    if bytes_eq text (codes "Earliest") then Some Earliest
    else (if bytes_eq text (codes "Latest") then Some Latest else None)

abbrev pub mode_of : List ℕ → Option Mode
mode_of text =
    if bytes_eq text (codes "Durable") then Some Durable
    else (if bytes_eq text (codes "NonDurable") then Some NonDurable else None)

-- a client's producer has a name of 1 to 255 bytes, and none of the broker's own
abbrev pub is_producer_name : List ℕ → Bool
is_producer_name text = not (length text == 0) && nat_le (length text) 255 && not (starts_with nat_eq text (codes "dlq/"))

abbrev pub producer_name_of : List ℕ → Option (List ℕ)
producer_name_of text = if is_producer_name text then Some text else None
