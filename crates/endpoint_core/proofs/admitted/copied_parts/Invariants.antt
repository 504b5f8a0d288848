use Rattle.std.proofs.Common.{◌≡◌, length, map, take, string_bytes}
use Rattle.std.specs.Prelude.{◌==◌}
use Rattle.std.specs.List.{slice_split}
use Rattle.endpoint_core.proofs.admitted.copied_parts.Given as goal

abbrev pub invariant-loop-part : goal.invariant-loop-part
invariant-loop-part l = map string_bytes l.parts.items ≡ take (length l.yielded) (slice_split (λ byte. byte == 44) l.text)
