use Rattle.std.proofs.Common.{◌≡◌, ℕ, ◌<◌, get_or, false, string_bytes, String, Global}
use Rattle.std.specs.Str.{bytes_eq}
use Rattle.endpoint_core.proofs.queries.Query.value_at.Given as goal

abbrev pub invariant-loop-parameter : goal.invariant-loop-parameter
invariant-loop-parameter l = (k : ℕ) (d : String Global × String Global) → k < l.parameter-index → bytes_eq (string_bytes (get_or l.parameter-items k d).0) l.name ≡ false
