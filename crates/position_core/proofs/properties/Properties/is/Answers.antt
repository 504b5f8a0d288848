use Rattle.std.proofs.Common.{string_bytes}
use Rattle.position_core.proofs.SamePairs.{same_pairs}
use Rattle.position_core.proofs.properties.Properties.is.Goals as goal

pub returns : goal.returns
returns c =
    rw (← c.self.view_is, ← c.other.view_is)
    (same_pairs (λ e. (string_bytes e.0, string_bytes e.1)) c.self.inside.values.entries c.other.inside.values.entries c.eq.result c.eq.ensures)
