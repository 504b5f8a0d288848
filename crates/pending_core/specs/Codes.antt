-- The code of what a map is seen as, as its model wants it.
use Rattle.std.specs.Prelude.{ℕ}
use Rattle.std.proofs.Common.{refl}
use Rattle.std.specs.Coded.{Coded, code_by, coded×}
use Rattle.std.specs.FinMap as map_of
use Rattle.position_core.specs.Position.{position_cmp}
use Rattle.position_core.specs.declared.held.Held.{Held}
use Rattle.delivery_machine.specs.Codes as machine
use Rattle.pending_core.specs.Pending.{Pending}

abbrev pub coded_pending : Coded Pending
coded_pending =
    code_by (map_of.FinMap position_cmp Held × map_of.FinMap position_cmp ℕ)
    (coded× machine.coded_pending machine.coded_counts)
    (λ s. (s.pending, s.counts))
    (λ p. record { pending = p.0; counts = p.1 })
    (λ _. refl)
