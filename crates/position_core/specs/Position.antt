-- Positions in topic order: by ledger, then by entry.
use Rattle.std.specs.Prelude.{ℕ, Bool}
use Rattle.std.proofs.Common.{ap, refl}
use Rattle.std.specs.Ordering.{nat_cmp, ordering_then, eq_by_cmp}
use Rattle.std.specs.Cmp.{IsTotalOrder, nat_cmp_total}
use Rattle.std.specs.declared.cmp.Ordering.{Ordering}
use Rattle.std.specs.Coded.{Coded, code_by, coded×, coded_ℕ}
use Rattle.std.proofs.lemmas.Cmp.{on_total, then_total}
use Rattle.std.proofs.lemmas.Map.Lookups.{CmpEqualImpliesEq, exact_pairs, exact_unsigned}
use Rattle.position_core.specs.declared.position.Position.{Position}

abbrev pub position_cmp : Position → Position → Ordering
position_cmp a b = ordering_then (nat_cmp a.ledger b.ledger) (nat_cmp a.entry b.entry)

abbrev pub same_position : Position → Position → Bool
same_position a b = eq_by_cmp position_cmp a b

-- a position as a pair of numbers, so that a model may hold sets and maps of positions
abbrev pub coded_position : Coded Position
coded_position = code_by (ℕ × ℕ) (coded× coded_ℕ coded_ℕ) (λ p. (p.ledger, p.entry)) (λ p. record { ledger = p.0; entry = p.1 }) (λ _. refl)

-- any two positions stand in one order
pub positions_total : IsTotalOrder position_cmp
positions_total = then_total (on_total (λ p. p.ledger) nat_cmp_total) (on_total (λ p. p.entry) nat_cmp_total)

-- positions that compare alike are one
pub exact_positions : CmpEqualImpliesEq position_cmp
exact_positions a b h = ap (λ (p : ℕ × ℕ). record { ledger = p.0; entry = p.1 }) (exact_pairs nat_cmp nat_cmp exact_unsigned exact_unsigned (a.ledger, a.entry) (b.ledger, b.entry) h)
