-- Codes of the values that hold sets and maps, as their models want them.
use Rattle.std.specs.Prelude.{ℕ, List, ◌≡◌}
use Rattle.std.proofs.Common.{refl, suc, zero}
use Rattle.std.specs.Coded.{Coded, code_by, coded×, coded_ℕ, coded_list}
use Rattle.std.specs.FinSet as set
use Rattle.std.specs.FinMap as map_of
use Rattle.position_core.specs.Position.{position_cmp}
use Rattle.position_core.specs.declared.held.Held.{Held}
use Rattle.position_core.specs.declared.kind.Kind.{Kind}
use Rattle.position_core.specs.declared.kind.Kind.TheVariants.{Exclusive, Failover, Shared, KeyShared}
use Rattle.delivery_machine.specs.Shares.{Shares}
use Rattle.delivery_machine.specs.State.{DeadLetter, Subscription}
use Rattle.delivery_machine.specs.Codes.{coded_text, coded_dead, coded_positions, coded_pending, coded_counts}
use Rattle.hash_ranges.specs.Codes.{coded_shares}

abbrev pub kind_number : Kind → ℕ
kind_number Exclusive = 0
kind_number Failover = 1
kind_number Shared = 2
kind_number KeyShared = 3

abbrev pub kind_at : ℕ → Kind
kind_at zero = Exclusive
kind_at (suc zero) = Failover
kind_at (suc (suc zero)) = Shared
kind_at (suc (suc (suc n))) = KeyShared

pub kind_at-kind_number : (k : Kind) → kind_at (kind_number k) ≡ k
kind_at-kind_number Exclusive = refl
kind_at-kind_number Failover = refl
kind_at-kind_number Shared = refl
kind_at-kind_number KeyShared = refl

abbrev pub coded_kind : Coded Kind
coded_kind = code_by ℕ coded_ℕ kind_number kind_at kind_at-kind_number

abbrev pub coded_subscription : Coded Subscription
coded_subscription =
    code_by (((((((List ℕ × Kind) × set.FinSet position_cmp) × map_of.FinMap position_cmp Held) × map_of.FinMap position_cmp ℕ) × Shares) × List DeadLetter) × ℕ)
    (coded× (coded× (coded× (coded× (coded× (coded× (coded× coded_text coded_kind) coded_positions) coded_pending) coded_counts) coded_shares) (coded_list coded_dead)) coded_ℕ)
    (λ s. (((((((s.name, s.kind), s.acknowledged), s.pending), s.counts), s.shares), s.dead), s.safe))
    (λ p. record { name = p.0.0.0.0.0.0.0; kind = p.0.0.0.0.0.0.1; acknowledged = p.0.0.0.0.0.1; pending = p.0.0.0.0.1; counts = p.0.0.0.1; shares = p.0.0.1; dead = p.0.1; safe = p.1 })
    (λ _. refl)
