-- What became of a subscription's messages, by their places in the log.
use Rattle.std.specs.Prelude.{◌≡◌, ℕ, Bool, true, not, ◌||◌, List}
use Rattle.std.proofs.Common.{refl}
use Rattle.std.specs.Coded.{Coded, code_by, coded×}
use Rattle.std.specs.List.{filter}
use Rattle.std.specs.Ordering.{nat_cmp}
use Rattle.std.specs.FinSet as set
use Rattle.delivery_machine.specs.Codes.{coded_places}
use Rattle.ack_ranges.specs.Lowered.{lowered}

-- `places` is what is acknowledged, and `buried` what died and is not acknowledged
pub record Outcomes : Type 0 where
  pub places : set.FinSet nat_cmp
  pub buried : set.FinSet nat_cmp

abbrev pub coded_outcomes : Coded Outcomes
coded_outcomes =
    code_by (set.FinSet nat_cmp × set.FinSet nat_cmp) (coded× coded_places coded_places) (λ o. (o.places, o.buried)) (λ p. record { places = p.0; buried = p.1 }) (λ _. refl)

-- the message is neither acknowledged nor dead
abbrev pub is_open : Outcomes → ℕ → Bool
is_open o place = not (set.contains o.places place || set.contains o.buried place)

-- the message is acknowledged, whatever it was before
abbrev pub with_acknowledged : ℕ → Outcomes → Outcomes
with_acknowledged place o = record { places = set.insert o.places place; buried = set.remove o.buried place }

abbrev pub with_buried : ℕ → Outcomes → Outcomes
with_buried place o = record o { buried = set.insert o.buried place }

-- the first places are gone, so many, and the others stand as much lower
abbrev pub lowered_by : ℕ → Outcomes → Outcomes
lowered_by count o = record { places = lowered count o.places; buried = lowered count o.buried }

-- of the dead those are buried that are not acknowledged
abbrev pub outcomes_of : set.FinSet nat_cmp → List ℕ → Outcomes
outcomes_of acknowledged dead = record {
  places = acknowledged;
  buried = set.from_list (filter (λ place. not (set.contains acknowledged place)) dead);
}

-- the owed places are among all that are closed, and so many
pub record AreOwed (all owed : set.FinSet nat_cmp) (count : ℕ) : Type 0 where
  pub within : (place : ℕ) → set.contains owed place ≡ true → set.contains all place ≡ true
  pub counted : count ≡ set.len owed
