-- Codes of values of the state, as the models of what keeps them want them.
use Rattle.std.specs.Prelude.{ℕ, List, Option}
use Rattle.std.proofs.Common.{refl}
use Rattle.std.specs.Ordering.{nat_cmp}
use Rattle.std.specs.FinSet as set
use Rattle.std.specs.FinMap as map_of
use Rattle.std.specs.Coded.{Coded, code_by, coded×, coded_ℕ, coded_list, coded_option}
use Rattle.position_core.specs.declared.position.Position.{Position}
use Rattle.position_core.specs.declared.held.Held.{Held}
use Rattle.position_core.specs.declared.topic_name.TopicName.{TopicName}
use Rattle.position_core.specs.Position.{position_cmp, coded_position}
use Rattle.delivery_machine.specs.State.{DeadLetter}

abbrev pub coded_text : Coded (List ℕ)
coded_text = coded_list coded_ℕ

abbrev pub coded_topic : Coded TopicName
coded_topic = code_by ((List ℕ × List ℕ) × List ℕ) (coded× (coded× coded_text coded_text) coded_text) (λ t. ((t.tenant, t.namespace), t.topic)) (λ p. record { tenant = p.0.0; namespace = p.0.1; topic = p.1 }) (λ _. refl)

abbrev pub coded_dead : Coded DeadLetter
coded_dead = code_by ((Position × TopicName) × ℕ) (coded× (coded× coded_position coded_topic) coded_ℕ) (λ d. ((d.position, d.target), d.ordinal)) (λ p. record { position = p.0.0; target = p.0.1; ordinal = p.1 }) (λ _. refl)

abbrev pub coded_positions : Coded (set.FinSet position_cmp)
coded_positions = set.code coded_position

abbrev pub coded_places : Coded (set.FinSet nat_cmp)
coded_places = set.code coded_ℕ

abbrev pub coded_held : Coded Held
coded_held = code_by (ℕ × Option ℕ) (coded× coded_ℕ (coded_option coded_ℕ)) (λ h. (h.consumer, h.due)) (λ p. record { consumer = p.0; due = p.1 }) (λ _. refl)

abbrev pub coded_pending : Coded (map_of.FinMap position_cmp Held)
coded_pending = map_of.code coded_position coded_held

abbrev pub coded_counts : Coded (map_of.FinMap position_cmp ℕ)
coded_counts = map_of.code coded_position coded_ℕ
