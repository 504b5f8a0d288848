-- Who dies, to which the definitions are held.
use Rattle.std.proofs.Common.{◌≡◌, ◌&&◌, ◌^◌, true, false, nat_le, nat_lt, ap₂}
use Rattle.position_core.specs.declared.position.Position.{Position}
use Rattle.delivery_machine.specs.Dying.{is_to_die}
use Rattle.delivery_machine.specs.State.{Member, Subscription}
use Rattle.delivery_machine.specs.Words.{count_of}

dies_at_its_limit : (sub : Subscription) (position : Position) (m : Member) → m.max_redeliver ≡ 3 → count_of sub position ≡ 3 → is_to_die 0 sub position m ≡ true
dies_at_its_limit sub position m most count = ap₂ (λ a b. nat_lt 0 a && nat_le a b && nat_lt 0 (2 ^ 62)) most count

lives_below_its_limit : (sub : Subscription) (position : Position) (m : Member) → m.max_redeliver ≡ 3 → count_of sub position ≡ 2 → is_to_die 0 sub position m ≡ false
lives_below_its_limit sub position m most count = ap₂ (λ a b. nat_lt 0 a && nat_le a b && nat_lt 0 (2 ^ 62)) most count
