-- Numbers to which the definitions are held.
use Rattle.std.proofs.Common.{◌≡◌, ℕ, List, ℤ, pos, negsuc, false, true, refl}
use Rattle.position_core.specs.declared.topic_name.TopicName.{TopicName}
use Rattle.delivery_machine.specs.State.{Producer, fresh}
use Rattle.delivery_machine.specs.Refusals.{is_duplicate}

-- a producer whose last number is the base, since none of its messages is known
abbrev producer_of : List ℕ → ℤ → Producer
producer_of name base = record { number = 1; name = name; base = base }

number_above_the_base_is_new : (topic : TopicName) (name : List ℕ) → is_duplicate (fresh topic 100) (producer_of name (negsuc 0)) (pos 0) ≡ false
number_above_the_base_is_new topic name = refl

base_is_a_duplicate : (topic : TopicName) (name : List ℕ) → is_duplicate (fresh topic 100) (producer_of name (negsuc 0)) (negsuc 0) ≡ true
base_is_a_duplicate topic name = refl
