-- A reply that shows no messages.
use Rattle.std.proofs.Common.{◌≡◌, List, refl}
use Rattle.delivery_machine.specs.declared.delivery.Delivery.{Delivery}
use Rattle.delivery_machine.specs.declared.reply.Reply.{Reply}
use Rattle.delivery_machine.specs.declared.reply.Reply.TheVariants.{Copies}
use Rattle.session_texts.specs.Outcomes.{admin_outcome, told_outcome}

pub told_alike : (reply : Reply) → ((messages : List Delivery) → reply ≡ Copies messages → ⊥) → told_outcome reply ≡ admin_outcome reply
told_alike (Copies messages) other = absurd (other messages refl)
told_alike reply other = refl
