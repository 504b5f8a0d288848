-- What a topic that is asked to trim comes to.
use Rattle.std.proofs.Common.{◌≡◌, Option, Some, None, subst, sym, inl, inr, refl}
use Rattle.delivery_machine.specs.State.{State}
use Rattle.delivery_machine.specs.Run.{Step}
use Rattle.delivery_machine.specs.declared.event.Event.{Event}
use Rattle.delivery_machine.specs.declared.reply.Reply.{Reply}
use Rattle.broker_dir.specs.Trimming.{MayAnswer}

pub stays : (o : Option Event) (s t : State) → t ≡ s → MayAnswer o s t
stays None s t same = same
stays (Some event) s t same = inl same

pub answers : (o : Option Event) (event : Event) (s t : State) (reply : Reply) → o ≡ Some event → Step s event reply t → MayAnswer o s t
answers o event s t reply is step = subst (λ (p : Option Event). MayAnswer p s t) (sym is) (inr (reply, step))
