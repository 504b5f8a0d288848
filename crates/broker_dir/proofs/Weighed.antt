-- What is refused of a topic that may not be used is refused so whatever its messages weigh.
use Rattle.std.proofs.Common.{◌≡◌, ◌≢◌, ◌∙◌, Bool, true, false, Option, Some, None, Result, Ok, Err, IfErr, IfSome, if◌then◌else◌, subst, ap}
use Rattle.position_core.specs.declared.fault.Fault.{Fault}
use Rattle.position_core.specs.declared.fault.Fault.TheVariants.{JournalFull, NoSuchSubscription}
use Rattle.delivery_machine.specs.declared.event.Event.{Event}
use Rattle.delivery_machine.specs.declared.reply.Reply.{Reply}
use Rattle.broker_parts.specs.declared.stage.Stage.{Stage}
use Rattle.broker_parts.specs.declared.stage.Stage.TheVariants.{Open, Leaving, Gone}
use Rattle.broker_parts.specs.Ends.{is_ending, refusal_at, refused_at}

still : {I : Type 0} (fault : Fault) (answer : Result Reply Fault) (old weighed answered noted : I) → weighed ≡ old → (answer ≡ Err fault) × (answered ≡ weighed) → IfErr answer (λ f. noted ≡ answered) → (answer ≡ Err fault) × (noted ≡ old)
still fault answer old weighed answered noted same refused after =
    (refused.0, (subst (λ (r : Result Reply Fault). IfErr r (λ f. noted ≡ answered)) refused.0 after) ∙ (refused.1 ∙ same))

by_stage : {I : Type 0} (ending : Bool) (stage : Stage) (answer : Result Reply Fault) (old weighed answered noted : I) → (stage ≢ Open → weighed ≡ old)
    → IfSome (if ending then None else refusal_at stage) (λ fault. (answer ≡ Err fault) × (answered ≡ weighed)) → IfErr answer (λ f. noted ≡ answered)
    → IfSome (if ending then None else refusal_at stage) (λ fault. (answer ≡ Err fault) × (noted ≡ old))
by_stage true stage answer old weighed answered noted same refused after = tt
by_stage false Open answer old weighed answered noted same refused after = tt
by_stage false Leaving answer old weighed answered noted same refused after = still JournalFull answer old weighed answered noted (same (λ e. cc)) refused after
by_stage false Gone answer old weighed answered noted same refused after = still NoSuchSubscription answer old weighed answered noted (same (λ e. cc)) refused after

pub refused_still : {I : Type 0} (stage later : Stage) (event : Event) (answer : Result Reply Fault) (old weighed answered noted : I) → later ≡ stage → (stage ≢ Open → weighed ≡ old)
    → IfSome (refused_at later event) (λ fault. (answer ≡ Err fault) × (answered ≡ weighed)) → IfErr answer (λ f. noted ≡ answered)
    → IfSome (refused_at stage event) (λ fault. (answer ≡ Err fault) × (noted ≡ old))
refused_still stage later event answer old weighed answered noted kept same refused after =
    by_stage (is_ending event) stage answer old weighed answered noted same (subst (λ (s : Stage). IfSome (refused_at s event) (λ fault. (answer ≡ Err fault) × (answered ≡ weighed))) kept refused) after
