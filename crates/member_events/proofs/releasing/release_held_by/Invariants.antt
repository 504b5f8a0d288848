use Rattle.delivery_machine.specs.Joining.{without_member}
use Rattle.member_events.specs.Places.{ComesToTheSame, number_pending}
use Rattle.member_events.proofs.releasing.release_held_by.Given as goal

abbrev pub invariant-loop-position : goal.invariant-loop-position
invariant-loop-position l = ComesToTheSame (λ name s. without_member s l.consumer name) l.place l.initial.served l.served

abbrev pub decreases-loop-position : goal.decreases-loop-position
decreases-loop-position l = number_pending l.served.parts l.place
