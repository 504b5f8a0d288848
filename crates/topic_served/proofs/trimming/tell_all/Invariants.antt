use Rattle.std.proofs.Common.{◌≡◌, length}
use Rattle.delivery_machine.specs.State.{State}
use Rattle.topic_served.specs.Told.{AreTold}
use Rattle.topic_served.proofs.TellingAll.{AreToldTo}
use Rattle.topic_parts.specs.Parts.{state_of}
use Rattle.topic_served.specs.Trimming.{AreTrimmed}
use Rattle.topic_served.proofs.trimming.tell_all.Given as goal

abbrev pub invariant-each : goal.invariant-each
invariant-each l = (length l.dispatchers ≡ length l.initial.dispatchers)
    × ((s : State) → AreTold l.initial.dispatchers s → AreTrimmed l.count s (state_of l.parts) → AreToldTo l.place l.dispatchers s (state_of l.parts))
