-- Laws of journals.
use Rattle.std.specs.Prelude.{List, ◌++◌}
use Rattle.delivery_machine.specs.State.{State}
use Rattle.topic_shared.specs.Lines.{Line, Legal}

-- two legal journals that meet are one legal journal
abbrev pub MeetingJournalsAreOne : Type 0
MeetingJournalsAreOne =
    (s mid t : State) (before after : List Line) → Legal s before mid → Legal mid after t → Legal s (before ++ after) t
