use Rattle.std.proofs.Common.{ℕ, List, Option, Some, refl, subst, sym}
use Rattle.delivery_machine.specs.Producing.{IsGiven}
use Rattle.topic_log.specs.Written.{written_in}
use Rattle.topic_log.proofs.topic_log.TopicLog.given_name.Goals as goal

pub returns-in_ok-auto_name-in-None-clause-given : goal.returns-in_ok-auto_name-in-None-clause-given
returns-in_ok-auto_name-in-None-clause-given c s =
    let number = c.in_ok-number-in-None.number in
    subst (λ (asked : Option (List ℕ)). IsGiven (written_in c.args.self.now s) asked c.in_ok-auto_name-in-None.field-0 (Some number)) (sym c.in-None.is)
    (number, c.in_ok-number-in-None.ensures.free s, c.in_ok-auto_name-in-None.ensures, refl)
