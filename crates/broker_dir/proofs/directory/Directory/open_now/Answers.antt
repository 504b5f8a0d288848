use Rattle.std.proofs.Common.{Err, ap, inr, length, subst, sym, ◌∙◌}
use Rattle.position_core.specs.TopicName.{topic_text}
use Rattle.broker_dir.specs.Listing.{HasRoom}
use Rattle.broker_dir.proofs.Failing.{is_refusal, not_unknown, same_err}
use Rattle.broker_dir.proofs.directory.Directory.open_now.Goals as goal

pub open_with-requires-clause-room : goal.open_with-requires-clause-room
open_with-requires-clause-room g c = subst (λ l. HasRoom c.in-Some.room (length l)) (sym c.in-Some.ensures.same) c.in-Some.ensures.room

pub returns-in-Ok-begin_opening-clause-at : goal.returns-in-Ok-begin_opening-clause-at
returns-in-Ok-begin_opening-clause-at g c = ap topic_text c.in-Ok-begin_opening.ensures.at ∙ sym c.requires.text

pub returns-in-Err-begin_opening-clause-full : goal.returns-in-Err-begin_opening-clause-full
returns-in-Err-begin_opening-clause-full g c = λ is. inr (c.begin_opening.ensures.full (c.in-Err-begin_opening.is ∙ ap Err (same_err _ _ is)))

pub returns-in-Err-begin_opening-clause-unknown : goal.returns-in-Err-begin_opening-clause-unknown
returns-in-Err-begin_opening-clause-unknown g c = λ is. not_unknown _ c.in-Err-begin_opening.ensures.faults (same_err _ _ is)

pub returns-in-Err-begin_opening-clause-faults : goal.returns-in-Err-begin_opening-clause-faults
returns-in-Err-begin_opening-clause-faults g c = is_refusal _ c.in-Err-begin_opening.ensures.faults
