use Rattle.std.proofs.Common.{sym}
use Rattle.replay_lines.proofs.LastWords.{no_last}
use Rattle.replay_lines.proofs.words.Words.last.Goals as goal

pub returns-in-Err-clause-more : goal.returns-in-Err-clause-more
returns-in-Err-clause-more c = no_last c.in-Some.field-0.now c.args.self (sym (rw c.in-Some.is at c.self.view_is)) c.in-Err.ensures.other
