use Rattle.replay_lines.proofs.OneLine as whole
use Rattle.replay_lines.proofs.reading.each_line_is_one.Goals as goal

pub returns : goal.returns
returns c = whole.each_line_is_one
