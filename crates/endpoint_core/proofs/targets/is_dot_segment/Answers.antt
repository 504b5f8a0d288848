use Rattle.std.proofs.Common.{◌∙◌}
use Rattle.percent_encoding.specs.Percent.{percent_decode}
use Rattle.endpoint_core.proofs.Dots.{dots_are}
use Rattle.endpoint_core.proofs.targets.is_dot_segment.Goals as goal

pub returns : goal.returns
returns c = c.is_one_or_two_dots.ensures ∙ dots_are (percent_decode c.args.segment.now)
