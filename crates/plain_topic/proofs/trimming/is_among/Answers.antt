use Rattle.std.proofs.Common.{◌∙◌, sym}
use Rattle.delivery_machine.specs.Words.{is_by, signed}
use Rattle.plain_topic.proofs.Used.{list_any-map}
use Rattle.plain_topic.proofs.trimming.is_among.Goals as goal

pub returns : goal.returns
returns c = c.is_one_named.ensures ∙ sym (list_any-map (is_by c.args.name.now) signed c.args.messages.now)
