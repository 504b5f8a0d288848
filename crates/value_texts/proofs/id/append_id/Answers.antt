use Rattle.std.proofs.Common.{rules}
use Rattle.value_texts.specs.Id.{text_of}
use Rattle.value_texts.proofs.id.append_id.Goals as goal

pub returns-clause-ok : goal.returns-clause-ok
unfolding text_of
returns-clause-ok c = search rules
