use Rattle.std.proofs.Common.{◌≡◌, None, subst}
use Rattle.std.specs.Map.{remove_entry}
use Rattle.std.specs.Str.{bytes_eq}
use Rattle.std.specs.String.{string_bytes}
use Rattle.indexmap.specs.IndexMap.{get_by_text}
use Rattle.broker_dir.proofs.deleting.delete_from.Goals as goal

-- the text by which it is taken out is that of its name
pub returns-in-Ok-delete-clause-others : goal.returns-in-Ok-delete-clause-others
returns-in-Ok-delete-clause-others g c =
    subst (λ text. c.take_out.new.self.list.topics.entries ≡ remove_entry (λ k. bytes_eq text (string_bytes k)) c.args.table.now.list.topics.entries) c.end-gone.ensures.gone c.take_out.ensures.others

pub returns-in-Ok-delete-clause-gone : goal.returns-in-Ok-delete-clause-gone
returns-in-Ok-delete-clause-gone g c =
    (c.end-gone.ensures.stage, subst (λ text. get_by_text c.take_out.new.self.list.topics text ≡ None) c.end-gone.ensures.gone c.take_out.ensures.gone)
