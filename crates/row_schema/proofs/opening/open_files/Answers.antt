use Rattle.std.proofs.Common.{sym, subst}
use Rattle.sqlite.specs.Effect.{Database}
use Rattle.sqlite.specs.Files.{AreFoundIn, file_state, image_of}
use Rattle.row_schema.proofs.FoundLemmas.{found_keyed}
use Rattle.row_schema.proofs.opening.open_files.Goals as goal

pub returns-in-Ok-clause-keyed : goal.returns-in-Ok-clause-keyed
returns-in-Ok-clause-keyed g c clean =
    let opens = c.in-Ok.ensures.opened clean in
    let found = (c.in-Ok.ensures.found clean).reads in
    found_keyed (image_of g.D.Disk c.args.files) (file_state c.in-Ok.conn).now
    (subst (λ (d : Database). AreFoundIn (image_of g.D.Disk c.args.files) d.trees) (sym opens.0.clean) found) (opens.1 opens.0.is_open).0
