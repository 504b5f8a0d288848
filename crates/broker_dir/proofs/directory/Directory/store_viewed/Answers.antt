use Rattle.std.proofs.Common.{Err, ap, ◌∙◌}
use Rattle.row_store.specs.Keeping.{Keeping}
use Rattle.broker_dir.proofs.Failing.{had_worked, same_err}
use Rattle.broker_dir.proofs.directory.Directory.store_viewed.Goals as goal

pub returns-clause-memory : goal.returns-clause-memory
returns-clause-memory g c = λ is.
    let lacked = c.in-Err.is ∙ ap Err (same_err _ _ is) in
    let same = c.store.ensures.memory lacked in (
      ap (λ (k : Keeping _). k.failed) same ∙ had_worked c.store.result c.args.keeper.now.failed lacked (λ failed. (c.store.ensures.failed failed).0),
      same,
    )
