use Rattle.std.proofs.Common.{rules, ◌≡◌}
use Rattle.broker_parts.specs.declared.stage.Stage.TheVariants.{Open}
use Rattle.broker_dir.proofs.overview.seen_in.Goals as goal

pub returns-in-Ok : goal.returns-in-Ok
returns-in-Ok g c =
    let is_open : c.deref_mut.result.now.stage ≡ Open = search rules in
    record { look = record { at = c.deref_mut.result.now; open_then = is_open; shows = c.in-Ok.ensures.shows } }
