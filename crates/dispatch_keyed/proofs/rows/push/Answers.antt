use Rattle.std.proofs.Common.{ap, sym}
use Rattle.std.specs.Option.{is_some}
use Rattle.dispatch_keyed.proofs.rows.push.Goals as goal

pub returns-in-Some-clause-ok : goal.returns-in-Some-clause-ok
returns-in-Some-clause-ok c =
    let was = sym c.in-Some.ensures.value in
    let now = ((c.get_mut.follows.holds c.push_in.new.row).3 (ap is_some was)).1 in
    rw (was, now) c.push_in.ensures.ok

pub returns-in-Some-clause-err : goal.returns-in-Some-clause-err
returns-in-Some-clause-err c =
    let was = sym c.in-Some.ensures.value in
    let now = ((c.get_mut.follows.holds c.push_in.new.row).3 (ap is_some was)).1 in
    rw (was, now) c.push_in.ensures.err
