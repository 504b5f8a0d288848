use Rattle.std.proofs.Common.{arith, ◌∙◌}
use Rattle.pending_core.proofs.Rows.{right_but_above, right_from_root, right_from_same}
use Rattle.pending_core.proofs.node.mend.Goals as goal

pub loop-at-preserved : goal.loop-at-preserved
loop-at-preserved c =
    let is = c.renew.ensures in
    record {
      within = omega (arith, c.renew.auto.nodes);
      others = rw c.parent-at.ensures (right_but_above _ _ _ is.slots is.others is.here c.loop-at.invariant.others);
      slots = is.slots ∙ c.loop-at.invariant.slots;
    }

pub returns-else-at-gt0-clause-right : goal.returns-else-at-gt0-clause-right
returns-else-at-gt0-clause-right c =
    let is = c.renew.ensures in
    right_from_root _ _ _ is.slots is.others is.here c.loop-at.invariant.others (omega arith)

pub returns-after-loop-at-clause-right : goal.returns-after-loop-at-clause-right
returns-after-loop-at-clause-right c =
    let is = c.renew.ensures in
    right_from_same _ _ _ is.slots is.others is.here c.loop-at.invariant.others (is.same c.loop-at-test.false)
