use Rattle.std.proofs.Common.{ap, sym, ◌∙◌}
use Rattle.topic_log.specs.Names.{is_numbered, is_taken}
use Rattle.topic_log.proofs.Gaps.{search_written, search_gap, taken_on}
use Rattle.topic_log.proofs.names.free_from.Goals as goal
use Rattle.topic_log.proofs.names.free_from.Goals.{then-not-branch-2+in_ok-push, else-not-branch-2}

pub loop-number-preserved : goal.loop-number-preserved
loop-number-preserved c =
    let taken = taken_on (is_taken c.args.producers.now c.args.sequences.now) c.args.first c.loop-number.number c.loop-number.invariant.1 (sym c.in_ok-is_taken.ensures ∙ c.if-not-branch.false) in
    elim c.if-not-branch-2.branch [
      | then-not-branch-2+in_ok-push w ↦ (search_gap (is_numbered c.args.sequences.now) c.args.first c.loop-number.number c.args.gaps.items c.loop-number.gaps.items c.if-not-branch-2.gaps.items c.loop-number.invariant.0 (ap (λ v. v.items) w.gaps-is ∙ w.in_ok-push.ensures.items), taken)
      | else-not-branch-2 w ↦ (search_written (is_numbered c.args.sequences.now) c.args.first c.loop-number.number c.args.gaps.items c.loop-number.gaps.items c.if-not-branch-2.gaps.items c.loop-number.invariant.0 (sym c.in_ok-is_numbered.ensures ∙ w.if-not-branch-2.false) (ap (λ v. v.items) w.gaps-is), taken)
    ]
