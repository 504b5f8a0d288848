use Rattle.std.proofs.Common.{[], ◌++◌}
use Rattle.std.specs.Prelude.{codes}
use Rattle.json_values.proofs.Written.{finish, follow}
use Rattle.wire_json.specs.Statistics.{early_fields, late_fields, mark_delete_field, result_field}
use Rattle.wire_json.proofs.statistics.statistics_text.Goals as goal

pub returns : goal.returns
returns c =
    let of = c.args.of in
    let early = early_fields of.kind of.acknowledged of.live of.dead of.gone in
    let mark = mark_delete_field of.mark_delete in
    let late = late_fields of.members of.pending of.gone of.oldest in
    finish early (mark ++ late) (result_field (codes "ok")) _ _
    (follow early mark late _ _ (follow [] early mark _ _ (follow [] [] early _ _ c.in_ok-push_brace.ensures c.in_ok-push_early.ensures) c.in_ok-push_mark_delete.ensures) c.in_ok-push_late.ensures)
    c.in_ok-push_result.ensures
