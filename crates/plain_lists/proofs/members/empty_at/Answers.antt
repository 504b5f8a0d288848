use Rattle.std.proofs.Common.{ap, ◌∙◌, set, get_or}
use Rattle.std.proofs.lemmas.List.Edits.{map_over_more}
use Rattle.delivery_machine.specs.Words.{emptied_at}
use Rattle.plain_lists.proofs.members.empty_at.Goals as goal

pub loop-member-preserved : goal.loop-member-preserved
loop-member-preserved c =
    let item = get_or c.loop-member.members c.loop-member.member-index c.member-item.result in
    ap (set c.loop-member.members c.loop-member.member-index) c.forget_all.ensures
    ∙ map_over_more (emptied_at c.args.name.now) c.args.members.now c.loop-member.members c.loop-member.member-index item c.loop-member-test.true c.loop-member.invariant (ap (get_or c.loop-member.members c.loop-member.member-index) c.member-item.is)
