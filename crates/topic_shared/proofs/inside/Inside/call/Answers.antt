use Rattle.std.proofs.Common.{arith, ap, length, length-append, ◌≤◌, ◌∙◌}
use Rattle.std.proofs.lemmas.List.Sums.{count_by-le-length}
use Rattle.topic_shared.specs.Accounts.{seat_lines}
use Rattle.topic_shared.proofs.inside.Inside.call.Goals as goal

pub overflow_add-mine : goal.overflow_add-mine
overflow_add-mine g c =
    let few : seat_lines c.self.inside.cell.lines ≤ length c.self.inside.cell.lines = count_by-le-length _ _ in
    let more = ap length c.in-Ok.ensures.line ∙ length-append c.self.inside.cell.lines _ in
    omega (arith, few, more, c.self.invariant.counted, c.audit.ensures.bound, c.mine.invariant.1, c.call.ensures.within)
