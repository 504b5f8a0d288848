use Rattle.std.proofs.Common.{ap, ◌∙◌}
use Rattle.stored_cell.specs.Held.{Held}
use Rattle.topic_shared.specs.Seats.{without_seat}
use Rattle.broker_dir.proofs.Seats.{left_again}
use Rattle.broker_dir.proofs.inside.Inside.enter.Goals as goal

pub returns-in-Err-enter-clause-refused : goal.returns-in-Err-enter-clause-refused
returns-in-Err-enter-clause-refused g c =
    let old = c.args.self.now.topic.cell in
    let seat = c.in-Ok.seat in
    c.exit.ensures.cell
    ∙ (ap (λ (h : Held). record h { cell = record h.cell { taken = without_seat h.cell.taken seat } }) c.in-Ok.ensures.ok.1
    ∙ ap (λ taken. record old { cell = record old.cell { taken = taken } }) (left_again old.cell.taken seat c.in-Ok.ensures.ok.0))
