use Rattle.std.proofs.Common.{◌∙◌, ap, sym}
use Rattle.log_pieces.specs.Pieces.{index_of}
use Rattle.delivery_machine.specs.State.{DeadLetter}
use Rattle.delivery_machine.specs.Words.{has_position}
use Rattle.delivery_machine.proofs.Places.{found_nothing}
use Rattle.delivery_events.proofs.Named.{found_slice}
use Rattle.delivery_events.proofs.moving.message_of.Goals as goal

pub returns-in-Some : goal.returns-in-Some
returns-in-Some c =
    let log = c.args.log.now.log.log in
    c.get.ensures ∙ sym (found_slice (has_position c.args.letter.now.position) log c.in-Some.index (c.in-Some.ensures ∙ ap (λ (d : DeadLetter). index_of d.position log) c.letter.view_is))

pub returns-in-None : goal.returns-in-None
returns-in-None c =
    let log = c.args.log.now.log.log in
    sym (found_nothing (has_position c.args.letter.now.position) log (c.in-None.ensures ∙ ap (λ (d : DeadLetter). index_of d.position log) c.letter.view_is))
