use Rattle.std.proofs.Common.{◌≡◌, Some, ap, sym, ◌∙◌, rules, subst}
use Rattle.std.specs.Prelude.{IsTrue}
use Rattle.std.specs.List.{slice_get}
use Rattle.std.proofs.lemmas.Option.{slice_get_within}
use Rattle.log_pieces.specs.Pieces.{joined}
use Rattle.delivery_machine.specs.WellFormed.{has_message}
use Rattle.row_forms.specs.Forms.{index_in}
use Rattle.row_reading.proofs.PlacesRead.{message_there, place_there}
use Rattle.row_reading.proofs.places.position_of.Goals as goal

pub returns-clause-index : goal.returns-clause-index
returns-clause-index c =
    let m = c.in_ok-message.message.now in
    let at : slice_get (joined c.args.log.now) c.args.index ≡ Some m = search rules in
    place_there (joined c.args.log.now) c.args.index m c.requires at ∙ ap (index_in (joined c.args.log.now)) (sym c.position.ensures)

pub returns-clause-message : goal.returns-clause-message
returns-clause-message c =
    let m = c.in_ok-message.message.now in
    let at : slice_get (joined c.args.log.now) c.args.index ≡ Some m = search rules in
    subst (λ p. IsTrue (has_message (joined c.args.log.now) p)) (sym c.position.ensures) (message_there (joined c.args.log.now) c.args.index m at)

pub returns-clause-within : goal.returns-clause-within
returns-clause-within c =
    let m = c.in_ok-message.message.now in
    let at : slice_get (joined c.args.log.now) c.args.index ≡ Some m = search rules in
    slice_get_within (joined c.args.log.now) c.args.index m at
