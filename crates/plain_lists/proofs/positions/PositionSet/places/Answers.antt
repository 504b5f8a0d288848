use Rattle.std.proofs.Common.{◌≡◌}
use Rattle.std.specs.FinSet as set
use Rattle.std.specs.Ordering.{nat_cmp}
use Rattle.std.proofs.lemmas.Result.{IfOk-weaker}
use Rattle.delivery_machine.specs.Places.{positions_at}
use Rattle.plain_lists.specs.Places.{ArePlacesOf}
use Rattle.plain_lists.proofs.Placed.{positions_back}
use Rattle.plain_lists.proofs.positions.PositionSet.places.Goals as goal

pub returns-clause-back : goal.returns-clause-back
returns-clause-back c = λ of_log.
    let log = c.args.log.now in
    let s = c.args.self.now in
    IfOk-weaker c.places_of.result (λ (places : set.FinSet nat_cmp). ArePlacesOf log s places) (λ (places : set.FinSet nat_cmp). positions_at log places ≡ s)
    (λ places are. positions_back log s places are of_log) c.places_of.ensures
