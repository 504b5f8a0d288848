-- What is written at the place of the member that is looked for.
use Rattle.std.proofs.lemmas.Grind.{common_steps}
use Rattle.delivery_machine.proofs.Places.{changed_there, unchanged, found_there, found_nothing, removed_there, none_removed}

pub ruleset at_its_place = (common_steps, changed_there, unchanged, found_there, found_nothing, removed_there, none_removed)
