-- Which of two members is served.
use Rattle.std.specs.Prelude.{Option}
use Rattle.std.specs.Option.{option_map_or}
use Rattle.delivery_machine.specs.State.{Member}
use Rattle.delivery_machine.specs.Words.{earlier}

-- of the one so far and the next, the one that is served
abbrev pub sooner : Option Member → Member → Member
sooner best m = option_map_or (λ b. earlier b m) best m
