-- What a message leaves behind.
use Rattle.std.specs.Prelude.{ℕ, List, [], ◌∷◌, Option}
use Rattle.std.specs.Option.{option_map_or}
use Rattle.position_core.specs.declared.position.Position.{Position}
use Rattle.delivery_machine.specs.State.{Member}
use Rattle.delivery_machine.specs.Words.{changed, is_member}
use Rattle.topic_members.specs.Members.{leaving_out}

-- the one that holds the message, if any, has no copy of it left
abbrev pub left_out_of : Option ℕ → Position → List Member → List Member
left_out_of holder position members = option_map_or (λ n. changed (is_member n) (leaving_out (position ∷ [])) members) holder members
