use Rattle.std.proofs.Common.{◌≡◌, ℕ, ◌≤◌, length}
use Rattle.json.specs.Json.{members, value}
use Rattle.serde_json.specs.Read.{converted}
use Rattle.json_glances.specs.Glances.{taking_all}
use Rattle.wire_json.specs.CommandFields.{seen_in, with_member}
use Rattle.wire_json.proofs.command_fields.take_members.Given as goal

abbrev pub invariant-members : goal.invariant-members
invariant-members l =
    (n : ℕ) × (length l.reader ≤ n)
    × (converted (λ ms. taking_all with_member ms (seen_in l.initial.fields)) (members (value 126) (length l.initial.reader) l.initial.reader) ≡ converted (λ ms. taking_all with_member ms (seen_in l.fields)) (members (value 126) n l.reader))
    × (length l.reader ≤ length l.initial.reader)

abbrev pub decreases-members : goal.decreases-members
decreases-members l = length l.reader
