use Rattle.std.proofs.Common.{arith}
use Rattle.json_values.proofs.Lengths.{property_room}
use Rattle.json_values.proofs.properties.room_for_property.Goals as goal

pub returns-clause-enough : goal.returns-clause-enough
returns-clause-enough c fit =
    let room = property_room c.args.name.now c.args.value.now c.room_for-name_room.result c.room_for-value_room.result fit c.room_for-name_room.ensures c.room_for-value_room.ensures in
    omega (arith, room.0, room.1, c.saturating_add.ensures, c.saturating_add-2.ensures)
