use Rattle.std.proofs.Common.{◌≡◌, take}
use Rattle.std.specs.Prelude.{option_map}
use Rattle.websocket.specs.Headers.{fields_of}
use Rattle.socket_conn.specs.Heads.{last_value}
use Rattle.socket_conn.proofs.asked.last_value.Given as goal

abbrev pub invariant-loop-field : goal.invariant-loop-field
invariant-loop-field l =
    option_map (λ value. value.now) l.last ≡ last_value (fields_of l.bytes (take l.field-index l.fields)) l.name
