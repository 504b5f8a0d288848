use Rattle.std.proofs.Common.{◌≡◌, ◌≤◌, take}
use Rattle.websocket.specs.Headers.{fields_of}
use Rattle.socket_conn.specs.Heads.{count_of}
use Rattle.socket_conn.proofs.asked.count_of.Given as goal

abbrev pub invariant-loop-field : goal.invariant-loop-field
invariant-loop-field l =
    record {
      few : l.count ≤ l.field-index;
      counted : l.count ≡ count_of (fields_of l.bytes (take l.field-index l.fields)) l.name;
    }
