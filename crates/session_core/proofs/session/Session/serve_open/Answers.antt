use Rattle.session_core.proofs.Turning.{ends_with_asking, ends_with_first, ends_with_texts, goes_on_held, goes_on_sent, texts_open}
use Rattle.session_core.proofs.session.Session.serve_open.Goals as goal

pub returns-in-Err : goal.returns-in-Err
returns-in-Err g c = (c.take_texts.new.conn, ends_with_texts _ _ _ _ _ _ _ _ _ _ _ _ c.in-Err.ensures)

pub send_ready-requires : goal.send_ready-requires
send_ready-requires g c = texts_open _ _ _ _ _ _ _ _ _ c.in-Ok.ensures

pub returns-in-Err-send_ready : goal.returns-in-Err-send_ready
returns-in-Err-send_ready g c = (c.send_ready.new.conn, ends_with_first _ _ _ _ _ _ _ _ _ _ _ _ _ _ _ c.in-Ok.ensures c.in-Err-send_ready.ensures)

pub returns-in-Err-ask_own : goal.returns-in-Err-ask_own
returns-in-Err-ask_own g c =
    (c.send_ready.new.conn, ends_with_asking _ _ _ _ _ _ _ _ _ _ _ _ _ _ _ _ _ c.has_room-has_room.ensures c.in-Ok.ensures c.in-Ok-send_ready.ensures c.in-Err-ask_own.ensures)

pub returns-in-Ok-false : goal.returns-in-Ok-false
returns-in-Ok-false g c = (
  c.send_ready.new.conn,
  goes_on_held _ _ _ _ _ _ _ _ _ _ _ _ _ _ _ c.has_room-has_room.result c.has_room-has_room.ensures c.in-Ok.ensures c.in-Ok-send_ready.ensures (rw c.in-Ok-false.field-0-test at c.in-Ok-false.ensures),
)

pub returns-in-Ok-true : goal.returns-in-Ok-true
returns-in-Ok-true g c = (
  c.send_ready.new.conn,
  goes_on_sent _ _ _ _ _ _ _ _ _ _ _ _ _ _ _ _ _ _ _ _ _ c.has_room-has_room.ensures c.in-Ok.ensures c.in-Ok-send_ready.ensures (rw c.in-Ok-true.field-0-test at c.in-Ok-true.ensures) c.send_ready-in-Ok-true.ensures,
)
