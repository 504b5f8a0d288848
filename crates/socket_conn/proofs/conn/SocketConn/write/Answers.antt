use Rattle.socket_conn.proofs.TalksLemmas.{wait-is-io}
use Rattle.socket_conn.proofs.conn.SocketConn.write.Goals as goal

pub returns-then-would_block-clause-wrote : goal.returns-then-would_block-clause-wrote
returns-then-would_block-clause-wrote g c = rw c.note_full.ensures.socket (c.in-Err.ensures.stream_failed (wait-is-io c.in-Err.error (c.would_block-would_block.ensures.0 c.if-would_block.true)))
