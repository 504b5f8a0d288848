use Rattle.std.proofs.Common.{Option, List, sym, subst}
use Rattle.endpoint_core.specs.declared.routes.Endpoint.TheVariants.{Consumer, Producer}
use Rattle.session_links.specs.Links.{Call, Exchange}
use Rattle.session_core.specs.Lives.{BeginsLife}
use Rattle.session_core.proofs.Lives.{begins_life}
use Rattle.session_core.proofs.opening.open.Goals as goal

pub returns-in-Producer-clause-lives : goal.returns-in-Producer-clause-lives
returns-in-Producer-clause-lives g c =
    let e : Option Exchange = g.C.Conn.exchange c.args.conn.now in
    let f : Option Exchange = g.C.Conn.exchange c.open_producer.new.conn in
    let calls : Option (List Call) = g.K.Caller.calls c.args.caller.now in
    let more : Option (List Call) = g.K.Caller.calls c.open_producer.new.caller in
    subst (λ x. BeginsLife x e calls c.open_producer.result f more) (sym c.in-Producer.is)
    (begins_life (Producer c.in-Producer.producer) e f calls more c.open_producer.result (g.C.Conn.is_open c.open_producer.new.conn) c.open_producer.ensures.begins)

pub returns-in-Consumer-clause-lives : goal.returns-in-Consumer-clause-lives
returns-in-Consumer-clause-lives g c =
    let e : Option Exchange = g.C.Conn.exchange c.args.conn.now in
    let f : Option Exchange = g.C.Conn.exchange c.open_consumer.new.conn in
    let calls : Option (List Call) = g.K.Caller.calls c.args.caller.now in
    let more : Option (List Call) = g.K.Caller.calls c.open_consumer.new.caller in
    subst (λ x. BeginsLife x e calls c.open_consumer.result f more) (sym c.in-Consumer.is)
    (begins_life (Consumer c.in-Consumer.consumer) e f calls more c.open_consumer.result (g.C.Conn.is_open c.open_consumer.new.conn) c.open_consumer.ensures.begins)
