-- The machine's state that the lists stand for.
use Rattle.delivery_machine.specs.State.{State}
use Rattle.plain_topic.specs.declared.lists.Lists.{Lists}

abbrev pub state_of : Lists → State
state_of t = record {
  name = t.name;
  ledger_size = t.ledger_size;
  ledger = t.ledger;
  next_ordinal = t.next_ordinal;
  next_producer = t.next_producer;
  next_consumer = t.next_consumer;
  gone = t.gone;
  authors = t.authors.items;
  retention = t.retention;
  log = t.log.items;
  durable = t.durable;
  producers = t.producers.items;
  members = t.members.items;
  subscriptions = t.subscriptions.items;
}
