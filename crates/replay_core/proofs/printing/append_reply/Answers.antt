use Rattle.std.proofs.Common.{rules}
use Rattle.replay_core.proofs.printing.append_reply.Goals as goal

pub returns-in-ProducerAdded : goal.returns-in-ProducerAdded
returns-in-ProducerAdded c = rw c.in-ProducerAdded.is (search rules)

pub returns-in-Published : goal.returns-in-Published
returns-in-Published c = rw c.in-Published.is (search rules)

pub returns-in-Duplicate : goal.returns-in-Duplicate
returns-in-Duplicate c = rw c.in-Duplicate.is (search rules)

pub returns-in-Durable : goal.returns-in-Durable
returns-in-Durable c = rw c.in-Durable.is (search rules)

pub returns-in-Subscribed : goal.returns-in-Subscribed
returns-in-Subscribed c = rw c.in-Subscribed.is (search rules)

pub returns-in-Done : goal.returns-in-Done
returns-in-Done c = rw c.in-Done.is (search rules)

pub returns-in-Sent : goal.returns-in-Sent
returns-in-Sent c = rw c.in-Sent.is (search rules)

pub returns-in-Idle : goal.returns-in-Idle
returns-in-Idle c = rw c.in-Idle.is (search rules)

pub returns-in-Copies : goal.returns-in-Copies
returns-in-Copies c = rw c.in-Copies.is (search rules)

pub returns-in-Refused : goal.returns-in-Refused
returns-in-Refused c = rw c.in-Refused.is (search rules)

pub returns-in-Released : goal.returns-in-Released
returns-in-Released c = rw c.in-Released.is (search rules)

pub returns-in-Rewound : goal.returns-in-Rewound
returns-in-Rewound c = rw c.in-Rewound.is (search rules)

pub returns-in-Quiet : goal.returns-in-Quiet
returns-in-Quiet c = rw c.in-Quiet.is (search rules)

pub returns-in-Progress : goal.returns-in-Progress
returns-in-Progress c = rw c.in-Progress.is (search rules)

pub returns-in-Died : goal.returns-in-Died
returns-in-Died c = rw c.in-Died.is (search rules)

pub returns-in-Stats : goal.returns-in-Stats
returns-in-Stats c = rw c.in-Stats.is (search rules)

pub returns-in-Dead : goal.returns-in-Dead
returns-in-Dead c = rw c.in-Dead.is (search rules)

pub returns-in-NoDead : goal.returns-in-NoDead
returns-in-NoDead c = rw c.in-NoDead.is (search rules)

pub returns-in-Trimmed : goal.returns-in-Trimmed
returns-in-Trimmed c = rw c.in-Trimmed.is (search rules)

pub returns-in-Untrimmed : goal.returns-in-Untrimmed
returns-in-Untrimmed c = rw c.in-Untrimmed.is (search rules)
