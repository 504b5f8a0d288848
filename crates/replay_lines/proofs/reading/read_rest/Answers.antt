use Rattle.replay_lines.proofs.reading.read_rest.Goals as goal

pub returns-in-Producer : goal.returns-in-Producer
returns-in-Producer c = rw c.in-Producer.is (c.read_producer.ensures c.args.this.now)

pub returns-in-Publish : goal.returns-in-Publish
returns-in-Publish c = rw c.in-Publish.is (c.read_publish.ensures c.args.this.now)

pub returns-in-Stored : goal.returns-in-Stored
returns-in-Stored c = rw c.in-Stored.is (c.read_stored.ensures c.args.this.now)

pub returns-in-Ack : goal.returns-in-Ack
returns-in-Ack c = rw c.in-Ack.is (c.read_ack.ensures c.args.this.now)

pub returns-in-Dispatch : goal.returns-in-Dispatch
returns-in-Dispatch c = rw c.in-Dispatch.is (c.read_dispatch.ensures c.args.this.now)

pub returns-in-Collect : goal.returns-in-Collect
returns-in-Collect c = rw c.in-Collect.is (c.read_collect.ensures c.args.this.now)

pub returns-in-Subscribe : goal.returns-in-Subscribe
returns-in-Subscribe c = rw c.in-Subscribe.is c.read_subscribe.ensures

pub returns-in-Leave : goal.returns-in-Leave
returns-in-Leave c = rw c.in-Leave.is (c.read_leave.ensures c.args.this.now)

pub returns-in-AckUpTo : goal.returns-in-AckUpTo
returns-in-AckUpTo c = rw c.in-AckUpTo.is (c.read_ack_up_to.ensures c.args.this.now)

pub returns-in-Permit : goal.returns-in-Permit
returns-in-Permit c = rw c.in-Permit.is (c.read_permit.ensures c.args.this.now)

pub returns-in-Nack : goal.returns-in-Nack
returns-in-Nack c = rw c.in-Nack.is (c.read_nack.ensures c.args.this.now)

pub returns-in-Tick : goal.returns-in-Tick
returns-in-Tick c = rw c.in-Tick.is (c.read_tick.ensures c.args.this.now)

pub returns-in-DropProducer : goal.returns-in-DropProducer
returns-in-DropProducer c = rw c.in-DropProducer.is (c.read_drop_producer.ensures c.args.this.now)

pub returns-in-Progress : goal.returns-in-Progress
returns-in-Progress c = rw c.in-Progress.is (c.read_progress.ensures c.args.this.now)

pub returns-in-Seek : goal.returns-in-Seek
returns-in-Seek c = rw c.in-Seek.is (c.read_seek.ensures c.args.this.now)

pub returns-in-SeekTime : goal.returns-in-SeekTime
returns-in-SeekTime c = rw c.in-SeekTime.is (c.read_seek_time.ensures c.args.this.now)

pub returns-in-Skip : goal.returns-in-Skip
returns-in-Skip c = rw c.in-Skip.is (c.read_skip.ensures c.args.this.now)

pub returns-in-DropSubscription : goal.returns-in-DropSubscription
returns-in-DropSubscription c = rw c.in-DropSubscription.is (c.read_drop_subscription.ensures c.args.this.now)

pub returns-in-Stats : goal.returns-in-Stats
returns-in-Stats c = rw c.in-Stats.is (c.read_stats.ensures c.args.this.now)

pub returns-in-DeadNext : goal.returns-in-DeadNext
returns-in-DeadNext c = rw c.in-DeadNext.is (c.read_dead_next.ensures c.args.this.now)

pub returns-in-DeadDone : goal.returns-in-DeadDone
returns-in-DeadDone c = rw c.in-DeadDone.is (c.read_dead_done.ensures c.args.this.now)

pub returns-in-Trim : goal.returns-in-Trim
returns-in-Trim c = rw c.in-Trim.is (c.read_trim.ensures c.args.this.now)

pub returns-in-Restart : goal.returns-in-Restart
returns-in-Restart c = rw c.in-Restart.is (c.read_restart.ensures c.args.this.now)
