use Rattle.std.proofs.Common.{◌≤◌, length, drop, arith}
use Rattle.topic_log.proofs.Forgetting.{few_sorted}
use Rattle.topic_log.proofs.topic_log.TopicLog.to_remember.Goals as goal

pub returns : goal.returns
returns c =
    let few : length c.in_ok-authors.authors.items ≤ 4096 = omega (arith, c.if-len-gt-REMEMBERED.false, c.len.ensures) in
    few_sorted c.args.self.now (drop c.args.count c.args.self.now.log.log) c.in_ok-authors.authors.items _ _ c.in_ok-authors.ensures c.new.ensures.items few
