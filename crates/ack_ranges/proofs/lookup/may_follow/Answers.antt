use Rattle.std.proofs.lemmas.Bool.Decides.{Decides-ltb}
use Rattle.ack_ranges.proofs.Missing.{follows_from, last_before}
use Rattle.ack_ranges.proofs.lookup.may_follow.Goals as goal

pub returns-else-last-eq0 : goal.returns-else-last-eq0
returns-else-last-eq0 c =
    let start = Decides-ltb c.end_of-last.result c.args.start in
    (λ lt. follows_from _ c.end_of-last.result c.args.start c.args.end c.end_of-last.ensures c.if-start-end.true (start.0 lt), λ may. start.1 (last_before _ c.end_of-last.result c.args.start c.args.end c.end_of-last.ensures c.if-last-eq0.false may))
