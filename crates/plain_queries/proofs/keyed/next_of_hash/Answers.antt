use Rattle.std.proofs.Common.{rules, sym}
use Rattle.plain_queries.proofs.Hashes.{goes_by_its_hash}
use Rattle.plain_queries.proofs.keyed.next_of_hash.Goals as goal

pub returns-then-free-clause-some : goal.returns-then-free-clause-some
returns-then-free-clause-some c =
    goes_by_its_hash c.args.log.now c.args.visible.now c.args.members.now c.args.subscription.now c.args.hash c.in_ok-message.message.now c.in_ok-member.member.now
    (sym c.in_ok-message.ensures) (sym c.in_ok-member.ensures) (search rules) (search rules)
