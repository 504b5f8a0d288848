use Rattle.std.proofs.Common.{rules, ◌≡◌, ◌++◌, ◌∷◌, []}
use Rattle.std.proofs.lemmas.List.Sums.{sum_by_push}
use Rattle.broker_parts.proofs.bulk.Bulk.push.Goals as goal

pub invariant_of-self-clause-summed : goal.invariant_of-self-clause-summed
invariant_of-self-clause-summed c =
    let more : c.push_back.new.self.items ≡ c.args.self.now.sizes.items ++ c.args.size ∷ [] = search rules in
    cc (more, c.requires.bytes, sum_by_push (λ x. x) c.args.self.now.sizes.items c.args.size)
