use Rattle.std.proofs.Common.{arith, rules, ◌≡◌, ◌++◌, ◌∷◌, []}
use Rattle.std.proofs.lemmas.List.Sums.{sum_by_push}
use Rattle.broker_parts.specs.Bulks.{entry_size}
use Rattle.broker_parts.proofs.Bulks.{one_more}
use Rattle.broker_parts.proofs.bulk.fill.Goals as goal

pub each-preserved : goal.each-preserved
each-preserved c =
    let more : c.push_back.new.self.items ≡ c.each.sizes.items ++ entry_size c.in-Some.message.now ∷ [] = search rules in
    let size = c.size_of-size.ensures in
    record {
      sizes = one_more entry_size c.args.snapshot.now.log c.each.sizes.items c.push_back.new.self.items c.each.place c.in-Some.message.now (cc (c.in-Some.ensures, c.log-log.ensures.value)) c.each.invariant.sizes more;
      bytes = cc (more, c.each.invariant.bytes, size.value, sum_by_push (λ x. x) c.each.sizes.items (entry_size c.in-Some.message.now));
      few = omega (arith, c.each.invariant.few, size.few);
    }
