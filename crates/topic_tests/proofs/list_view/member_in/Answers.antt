use Rattle.std.proofs.Common.{arith, rules, tests}
use Rattle.std.proofs.lemmas.Iterator.{YieldsList-from_slice}
use Rattle.std.proofs.lemmas.Iterator.Consumers.{YieldsList-from_filter, nth_from_yields_List}
use Rattle.std.proofs.lemmas.List.Sums.{count_by-le-length, length-filter}
use Rattle.delivery_machine.specs.Words.{is_at}
use Rattle.topic_tests.proofs.list_view.member_in.Goals as goal

pub returns-clause-value : goal.returns-clause-value
returns-clause-value c =
    nth_from_yields_List _ _ _ c.nth.ensures.ran
    (YieldsList-from_filter _ (is_at c.args.name.now) (YieldsList-from_slice c.args.members.now cc) c.filter.ensures.closure (λ x r q k. search (rules, tests)))

pub returns-clause-few : goal.returns-clause-few
returns-clause-few c =
    let test = is_at c.args.name.now in
    let members = c.args.members.now in
    omega (arith, length-filter test members, count_by-le-length test members, c.iter.ensures.len, c.iter.ensures.bound)
