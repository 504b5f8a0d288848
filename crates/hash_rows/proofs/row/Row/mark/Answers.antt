use Rattle.hash_rows.specs.Rows.{waits_in, holds_in}
use Rattle.hash_rows.proofs.Marks.{marked, mark_nothing}
use Rattle.hash_rows.proofs.row.Row.mark.Goals as goal

pub returns-in-Some-clause-waits : goal.returns-in-Some-clause-waits
unfolding waits_in
returns-in-Some-clause-waits c =
    marked c.args.self.now.places.items c.args.self.now.waiting.places c.put.new.ranks.places c.args.index c.in-Some.rank c.args.waits c.in-Some.ensures.some.0 c.in-Some.ensures.some.1 c.put.ensures.ranks

pub returns-in-Some-clause-holds : goal.returns-in-Some-clause-holds
unfolding holds_in
returns-in-Some-clause-holds c =
    marked c.args.self.now.places.items c.args.self.now.held.places c.put-in-Some.new.ranks.places c.args.index c.in-Some.rank c.args.held c.in-Some.ensures.some.0 c.in-Some.ensures.some.1 c.put-in-Some.ensures.ranks

pub returns-in_default-clause-waits : goal.returns-in_default-clause-waits
unfolding waits_in
returns-in_default-clause-waits c =
    mark_nothing c.args.self.now.places.items c.args.self.now.waiting.places c.args.index c.args.waits c.args.self.now.waiting_ranks c.in_default.ensures.none

pub returns-in_default-clause-holds : goal.returns-in_default-clause-holds
unfolding holds_in
returns-in_default-clause-holds c =
    mark_nothing c.args.self.now.places.items c.args.self.now.held.places c.args.index c.args.held c.args.self.now.held_ranks c.in_default.ensures.none
