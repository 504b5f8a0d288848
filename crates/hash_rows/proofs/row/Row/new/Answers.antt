use Rattle.std.proofs.Common.{ap, ◌∙◌, sym, true≢false}
use Rattle.std.specs.Ordering.{nat_cmp}
use Rattle.std.specs.FinSet as set
use Rattle.number_sets.specs.Places.{Places}
use Rattle.hash_rows.specs.Ranks.{rank_of}
use Rattle.hash_rows.specs.Rows.{waits_in, holds_in}
use Rattle.hash_rows.proofs.row.Row.new.Goals as goal

pub invariant_of-result-clause-waiting_ranks : goal.invariant_of-result-clause-waiting_ranks
invariant_of-result-clause-waiting_ranks c r is =
    absurd (true≢false (sym is ∙ ap (λ (p : Places). set.contains p.places r) c.new-2.ensures ∙ set.contains-empty nat_cmp r))

pub invariant_of-result-clause-held_ranks : goal.invariant_of-result-clause-held_ranks
invariant_of-result-clause-held_ranks c r is =
    absurd (true≢false (sym is ∙ ap (λ (p : Places). set.contains p.places r) c.new-3.ensures ∙ set.contains-empty nat_cmp r))

pub returns-clause-waits : goal.returns-clause-waits
unfolding waits_in
returns-clause-waits c i = ap (λ (p : Places). set.contains p.places (rank_of c.new.result.items i)) c.new-2.ensures ∙ set.contains-empty nat_cmp _

pub returns-clause-holds : goal.returns-clause-holds
unfolding holds_in
returns-clause-holds c i = ap (λ (p : Places). set.contains p.places (rank_of c.new.result.items i)) c.new-3.ensures ∙ set.contains-empty nat_cmp _
