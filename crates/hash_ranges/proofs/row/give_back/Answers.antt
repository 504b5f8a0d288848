use Rattle.std.proofs.Common.{ap, sym, ◌∙◌}
use Rattle.std.specs.List.{find}
use Rattle.delivery_machine.specs.Shares.{is_share_of, given_back}
use Rattle.hash_ranges.specs.Ends.{shares_of}
use Rattle.hash_ranges.proofs.Leaves.{nobody_leaves, share_is_own}
use Rattle.hash_ranges.proofs.row.give_back.Goals as goal

pub take_out-requires-clause-found : goal.take_out-requires-clause-found
take_out-requires-clause-found c =
    let shares = shares_of c.args.ends.now.entries in
    c.in-Some.ensures ∙ ap (λ x. find (is_share_of x) shares) (sym (share_is_own c.args.consumer shares c.in-Some.share (sym c.in-Some.ensures)))

pub returns-in-Some-clause-value : goal.returns-in-Some-clause-value
returns-in-Some-clause-value c =
    let shares = shares_of c.args.ends.now.entries in
    c.take_out.ensures.value ∙ ap (λ x. given_back x shares) (share_is_own c.args.consumer shares c.in-Some.share (sym c.in-Some.ensures))

pub returns-in-None-clause-value : goal.returns-in-None-clause-value
returns-in-None-clause-value c = nobody_leaves c.args.consumer _ c.in-None.ensures
