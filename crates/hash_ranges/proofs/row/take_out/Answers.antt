use Rattle.std.proofs.Common.{◌≡◌, ◌+◌, ap, sym, ◌∙◌, arith}
use Rattle.delivery_machine.specs.Shares.{is_share_of}
use Rattle.hash_ranges.specs.Ends.{shares_of}
use Rattle.hash_ranges.proofs.Leaves.{share_within, share_begins, split_removed, split_moved, next_takes, one_before_takes, last_leaves}
use Rattle.hash_ranges.proofs.row.take_out.Goals as goal

pub overflow_add-end : goal.overflow_add-end
overflow_add-end c = omega (arith, share_within c.args.share.consumer c.args.ends.now.entries c.args.share c.requires.split (sym c.requires.found))

pub returns-then-end-lt-HASHES-clause-split : goal.returns-then-end-lt-HASHES-clause-split
returns-then-end-lt-HASHES-clause-split c = rw c.remove.ensures.entries (split_removed _ c.args.ends.now.entries c.requires.split c.if-end-lt-HASHES.true)

pub returns-then-end-lt-HASHES-clause-value : goal.returns-then-end-lt-HASHES-clause-value
returns-then-end-lt-HASHES-clause-value c =
    rw c.remove.ensures.entries (next_takes c.args.share.consumer 0 c.args.ends.now.entries c.args.share c.requires.split (sym c.requires.found) c.if-end-lt-HASHES.true)

pub returns-in-Some-clause-split : goal.returns-in-Some-clause-split
returns-in-Some-clause-split c =
    let share = c.args.share in
    rw (c.give_last.ensures, c.in-Some.ensures.entries)
    (split_moved share.from 65536 c.args.ends.now.entries c.in-Some.before c.requires.split (share_begins (is_share_of share.consumer) 0 c.args.ends.now.entries share c.requires.split (sym c.requires.found)))

pub returns-in-Some-clause-value : goal.returns-in-Some-clause-value
returns-in-Some-clause-value c =
    let share = c.args.share in
    let end : share.from + share.size ≡ 65536 = omega (arith, c.if-end-lt-HASHES.false, share_within share.consumer c.args.ends.now.entries share c.requires.split (sym c.requires.found)) in
    rw (c.give_last.ensures, c.in-Some.ensures.entries)
    (one_before_takes share.consumer 0 c.args.ends.now.entries share c.in-Some.before c.requires.split (sym c.requires.found) end (sym c.in-Some.ensures.value))

pub returns-in-None-clause-value : goal.returns-in-None-clause-value
returns-in-None-clause-value c =
    let share = c.args.share in
    let end : share.from + share.size ≡ 65536 = omega (arith, c.if-end-lt-HASHES.false, share_within share.consumer c.args.ends.now.entries share c.requires.split (sym c.requires.found)) in
    ap shares_of c.clear.ensures.empty ∙ last_leaves share.consumer c.args.ends.now.entries share c.requires.split (sym c.requires.found) end (sym c.in-None.ensures.value)
