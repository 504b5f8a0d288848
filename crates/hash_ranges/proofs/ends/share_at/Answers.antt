use Rattle.std.proofs.Common.{◌∙◌, sym, ap, arith, ℕ, Some}
use Rattle.std.specs.List.{find}
use Rattle.position_core.specs.declared.block.Block.{Block}
use Rattle.delivery_machine.specs.Shares.{has_hash}
use Rattle.hash_ranges.specs.Ends.{begin_from, share_between, shares_of}
use Rattle.hash_ranges.proofs.Shares.{begins_before, share_found, nobody_owns}
use Rattle.hash_ranges.proofs.ends.share_at.Goals as goal

pub share_between-requires : goal.share_between-requires
share_between-requires c =
    let is = ap (λ (h : ℕ). begin_from 0 h c.args.ends.now.entries) c.from-behind.ensures in
    omega (arith, c.begin_of-from.ensures, is, begins_before c.from-behind.result c.args.ends.now.entries (c.in-Some.end.now, c.in-Some.consumer.now) _ (sym (c.range.ensures.between tt) ∙ c.in-Some.ensures.steps))

pub returns-in-Some-clause-value : goal.returns-in-Some-clause-value
returns-in-Some-clause-value c =
    let is = ap (λ (h : ℕ). begin_from 0 h c.args.ends.now.entries) c.from-behind.ensures in
    ap (λ (b : Block). Some b) c.share_between.ensures
    ∙ ap (λ (n : ℕ). Some (share_between n c.in-Some.end.now c.in-Some.consumer.now)) (c.begin_of-from.ensures ∙ sym is)
    ∙ share_found c.from-behind.result 0 c.args.ends.now.entries (c.in-Some.end.now, c.in-Some.consumer.now) _ c.requires (omega arith) (sym (c.range.ensures.between tt) ∙ c.in-Some.ensures.steps)
    ∙ ap (λ (h : ℕ). find (has_hash h) (shares_of c.args.ends.now.entries)) c.from-behind.ensures

pub returns-in-None-clause-value : goal.returns-in-None-clause-value
returns-in-None-clause-value c =
    sym (ap (λ es. find (has_hash c.args.hash) (shares_of es)) (nobody_owns c.from-behind.result c.args.ends.now.entries c.requires (omega (arith, c.from-behind.ensures, c.ranges.hash.fits)) (sym (c.range.ensures.between tt) ∙ c.in-None.ensures.steps.0)))

pub returns-in-None-clause-whole : goal.returns-in-None-clause-whole
returns-in-None-clause-whole c =
    ap shares_of (nobody_owns c.from-behind.result c.args.ends.now.entries c.requires (omega (arith, c.from-behind.ensures, c.ranges.hash.fits)) (sym (c.range.ensures.between tt) ∙ c.in-None.ensures.steps.0))
