use Rattle.std.proofs.Common.{◌∙◌, sym, ap, arith}
use Rattle.delivery_machine.specs.Shares.{owner_among}
use Rattle.hash_ranges.specs.Ends.{shares_of}
use Rattle.hash_ranges.proofs.Shares.{owner_found, nobody_owns}
use Rattle.hash_ranges.proofs.ends.owner_of.Goals as goal

pub returns-in-Some-clause-value : goal.returns-in-Some-clause-value
returns-in-Some-clause-value c =
    owner_found c.from.result 0 c.args.ends.now.entries (c.in-Some.field-0-0.now, c.in-Some.consumer.now) _ c.requires (omega arith) (sym (c.range.ensures.between tt) ∙ c.in-Some.ensures.steps)
    ∙ ap (owner_among (shares_of c.args.ends.now.entries)) c.from.ensures

pub returns-in-None-clause-value : goal.returns-in-None-clause-value
returns-in-None-clause-value c =
    sym (ap (λ es. owner_among (shares_of es) c.args.hash) (nobody_owns c.from.result c.args.ends.now.entries c.requires (omega (arith, c.from.ensures, c.ranges.hash.fits)) (sym (c.range.ensures.between tt) ∙ c.in-None.ensures.steps.0)))

pub returns-in-None-clause-whole : goal.returns-in-None-clause-whole
returns-in-None-clause-whole c = ap shares_of (nobody_owns c.from.result c.args.ends.now.entries c.requires (omega (arith, c.from.ensures, c.ranges.hash.fits)) (sym (c.range.ensures.between tt) ∙ c.in-None.ensures.steps.0))
