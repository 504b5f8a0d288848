use Rattle.std.proofs.Common.{◌∙◌, sym, ap, ℕ}
use Rattle.hash_ranges.specs.Ends.{begin_from}
use Rattle.hash_ranges.proofs.Shares.{begins_first, begins_at}
use Rattle.hash_ranges.proofs.ends.begin_of.Goals as goal

pub returns-in-Some : goal.returns-in-Some
returns-in-Some c =
    sym (begins_at 0 c.from.result c.args.ends.now.entries _ (c.in-Some.end.now, c.in-Some.field-0-1.now) c.requires (sym (c.range.ensures.between tt) ∙ c.in-Some.ensures.steps))
    ∙ ap (λ (h : ℕ). begin_from 0 h c.args.ends.now.entries) c.from.ensures

pub returns-in-None : goal.returns-in-None
returns-in-None c =
    sym (begins_first 0 c.from.result c.args.ends.now.entries c.requires (sym (c.range.ensures.between tt) ∙ c.in-None.ensures.steps.0))
    ∙ ap (λ (h : ℕ). begin_from 0 h c.args.ends.now.entries) c.from.ensures
