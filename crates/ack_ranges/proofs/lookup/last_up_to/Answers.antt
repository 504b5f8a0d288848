use Rattle.std.proofs.Common.{◌≡◌, ◌≤◌, ℕ, false, arith}
use Rattle.std.specs.Ordering.{nat_cmp, is_gt, is_lt}
use Rattle.std.proofs.lemmas.Grind.{common_steps}
use Rattle.ack_ranges.proofs.lookup.last_up_to.Goals as goal

at_most : (a b : ℕ) → is_gt (nat_cmp a b) ≡ false → a ≤ b
at_most a b h = grind (arith, common_steps)

not_above : (a b : ℕ) → a ≤ b → is_gt (nat_cmp a b) ≡ false
not_above a b h = grind (arith, common_steps)

at_least : (a b : ℕ) → is_lt (nat_cmp a b) ≡ false → b ≤ a
at_least a b h = grind (arith, common_steps)

pub returns-in-Some-clause-some : goal.returns-in-Some-clause-some
returns-in-Some-clause-some c =
    let last = (c.range.ensures.in_range tt).3 _ _ c.in-Some.ensures.steps in
    let most = (c.range.ensures.in_range tt).4 _ _ c.in-Some.ensures.steps in
    (last.1, at_most _ _ last.0.1, λ t le some. at_least _ _ (most t (tt, not_above t _ le) some))
