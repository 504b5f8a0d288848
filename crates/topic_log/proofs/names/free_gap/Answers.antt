use Rattle.std.proofs.Common.{ℕ, Bool, Some, None, refl, ap, sym, ◌∙◌, arith}
use Rattle.std.specs.Prelude.{not}
use Rattle.std.specs.List.{find}
use Rattle.std.proofs.lemmas.List.Recursion.{found_at, found_nowhere}
use Rattle.topic_log.specs.Names.{is_taken}
use Rattle.topic_log.proofs.names.free_gap.Goals as goal

pub returns-then-not-branch : goal.returns-then-not-branch
returns-then-not-branch c =
    let free : ℕ → Bool = λ g. not (is_taken c.args.producers.now c.args.sequences.now g) in
    sym (found_at (find free) free Some None refl (λ _ _. refl) c.args.gaps.now c.loop-gap.gap-index 0 c.loop-gap-test.true
    (λ k below. ap not (c.loop-gap.invariant k below))
    (ap not (sym c.in_ok-is_taken.ensures ∙ c.if-not-branch.true)))

pub returns : goal.returns
returns c =
    let free : ℕ → Bool = λ g. not (is_taken c.args.producers.now c.args.sequences.now g) in
    sym (found_nowhere (find free) free Some None refl (λ _ _. refl) c.args.gaps.now 0 (λ k below. ap not (c.loop-gap.invariant k (omega arith))))
