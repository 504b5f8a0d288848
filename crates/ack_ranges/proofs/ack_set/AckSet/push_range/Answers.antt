use Rattle.std.proofs.Common.{◌≡◌, ◌∙◌, refl, sym, ap, inl, inr, arith}
use Rattle.std.specs.FinSet as set
use Rattle.ack_ranges.proofs.Changed.{IsBegun, pushed_raised, pushed_is, not_pushed, pushed_where}
use Rattle.ack_ranges.proofs.Raised.{lowered_none, raised_none}
use Rattle.ack_ranges.proofs.ack_set.AckSet.push_range.Goals as goal
use Rattle.ack_ranges.proofs.ack_set.AckSet.push_range.Goals.{After-push_range, then-len-eq0, else-len-eq0}

begun : (c : goal.After-push_range) → IsBegun c.if-len-eq0.self-inside.base c.if-len-eq0.self-inside.spans c.args.self.now
begun c = elim c.if-len-eq0.branch [
  | then-len-eq0 w ↦
      let none : set.len c.args.self.now ≡ 0 = sym c.len.ensures ∙ w.if-len-eq0.true in
      rw (w.self-inside-is, w.reset.ensures) (record {
        raised = raised_none;
        stands = lowered_none set.empty ∙ sym (set.empty_of_len c.args.self.now none);
        some = inl refl;
      })
  | else-len-eq0 w ↦ rw w.self-inside-is (record {
    raised = c.self.invariant;
    stands = c.self.view_is;
    some = inr (λ none. w.if-len-eq0.false (c.len.ensures ∙ ap set.len (sym c.self.view_is) ∙ none));
  })
]

pub invariant_of-self-2 : goal.invariant_of-self-2
invariant_of-self-2 c =
    pushed_raised c.if-len-eq0.self-inside.base c.if-len-eq0.self-inside.spans c.args.self.now c.push_range.new.self (begun c) c.raised-kept.result c.raised.result c.args.start c.args.end c.raised-kept.ensures c.raised.ensures (omega (arith, c.if-kept-from.false, c.from.ensures)) c.ranges.end.fits c.push_range.result c.push_range.ensures.ok c.push_range.ensures.err

pub returns-clause-ok : goal.returns-clause-ok
returns-clause-ok c =
    pushed_is c.if-len-eq0.self-inside.base c.if-len-eq0.self-inside.spans c.args.self.now c.push_range.new.self (begun c) c.raised-kept.result c.raised.result c.args.start c.args.end c.raised-kept.ensures c.raised.ensures c.push_range.result c.push_range.ensures.ok

pub returns-clause-pushed : goal.returns-clause-pushed
returns-clause-pushed c =
    pushed_where c.if-len-eq0.self-inside.base c.if-len-eq0.self-inside.spans c.args.self.now c.push_range.new.self (begun c) c.raised-kept.result c.raised.result c.args.start c.args.end c.raised-kept.ensures c.raised.ensures c.push_range.result c.push_range.ensures.pushed

pub returns-clause-err : goal.returns-clause-err
returns-clause-err c =
    not_pushed c.if-len-eq0.self-inside.base c.if-len-eq0.self-inside.spans c.args.self.now c.push_range.new.self (begun c) c.raised-kept.result c.raised.result c.args.start c.args.end c.raised-kept.ensures c.raised.ensures c.push_range.result c.push_range.ensures.err
