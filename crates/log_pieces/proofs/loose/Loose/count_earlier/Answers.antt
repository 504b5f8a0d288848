use Rattle.log_pieces.proofs.loose.Loose.count_earlier.Goals as goal
use Rattle.log_pieces.proofs.loose.Loose.count_earlier.Goals.{in-Some+else-millis, in-None}
use Rattle.log_pieces.proofs.Joined.{slice_get_none}
use Rattle.std.proofs.Common.{sym, ap, arith}
use Rattle.position_core.specs.declared.message.Entry.{Entry}
use Rattle.log_pieces.specs.Pieces.{loosely}
use Rattle.log_pieces.proofs.Moments.{one_later, one_earlier}

pub returns-then-millis-clause-value : goal.returns-then-millis-clause-value
returns-then-millis-clause-value c = one_later c.args.time (loosely c.args.self.now) c.in-Some.message.now c.args.from c.loop-place.place (sym c.in-Some.ensures) c.loop-place.invariant (omega (arith, c.if-millis.true, c.millis.ensures.value, c.millis-in-Some.ensures.value, ap (λ (e : Entry). e.time) c.entry.ensures))

pub loop-place-preserved : goal.loop-place-preserved
loop-place-preserved c = elim c.match-get.branch [
  | in-Some+else-millis w ↦ one_earlier c.args.time (loosely c.args.self.now) w.in-Some.message.now c.args.from c.loop-place.place (sym w.in-Some.ensures) c.loop-place.invariant (omega (arith, w.if-millis.false, w.millis.ensures.value, w.millis-in-Some.ensures.value, ap (λ (e : Entry). e.time) w.entry.ensures))
  | in-None w ↦ absurd (omega (arith, slice_get_none (loosely c.args.self.now) c.loop-place.place (sym w.in-None.ensures), c.len-place-end.ensures.value, c.loop-place-test.true))
]
