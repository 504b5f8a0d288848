use Rattle.std.proofs.Common.{Some, None, arith}
use Rattle.dispatch_core.specs.Log.{line_of}
use Rattle.dispatch_single.proofs.InLine.{pair_seen, seen_in_line, seen_within, unseen_past}
use Rattle.dispatch_single.proofs.line.still_in_line.Goals as goal

pub returns-in-Some : goal.returns-in-Some
returns-in-Some g c = λ most least.
    let s = g.V.View.state c.args.view.now in
    let sub = g.V.View.subscription c.args.view.now in
    let fewer = c.saturating_sub-fewer.result in
    let within = seen_within (line_of s sub) fewer (pair_seen c.in-Some.field-0) (seen_in_line s sub fewer (Some c.in-Some.field-0) c.in-Some.ensures.seen) in
    omega (arith, within, most, least, c.saturating_sub-fewer.ensures)

pub returns-in-None : goal.returns-in-None
returns-in-None g c = λ most least.
    let s = g.V.View.state c.args.view.now in
    let sub = g.V.View.subscription c.args.view.now in
    let fewer = c.saturating_sub-fewer.result in
    let past = unseen_past (line_of s sub) fewer (seen_in_line s sub fewer None c.in-None.ensures.seen) in
    omega (arith, past, most, least, c.saturating_sub-fewer.ensures)
