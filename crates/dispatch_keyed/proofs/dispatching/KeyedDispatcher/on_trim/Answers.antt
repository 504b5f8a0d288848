use Rattle.std.proofs.Common.{◌∙◌, arith}
use Rattle.hash_rows.proofs.Moving.{unsent_behind}
use Rattle.dispatch_keyed.proofs.Agreed.{agrees_empty}
use Rattle.dispatch_keyed.proofs.Owning.{same_owners}
use Rattle.dispatch_keyed.proofs.Trimmed.{agrees_trimmed}
use Rattle.dispatch_keyed.proofs.dispatching.KeyedDispatcher.on_trim.Goals as goal

pub returns-then-can_follow : goal.returns-then-can_follow
returns-then-can_follow g c s sub change agreed =
    let call = c.follow.ensures in
    let t = g.V.View.state c.args.view.now in
    let new = g.V.View.subscription c.args.view.now in
    c.sweep.ensures t new
    (agrees_trimmed c.args.count c.args.self.now c.follow.new.self s sub t new change agreed call.owners call.read call.sent call.rows call.firsts_less)

pub returns-else-can_follow : goal.returns-else-can_follow
returns-else-can_follow g c s sub change agreed =
    let t = g.V.View.state c.args.view.now in
    let new = g.V.View.subscription c.args.view.now in
    let call = c.begin_anew.ensures in
    agrees_empty c.begin_anew.new.self t new (change.kind ∙ agreed.kind)
    (call.owners ∙ same_owners s sub t new c.args.self.now.owners agreed.owners change.shares change.line)
    call.read (λ i past. unsent_behind t new i (omega (arith, past, call.sent))) call.rows call.firsts
