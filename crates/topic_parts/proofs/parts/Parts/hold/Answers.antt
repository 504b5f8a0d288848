use Rattle.std.proofs.Common.{subst, sym}
use Rattle.delivery_machine.specs.Delivering.{holding}
use Rattle.topic_subscriptions.specs.Placed.{IsLiveIn, IsPlacedIn, Placed, holding_at}
use Rattle.topic_subscriptions.proofs.Changes.{held_in, held_placed}
use Rattle.topic_parts.specs.Parts.{AreTied, log_of}
use Rattle.topic_parts.specs.declared.parts.Parts.{Parts}
use Rattle.topic_parts.proofs.Held.{as_before, changes, it, tied_again, tied_one}
use Rattle.topic_parts.proofs.parts.Parts.hold.Goals as goal

pub returns-in-Ok-clause-ok : goal.returns-in-Ok-clause-ok
returns-in-Ok-clause-ok c =
    let t = c.args.self.now in
    let x = c.index_mut.result.now in
    changes t c.args.place c.requires.within x c.index_mut.ensures.value (holding_at c.args.position c.args.held) (holding c.args.position c.args.held) c.hold.new.self c.in-Ok.ensures.ok (held_in (log_of t) x c.args.position c.args.held)

pub returns-in-Ok-clause-tied : goal.returns-in-Ok-clause-tied
returns-in-Ok-clause-tied c =
    let t = c.args.self.now in
    let x = c.index_mut.result.now in
    let live : IsLiveIn (log_of t) x c.args.position = record { place = c.args.index; there = c.requires.index; live = c.requires.live x (it t c.args.place c.requires.within x c.index_mut.ensures.value) } in
    tied_again t c.args.place c.requires.within x c.index_mut.ensures.value c.hold.new.self c.requires.tied
    (subst (λ (p : Placed). IsPlacedIn (log_of t) t.members.members p) (sym c.in-Ok.ensures.ok)
    (held_placed (log_of t) t.members.members x c.args.position c.args.held live (tied_one t c.args.place c.requires.within x c.index_mut.ensures.value c.requires.tied)))

pub returns-in-Err-clause-err : goal.returns-in-Err-clause-err
returns-in-Err-clause-err c = as_before c.args.self.now c.args.place c.requires.within c.index_mut.result.now c.index_mut.ensures.value c.hold.new.self c.in-Err.ensures.err

pub returns-in-Err-clause-tied : goal.returns-in-Err-clause-tied
returns-in-Err-clause-tied c =
    subst (λ (p : Parts). AreTied p) (sym (as_before c.args.self.now c.args.place c.requires.within c.index_mut.result.now c.index_mut.ensures.value c.hold.new.self c.in-Err.ensures.err)) c.requires.tied
