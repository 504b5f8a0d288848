use Rattle.std.proofs.Common.{subst, sym}
use Rattle.topic_subscriptions.specs.Placed.{IsPlacedIn, Placed, released_at}
use Rattle.topic_subscriptions.proofs.Changes.{released_in, released_placed}
use Rattle.topic_parts.specs.Holding.{freeing}
use Rattle.topic_parts.specs.Parts.{log_of}
use Rattle.topic_parts.proofs.Held.{changes, tied_again, tied_one}
use Rattle.topic_parts.proofs.parts.Parts.release.Goals as goal

pub returns-clause-changes : goal.returns-clause-changes
returns-clause-changes c =
    let t = c.args.self.now in
    let x = c.index_mut.result.now in
    changes t c.args.place c.requires.within x c.index_mut.ensures.value (released_at c.args.position) (freeing c.args.position) c.release.new.self c.release.ensures (released_in (log_of t) x c.args.position)

pub returns-clause-tied : goal.returns-clause-tied
returns-clause-tied c =
    let t = c.args.self.now in
    let x = c.index_mut.result.now in
    tied_again t c.args.place c.requires.within x c.index_mut.ensures.value c.release.new.self c.requires.tied
    (subst (λ (p : Placed). IsPlacedIn (log_of t) t.members.members p) (sym c.release.ensures)
    (released_placed (log_of t) t.members.members x c.args.position (tied_one t c.args.place c.requires.within x c.index_mut.ensures.value c.requires.tied)))
