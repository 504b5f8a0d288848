use Rattle.std.proofs.Common.{rules, ◌≡◌, All, subst, sym, ◌∙◌, ap, true}
use Rattle.delivery_machine.specs.Places.{KeptTopic, snapshot_in}
use Rattle.delivery_machine.specs.Snapshot.{snapshot_of}
use Rattle.topic_shared.specs.Kept.{Kept, with_promise}
use Rattle.stored_cell.specs.Noted.{GoesOn}
use Rattle.stored_cell.proofs.Sound.{all_go_on, bases_begin, promise_stays, promise_views, sound_ready, sound_viewed}
use Rattle.stored_cell.proofs.cell.StoredCell.ready_view.Goals as goal

pub invariant_of-self-2 : goal.invariant_of-self-2
invariant_of-self-2 g c =
    let kept : c.new.result ≡ c.in-Ok-view.snapshot = search rules in
    let promise : c.promise.new.self ≡ with_promise c.self.inside.cell = c.in-Ok.ensures.ok in
    let same : c.view_taken.new.self.state ≡ c.self.inside.cell.state = ap (λ (k : Kept). k.state) c.view_taken.ensures ∙ (ap (λ (k : Kept). k.state) promise ∙ promise_stays c.self.inside.cell) in
    let last : c.view_taken.new.self.viewed ≡ c.view_taken.new.self.state = ap (λ (k : Kept). k.viewed) c.view_taken.ensures ∙ sym (ap (λ (k : Kept). k.state) c.view_taken.ensures) in
    let promised : c.view_taken.new.self.promised ≡ true = ap (λ (k : Kept). k.promised) c.view_taken.ensures ∙ c.in-Ok.ensures.promised in
    let viewed : snapshot_in c.new.result ≡ snapshot_of c.view_taken.new.self.state = ap snapshot_in kept ∙ (c.in-Ok-view.ensures.ok ∙ sym (ap (λ (k : Kept). snapshot_of k.state) c.view_taken.ensures)) in
    sound_viewed _ c.view_taken.new.self c.new.result c.self.invariant same last promised viewed

pub new-requires-2-clause-bases : goal.new-requires-2-clause-bases
new-requires-2-clause-bases g c =
    let promise : c.promise.new.self ≡ with_promise c.self.inside.cell = c.in-Ok.ensures.ok in
    let state : c.promise.new.self.state ≡ c.self.inside.cell.state = ap (λ (k : Kept). k.state) promise ∙ promise_stays c.self.inside.cell in
    let same : snapshot_in c.in-Ok-view.snapshot ≡ snapshot_of c.self.inside.cell.state = c.in-Ok-view.ensures.ok ∙ ap snapshot_of state in
    subst (All (λ (base : KeptTopic). GoesOn base c.in-Ok-view.snapshot)) (sym c.bases_of-bases.ensures) (all_go_on c.self.inside.cell.state c.in-Ok-view.snapshot _ same (bases_begin _ c.self.invariant))

pub invariant_of-self-in_default : goal.invariant_of-self-in_default
invariant_of-self-in_default g c =
    let promise : c.promise.new.self ≡ with_promise c.self.inside.cell = c.in-Ok.ensures.ok in
    let state : c.promise.new.self.state ≡ c.self.inside.cell.state = ap (λ (k : Kept). k.state) promise ∙ promise_stays c.self.inside.cell in
    let viewed : c.promise.new.self.viewed ≡ c.self.inside.cell.viewed = ap (λ (k : Kept). k.viewed) promise ∙ promise_views c.self.inside.cell in
    sound_ready _ c.promise.new.self c.self.invariant state viewed c.in-Ok.ensures.promised
