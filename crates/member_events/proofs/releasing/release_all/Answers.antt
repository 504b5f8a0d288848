use Rattle.std.proofs.Common.{◌∙◌}
use Rattle.std.specs.FinMap as map_of
use Rattle.delivery_machine.specs.Joining.{all_released}
use Rattle.topic_served.specs.Served.{state_in}
use Rattle.member_events.proofs.Freed.{freed_before_all, goes_on, held_is_pending, none_pending, number_is}
use Rattle.member_events.proofs.Standing.{one_there, still_named}
use Rattle.member_events.proofs.releasing.release_all.Goals as goal

pub release-requires-clause-stands : goal.release-requires-clause-stands
release-requires-clause-stands c = record {
  name = c.requires.stands.name;
  named = still_named c.args.served.now.parts c.loop-position.served.parts c.args.place c.requires.stands.name c.loop-position.invariant.kept c.requires.stands.named;
}

pub release-requires-clause-pending : goal.release-requires-clause-pending
release-requires-clause-pending c =
    let t = c.loop-position.served.parts in
    let named = still_named c.args.served.now.parts t c.args.place c.requires.stands.name c.loop-position.invariant.kept c.requires.stands.named in
    record {
      sub = c.index.result.now;
      there = one_there t.subscriptions.items c.requires.stands.name c.args.place c.index.result.now named c.index.ensures;
      pending = held_is_pending c.in-Some.ensures.0 (map_of.get c.index.result.now.pending.pending c.in-Some.position) c.in-Some.ensures.1.0;
    }

pub loop-position-preserved : goal.loop-position-preserved
loop-position-preserved c =
    goes_on all_released c.args.place c.args.served.now c.loop-position.served c.release.new.served c.in-Some.position
    (λ name _. freed_before_all (state_in c.loop-position.served) name c.in-Some.position)
    c.loop-position.invariant c.release.ensures.freed c.release.ensures.kept c.release.ensures.bound

pub returns-clause-none : goal.returns-clause-none
returns-clause-none c =
    let t = c.loop-position.served.parts in
    let x = c.index.result.now in
    let named = still_named c.args.served.now.parts t c.args.place c.requires.stands.name c.loop-position.invariant.kept c.requires.stands.named in
    number_is t c.args.place x (one_there t.subscriptions.items c.requires.stands.name c.args.place x named c.index.ensures) ∙ none_pending x.pending.pending c.in_default.ensures
