use Rattle.std.proofs.Common.{◌∙◌, ap, sym}
use Rattle.std.specs.FinMap as map_of
use Rattle.delivery_machine.specs.Joining.{without_member}
use Rattle.delivery_machine.specs.Words.{is_held_by}
use Rattle.topic_subscriptions.specs.Placed.{Placed}
use Rattle.topic_parts.proofs.Changing.{there_is}
use Rattle.member_events.proofs.Freed.{freed_before_leaving, goes_on, held_is_pending, none_held}
use Rattle.member_events.proofs.Standing.{one_there, still_named}
use Rattle.member_events.proofs.releasing.release_held_by.Goals as goal

pub release-requires-clause-stands : goal.release-requires-clause-stands
release-requires-clause-stands c = record {
  name = c.requires.stands.name;
  named = still_named c.args.served.now.parts c.loop-position.served.parts c.args.place c.requires.stands.name c.loop-position.invariant.kept c.requires.stands.named;
}

pub release-requires-clause-pending : goal.release-requires-clause-pending
release-requires-clause-pending c =
    let t = c.loop-position.served.parts in
    let named = still_named c.args.served.now.parts t c.args.place c.requires.stands.name c.loop-position.invariant.kept c.requires.stands.named in
    record {
      sub = c.index.result.now;
      there = one_there t.subscriptions.items c.requires.stands.name c.args.place c.index.result.now named c.index.ensures;
      pending = held_is_pending c.args.consumer (map_of.get c.index.result.now.pending.pending c.in-Some.position) c.in-Some.ensures.0;
    }

pub loop-position-preserved : goal.loop-position-preserved
loop-position-preserved c =
    let t = c.loop-position.served.parts in
    let named = still_named c.args.served.now.parts t c.args.place c.requires.stands.name c.loop-position.invariant.kept c.requires.stands.named in
    goes_on (λ name s. without_member s c.args.consumer name) c.args.place c.args.served.now c.loop-position.served c.release.new.served c.in-Some.position
    (freed_before_leaving t c.args.place c.args.consumer c.index.result.now c.in-Some.position
    (one_there t.subscriptions.items c.requires.stands.name c.args.place c.index.result.now named c.index.ensures) c.in-Some.ensures.0)
    c.loop-position.invariant c.release.ensures.freed c.release.ensures.kept c.release.ensures.bound

pub returns-clause-idle : goal.returns-clause-idle
returns-clause-idle c p at q =
    let x = c.index.result.now in
    ap (λ (z : Placed). is_held_by c.args.consumer (map_of.get z.pending.pending q)) (sym (there_is c.loop-position.served.parts.subscriptions.items c.args.place x p c.index.ensures at))
    ∙ none_held (is_held_by c.args.consumer (map_of.get x.pending.pending q)) (λ held. c.in_default.ensures q held)
