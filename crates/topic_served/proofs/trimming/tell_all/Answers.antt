use Rattle.std.proofs.Common.{◌∙◌, ap, get_or, arith}
use Rattle.std.proofs.lemmas.List.{length-map, length-set}
use Rattle.topic_served.proofs.TellingAll.{told_to_all}
use Rattle.topic_subscriptions.specs.Placed.{sub_in}
use Rattle.topic_parts.specs.Parts.{log_of, state_of}
use Rattle.topic_served.proofs.Going.{told_one_more}
use Rattle.topic_served.proofs.trimming.tell_all.Goals as goal

pub each-preserved : goal.each-preserved
each-preserved c =
    let ds = c.each.dispatchers in
    let d = get_or ds c.each.place c.index-dispatchers-place.result in
    let seen = c.at-view.result in (
      length-set ds c.each.place c.on_trim.new.self ∙ c.each.invariant.0,
      λ s told are. told_one_more c.args.count c.args.parts.now s are ds seen.parts.now c.each.place seen.subscription.now d c.on_trim.new.self
          (c.each.invariant.1 s told are) (omega (arith, c.each-test.true, c.each.invariant.0)) c.at-view.ensures.parts c.at-view.ensures.subscription (ap (get_or ds c.each.place) c.index-dispatchers-place.is) c.on_trim.ensures,
    )

pub returns : goal.returns
returns c = λ s told are. told_to_all s (state_of c.args.parts.now) c.each.place c.each.dispatchers
    (omega (arith, c.each-test.false, c.requires.many, length-map c.args.parts.now.subscriptions.items (sub_in (log_of c.args.parts.now)))) (c.each.invariant.1 s told are)
