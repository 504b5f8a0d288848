use Rattle.std.proofs.Common.{◌≡◌, ap, ◌∙◌, sym}
use Rattle.position_core.specs.declared.message.Entry.{Entry}
use Rattle.log_pieces.specs.Pieces.{joined}
use Rattle.topic_lives.proofs.Couriers.{is_courier, distinct_couriers, courier_further, other_further}
use Rattle.topic_lives.proofs.deleting.couriers.Goals as goal
use Rattle.topic_lives.proofs.deleting.couriers.Goals.{then-is_courier+in_ok-remember, else-is_courier}

pub remember-requires : goal.remember-requires
remember-requires c =
    distinct_couriers c.args.gone (joined c.args.log.now) c.loop-index.index c.args.authors.now c.loop-index.couriers.items c.requires.remembered c.loop-index.invariant

pub loop-index-preserved : goal.loop-index-preserved
loop-index-preserved c =
    let e = c.in-Some.message.now in
    let log = joined c.args.log.now in
    let xs = c.loop-index.couriers.items in
    let named : c.is_courier.result ≡ is_courier e.producer = c.is_courier.ensures ∙ ap (λ (x : Entry). is_courier x.producer) c.entry.ensures in
    elim c.if-is_courier.branch [
      | then-is_courier+in_ok-remember w ↦
          let more = courier_further c.args.gone log c.loop-index.index e c.args.authors.now xs (sym c.in-Some.ensures) (sym named ∙ w.if-is_courier.true) c.loop-index.invariant in
          let so = w.in_ok-remember.ensures in
          cc
      | else-is_courier w ↦
          let more = other_further c.args.gone log c.loop-index.index e c.args.authors.now xs (sym c.in-Some.ensures) (sym named ∙ w.if-is_courier.false) c.loop-index.invariant in
          cc
    ]
