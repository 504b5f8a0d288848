use Rattle.std.proofs.Common.{◌∙◌, ap, sym, subst, arith, rules, refl}
use Rattle.delivery_machine.specs.Places.{KeptTopic, MayRestart, snapshot_in}
use Rattle.topic_core.proofs.Kept.{kept_same, may_restart, snapshot_is}
use Rattle.topic_core.proofs.saving.snapshot.Goals as goal

pub of-requires : goal.of-requires
of-requires c =
    let t = c.args.served.now.parts in
    subst (λ (k : KeptTopic). MayRestart k)
    (sym (kept_same t c.in_ok-name.name c.ledger_size.result c.ledger.result t.next_ordinal c.gone.result c.in_ok-authors.authors.items c.retention.result _ c.in-Ok-kept_of_all.subscriptions.items (search rules) c.ledger_size.ensures c.ledger.ensures refl c.gone.ensures.value (search rules) c.retention.ensures c.in-Ok.ensures (search rules)))
    (may_restart t c.requires.reached c.requires.bound.tied (let long = c.len-length.ensures.value in omega (arith, long, c.len-length.ensures.short)))

pub returns-in-Ok-kept_of_all : goal.returns-in-Ok-kept_of_all
returns-in-Ok-kept_of_all c =
    let t = c.args.served.now.parts in
    ap snapshot_in (c.of.ensures ∙ kept_same t c.in_ok-name.name c.ledger_size.result c.ledger.result t.next_ordinal c.gone.result c.in_ok-authors.authors.items c.retention.result _ c.in-Ok-kept_of_all.subscriptions.items (search rules) c.ledger_size.ensures c.ledger.ensures refl c.gone.ensures.value (search rules) c.retention.ensures c.in-Ok.ensures (search rules))
    ∙ snapshot_is t
