use Rattle.std.proofs.Common.{◌≡◌, List, ap, ◌∙◌, sym, subst}
use Rattle.std.proofs.lemmas.List.Elements.{same_from_all_zip}
use Rattle.position_core.specs.declared.message.Entry.{Entry}
use Rattle.delivery_machine.specs.State.{Subscription}
use Rattle.delivery_machine.specs.Places.{KeptPlaces, kept_in, positions_at}
use Rattle.delivery_machine.specs.Snapshot.{kept_of}
use Rattle.delivery_machine.specs.WellFormed.{AreCountsOf, AreMessagesOf}
use Rattle.plain_lists.proofs.subscription.Subscription.kept.Goals as goal

kept_same : (log : List Entry) (kept : KeptPlaces) (sub : Subscription) → kept.name ≡ sub.name → kept.kind ≡ sub.kind → positions_at log kept.acknowledged ≡ sub.acknowledged → kept.counts ≡ sub.counts → kept.dead ≡ sub.dead → kept_in log kept ≡ kept_of sub
kept_same log kept sub name kind acknowledged counts dead = λ i. record { name = name i; kind = kind i; acknowledged = acknowledged i; counts = counts i; dead = dead i }

pub returns-clause-same : goal.returns-clause-same
returns-clause-same c rising of_log counted =
    let log = c.args.log.now in
    let view = sym c.self.view_is in
    kept_same log _ c.args.self.now
    (c.in_ok-name.ensures.cases ∙ ap (λ (s : Subscription). s.name) c.self.view_is)
    (ap (λ (s : Subscription). s.kind) c.self.view_is)
    (c.in_ok-acknowledged.ensures.back (subst (λ (s : Subscription). AreMessagesOf log s.acknowledged) view of_log) ∙ ap (λ (s : Subscription). s.acknowledged) c.self.view_is)
    (c.in_ok-counts.ensures _ _ rising (subst (λ (s : Subscription). AreCountsOf log s.acknowledged s.dead s.counts) view counted) ∙ ap (λ (s : Subscription). s.counts) c.self.view_is)
    (same_from_all_zip _ c.self.inside.dead.items c.in_ok-dead.dead.items c.in_ok-dead.ensures.cases.0 (λ x y is. is) ∙ ap (λ (s : Subscription). s.dead) c.self.view_is)
