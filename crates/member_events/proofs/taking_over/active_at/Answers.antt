use Rattle.std.proofs.Common.{ℕ, ◌<◌, subst, sym}
use Rattle.topic_served.proofs.Telling.{are_told_within}
use Rattle.member_events.proofs.Active.{kept_at}
use Rattle.member_events.proofs.taking_over.active_at.Goals as goal

pub index-requires : goal.index-requires
index-requires c =
    let ds = c.args.served.now.dispatchers in
    subst (λ (n : ℕ). c.args.place < n) (sym ds.ok.0) (are_told_within ds.items c.args.served.now.parts c.requires.stands.name c.args.place c.requires.bound.told c.requires.stands.named)

pub returns : goal.returns
returns c name named = kept_at c.args.served.now c.args.place name c.index.result.now c.active.result c.requires.bound.told named c.index.ensures c.active.ensures
