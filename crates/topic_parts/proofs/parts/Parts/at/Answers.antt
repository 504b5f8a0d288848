use Rattle.std.proofs.Common.{◌∙◌, sym, ap, Some}
use Rattle.std.proofs.lemmas.List.Elements.{All-contains}
use Rattle.std.proofs.lemmas.Option.{slice_get-get_or}
use Rattle.topic_subscriptions.specs.Placed.{IsPlacedIn, Placed}
use Rattle.topic_parts.specs.Parts.{log_of}
use Rattle.topic_parts.proofs.Pending.{seen_of_placed}
use Rattle.topic_parts.proofs.parts.Parts.at.Goals as goal

pub invariant_of-result-clause-placed : goal.invariant_of-result-clause-placed
invariant_of-result-clause-placed c =
    let t = c.args.self.now in
    seen_of_placed (log_of t) t.members.members c.index.result.now
    (All-contains (IsPlacedIn (log_of t) t.members.members) t.subscriptions.items c.index.result.now c.requires.tied (c.args.place, c.requires.within, sym c.index.ensures))

pub returns-clause-subscription : goal.returns-clause-subscription
returns-clause-subscription c =
    sym (slice_get-get_or c.args.self.now.subscriptions.items c.args.place c.index.result.now c.requires.within ∙ ap (λ (p : Placed). Some p) (sym c.index.ensures))
