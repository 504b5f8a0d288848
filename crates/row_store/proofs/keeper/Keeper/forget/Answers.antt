use Rattle.std.proofs.Common.{All, List, not, subst, sym}
use Rattle.std.proofs.lemmas.List.Elements.{All-filter}
use Rattle.position_core.specs.TopicName.{same_topic}
use Rattle.sqlite.specs.Held.{state}
use Rattle.delivery_machine.specs.Places.{KeptTopic}
use Rattle.row_forms.specs.Standing.{Stands}
use Rattle.row_store.proofs.keeper.Keeper.forget.Goals as goal

pub invariant_of-self : goal.invariant_of-self
invariant_of-self g c =
    let k = c.self.inside in
    let p = λ (kept : KeptTopic). not (same_topic kept.name c.args.name.now) in
    let holds = c.self.invariant.0 in (
      record {
        autocommit = holds.autocommit;
        ready = holds.ready;
        settled = holds.settled;
        one = holds.one;
        known = λ working clean shown.
            let db = (state g.S.Store k.conn).now.trees in
            let others = All-filter p (λ (kept : KeptTopic). Stands kept db) k.known.items (holds.known working clean shown) in
            subst (All (λ (kept : KeptTopic). Stands kept db)) (sym {A = List KeptTopic} c.forget_topic.ensures.left) others;
      },
      c.self.invariant.1,
      c.self.invariant.2,
    )
