use Rattle.std.proofs.Common.{rules, ◌≡◌, ◌++◌, ◌∷◌, [], All, subst, sym}
use Rattle.std.proofs.lemmas.List.Elements.{All-push}
use Rattle.sqlite.specs.Held.{state}
use Rattle.delivery_machine.specs.Places.{KeptTopic}
use Rattle.row_forms.specs.Standing.{Stands}
use Rattle.row_store.proofs.keeper.Keeper.know_kept.Goals as goal

pub invariant_of-self-in-Ok-clone : goal.invariant_of-self-in-Ok-clone
invariant_of-self-in-Ok-clone g c =
    let k = c.self.inside in
    let holds = c.self.invariant.0 in
    let pushed : c.push_reserved.new.self.items ≡ k.known.items ++ c.args.snapshot ∷ [] = search rules in (
      record {
        autocommit = holds.autocommit;
        ready = holds.ready;
        settled = holds.settled;
        one = holds.one;
        known = λ working clean shown.
            let db = (state g.S.Store k.conn).now.trees in
            let stands : Stands c.args.snapshot db = (rw (← c.self.view_is) at c.requires.stands) clean shown in
            subst (All (λ (kept : KeptTopic). Stands kept db)) (sym pushed) (All-push (λ (kept : KeptTopic). Stands kept db) k.known.items c.args.snapshot (holds.known working clean shown) stands);
      },
      c.self.invariant.1,
      c.self.invariant.2,
    )
