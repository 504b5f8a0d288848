use Rattle.std.proofs.Common.{refl, ap, sym, ◌∙◌, subst, List, ℕ}
use Rattle.std.specs.FinSet as set
use Rattle.std.specs.Ordering.{nat_cmp}
use Rattle.number_sets.specs.Places.{Places}
use Rattle.hash_rows.specs.Ranks.{Rises, AreRanksOf}
use Rattle.hash_rows.proofs.Marks.{on_err, rises_more, more_within, still_within}
use Rattle.hash_rows.proofs.Known.{knows_as_much, has_one_more}
use Rattle.hash_rows.proofs.row.Row.push.Goals as goal

pub returns-in_err-grow-2-clause-err : goal.returns-in_err-grow-2-clause-err
returns-in_err-grow-2-clause-err c =
    on_err _ (knows_as_much _ _ refl c.in_ok-grow.ensures.same c.in_err-grow-2.ensures.same refl)

pub returns-in_err-push-clause-err : goal.returns-in_err-push-clause-err
returns-in_err-push-clause-err c =
    on_err _ (knows_as_much _ _ c.in_err-push.ensures.items c.in_ok-grow.ensures.same c.in_ok-grow-2.ensures.same refl)

pub invariant_of-self-2-clause-rises : goal.invariant_of-self-2-clause-rises
invariant_of-self-2-clause-rises c =
    subst (λ (xs : List ℕ). Rises xs) (sym c.in_ok-push.ensures.items)
    (rises_more c.args.self.now.places.items c.args.index (c.if-reaches.ensures.no refl) c.args.self.now.rises)

pub invariant_of-self-2-clause-waiting_ranks : goal.invariant_of-self-2-clause-waiting_ranks
invariant_of-self-2-clause-waiting_ranks c =
    let row = c.args.self.now in
    let is = ap (λ (p : Places). p.places) c.insert.ensures ∙ ap (λ (s : set.FinSet nat_cmp). set.insert s c.len-rank.result) c.in_ok-grow.ensures.same ∙ ap (set.insert row.waiting.places) (c.len-rank.ensures ∙ row.places.ok.0) in
    subst (λ (xs : List ℕ). AreRanksOf xs c.insert.new.self.places) (sym c.in_ok-push.ensures.items)
    (more_within row.places.items c.args.index (c.if-reaches.ensures.no refl) row.waiting.places c.insert.new.self.places row.waiting_ranks is)

pub invariant_of-self-2-clause-held_ranks : goal.invariant_of-self-2-clause-held_ranks
invariant_of-self-2-clause-held_ranks c =
    let row = c.args.self.now in
    subst (λ (xs : List ℕ). AreRanksOf xs c.grow-2.new.self.places) (sym c.in_ok-push.ensures.items)
    (still_within row.places.items c.args.index row.held.places c.grow-2.new.self.places row.held_ranks c.in_ok-grow-2.ensures.same)

pub returns-clause-ok : goal.returns-clause-ok
returns-clause-ok c _ =
    let row = c.args.self.now in
    let is = ap (λ (p : Places). p.places) c.insert.ensures ∙ ap (λ (s : set.FinSet nat_cmp). set.insert s c.len-rank.result) c.in_ok-grow.ensures.same ∙ ap (set.insert row.waiting.places) (c.len-rank.ensures ∙ row.places.ok.0) in
    has_one_more _ _ c.args.index (c.if-reaches.ensures.no refl) c.in_ok-push.ensures.items is c.in_ok-grow-2.ensures.same refl
