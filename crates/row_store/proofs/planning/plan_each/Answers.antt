use Rattle.std.proofs.Common.{rules, ◌≡◌, All, map, ◌++◌, ◌∷◌, [], subst, sym, ap, ◌∙◌}
use Rattle.std.specs.Prelude.{length, vec_len}
use Rattle.std.proofs.lemmas.Iterator.Adapters.{YieldsList-from_vec}
use Rattle.std.proofs.lemmas.Iterator.Consumers.{YieldsList-end}
use Rattle.std.proofs.lemmas.List.{map-append, map-id}
use Rattle.std.proofs.lemmas.List.Elements.{All-push}
use Rattle.row_rounds.specs.declared.saving.Write.{Write}
use Rattle.row_rounds.specs.Rounds.{IsNamed, Fits}
use Rattle.stored_cell.specs.Noted.{ToStore}
use Rattle.row_store.specs.Keeping.{GoesForward}
use Rattle.row_store.proofs.planning.plan_each.Goals as goal

pub loop-part-preserved : goal.loop-part-preserved
loop-part-preserved g c =
    let write = c.in-Ok-plan.write in
    let pushed : c.push.new.self.items ≡ c.loop-part.writes.items ++ write ∷ [] = search rules in
    let snapshot : write.snapshot ≡ c.in-Some.part.kept = c.in-Ok-plan.ensures.snapshot in
    record {
      next = tt;
      finite = tt;
      snapshots = ap (map (λ (w : Write). w.snapshot)) pushed ∙ (map-append (λ (w : Write). w.snapshot) c.loop-part.writes.items (write ∷ []) ∙ ((λ i. c.loop-part.invariant.snapshots i ++ snapshot i ∷ []) ∙ sym (map-append (λ (part : ToStore). part.kept) c.loop-part.yielded (c.in-Some.part ∷ []))));
      forward = All-push (GoesForward c.args.known.now) c.loop-part.yielded c.in-Some.part c.loop-part.invariant.forward c.in-Ok-plan.ensures.forward;
      named = subst (All IsNamed) (sym pushed) (All-push IsNamed c.loop-part.writes.items write c.loop-part.invariant.named c.in-Ok-plan.ensures.named);
      fits = λ db all. subst (All (Fits db)) (sym pushed) (All-push (Fits db) c.loop-part.writes.items write (c.loop-part.invariant.fits db all) (c.in-Ok-plan.ensures.fits db all));
    }

pub returns-clause-forward : goal.returns-clause-forward
returns-clause-forward g c =
    let gives = c.into_iter-part-iterator.ensures.into_iter_gives in
    let count : vec_len c.args.parts ≡ length c.args.parts.items = search rules in
    let seen = YieldsList-end (YieldsList-from_vec c.args.parts.items gives.0 (gives.1 ∙ count)) c.loop-part.yielded c.loop-part.part-iterator c.loop-part.yielded_by c.next.result c.next.new.self c.in-None.is c.next.ensures.steps in
    subst (All (GoesForward c.args.known.now)) (sym (map-id c.loop-part.yielded) ∙ seen.0) c.loop-part.invariant.forward
