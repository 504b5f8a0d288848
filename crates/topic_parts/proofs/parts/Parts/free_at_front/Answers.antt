use Rattle.std.proofs.Common.{◌≡◌, ℕ, ◌<◌, min, false, arith, ap, sym, ◌∙◌}
use Rattle.std.specs.Prelude.{◌==◌}
use Rattle.std.proofs.lemmas.Bool.Decides.{nat_tests}
use Rattle.std.proofs.lemmas.List.{length-map}
use Rattle.delivery_machine.proofs.Deciding.{number_is}
use Rattle.topic_subscriptions.specs.Placed.{sub_in}
use Rattle.topic_subscriptions.proofs.Front.{free_is, none_free}
use Rattle.topic_parts.specs.Parts.{log_of, state_of}
use Rattle.topic_parts.proofs.parts.Parts.free_at_front.Goals as goal

pub returns-then-is_empty : goal.returns-then-is_empty
returns-then-is_empty c =
    let t = c.args.self.now in
    let none = number_is _ 0 (sym c.if-is_empty.ensures) in
    omega (arith, none_free (state_of t) c.args.before (length-map t.subscriptions.items (sub_in (log_of t)) ∙ omega (arith, none, t.subscriptions.ok.0)))

some_there : (n : ℕ) → false ≡ (n == 0) → 0 < n
some_there n is = grind (arith, nat_tests)

joined : (past within near most stored durable done times free : ℕ) → past ≡ min within times → within ≡ min near done → near ≡ min most stored → stored ≡ durable → free ≡ min durable (min done times) → past ≡ min most free
joined past within near most stored durable done times free a b c d e = omega (arith, a, b, c, d, e)

pub returns : goal.returns
returns c =
    let t = c.args.self.now in
    let some = some_there _ c.if-is_empty.ensures in
    joined c.past.result c.min-2.result c.min.result c.args.most c.durable-stored.result t.log.durable _ _ _ c.past.ensures (c.min-2.ensures ∙ ap (λ n. min c.min.result n) c.done_by_all.ensures) c.min.ensures c.durable-stored.ensures.value
    (free_is (state_of t) c.args.before (omega (arith, some, t.subscriptions.ok.0, length-map t.subscriptions.items (sub_in (log_of t)))))
