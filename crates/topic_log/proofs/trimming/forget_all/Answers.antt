use Rattle.std.proofs.Common.{◌≡◌, ◌++◌, ◌∷◌, [], List, ℕ, rules, ap, sym, ◌∙◌}
use Rattle.topic_log.specs.Trimming.{without_names}
use Rattle.topic_log.proofs.Forgetting.{without_last}
use Rattle.topic_log.proofs.trimming.forget_all.Goals as goal

pub each-preserved : goal.each-preserved
each-preserved c =
    let items : c.each.names.items ≡ c.pop.new.self.items ++ c.in-Some.name ∷ [] = search rules in
    ap (without_names c.pop.new.self.items) c.forget.ensures
    ∙ sym (without_last c.pop.new.self.items c.in-Some.name c.each.sequences)
    ∙ sym (ap (λ (names : List (List ℕ)). without_names names c.each.sequences) items)
    ∙ c.each.invariant
