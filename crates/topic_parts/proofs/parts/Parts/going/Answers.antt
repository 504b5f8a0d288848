use Rattle.std.proofs.Common.{◌≡◌, ℕ, ◌<◌, ◌*◌, ◌/◌, arith, rules, sym, subst}
use Rattle.std.proofs.lemmas.Grind.{common_steps}
use Rattle.delivery_machine.specs.Trimming.{going}
use Rattle.topic_parts.specs.Parts.{state_of}
use Rattle.topic_parts.specs.Trimming.{MayGo}
use Rattle.topic_parts.proofs.Gone.{going_may}
use Rattle.topic_parts.proofs.parts.Parts.going.Goals as goal

pub returns-clause-may : goal.returns-clause-may
returns-clause-may c some =
    let t = c.args.self.now in
    let is : c.min-2.result / 64 * 64 ≡ going (state_of t) c.args.keep c.args.before c.args.most = first_of (search rules, grind (arith, common_steps)) in
    subst (λ (n : ℕ). MayGo t n) (sym is) (going_may t c.args.keep c.args.before c.args.most c.len-length.ensures.rising c.requires.tied (subst (λ (n : ℕ). 0 < n) is some))
