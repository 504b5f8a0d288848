use Rattle.std.proofs.Common.{◌≡◌, ℕ, ◌+◌, ◌-◌, List, [], ◌∷◌, ◌++◌, drop, length, ap, sym, ◌∙◌}
use Rattle.std.specs.Prelude.{nat_lt, ◌||◌}
use Rattle.delivery_machine.specs.State.{Author}
use Rattle.delivery_machine.specs.Trimming.{is_lasting, not_forgotten}
use Rattle.topic_log.specs.Written.{written_in}
use Rattle.topic_log.specs.Trimming.{forgotten}
use Rattle.topic_log.proofs.Forgetting.{one_kept, one_lost}
use Rattle.topic_log.proofs.topic_log.TopicLog.sorted.Goals as goal
use Rattle.topic_log.proofs.topic_log.TopicLog.sorted.Goals.{then-is_remembered+in_ok-clone+in_ok-push, else-is_remembered+in_ok-clone-2+in_ok-push-2}

pub each-preserved : goal.each-preserved
each-preserved c s =
    let m = written_in c.args.self.now s in
    let stay = drop c.args.count c.args.self.now.log.log in
    let authors = c.args.authors.now in
    let i = c.each.i in
    let a = c.index-authors-i.result in
    let rest = drop (i + 1) authors in
    let told : c.is_remembered.result ≡ (nat_lt (length authors - i - 1) 4096 || is_lasting m stay a.name) =
    c.is_remembered.ensures s ∙ ap (λ (x : Author). nat_lt (length authors - i - 1) 4096 || is_lasting m stay x.name) c.author.view_is in
    let so_far = c.each.invariant s in
    elim c.if-is_remembered.branch [
      | then-is_remembered+in_ok-clone+in_ok-push w ↦
          let more = one_kept m stay authors i a c.each-test.true c.index-authors-i.is c.each.kept.items (not_forgotten m stay authors) c.each.forgotten.items (forgotten m stay authors) so_far.0 so_far.1 (sym told ∙ w.if-is_remembered.true) in
          let kept = ap (λ v. v.items) w.kept-is ∙ w.in_ok-push.ensures.items ∙ ap (λ (x : Author). c.each.kept.items ++ x ∷ []) w.in_ok-clone.ensures.cases in
          (ap (λ (xs : List Author). xs ++ not_forgotten m stay rest) kept ∙ more.0, ap (λ v. v.items ++ forgotten m stay rest) w.forgotten-is ∙ more.1)
      | else-is_remembered+in_ok-clone-2+in_ok-push-2 w ↦
          let more = one_lost m stay authors i a c.each-test.true c.index-authors-i.is c.each.kept.items (not_forgotten m stay authors) c.each.forgotten.items (forgotten m stay authors) so_far.0 so_far.1 (sym told ∙ w.if-is_remembered.false) in
          let lost = ap (λ v. v.items) w.forgotten-is ∙ w.in_ok-push-2.ensures.items ∙ ap (λ (name : List ℕ). c.each.forgotten.items ++ name ∷ []) (w.in_ok-clone-2.ensures.cases ∙ ap (λ (x : Author). x.name) c.author.view_is) in
          (ap (λ v. v.items ++ not_forgotten m stay rest) w.kept-is ∙ more.0, ap (λ (names : List (List ℕ)). names ++ forgotten m stay rest) lost ∙ more.1)
    ]
