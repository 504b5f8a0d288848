use Rattle.std.proofs.Common.{◌≡◌, ℕ, List, [], ◌∷◌, None, map, cond, refl, ap, subst, ◌∙◌, sym, arith}
use Rattle.std.proofs.lemmas.Slice.Eq.{bytes_eq-Decides}
use Rattle.position_core.specs.declared.message.Entry.{Entry}
use Rattle.delivery_machine.specs.State.{Subscription, Member}
use Rattle.delivery_machine.specs.Joining.{joining}
use Rattle.dispatch_core.specs.Changes.{Joined}
use Rattle.dispatch_core.specs.Log.{waits_at, holder_at, line_of}
use Rattle.topic_tests.specs.Listed.{listed}
use Rattle.topic_tests.proofs.tests.scenes.law.expect_law.Goals as goal

joined_alone : (log : List Entry) (durable : ℕ) (sub : Subscription) (m : Member) (n : ℕ) → m.number ≡ n → m.subscription ≡ sub.name → Joined None n (listed log durable []) sub (listed log durable (m ∷ [])) (joining sub.kind None n sub)
unfolding waits_at holder_at line_of
joined_alone log durable sub m n number name = record {
  stays = record { log = record { kind = refl; log = refl; durable = refl }; messages = λ i. record { waits = refl; holder = refl } };
  level = m.level;
  line =
      ap (λ b. map (λ (x : Member). (x.number, x.level)) (cond b (m ∷ []) [])) ((bytes_eq-Decides m.subscription sub.name).1 name)
      ∙ ap (λ (k : ℕ). (k, m.level) ∷ []) number;
  shares = refl;
  absent = refl;
  few = omega arith;
}

pub expect_offers-requires-clause-joins : goal.expect_offers-requires-clause-joins
expect_offers-requires-clause-joins g c =
    let before = c.new-before.result.subscription in
    let m = c.new_member.result in
    let log = c.as_slice.result.now in
    let same : c.new-after.result.subscription ≡ before = c.new-after.ensures.begun ∙ sym c.new-before.ensures.begun in
    let is = c.join.ensures ∙ ap (λ (s : Subscription). joining s.kind None 1 s) same in
    subst (λ (new : Subscription). Joined None 1 (listed log 0 []) before (listed log 0 (m ∷ [])) new) (sym is)
    (joined_alone log 0 before m 1 c.new_member.ensures.0 (c.new_member.ensures.1 ∙ sym c.new-before.result.named))
