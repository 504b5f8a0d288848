use Rattle.std.proofs.Common.{◌∙◌, ℕ, subst}
use Rattle.std.proofs.lemmas.Bool.{false≢true}
use Rattle.plain_queries.specs.Keyed.{NoneGoesOfHash}
use Rattle.plain_queries.proofs.Hashes.{none_more, none_by_hash}
use Rattle.plain_queries.proofs.keyed.next_of_any_hash.Goals as goal
use Rattle.plain_queries.proofs.keyed.next_of_any_hash.Goals.{then-is_waiting+in_default, else-is_waiting}

pub loop-message-preserved : goal.loop-message-preserved
loop-message-preserved c =
    elim c.if-is_waiting.branch [
      | then-is_waiting+in_default w ↦ none_more c.args.log.now c.args.visible.now c.args.members.now c.args.subscription.now c.loop-message.message-index c.message-item.result c.message-item.is
          (λ _. subst (λ (h : ℕ). NoneGoesOfHash c.args.log.now c.args.visible.now c.args.members.now c.args.subscription.now h) w.hash_of-hash.ensures w.in_default.ensures.none) c.loop-message.invariant
      | else-is_waiting w ↦ none_more c.args.log.now c.args.visible.now c.args.members.now c.args.subscription.now c.loop-message.message-index c.message-item.result c.message-item.is
          (λ waits. absurd (false≢true (w.if-is_waiting.ensures ∙ waits))) c.loop-message.invariant
    ]

pub returns-clause-none : goal.returns-clause-none
returns-clause-none c = none_by_hash c.args.log.now c.args.visible.now c.args.members.now c.args.subscription.now c.loop-message.message-index c.loop-message-test.false c.loop-message.invariant
