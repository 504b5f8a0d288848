-- Words that say how a message dies.
use Rattle.std.proofs.Common.{◌≡◌, ℕ, List, ◌∷◌, subst, arith}
use Rattle.std.specs.declared.result.Result.TheVariants.{Err}
use Rattle.position_core.specs.declared.topic_name.TopicName.{TopicName}
use Rattle.replay_lines.specs.Reads.{Reads}
use Rattle.replay_lines.specs.Numbers.{IsBetween}
use Rattle.replay_lines.specs.Names.{IsDeadTopic, IsNameWord}
use Rattle.replay_lines.specs.Grammar.{Complete, IsDeath}
use Rattle.replay_lines.specs.declared.command.Command.TheVariants as commands
use Rattle.replay_lines.specs.declared.words.Unread.{Unread}
use Rattle.replay_lines.specs.declared.words.Unread.TheVariants.{BadLine, Memory}
use Rattle.value_texts.proofs.LastDigits.{one_number}

-- a word that is no dead topic at its limit leaves no death
pub no_death : (this : TopicName) (subscription limit target : List ℕ) (n : ℕ) (e : Unread) → IsBetween 0 1000000 limit n → Reads (IsDeadTopic this subscription n target) (Err e) → Reads (IsDeath this subscription limit target) (Err e)
no_death this subscription limit target n BadLine read none =
    λ death is.
    let same : death.0 ≡ n = one_number limit death.0 n (omega (arith, is.0)) (omega (arith, read)) is.0.2 read.2 in
    none death.1 (subst (λ (m : ℕ). IsDeadTopic this subscription m target death.1) same is.1)
no_death this subscription limit target n Memory read none = tt

-- words that say no death are no subscription
pub no_subscribe : (this : TopicName) (words rest : List (List ℕ)) (s k l f a n m d i name : List ℕ) (e : Unread) → words ≡ s ∷ k ∷ l ∷ f ∷ a ∷ n ∷ m ∷ d ∷ i ∷ rest → IsNameWord s name → Reads (IsDeath this name m d) (Err e) → Reads (Complete this commands.Subscribe words) (Err e)
no_subscribe this words rest s k l f a n m d i name BadLine are named none =
    λ line is.
    let it = is.1 in
    let same_limit : it.6 ≡ m = cc (are, it.20) in
    let same_target : it.7 ≡ d = cc (are, it.20) in
    let same_name : it.10 ≡ name = cc (are, it.20, named.0.1, it.21.0.1) in
    let death : ℕ × TopicName = (it.16, it.17) in
    none death
    (subst (λ (w : List ℕ). IsDeath this w m d death) same_name
    (subst (λ (w : List ℕ). IsDeath this it.10 w d death) same_limit
    (subst (λ (w : List ℕ). IsDeath this it.10 it.6 w death) same_target it.27)))
no_subscribe this words rest s k l f a n m d i name Memory are named none = tt
