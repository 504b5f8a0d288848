-- The word that may stand at the end of a consumer's line.
use Rattle.std.proofs.Common.{◌≡◌, List, [], ◌∷◌, ℕ, Option, Some, None, sym, ◌∙◌, ap, refl, subst}
use Rattle.std.specs.declared.result.Result.TheVariants.{Err}
use Rattle.position_core.specs.declared.topic_name.TopicName.{TopicName}
use Rattle.position_core.specs.declared.kind.Kind.{Kind}
use Rattle.position_core.specs.declared.ranges.HashRange.{HashRange}
use Rattle.replay_lines.specs.Reads.{Reads}
use Rattle.replay_lines.specs.Splitting.{NoneEmpty, words_of}
use Rattle.replay_lines.specs.Grammar.{AreSaid, Complete, IsKind, last_word, ranges_said}
use Rattle.replay_lines.specs.declared.command.Command.TheVariants as commands
use Rattle.replay_lines.specs.declared.words.Unread.{Unread}
use Rattle.replay_lines.specs.declared.words.Unread.TheVariants.{BadLine, Memory}
use Rattle.replay_lines.proofs.OneWord.{one_kind}
use Rattle.replay_lines.proofs.Splits.{words_some}

-- two words at the end are one, and say the same ranges of the same kind
pub one_last : (a b : Option (List ℕ)) → last_word a ≡ last_word b → a ≡ b
one_last None None e = refl
one_last None (Some w) e = cc e
one_last (Some v) None e = cc e
one_last (Some v) (Some w) e = ap Some (cc e)

pub one_said : (j k : Kind) (v w : Option (List ℕ)) (a b : Option (List HashRange)) → j ≡ k → v ≡ w → AreSaid j v a → AreSaid k w b → a ≡ b
one_said j k v w a b kinds lasts is_a is_b =
    let both : ◌≡◌ {A = Option (Option (List HashRange))} (Some a) (Some b) = sym is_a ∙ ap (λ (kind : Kind). ranges_said kind v) kinds ∙ ap (ranges_said k) lasts ∙ is_b in
    cc both

-- words that are not one alone have no last word
pub no_last : (rest : List ℕ) (words : List (List ℕ)) → words ≡ words_of rest → ((word : List ℕ) → NoneEmpty words → words ≡ word ∷ [] → ⊥) → (last : Option (List ℕ)) → NoneEmpty words → words ≡ last_word last → ⊥
no_last rest words is other None some e = words_some rest (sym is ∙ e)
no_last rest words is other (Some word) some e = other word some e

-- words that say no ranges are no subscription
pub no_ranges : (this : TopicName) (words : List (List ℕ)) (last : Option (List ℕ)) (s k l f a n m d i : List ℕ) (kind : Kind) (e : Unread) → words ≡ s ∷ k ∷ l ∷ f ∷ a ∷ n ∷ m ∷ d ∷ i ∷ last_word last → IsKind k kind → Reads (AreSaid kind last) (Err e) → Reads (Complete this commands.Subscribe words) (Err e)
no_ranges this words last s k l f a n m d i kind BadLine are said none =
    λ line is.
    let it = is.1 in
    let same_word : it.1 ≡ k = cc (are, it.20) in
    let same_kind : it.11 ≡ kind = one_kind k it.11 kind (subst (λ (w : List ℕ). IsKind w it.11) same_word it.22) said in
    let same_last : it.9 ≡ last = one_last it.9 last (cc (are, it.20)) in
    none it.19 (subst (λ (j : Kind). AreSaid j last it.19) same_kind (subst (λ (w : Option (List ℕ)). AreSaid it.11 w it.19) same_last it.29))
no_ranges this words last s k l f a n m d i kind Memory are said none = tt
