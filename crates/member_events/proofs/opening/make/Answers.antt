use Rattle.std.proofs.Common.{◌≡◌, ◌∙◌, ℕ, List, [], ◌∷◌, None, cond, ap, ap₂, refl}
use Rattle.std.specs.Prelude.{not}
use Rattle.position_core.specs.declared.kind.Kind.{Kind}
use Rattle.position_core.specs.declared.kind.Kind.TheVariants.{Exclusive, Failover, KeyShared, Shared}
use Rattle.delivery_machine.specs.Shares.{Shares, all_hashes, no_shares, shares_with, shares_without}
use Rattle.delivery_machine.proofs.Deciding.{itself}
use Rattle.topic_subscriptions.specs.Placed.{left_by, made}
use Rattle.member_events.specs.Entering.{made_bare}
use Rattle.member_events.proofs.opening.make.Goals as goal

-- the only consumer has no share that it does not give back
none_kept : (kind : Kind) (consumer : ℕ) → shares_without consumer (shares_with kind None consumer no_shares) ≡ no_shares
none_kept KeyShared consumer = ap (λ b. let s : Shares = record no_shares { blocks = cond b [] (all_hashes consumer ∷ []) } in s) (itself consumer)
none_kept Exclusive consumer = refl
none_kept Failover consumer = refl
none_kept Shared consumer = refl

left_alone : (name : List ℕ) (kind : Kind) (consumer end : ℕ) → left_by consumer (made name kind None consumer end) ≡ made_bare name kind end
left_alone name kind consumer end =
    ap₂ (λ (shares : Shares) (line : List ℕ). record (made_bare name kind end) { shares = shares; line = line }) (none_kept kind consumer)
    (ap (λ b. cond (not b) (consumer ∷ []) []) (itself consumer))

pub returns-in-Ok : goal.returns-in-Ok
returns-in-Ok c = c.leave.ensures ∙ ap (left_by c.args.consumer) c.in-Ok.ensures ∙ left_alone c.args.name c.args.kind c.args.consumer c.args.end
