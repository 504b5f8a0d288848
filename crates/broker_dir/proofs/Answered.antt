-- An answer across a topic's lock.
use Rattle.std.proofs.Common.{◌≡◌, Option, None, Some, Result, Ok, Err, IfOk, refl, subst}
use Rattle.std.specs.Prelude.{IfSome, MatchOption}
use Rattle.position_core.specs.declared.fault.Fault.{Fault}
use Rattle.delivery_machine.specs.declared.reply.Reply.{Reply}

-- where the topic may not be used that is the answer, and else it does what it does
pub made : (X : Type 0) (Y : Type 0) (refusal : Option Fault) (result : Result Reply Fault) → IfSome refusal (λ fault. (result ≡ Err fault) × Y) → (refusal ≡ None → X)
    → MatchOption refusal X (λ fault. result ≡ Err fault)
made X Y None result refused makes = makes refl
made X Y (Some fault) result refused makes = refused.0

-- what is shown of what was looked at is so of what was there
pub shown : {L R E F : Type 0} (P : R → Type 0) (Q : L → R → Type 0) (K M : L → Type 0) (result : Result R E) (looked : Result L F)
    → IfOk result (λ reply. (look : L) × (looked ≡ Ok look) × Q look reply) → IfOk looked K → IfOk looked M
    → ((look : L) (reply : R) → K look → M look → Q look reply → P reply) → IfOk result P
shown {L} {F = F} P Q K M (Ok reply) looked shows keeps counts so =
    so shows.0 reply (subst (λ (l : Result L F). IfOk l K) shows.1 keeps) (subst (λ (l : Result L F). IfOk l M) shows.1 counts) shows.2
shown P Q K M (Err fault) looked shows keeps counts so = tt
