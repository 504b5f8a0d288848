-- Members as they are seen: those with room, by level and then in turn.
use Rattle.std.specs.Prelude.{◌≡◌, ℕ, ◌==◌, nat_lt, Bool, true, false, ◌&&◌, ◌||◌, List, [], take, Option, Some, None, refl}
use Rattle.std.specs.List.{filter, All, Contains}
use Rattle.std.specs.Coded.{Coded, code_by, coded×, coded_ℕ, coded_list}
use Rattle.position_core.specs.declared.kind.Kind.TheVariants.{Shared}
use Rattle.delivery_machine.specs.State.{State, Subscription}
use Rattle.dispatch_core.specs.Turn.{is_sooner}
use Rattle.dispatch_core.specs.Log.{line_of}
use Rattle.dispatch_core.specs.Offers.{seen_members}
use Rattle.dispatch_core.specs.declared.view.Seen.{Seen}
use Rattle.dispatch_core.specs.declared.dispatcher.Offer.{Offer}
use Rattle.dispatch_core.specs.Waiting.{Waiting, waiting_code, Tells}

-- the number and the level of a member
abbrev pub pair_of : Seen → ℕ × ℕ
pair_of m = (m.consumer, m.level)

-- those with room among the first n in line, as they are seen
abbrev pub roomy_among : ℕ → State → Subscription → List Seen
roomy_among n s sub = filter (λ seen. seen.room) (take n (seen_members s sub))

-- those with room, as they are seen
abbrev pub roomy : State → Subscription → List Seen
roomy s sub = filter (λ seen. seen.room) (seen_members s sub)

-- the first is served before the second, by level and then in turn
abbrev pub goes_first : ℕ → ℕ × ℕ → ℕ × ℕ → Bool
goes_first last a b = nat_lt a.1 b.1 || (a.1 == b.1 && is_sooner last a.0 b.0)

-- it is served before the one that there is, if any
abbrev pub goes_before : ℕ → ℕ × ℕ → Option Seen → Bool
goes_before last a None = true
goes_before last a (Some b) = goes_first last a (pair_of b)

-- one before whom nobody goes, or none where there are none
abbrev pub IsFirst : ℕ → List Seen → Option Seen → Type 0
IsFirst last members None = members ≡ []
IsFirst last members (Some first) =
    Contains members first × All (λ other. goes_first last (pair_of other) (pair_of first) ≡ false) members

-- the consumer is seen to go first among those with room
abbrev pub IsInTurn : ℕ → State → Subscription → Offer → Type 0
IsInTurn last s sub offer = (seen : Seen) × (seen.consumer ≡ offer.consumer) × IsFirst last (roomy s sub) (Some seen)

-- what the dispatcher keeps: which messages wait, the members' numbers and levels in line, and the consumer that was
-- served last
pub record Turns : Type 0 where
  pub waiting : Waiting
  pub line : List (ℕ × ℕ)
  pub last : ℕ

abbrev pub turns_code : Coded Turns
turns_code =
    code_by (Waiting × (List (ℕ × ℕ) × ℕ)) (coded× waiting_code (coded× (coded_list (coded× coded_ℕ coded_ℕ)) coded_ℕ)) (λ d. (d.waiting, (d.line, d.last))) (λ p. record { waiting = p.0; line = p.1.0; last = p.1.1 }) (λ _. refl)

-- it serves a Shared subscription, and its tables tell what waits and who is in line
pub record Agrees (d : Turns) (s : State) (sub : Subscription) : Type 0 where
  pub kind : sub.kind ≡ Shared
  pub waiting : Tells d.waiting s sub
  pub line : d.line ≡ line_of s sub
