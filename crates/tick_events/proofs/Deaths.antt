-- Who lets a message die, and its letter.
use Rattle.std.proofs.Common.{◌≡◌, ℕ, List, Some, None, Option, true, false, refl, ap, ◌∙◌, sym}
use Rattle.std.specs.Prelude.{if◌then◌else◌}
use Rattle.std.specs.List.{find}
use Rattle.std.specs.Option.{option_and_then, option_map}
use Rattle.std.specs.FinMap as map_of
use Rattle.position_core.specs.declared.position.Position.{Position}
use Rattle.position_core.specs.declared.held.Held.{Held}
use Rattle.delivery_machine.specs.State.{State, DeadLetter, Member, Subscription}
use Rattle.delivery_machine.specs.Words.{is_member}
use Rattle.delivery_machine.specs.Dying.{dying_in, is_to_die, letter_of}

-- the member, if it is to let the message die
abbrev dying_one : ℕ → Subscription → Position → Option Member → Option Member
dying_one ordinal sub q o = option_and_then (λ m. if is_to_die ordinal sub q m then Some m else None) o

-- the holder's number finds the member
module _ (ms : List Member) (ordinal : ℕ) (sub : Subscription) (q : Position) (n : Option ℕ) (holds : n ≡ option_map (λ (h : Held). h.consumer) (map_of.get sub.pending q)) where
  by_number : dying_in ms ordinal sub q ≡ option_and_then (λ k. dying_one ordinal sub q (find (is_member k) ms)) n
  by_number = by (map_of.get sub.pending q) ∙ ap (option_and_then (λ k. dying_one ordinal sub q (find (is_member k) ms))) (sym holds)
    where
      by : (o : Option Held) → option_and_then (λ (h : Held). dying_one ordinal sub q (find (is_member h.consumer) ms)) o
          ≡ option_and_then (λ k. dying_one ordinal sub q (find (is_member k) ms)) (option_map (λ (h : Held). h.consumer) o)
      by None = refl
      by (Some h) = refl

  pub held_by_nobody : n ≡ None → None ≡ dying_in ms ordinal sub q
  held_by_nobody none = sym (by_number ∙ ap (option_and_then (λ k. dying_one ordinal sub q (find (is_member k) ms))) none)

  pub nobody_there : (k : ℕ) → n ≡ Some k → find (is_member k) ms ≡ None → None ≡ dying_in ms ordinal sub q
  nobody_there k some none =
      sym (by_number ∙ ap (option_and_then (λ k. dying_one ordinal sub q (find (is_member k) ms))) some
      ∙ ap (dying_one ordinal sub q) none)

  pub dies_at : (k : ℕ) (m : Member) → n ≡ Some k → find (is_member k) ms ≡ Some m → is_to_die ordinal sub q m ≡ true → Some m ≡ dying_in ms ordinal sub q
  dies_at k m some there dies =
      sym (by_number ∙ ap (option_and_then (λ k. dying_one ordinal sub q (find (is_member k) ms))) some
      ∙ ap (dying_one ordinal sub q) there ∙ ap (λ b. if b then Some m else None) dies)

  pub lives_at : (k : ℕ) (m : Member) → n ≡ Some k → find (is_member k) ms ≡ Some m → is_to_die ordinal sub q m ≡ false → None ≡ dying_in ms ordinal sub q
  lives_at k m some there lives =
      sym (by_number ∙ ap (option_and_then (λ k. dying_one ordinal sub q (find (is_member k) ms))) some
      ∙ ap (dying_one ordinal sub q) there ∙ ap (λ b. if b then Some m else None) lives)

-- ---- the letter

pub no_letter : (s : State) (q : Position) (o : Option Member) → None ≡ option_map (letter_of s q) o → o ≡ None
no_letter s q None none = refl
no_letter s q (Some m) none = cc

pub letter_is : (s : State) (q : Position) (letter : DeadLetter) (o : Option Member) → Some letter ≡ option_map (letter_of s q) o → (m : Member) × (o ≡ Some m) × (letter ≡ letter_of s q m)
letter_is s q letter None some = cc
letter_is s q letter (Some m) some = (m, refl, same some)
  where
    same : {a b : DeadLetter} → ◌≡◌ {A = Option DeadLetter} (Some a) (Some b) → a ≡ b
    same is = cc
