-- A subscription's dead letters stay in their order, and none of them twice.
use Rattle.std.proofs.Common.{◌≡◌, ◌<◌, List, [], ◌∷◌, ◌++◌, map, drop, true, false, refl, ap, ◌∙◌, sym, subst, arith}
use Rattle.std.specs.Prelude.{◌||◌}
use Rattle.std.specs.List.{AllByRecursion, list_any, IsDistinct}
use Rattle.std.specs.Cmp.{eq_by_cmp_equiv}
use Rattle.std.proofs.lemmas.List.{map-append}
use Rattle.std.proofs.lemmas.List.Elements.{All-nil, All-weaker, All-push, All-drop}
use Rattle.std.proofs.lemmas.Map.Keys.{IsDistinct-push, IsDistinct-tail}
use Rattle.position_core.specs.declared.position.Position.{Position}
use Rattle.position_core.specs.declared.message.Entry.{Entry}
use Rattle.position_core.specs.Position.{same_position, positions_total}
use Rattle.delivery_machine.specs.State.{DeadLetter}
use Rattle.delivery_machine.specs.WellFormed.{has_message, AreDeadLettersOf}
use Rattle.delivery_machine.proofs.Given.{increasing_pushed, increasing_later}
use Rattle.delivery_machine.proofs.Messages.{either_way}

-- where the log has more
pub dead_in_more : (log more : List Entry) (dead : List DeadLetter) → ((p : Position) → has_message log p ≡ true → has_message more p ≡ true) → AreDeadLettersOf log dead → AreDeadLettersOf more dead
dead_in_more log more dead grows all = record {
  messages = All-weaker (λ d. has_message log d.position ≡ true) (λ d. has_message more d.position ≡ true) (λ d there. grows d.position there) dead all.messages;
  once = all.once;
  ordinals = all.ordinals;
}

pub none_dead : (log : List Entry) → AreDeadLettersOf log []
unfolding IsDistinct
none_dead log = record { messages = All-nil (λ d. has_message log d.position ≡ true); once = tt; ordinals = λ k low. absurd (omega arith) }

-- where one more dies that was not dead, under an ordinal above those of the others
pub dead_pushed : (log : List Entry) (dead : List DeadLetter) (letter : DeadLetter) → has_message log letter.position ≡ true → list_any (λ d. same_position d.position letter.position) dead ≡ false → AllByRecursion (λ d. d.ordinal < letter.ordinal) dead
    → AreDeadLettersOf log dead → AreDeadLettersOf log (dead ++ letter ∷ [])
dead_pushed log dead letter there new below all = record {
  messages = All-push (λ d. has_message log d.position ≡ true) dead letter all.messages there;
  once = subst (IsDistinct same_position) (sym (map-append (λ (d : DeadLetter). d.position) dead (letter ∷ [])))
      (IsDistinct-push (eq_by_cmp_equiv positions_total) (map (λ (d : DeadLetter). d.position) dead) letter.position all.once (unlike dead ∙ new));
  ordinals = increasing_pushed (λ (d : DeadLetter). d.ordinal) dead letter below all.ordinals;
}
  where
    unlike : (ds : List DeadLetter) → list_any (same_position letter.position) (map (λ (d : DeadLetter). d.position) ds) ≡ list_any (λ d. same_position d.position letter.position) ds
    unlike [] = refl
    unlike (d ∷ ds) = ap (λ b. b || list_any (same_position letter.position) (map (λ (d : DeadLetter). d.position) ds)) (either_way letter.position d.position) ∙ ap (λ b. same_position d.position letter.position || b) (unlike ds)

-- where the first is moved
pub dead_dropped : (log : List Entry) (dead : List DeadLetter) → AreDeadLettersOf log dead → AreDeadLettersOf log (drop 1 dead)
dead_dropped log [] all = all
dead_dropped log (d ∷ ds) all = record {
  messages = All-drop (λ d. has_message log d.position ≡ true) 1 (d ∷ ds) all.messages;
  once = IsDistinct-tail same_position d.position (map (λ (d : DeadLetter). d.position) ds) all.once;
  ordinals = increasing_later (λ (d : DeadLetter). d.ordinal) d ds all.ordinals;
}
