-- The limits stay where the first messages go, and where the topic gets another rule.
use Rattle.std.proofs.Common.{ℕ, ◌+◌, List, [], ◌∷◌, map, take, drop, length, length-drop, Option, Bool, true, false, refl, arith}
use Rattle.std.specs.Prelude.{ℤ, ◌≤ℤ◌, ◌||◌, nat_lt, pos, if◌then◌else◌}
use Rattle.std.specs.List.{All, AllByRecursion}
use Rattle.std.specs.Int.{int_max}
use Rattle.std.proofs.lemmas.Int.{clamps, ints}
use Rattle.std.proofs.lemmas.List.Elements.{All-drop, All-from_recursion, All-push, All-take, recursion_from_All}
use Rattle.position_core.specs.declared.message.Entry.{Entry}
use Rattle.delivery_machine.specs.State.{Author, State}
use Rattle.delivery_machine.specs.Words.{last_sequence, removed, signed_by}
use Rattle.delivery_machine.specs.Trimming.{is_author, is_lasting, not_forgotten, remembered, trimmed, with_author, with_authors, without_messages}
use Rattle.delivery_machine.specs.declared.retention.Retention.{Retention}
use Rattle.row_reading.specs.Reading.{IsReadableAuthor, IsReadableMessage, MayBeRule}
use Rattle.row_reading.proofs.Limits.{KeepsLimits, all_removed, seated_mapped, wills}

-- ---- what is remembered

-- the producer of one more message
one_readable : (index : ℕ) (e : Entry) (authors : List Author) → IsReadableMessage e → All IsReadableAuthor authors → All IsReadableAuthor (with_author index e authors)
one_readable index e authors message all =
    All-push IsReadableAuthor (removed (is_author e.producer) authors) _ (all_removed IsReadableAuthor (is_author e.producer) authors all)
    (record { name = message.producer; sequence = greater (last_sequence (map signed_by authors) e.producer e.sequence) e.sequence message.sequence })
  where
    greater : (a b : ℤ) → pos 0 ≤ℤ b → pos 0 ≤ℤ int_max a b
    greater a b low = omega (arith, ints, clamps)

more_readable : (index : ℕ) (messages : List Entry) (authors : List Author) → AllByRecursion IsReadableMessage messages → All IsReadableAuthor authors → All IsReadableAuthor (with_authors index messages authors)
more_readable index [] authors each all = all
more_readable index (e ∷ messages) authors each all = more_readable (index + 1) messages (with_author index e authors) each.1 (one_readable index e authors each.0 all)

left_readable : (s : State) (stay : List Entry) (authors : List Author) → AllByRecursion IsReadableAuthor authors → AllByRecursion IsReadableAuthor (not_forgotten s stay authors)
left_readable s stay [] all = tt
left_readable s stay (a ∷ authors) all = by (nat_lt (length authors) 4096 || is_lasting s stay a.name) (left_readable s stay authors all.1)
  where
    by : (b : Bool) → AllByRecursion IsReadableAuthor (not_forgotten s stay authors)
        → AllByRecursion IsReadableAuthor (if b then a ∷ not_forgotten s stay authors else not_forgotten s stay authors)
    by true rest = (all.0, rest)
    by false rest = rest

remembered_readable : (s : State) (n : ℕ) → KeepsLimits s → All IsReadableAuthor (remembered n s)
remembered_readable s n keeps =
    let messages = recursion_from_All IsReadableMessage (take n s.log) (All-take IsReadableMessage n s.log keeps.log.each) in
    let all = more_readable s.gone (take n s.log) s.authors messages keeps.authors in
    All-from_recursion IsReadableAuthor (remembered n s)
    (left_readable s (drop n s.log) (with_authors s.gone (take n s.log) s.authors) (recursion_from_All IsReadableAuthor (with_authors s.gone (take n s.log) s.authors) all))

-- ---- the state

pub limits_trimmed : (s : State) (n : ℕ) → KeepsLimits s → KeepsLimits (trimmed n s)
limits_trimmed s n keeps = record {
  size = keeps.size;
  authors = remembered_readable s n keeps;
  rule = keeps.rule;
  log = record {
    each = All-drop IsReadableMessage n s.log keeps.log.each;
    few = let shorter = length-drop n s.log in omega (arith, shorter, keeps.log.few);
  };
  producers = keeps.producers;
  seated = seated_mapped s.name (wills s.members) (without_messages (map (λ (e : Entry). e.position) (take n s.log))) s.subscriptions (λ _. refl) (λ _. refl) (λ _. refl) keeps.seated;
}

pub limits_retaining : (s : State) (retention : Option Retention) → MayBeRule retention → KeepsLimits s → KeepsLimits (record s { retention = retention })
limits_retaining s retention rule keeps = record {
  size = keeps.size;
  authors = keeps.authors;
  rule = rule;
  log = keeps.log;
  producers = keeps.producers;
  seated = keeps.seated;
}
