-- The limits stay where a producer connects or goes, and where a message is published.
use Rattle.std.proofs.Common.{◌≡◌, ℕ, ◌<◌, ◌≤◌, ◌^◌, List, [], ◌∷◌, map, length, length-append, Some, None, Option, Bool, true, false, sym, subst, arith}
use Rattle.std.specs.Prelude.{ℤ, ◌≤ℤ◌, IfSome, int_le, nat_le, nat_lt, negsuc, pos, if◌then◌else◌}
use Rattle.std.specs.List.{All, AllByRecursion, filter}
use Rattle.std.specs.Int.{int_max}
use Rattle.std.specs.Option.{option_map_or, unwrap_or}
use Rattle.std.proofs.lemmas.Bool.Decides.{nat_tests}
use Rattle.std.proofs.lemmas.Int.{clamps, ints}
use Rattle.std.proofs.lemmas.List.Elements.{All-append, All-filter, All-map, All-push, All-weaker, recursion_from_All}
use Rattle.position_core.specs.declared.body.Content.{Content}
use Rattle.position_core.specs.declared.fault.Fault.TheVariants.{ProducerBusy, TooMany, TopicFull}
use Rattle.delivery_machine.specs.State.{Producer, State}
use Rattle.delivery_machine.specs.Words.{Signed, greatest, greatest_under, is_by, known, last_sequence, next_position, removed, signed, signed_by}
use Rattle.delivery_machine.specs.Refusals.{adding_refused, is_busy, is_duplicate, is_full, is_used_up}
use Rattle.delivery_machine.specs.Producing.{IsGiven, message_of, with_message, with_producer}
use Rattle.delivery_machine.specs.WellFormed.{AreAuthors}
use Rattle.delivery_machine.proofs.Deciding.{or_false}
use Rattle.delivery_machine.proofs.Kept.{not_refused, not_refused_next}
use Rattle.row_reading.specs.Reading.{IsContent, IsReadableAuthor, IsReadableMessage, IsText}
use Rattle.row_reading.proofs.AutoNames.{auto_name_is_text}
use Rattle.row_reading.proofs.Limits.{IsProducerWithin, KeepsLimits, all_removed, length_removed}

-- ---- sequence numbers

greatest_from_zero : (numbers : List ℤ) → AllByRecursion (λ n. pos 0 ≤ℤ n) numbers → IfSome (greatest numbers) (λ n. pos 0 ≤ℤ n)
greatest_from_zero [] all = tt
greatest_from_zero (n ∷ numbers) all = by (greatest numbers) (greatest_from_zero numbers all.1)
  where
    greater : (a b : ℤ) → pos 0 ≤ℤ a → pos 0 ≤ℤ b → pos 0 ≤ℤ int_max a b
    greater a b low high = omega (arith, ints, clamps)

    by : (o : Option ℤ) → IfSome o (λ n. pos 0 ≤ℤ n) → pos 0 ≤ℤ option_map_or (int_max n) o n
    by None rest = all.0
    by (Some other) rest = greater n other all.0 rest

abbrev IsFromZero : Signed → Type 0
IsFromZero n = pos 0 ≤ℤ n.sequence

last_is_low : (numbers : List Signed) (name : List ℕ) (base : ℤ) → All IsFromZero numbers → negsuc 0 ≤ℤ base → negsuc 0 ≤ℤ last_sequence numbers name base
last_is_low numbers name base all low = by (greatest_under name numbers) (greatest_from_zero (map (λ n. n.sequence) (filter (is_by name) numbers)) from_zero)
  where
    from_zero : AllByRecursion (λ n. pos 0 ≤ℤ n) (map (λ (n : Signed). n.sequence) (filter (is_by name) numbers))
    from_zero =
        recursion_from_All (λ n. pos 0 ≤ℤ n) (map (λ (n : Signed). n.sequence) (filter (is_by name) numbers))
        (All-map (λ n. pos 0 ≤ℤ n) (λ (n : Signed). n.sequence) (filter (is_by name) numbers) (All-filter (is_by name) IsFromZero numbers all))

    lower : (n : ℤ) → pos 0 ≤ℤ n → negsuc 0 ≤ℤ n
    lower n high = omega (arith, ints)

    by : (o : Option ℤ) → IfSome o (λ n. pos 0 ≤ℤ n) → negsuc 0 ≤ℤ unwrap_or o base
    by None rest = low
    by (Some n) rest = lower n rest

known_from_zero : (s : State) → KeepsLimits s → All IsFromZero (known s)
known_from_zero s keeps =
    All-append IsFromZero (map signed_by s.authors) (map signed s.log)
    (All-map IsFromZero signed_by s.authors (All-weaker IsReadableAuthor (λ a. pos 0 ≤ℤ a.sequence) (λ a is. is.sequence) s.authors keeps.authors))
    (All-map IsFromZero signed s.log (All-weaker IsReadableMessage (λ e. pos 0 ≤ℤ e.sequence) (λ e is. is.sequence) s.log keeps.log.each))

-- what is above a number of -1 or more is 0 or more
above_last : (sequence last : ℤ) → int_le sequence last ≡ false → negsuc 0 ≤ℤ last → pos 0 ≤ℤ sequence
above_last sequence last above low = grind (arith, ints)

-- ---- publishing

published : (s : State) (p : Producer) (sequence : ℤ) (body : Content) (now : ℕ) → is_duplicate s p sequence ≡ false → is_full s ≡ false → IsProducerWithin p → IsContent body → now ≤ 253402300799999 → KeepsLimits s
    → KeepsLimits (with_message s (message_of s p sequence body now))
published s p sequence body now new room producer content time keeps = record {
  size = keeps.size;
  authors = keeps.authors;
  rule = keeps.rule;
  log = record {
    each = All-push IsReadableMessage s.log (message_of s p sequence body now) keeps.log.each (record {
      producer = producer.name;
      sequence = above_last sequence (last_sequence (known s) p.name p.base) new (last_is_low (known s) p.name p.base (known_from_zero s keeps) producer.base);
      time = time;
      content = content;
    });
    few =
        let more = length-append s.log (message_of s p sequence body now ∷ []) in
        let low = fits (length s.log) (or_false (nat_le 1048576 (length s.log)) (nat_lt (2 ^ 62) (next_position s).ledger) room).0 in
        omega (arith, more, low);
  };
  producers = keeps.producers;
  seated = keeps.seated;
}
  where
    fits : (n : ℕ) → nat_le 1048576 n ≡ false → n < 1048576
    fits n e = grind (arith, nat_tests)

pub limits_published : (s : State) (p : Producer) (sequence : ℤ) (body : Content) (now : ℕ) (t : State) (duplicate : Bool) → is_duplicate s p sequence ≡ duplicate
    → (if duplicate then None else if is_full s then Some TopicFull else None) ≡ None → t ≡ (if duplicate then s else with_message s (message_of s p sequence body now))
    → IsProducerWithin p → IsContent body → now ≤ 253402300799999 → KeepsLimits s → KeepsLimits t
limits_published s p sequence body now t true tested allowed is producer content time keeps = subst KeepsLimits (sym is) keeps
limits_published s p sequence body now t false tested allowed is producer content time keeps =
    subst KeepsLimits (sym is) (published s p sequence body now tested (not_refused (is_full s) TopicFull None allowed) producer content time keeps)

-- ---- producers

pub limits_connected : (s : State) (asked : Option (List ℕ)) (name : List ℕ) (auto : Option ℕ) (base : ℤ) → adding_refused s asked ≡ None → IsGiven s asked name auto → IfSome asked (IsText 1 1280) → negsuc 0 ≤ℤ base → s.gone ≤ 2 ^ 62 → AreAuthors s.gone s.authors → KeepsLimits s
    → KeepsLimits (with_producer s (record { number = s.next_producer; name = name; base = base }))
limits_connected s asked name auto base allowed given asked_for low gone authors keeps = record {
  size = keeps.size;
  authors = keeps.authors;
  rule = keeps.rule;
  log = keeps.log;
  producers = record {
    each = All-push IsProducerWithin s.producers (record { number = s.next_producer; name = name; base = base }) keeps.producers.each (record { name = text asked given asked_for; base = low });
    few =
        let more = length-append s.producers (record { number = s.next_producer; name = name; base = base } ∷ []) in
        let room = fits (length s.producers) (or_false (nat_le 256 (length s.producers)) (is_used_up s.next_producer) (not_refused _ TooMany _ (not_refused_next (is_busy s asked) ProducerBusy _ allowed))).0 in
        omega (arith, more, room);
  };
  seated = keeps.seated;
}
  where
    fits : (n : ℕ) → nat_le 256 n ≡ false → n < 256
    fits n e = grind (arith, nat_tests)

    text : (o : Option (List ℕ)) → IsGiven s o name auto → IfSome o (IsText 1 1280) → IsText 1 1280 name
    text (Some other) given within = subst (IsText 1 1280) (sym given.0) within
    text None given within = subst (IsText 1 1280) (sym given.2) (auto_name_is_text s given.0 given.1 gone authors (omega (arith, keeps.producers.few, keeps.log.few)))

pub limits_disconnected : (s : State) (q : Producer → Bool) → KeepsLimits s → KeepsLimits (record s { producers = removed q s.producers })
limits_disconnected s q keeps = record {
  size = keeps.size;
  authors = keeps.authors;
  rule = keeps.rule;
  log = keeps.log;
  producers = record {
    each = all_removed IsProducerWithin q s.producers keeps.producers.each;
    few = let fewer = length_removed q s.producers in omega (arith, fewer, keeps.producers.few);
  };
  seated = keeps.seated;
}
