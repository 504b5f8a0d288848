-- What a producer is told, and the message that it hands in.
use Rattle.std.proofs.Common.{◌≡◌, ℕ, ◌+◌, Bool, true, false, cond, Some, None, Option, refl, ap, ap₂, sym, ◌∙◌, subst, length, to_z, of_z, w64, FitsSigned}
use Rattle.std.specs.Prelude.{ℤ, int_le, IsSomeAnd}
use Rattle.std.specs.List.{find}
use Rattle.std.proofs.lemmas.Int.{to_z-of_z}
use Rattle.position_core.specs.declared.body.Content.{Content}
use Rattle.position_core.specs.declared.message.Entry.{Entry}
use Rattle.position_core.specs.declared.fault.Fault.{Fault}
use Rattle.position_core.specs.declared.fault.Fault.TheVariants.{TopicFull}
use Rattle.delivery_machine.specs.State.{State, Producer}
use Rattle.delivery_machine.specs.Words.{is_producer, known, last_sequence}
use Rattle.delivery_machine.specs.Refusals.{publishing_refused}
use Rattle.delivery_machine.specs.Producing.{with_message, Publishes}
use Rattle.delivery_machine.specs.declared.reply.Reply.{Reply}
use Rattle.delivery_machine.specs.declared.reply.Reply.TheVariants.{Published, Duplicate}
use Rattle.entry_log.specs.Log.{next_in, is_full_log}
use Rattle.topic_log.specs.Written.{Written, written_in}
use Rattle.topic_log.specs.Publishing.{IsNextOf}

-- as the code tells it of a number that it has in 64 bits
pub as_told : (w : Written) (s : State) (p : Producer) (sequence : ℤ) (is told : Bool) → FitsSigned w64 sequence → is ≡ int_le (to_z w64 (of_z w64 sequence)) (last_sequence (known (written_in w s)) p.name p.base) → is ≡ told → told ≡ int_le sequence (last_sequence (known (written_in w s)) p.name p.base)
as_told w s p sequence is told fits tells so =
    sym so ∙ tells ∙ ap (λ (n : ℤ). int_le n (last_sequence (known (written_in w s)) p.name p.base)) (to_z-of_z w64 sequence fits)

module _ (w : Written) (producer : ℕ) (sequence : ℤ) (p : Producer) (found : Some p ≡ find (is_producer producer) w.producers) (new : (s : State) → false ≡ int_le sequence (last_sequence (known (written_in w s)) p.name p.base)) where
  pub told_full : (s : State) → true ≡ is_full_log w.log → publishing_refused (written_in w s) sequence (find (is_producer producer) w.producers) ≡ Some TopicFull
  told_full s full =
      ap (publishing_refused (written_in w s) sequence) (sym found)
      ∙ ap₂ (λ (a b : Bool). cond {A = Option Fault} a None (cond b (Some TopicFull) None)) (sym (new s)) (sym full)

  pub not_refused : (s : State) → false ≡ is_full_log w.log → publishing_refused (written_in w s) sequence (find (is_producer producer) w.producers) ≡ None
  not_refused s room =
      ap (publishing_refused (written_in w s) sequence) (sym found)
      ∙ ap₂ (λ (a b : Bool). cond {A = Option Fault} a None (cond b (Some TopicFull) None)) (sym (new s)) (sym room)

  abbrev pub made : Content → ℕ → Entry
  made body now = record { position = next_in w.log; producer = p.name; sequence = sequence; time = now; body = body }

  publishes : (body : Content) (now : ℕ) (s : State) → Publishes (written_in w s) p sequence body now (Published (next_in w.log) (w.gone + length w.log.log + 1)) (with_message (written_in w s) (made body now))
  publishes body now s = (
    ap (λ (a : Bool). cond {A = Reply} a (Duplicate (w.gone + length w.log.log)) (Published (next_in w.log) (w.gone + length w.log.log + 1))) (new s),
    ap (λ (a : Bool). cond {A = State} a (written_in w s) (with_message (written_in w s) (made body now))) (new s),
  )

  pub next_made : (body : Content) (now : ℕ) (e : Entry) → false ≡ is_full_log w.log → e ≡ made body now → IsNextOf w producer sequence body now e
  next_made body now e room is = subst (IsNextOf w producer sequence body now) (sym is) (record {
    room = sym room;
    next = refl;
    sender = subst (λ (o : Option Producer). IsSomeAnd o (λ q. p.name ≡ q.name)) found refl;
    numbered = refl;
    step = λ s. (not_refused s room, subst (λ (o : Option Producer). IsSomeAnd o (λ q. Publishes (written_in w s) q sequence body now (Published (next_in w.log) (w.gone + length w.log.log + 1)) (with_message (written_in w s) (made body now)))) found (publishes body now s));
  })

module _ (w : Written) (producer : ℕ) (sequence : ℤ) (p : Producer) (found : Some p ≡ find (is_producer producer) w.producers) (twice : (s : State) → true ≡ int_le sequence (last_sequence (known (written_in w s)) p.name p.base)) where
  duplicates : (body : Content) (now n : ℕ) → n ≡ w.gone + length w.log.log → (s : State) → Publishes (written_in w s) p sequence body now (Duplicate n) (written_in w s)
  duplicates body now n is s = (
    ap Duplicate is ∙ ap (λ (a : Bool). cond {A = Reply} a (Duplicate (w.gone + length w.log.log)) (Published (next_in w.log) (w.gone + length w.log.log + 1))) (twice s),
    ap (λ (a : Bool). cond {A = State} a (written_in w s) (with_message (written_in w s) (record { position = next_in w.log; producer = p.name; sequence = sequence; time = now; body = body }))) (twice s),
  )

  pub told_twice : (body : Content) (now n : ℕ) → n ≡ w.gone + length w.log.log → (s : State)
      → (publishing_refused (written_in w s) sequence (find (is_producer producer) w.producers) ≡ None) × IsSomeAnd (find (is_producer producer) w.producers) (λ q. Publishes (written_in w s) q sequence body now (Duplicate n) (written_in w s))
  told_twice body now n is s = (
    ap (publishing_refused (written_in w s) sequence) (sym found) ∙ ap (λ (a : Bool). cond {A = Option Fault} a None (cond (is_full_log w.log) (Some TopicFull) None)) (sym (twice s)),
    subst (λ (o : Option Producer). IsSomeAnd o (λ q. Publishes (written_in w s) q sequence body now (Duplicate n) (written_in w s))) found (duplicates body now n is s),
  )
