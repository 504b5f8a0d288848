-- What makes a message the next one of the log.
use Rattle.std.specs.Prelude.{◌≡◌, ℕ, ◌+◌, ℤ, false, length, IsSomeAnd}
use Rattle.std.specs.List.{find}
use Rattle.position_core.specs.declared.body.Content.{Content}
use Rattle.position_core.specs.declared.message.Entry.{Entry}
use Rattle.delivery_machine.specs.State.{State}
use Rattle.delivery_machine.specs.Words.{is_producer}
use Rattle.delivery_machine.specs.Producing.{with_message}
use Rattle.delivery_machine.specs.Run.{Answers}
use Rattle.delivery_machine.specs.declared.event.Event.TheVariants.{Publish}
use Rattle.delivery_machine.specs.declared.reply.Reply.TheVariants.{Published}
use Rattle.entry_log.specs.Log.{next_in, is_full_log}
use Rattle.topic_log.specs.Written.{Written, written_in}

-- the message that the producer hands in, as it stands next in the log, which has room for it
pub record IsNextOf (w : Written) (producer : ℕ) (sequence : ℤ) (body : Content) (now : ℕ) (e : Entry) : Type 0 where
  pub room : is_full_log w.log ≡ false
  pub next : e.position ≡ next_in w.log
  pub sender : IsSomeAnd (find (is_producer producer) w.producers) (λ p. e.producer ≡ p.name)
  pub numbered : e.sequence ≡ sequence
  pub step : (s : State) → Answers (written_in w s) (Publish producer sequence body now) (Published e.position (w.gone + length w.log.log + 1)) (with_message (written_in w s) e)
