-- What the answers to a line say of it.
use Rattle.std.proofs.Common.{◌≡◌, List, ℕ, sym, subst, inl, inr}
use Rattle.std.specs.Prelude.{IfErr}
use Rattle.std.specs.declared.result.Result.{Result}
use Rattle.std.specs.declared.result.Result.TheVariants.{Ok, Err}
use Rattle.replay_lines.specs.declared.words.Unread.{Unread}
use Rattle.replay_lines.specs.declared.words.Unread.TheVariants.{BadLine, Memory}
use Rattle.position_core.specs.declared.topic_name.TopicName.{TopicName}
use Rattle.delivery_machine.specs.declared.event.Event.{Event}
use Rattle.replay_lines.specs.Grammar.{IsLine}
use Rattle.replay_lines.specs.declared.reading.Line.{Line}
use Rattle.replay_lines.specs.declared.reading.Line.TheVariants as lines
use Rattle.replay_core.specs.Answering.{IsAnswerOf}
use Rattle.replay_core.specs.Replay.{Answer, replied, gone_on, no_room, bad_id, IsAnswered, IsAnswerTo, IsRestart}

pub answered_event : (this : TopicName) (line : List ℕ) (event : Event) (answer : Answer) → IsLine this line (lines.Event event) → IsAnswerTo event answer → IsAnswered this line answer
answered_event this line event (replied other reply) stands is = subst (λ (e : Event). IsLine this line (lines.Event e)) (sym is) stands
answered_event this line event (gone_on ledger) stands is = absurd is
answered_event this line event no_room stands is = inl (subst (λ (e : Event). IsLine this line (lines.Event e)) is stands)
answered_event this line event bad_id stands is = absurd is

pub answered_restart : (this : TopicName) (line : List ℕ) (answer : Answer) → IsLine this line lines.Restart → IsRestart answer → IsAnswered this line answer
answered_restart this line (replied event reply) stands is = absurd is
answered_restart this line (gone_on ledger) stands is = stands
answered_restart this line no_room stands is = inr stands
answered_restart this line bad_id stands is = absurd is

pub answered_line : (this : TopicName) (line : List ℕ) (said : Line) (answer : Answer) → IsLine this line said → IsAnswerOf said answer → IsAnswered this line answer
answered_line this line (lines.Event event) answer stands is = answered_event this line event answer stands is
answered_line this line lines.Restart answer stands is = answered_restart this line answer stands is
answered_line this line lines.BadId answer stands is = subst (λ (a : Answer). IsAnswered this line a) (sym is) stands

-- what fails for want of memory is no bad line
pub not_bad : {A : Type 0} (result : Result A Unread) → IfErr result (λ unread. unread ≡ Memory) → result ≡ Err BadLine → ⊥
not_bad (Ok x) memory e = cc
not_bad (Err unread) memory e = cc
