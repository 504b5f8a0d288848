use Rattle.std.proofs.Common.{List, All, ap, subst, sym, ◌∙◌}
use Rattle.std.specs.Prelude.{IsTrue}
use Rattle.delivery_machine.specs.State.{DeadLetter}
use Rattle.delivery_machine.specs.WellFormed.{has_message}
use Rattle.topic_subscriptions.specs.Placed.{Placed, StandAt}
use Rattle.topic_parts.specs.Parts.{log_of}
use Rattle.topic_parts.proofs.Held.{one}
use Rattle.topic_parts.proofs.Sought.{formed_at, then_ok}
use Rattle.topic_parts.proofs.parts.Parts.dead_places.Goals as goal

pub places_of-requires : goal.places_of-requires
places_of-requires c =
    subst (λ (ds : List DeadLetter). All (λ (d : DeadLetter). IsTrue (has_message (log_of c.args.self.now) d.position)) ds) (sym (c.deref.ensures.value ∙ c.in_ok-letters.ensures))
    (formed_at c.args.self.now c.args.place c.index.result.now c.requires.well c.requires.within c.index.ensures).dead.messages

pub returns-clause-stand : goal.returns-clause-stand
returns-clause-stand c =
    then_ok _ _ c.places_of.result
    (λ places stand p there.
    subst (λ (ds : List DeadLetter). StandAt (log_of c.args.self.now) ds places.items)
    (c.deref.ensures.value ∙ c.in_ok-letters.ensures ∙ ap (λ (q : Placed). q.letters.dead) (sym (one c.args.self.now c.args.place c.requires.within c.index.result.now c.index.ensures p there))) stand)
    c.places_of.ensures.stand
