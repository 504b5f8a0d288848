-- The first letter is shown, and moved.
use Rattle.std.proofs.Common.{◌≡◌, ℕ, List, Some, None, Option, Bool, true, false, refl, ap, ap₂, ◌∙◌, sym, arith, All}
use Rattle.std.specs.Prelude.{◌==◌, if◌then◌else◌, IsTrue}
use Rattle.std.specs.List.{find}
use Rattle.std.specs.Option.{option_map_or}
use Rattle.std.proofs.lemmas.Bool.Decides.{nat_tests}
use Rattle.std.proofs.lemmas.List.Elements.{All-contains}
use Rattle.std.proofs.lemmas.Option.{slice_get_within, get_or_from_slice_get}
use Rattle.position_core.specs.declared.position.Position.{Position}
use Rattle.position_core.specs.declared.message.Entry.{Entry}
use Rattle.position_core.specs.declared.topic_name.TopicName.{TopicName}
use Rattle.position_core.specs.declared.fault.Fault.TheVariants.{NoSuchMessage}
use Rattle.delivery_machine.specs.State.{State, Subscription, DeadLetter}
use Rattle.delivery_machine.specs.Words.{is_named}
use Rattle.delivery_machine.specs.Dying.{first_safe, is_next_letter, moved, next_letter}
use Rattle.delivery_machine.specs.Refusals.{moving_refused}
use Rattle.delivery_machine.specs.Run.{Answers}
use Rattle.delivery_machine.specs.declared.event.Event.TheVariants.{DeadDone, DeadNext}
use Rattle.delivery_machine.specs.declared.reply.Reply.TheVariants.{Dead, Done, NoDead}
use Rattle.dead_core.specs.Letters.{Letters, is_next, next_safe}
use Rattle.topic_served.proofs.Gone.{first_letter}
use Rattle.log_pieces.specs.Pieces.{index_of}
use Rattle.delivery_machine.specs.WellFormed.{has_message}
use Rattle.topic_parts.proofs.Sought.{nowhere}
use Rattle.delivery_events.proofs.Named.{at_some, present}

pub shown : (s : State) (name : List ℕ) (sub : Subscription) (d : DeadLetter) (e message : Entry) (target : TopicName) (ordinal : ℕ) → find (is_named name) s.subscriptions ≡ Some sub → next_letter s sub ≡ Some (d, e)
    → message ≡ e → target ≡ d.target → ordinal ≡ d.ordinal → Answers s (DeadNext name) (Dead message target ordinal) s
shown s name sub d e message target ordinal there next is_message is_target is_ordinal = (
  present s name sub there,
  at_some (find (is_named name) s.subscriptions) sub _ there (
    ap (λ (m : Entry). Dead m target ordinal) is_message ∙ ap₂ (λ (t : TopicName) (o : ℕ). Dead e t o) is_target is_ordinal
        ∙ sym (ap (λ (o : Option (DeadLetter × Entry)). option_map_or (λ p. Dead p.1 p.0.target p.0.ordinal) o NoDead) next),
    refl,
  ),
)

pub none_shown : (s : State) (name : List ℕ) (sub : Subscription) → find (is_named name) s.subscriptions ≡ Some sub → next_letter s sub ≡ None → Answers s (DeadNext name) NoDead s
none_shown s name sub there none = (
  present s name sub there,
  at_some (find (is_named name) s.subscriptions) sub _ there
      (sym (ap (λ (o : Option (DeadLetter × Entry)). option_map_or (λ p. Dead p.1 p.0.target p.0.ordinal) o NoDead) none), refl),
)

pub same_target : (t : TopicName) (d : DeadLetter) → t.tenant ≡ d.target.tenant → t.namespace ≡ d.target.namespace → t.topic ≡ d.target.topic → t ≡ d.target
same_target t d tenant namespace topic =
    ap (λ (n : List ℕ). record t { tenant = n }) tenant
    ∙ ap₂ (λ (a b : List ℕ). record d.target { namespace = a; topic = b }) namespace topic

same_number : (a b : ℕ) → a ≡ b → (a == b) ≡ true
same_number a b is = grind (arith, nat_tests)

pub other_number : (a b : ℕ) → (a ≡ b → ⊥) → (a == b) ≡ false
other_number a b differ = grind (arith, nat_tests)

pub next_is : (ordinal : ℕ) (q : Letters) (d : DeadLetter) → next_safe q ≡ Some d → (d.ordinal == ordinal) ≡ false → is_next ordinal q ≡ false
next_is ordinal q d first is = ap (λ (o : Option DeadLetter). option_map_or (λ letter. letter.ordinal == ordinal) o false) first ∙ is

pub none_next : (ordinal : ℕ) (q : Letters) → next_safe q ≡ None → is_next ordinal q ≡ false
none_next ordinal q none = ap (λ (o : Option DeadLetter). option_map_or (λ letter. letter.ordinal == ordinal) o false) none

pub may_move : (s : State) (name : List ℕ) (sub : Subscription) (d : DeadLetter) (ordinal : ℕ) → find (is_named name) s.subscriptions ≡ Some sub → first_safe sub ≡ Some d → d.ordinal ≡ ordinal → moving_refused ordinal (find (is_named name) s.subscriptions) ≡ None
may_move s name sub d ordinal there first same =
    ap (moving_refused ordinal) there
    ∙ ap (λ (b : Bool). if b then None else Some NoSuchMessage) (ap (λ (o : Option DeadLetter). option_map_or (λ d. d.ordinal == ordinal) o false) first ∙ same_number d.ordinal ordinal same)

pub may_not_move : (s : State) (name : List ℕ) (sub : Subscription) (ordinal : ℕ) → find (is_named name) s.subscriptions ≡ Some sub → is_next_letter ordinal sub ≡ false → moving_refused ordinal (find (is_named name) s.subscriptions) ≡ Some NoSuchMessage
may_not_move s name sub ordinal there other = ap (moving_refused ordinal) there ∙ ap (λ (b : Bool). if b then None else Some NoSuchMessage) other

pub moves : (s t : State) (name : List ℕ) (sub : Subscription) (d : DeadLetter) (ordinal : ℕ) → find (is_named name) s.subscriptions ≡ Some sub → first_safe sub ≡ Some d → d.ordinal ≡ ordinal → t ≡ moved s name d → Answers s (DeadDone name ordinal) Done t
moves s t name sub d ordinal there first same is =
    (may_move s name sub d ordinal there first same, at_some (find (is_named name) s.subscriptions) sub _ there (refl, at_some (first_safe sub) d _ first is))

-- its message stands in the log
pub letter_stands : (log : List Entry) (sub : Subscription) (d : DeadLetter) (q : Position) → All (λ (x : DeadLetter). IsTrue (has_message log x.position)) sub.dead → first_safe sub ≡ Some d → d.position ≡ q → None ≡ index_of q log → ⊥
letter_stands log sub d q all first is =
    let at = first_letter sub d first in
    nowhere log q
    (ap (has_message log) (sym is)
    ∙ All-contains (λ (x : DeadLetter). IsTrue (has_message log x.position)) sub.dead d all (0, slice_get_within sub.dead 0 d at, get_or_from_slice_get sub.dead 0 d d at))
