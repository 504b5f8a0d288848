-- Delivering: a message is sent to a member, and the member collects it.
use Rattle.std.specs.Prelude.{◌≡◌, ℕ, ◌+◌, ◌==◌, List, [], ◌∷◌, ◌++◌, Option, Some, None, if◌then◌else◌}
use Rattle.std.specs.List.{find}
use Rattle.std.specs.Option.{option_map_or}
use Rattle.std.specs.FinMap as map_of
use Rattle.position_core.specs.declared.position.Position.{Position}
use Rattle.position_core.specs.declared.message.Entry.{Entry}
use Rattle.position_core.specs.declared.held.Held.{Held}
use Rattle.position_core.specs.Flow.{spent}
use Rattle.position_core.specs.Numbers.{ConsumerNumber, DueMoment}
use Rattle.delivery_machine.specs.State.{State, Member, Subscription}
use Rattle.delivery_machine.specs.Words.{changed, is_member, is_named, count_of, emptied, IsEligible, NoneEligible}
use Rattle.delivery_machine.specs.declared.delivery.Delivery.{Delivery}
use Rattle.delivery_machine.specs.declared.reply.Reply.{Reply}
use Rattle.delivery_machine.specs.declared.reply.Reply.TheVariants.{Sent, Idle, Copies}

-- ---- dispatch

-- when a message that is sent now may be released; a timeout of 0 is none
abbrev pub due_after : ℕ → ℕ → Option DueMoment
due_after now timeout = if timeout == 0 then None else Some (now + timeout)

abbrev pub holding : Position → Held → Subscription → Subscription
holding position held sub = record sub { pending = map_of.insert sub.pending position held }

-- the member has one message more to collect, and a credit of one less
abbrev pub given : Delivery → Member → Member
given d m = record m { flow = spent m.flow; out = m.out ++ d ∷ [] }

-- the message is pending at the member, and stands last in its out list
abbrev pub sent : State → List ℕ → Subscription → Entry → Member → ℕ → State
sent s name sub e m now = record s {
  subscriptions = changed (is_named name) (holding e.position (record { consumer = m.number; due = due_after now m.ack_timeout })) s.subscriptions;
  members = changed (is_member m.number) (given (record { message = e; count = count_of sub e.position })) s.members;
}

-- any eligible pair may be taken; `Idle` is the answer exactly where there is none
abbrev pub Dispatches : State → List ℕ → ℕ → Subscription → Reply → State → Type 0
Dispatches s name now sub (Sent consumer position count) t =
    (e : Entry) × (m : Member) × IsEligible s sub e m
    × (consumer ≡ m.number) × (position ≡ e.position) × (count ≡ count_of sub e.position) × (t ≡ sent s name sub e m now)
Dispatches s name now sub Idle t = NoneEligible s sub × (t ≡ s)
Dispatches s name now sub reply t = ⊥

-- ---- collecting

-- what the consumer was sent and has not collected; nothing where there is no such consumer
abbrev pub out_of : State → ConsumerNumber → List Delivery
out_of s consumer = option_map_or (λ m. m.out) (find (is_member consumer) s.members) []

abbrev pub Collects : State → ConsumerNumber → Reply → State → Type 0
Collects s consumer reply t =
    (reply ≡ Copies (out_of s consumer)) × (t ≡ record s { members = changed (is_member consumer) emptied s.members })
