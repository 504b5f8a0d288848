use Rattle.std.proofs.Common.{◌≡◌, ℕ, List, ap, ap₂, map, subst, sym}
use Rattle.delivery_machine.specs.State.{Member, State}
use Rattle.delivery_machine.specs.Laws.{IsReached}
use Rattle.machine_laws.proofs.Ranks.{rank_of}
use Rattle.topic_members.specs.Joined.{Joined}
use Rattle.topic_served.specs.declared.served.Served.{Served}
use Rattle.topic_served.specs.Served.{IsSettled, state_in}
use Rattle.member_events.proofs.Beside.{bound_members}
use Rattle.member_events.proofs.subscribing.make_room.Goals as goal

module _ (c : Served) (ms : Joined) (members : ms.members ≡ c.parts.members.members) (next : ms.next ≡ c.parts.members.next) where
  abbrev roomy : Served
  roomy = record c { parts = record c.parts { members = ms } }

  as_before : state_in roomy ≡ state_in c
  as_before = ap₂ (λ (xs : List Member) (n : ℕ). let s : State = record (state_in c) { members = xs; next_consumer = n } in s) members next

  settled : IsSettled c → IsSettled roomy
  settled was = record {
    reached = subst IsReached (sym as_before) was.reached;
    bound = bound_members c ms next (ap (map rank_of) members) was.bound;
  }

pub returns-in-Ok-clause-same : goal.returns-in-Ok-clause-same
returns-in-Ok-clause-same c = as_before c.args.served.now c.reserve.new.self c.in-Ok.ensures.members c.in-Ok.ensures.next

pub returns-in-Ok-clause-settled : goal.returns-in-Ok-clause-settled
returns-in-Ok-clause-settled c = settled c.args.served.now c.reserve.new.self c.in-Ok.ensures.members c.in-Ok.ensures.next c.requires

pub returns-in-Err-clause-same : goal.returns-in-Err-clause-same
returns-in-Err-clause-same c = as_before c.args.served.now c.reserve.new.self c.in-Err.ensures.members c.in-Err.ensures.next

pub returns-in-Err-clause-settled : goal.returns-in-Err-clause-settled
returns-in-Err-clause-settled c = settled c.args.served.now c.reserve.new.self c.in-Err.ensures.members c.in-Err.ensures.next c.requires
