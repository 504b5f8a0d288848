-- Small changes of a topic, of which the machine's steps are made.
use Rattle.std.specs.Prelude.{ℕ, ◌+◌, List, [], ◌∷◌, None, map}
use Rattle.std.specs.FinMap as map_of
use Rattle.position_core.specs.declared.position.Position.{Position}
use Rattle.position_core.specs.declared.message.Entry.{Entry}
use Rattle.position_core.specs.declared.kind.Kind.{Kind}
use Rattle.delivery_machine.specs.State.{State, Subscription, DeadLetter}
use Rattle.delivery_machine.specs.Words.{changed, is_named}
use Rattle.delivery_machine.specs.Acknowledging.{forgetting}
use Rattle.delivery_machine.specs.Dying.{burying}
use Rattle.delivery_machine.specs.Joining.{new_subscription, placed}
use Rattle.delivery_machine.specs.Shares.{no_shares}
use Rattle.delivery_machine.specs.declared.event.Initial.{Initial}
use Rattle.delivery_machine.specs.Ticking.{redelivering}

-- the message dies, and an ordinal is given
abbrev pub buried : State → List ℕ → DeadLetter → State
buried s name letter = record s {
  subscriptions = changed (is_named name) (burying letter) s.subscriptions;
  members = map (forgetting name (letter.position ∷ [])) s.members;
  next_ordinal = s.next_ordinal + 1;
}

-- the message waits again, and no count rises
abbrev pub freeing : Position → Subscription → Subscription
freeing p sub = record sub { pending = map_of.remove sub.pending p }

abbrev pub freed : State → List ℕ → Position → State
freed s name p = record s { subscriptions = changed (is_named name) (freeing p) s.subscriptions }

-- the message waits again, counted once more, and may still be collected
abbrev pub recounted_one : State → List ℕ → Position → State
recounted_one s name p = record s { subscriptions = changed (is_named name) (redelivering (p ∷ [])) s.subscriptions }

-- the subscription takes another kind
abbrev pub of_kind : Kind → Subscription → Subscription
of_kind kind sub = record sub { kind = kind }

abbrev pub with_kind : State → List ℕ → Kind → State
with_kind s name kind = record s { subscriptions = changed (is_named name) (of_kind kind) s.subscriptions }

-- as its first member finds it: nobody has a share yet
abbrev pub unshared : List ℕ → Kind → Initial → List Entry → Subscription
unshared name kind initial log = record (new_subscription name kind None 0 initial log) { shares = no_shares }

-- a subscription is there that was not
abbrev pub opened : State → List ℕ → Kind → Initial → State
opened s name kind initial = record s { subscriptions = placed (unshared name kind initial s.log) s.subscriptions }
