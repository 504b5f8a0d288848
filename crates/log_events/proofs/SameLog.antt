-- A topic's log and its producers change, and its messages do not.
use Rattle.std.proofs.Common.{◌≡◌, ℕ, List, Option, map, All, refl, ap, ap₂, ◌∙◌, sym, subst, arith}
use Rattle.position_core.specs.declared.message.Entry.{Entry}
use Rattle.delivery_machine.specs.State.{State, Author}
use Rattle.delivery_machine.specs.declared.retention.Retention.{Retention}
use Rattle.entry_log.specs.Log.{Log}
use Rattle.dedup_core.specs.Sequences.{AgreesWith, Numbers}
use Rattle.topic_log.specs.Written.{all_of, Written, written_in}
use Rattle.topic_subscriptions.specs.Placed.{IsPlacedIn, sub_in}
use Rattle.topic_served.specs.Happening.{AllKept}
use Rattle.topic_served.specs.Told.{AreTold}
use Rattle.topic_served.proofs.Agreed.{told_kept}
use Rattle.topic_served.proofs.Quiet.{kept_counters}
use Rattle.topic_served.proofs.Seeing.{same_subscriptions}
use Rattle.topic_parts.specs.Parts.{log_of}
use Rattle.topic_served.specs.Served.{IsBound, state_in}
use Rattle.topic_served.specs.declared.served.Served.{Served}

abbrev pub with_log : Served → Written → Served
with_log served w = record served { parts = record served.parts { log = w } }

-- the messages are the same
pub same_messages : (served : Served) (w : Written) → w.log.log ≡ log_of served.parts → state_in (with_log served w) ≡ written_in w (state_in served)
same_messages served w same = ap (λ (log : List Entry). let s : State = record (written_in w (state_in served)) { subscriptions = map (sub_in log) served.parts.subscriptions.items } in s) same

same_tied : (served : Served) (w : Written) → w.log.log ≡ log_of served.parts → IsBound served → All (IsPlacedIn w.log.log served.parts.members.members) served.parts.subscriptions.items
same_tied served w same bound = subst (λ (log : List Entry). All (IsPlacedIn log served.parts.members.members) served.parts.subscriptions.items) (sym same) bound.tied

-- nothing changes but the producers
pub only_producers : (old new : Written) → new.gone ≡ old.gone → new.authors ≡ old.authors → new.retention ≡ old.retention → new.log ≡ old.log → new.numbers ≡ old.numbers → new.durable ≡ old.durable
    → new ≡ record old { producers = new.producers; next_producer = new.next_producer }
only_producers old new gone authors retention log numbers durable =
    ap₂ (λ (g : ℕ) (a : List Author). let w : Written = record new { gone = g; authors = a } in w) gone authors
    ∙ ap₂ (λ (r : Option Retention) (l : Log). let w : Written = record new { gone = old.gone; authors = old.authors; retention = r; log = l } in w) retention log
    ∙ ap₂ (λ (n : Numbers) (d : ℕ). let w : Written = record old { producers = new.producers; next_producer = new.next_producer; numbers = n; durable = d } in w) numbers durable

-- what the machine sees where the log is another, with the same messages
abbrev seen_with : Served → State → Written → State
seen_with served t w = record (written_in w t) { subscriptions = map (sub_in w.log.log) served.parts.subscriptions.items }

-- the producers are others, if anything changes
pub bound_beside : (served : Served) (w : Written) → w ≡ record served.parts.log { producers = w.producers; next_producer = w.next_producer } → IsBound served → IsBound (with_log served w)
bound_beside served w same bound = record {
  numbers = subst (λ (x : Written). AgreesWith (all_of x) x.numbers) (sym same) bound.numbers;
  tied = same_tied served w (ap (λ (x : Written). x.log.log) same) bound;
  told =
      subst (λ (s : State). AreTold served.dispatchers.items s) (sym (ap (seen_with served s) same))
      (told_kept served.dispatchers.items s t bound.told (kept_counters s served.parts.next_ordinal w.next_producer served.parts.members.next w.producers));
}
  where
    s : State
    s = state_in served

    t : State
    t = record s { next_ordinal = served.parts.next_ordinal; next_producer = w.next_producer; next_consumer = served.parts.members.next; producers = w.producers }

-- the rule of what is kept is another
kept_ruled : (s : State) (retention : Option Retention) → AllKept s (record s { retention = retention })
kept_ruled s retention = same_subscriptions s (record s { retention = retention }) refl (omega arith) refl refl

pub ruled : (served : Served) (w : Written) (retention : Option Retention) → w ≡ record served.parts.log { retention = retention } → state_in (with_log served w) ≡ record (state_in served) { retention = retention }
ruled served w retention same = ap (seen_with served (state_in served)) same

pub bound_ruled : (served : Served) (w : Written) (retention : Option Retention) → w ≡ record served.parts.log { retention = retention } → IsBound served → IsBound (with_log served w)
bound_ruled served w retention same bound = record {
  numbers = subst (λ (x : Written). AgreesWith (all_of x) x.numbers) (sym same) bound.numbers;
  tied = same_tied served w (ap (λ (x : Written). x.log.log) same) bound;
  told =
      subst (λ (s : State). AreTold served.dispatchers.items s) (sym (ruled served w retention same))
      (told_kept served.dispatchers.items (state_in served) (record (state_in served) { retention = retention }) bound.told (kept_ruled (state_in served) retention));
}

-- nothing changes that the machine sees
pub as_it_was : (served : Served) (w : Written) → written_in w (state_in served) ≡ state_in served → state_in (with_log served w) ≡ state_in served
as_it_was served w same = same_messages served w (ap (λ (s : State). s.log) same) ∙ same

pub bound_as_it_was : (served : Served) (w : Written) → written_in w (state_in served) ≡ state_in served → AgreesWith (all_of w) w.numbers → IsBound served → IsBound (with_log served w)
bound_as_it_was served w same agrees bound = record {
  numbers = agrees;
  tied = same_tied served w (ap (λ (s : State). s.log) same) bound;
  told = subst (λ (s : State). AreTold served.dispatchers.items s) (sym (as_it_was served w same)) bound.told;
}
