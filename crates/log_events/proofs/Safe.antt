-- A topic's messages are stored, and deaths.
use Rattle.std.proofs.Common.{◌≡◌, ℕ, ◌-◌, ◌≤◌, List, [], ◌∷◌, map, length, All, get_or, refl, ap, ap₂, ◌∙◌, sym, subst}
use Rattle.std.specs.Prelude.{min, max}
use Rattle.std.specs.Vec.{with_items}
use Rattle.std.proofs.lemmas.List.{length-map, with_items_is}
use Rattle.std.proofs.lemmas.List.Elements.{All-map}
use Rattle.position_core.specs.declared.message.Entry.{Entry}
use Rattle.delivery_machine.specs.State.{State, Subscription}
use Rattle.delivery_machine.specs.Producing.{stored, stored_to, storing, storing_below}
use Rattle.dedup_core.specs.Sequences.{AgreesWith}
use Rattle.topic_served.specs.Told.{AreTold}
use Rattle.topic_served.specs.declared.dispatch.Dispatch.{Dispatch}
use Rattle.topic_served.proofs.Agreed.{told_kept}
use Rattle.topic_served.proofs.Quiet.{kept_stored, kept_stored_to}
use Rattle.topic_log.specs.Written.{all_of, Written}
use Rattle.topic_subscriptions.specs.Placed.{IsPlacedIn, Placed, all_safe_in, safe_below_in, sub_in}
use Rattle.topic_subscriptions.proofs.Changes.{stored_below_in, stored_below_placed, stored_in, stored_placed}
use Rattle.topic_parts.specs.Parts.{AreTied, log_of, state_of}
use Rattle.topic_parts.specs.declared.parts.Parts.{Parts}

-- what is done with each of the subscriptions
each_changed : (log : List Entry) (f : Placed → Placed) (g : Subscription → Subscription) (ps : List Placed) → ((p : Placed) → sub_in log (f p) ≡ g (sub_in log p)) → map (sub_in log) (map f ps) ≡ map g (map (sub_in log) ps)
each_changed log f g [] is = refl
each_changed log f g (p ∷ ps) is = ap₂ (λ (s : Subscription) (ss : List Subscription). s ∷ ss) (is p) (each_changed log f g ps is)

-- so many messages are stored, and each subscription is changed as the first word says, which is the second one for the machine
pub record IsStored (durable : ℕ) (f : Placed → Placed) (old new : Parts) : Type 0 where
  pub rest : new ≡ record old { log = new.log; subscriptions = new.subscriptions }
  pub log : new.log ≡ record old.log { durable = durable }
  pub subscriptions : new.subscriptions.items ≡ map f old.subscriptions.items

abbrev pub with_stored : Parts → Written → List Placed → Parts
with_stored old w ps = record old { log = w; subscriptions = with_items old.subscriptions ps }

pub is_stored : (durable : ℕ) (f : Placed → Placed) (old : Parts) (w : Written) (ps : List Placed) → w ≡ record old.log { durable = durable } → ps ≡ map f old.subscriptions.items → IsStored durable f old (with_stored old w ps)
is_stored durable f old w ps log is = record {
  rest = refl;
  log = log;
  subscriptions = with_items_is old.subscriptions ps (ap length is ∙ length-map old.subscriptions.items f ∙ sym old.subscriptions.ok.0) ∙ is;
}

module _ (durable : ℕ) (f : Placed → Placed) (g : Subscription → Subscription) (old new : Parts) (is : IsStored durable f old new) where
  state_is : ((p : Placed) → sub_in (log_of old) (f p) ≡ g (sub_in (log_of old) p)) → state_of new ≡ record (state_of old) { durable = durable; subscriptions = map g (state_of old).subscriptions }
  state_is machine =
      ap state_of is.rest
      ∙ ap₂ (λ (w : Written) (ps : List Placed). let s : State = record (state_of old) {
        ledger_size = w.log.ledger_size;
        ledger = w.log.ledger;
        next_producer = w.next_producer;
        gone = w.gone;
        authors = w.authors;
        retention = w.retention;
        log = w.log.log;
        durable = w.durable;
        producers = w.producers;
        subscriptions = map (sub_in w.log.log) ps;
      } in s) is.log is.subscriptions
      ∙ ap (λ (ss : List Subscription). let s : State = record (state_of old) { durable = durable; subscriptions = ss } in s) (each_changed (log_of old) f g old.subscriptions.items machine)

  tied_is : ((p : Placed) → IsPlacedIn (log_of old) old.members.members p → IsPlacedIn (log_of old) old.members.members (f p)) → AreTied old → AreTied new
  tied_is placed tied =
      subst (λ (t : Parts). AreTied t) (sym is.rest)
      (subst (λ (w : Written). All (IsPlacedIn w.log.log old.members.members) new.subscriptions.items) (sym is.log)
      (subst (λ (ps : List Placed). All (IsPlacedIn (log_of old) old.members.members) ps) (sym is.subscriptions)
      (All-map (IsPlacedIn (log_of old) old.members.members) f old.subscriptions.items (λ k d lt. placed (get_or old.subscriptions.items k d) (tied k d lt)))))

-- the numbers are the same
pub numbers_stay : (old new : Written) (durable : ℕ) → new ≡ record old { durable = durable } → AgreesWith (all_of old) old.numbers → AgreesWith (all_of new) new.numbers
numbers_stay old new durable is agrees = subst (λ (w : Written). AgreesWith (all_of w) w.numbers) (sym is) agrees

module _ (old new : Parts) (is : IsStored (length (log_of old)) all_safe_in old new) where
  pub all_stored : state_of new ≡ stored (state_of old)
  all_stored = state_is (length (log_of old)) all_safe_in storing old new is (stored_in (log_of old))

  pub tied_stored : AreTied old → AreTied new
  tied_stored tied = tied_is (length (log_of old)) all_safe_in storing old new is (stored_placed (log_of old) old.members.members) tied

  pub told_stored : (ds : List Dispatch) → old.log.durable ≤ length (log_of old) → AreTold ds (state_of old) → AreTold ds (state_of new)
  told_stored ds within told =
      subst (λ (s : State). AreTold ds s) (sym all_stored) (told_kept ds (state_of old) (stored (state_of old)) told (kept_stored (state_of old) within))

module _ (old new : Parts) (count ordinal : ℕ) (is : IsStored (max old.log.durable (min (count - old.log.gone) (length (log_of old)))) (safe_below_in ordinal) old new) where
  pub first_stored : state_of new ≡ stored_to (state_of old) count ordinal
  first_stored = state_is (max old.log.durable (min (count - old.log.gone) (length (log_of old)))) (safe_below_in ordinal) (storing_below ordinal) old new is (λ p. stored_below_in (log_of old) p ordinal)

  pub tied_stored_to : AreTied old → AreTied new
  tied_stored_to tied =
      tied_is (max old.log.durable (min (count - old.log.gone) (length (log_of old)))) (safe_below_in ordinal) (storing_below ordinal) old new is (λ p placed. stored_below_placed (log_of old) old.members.members p ordinal placed) tied

  pub told_stored_to : (ds : List Dispatch) → AreTold ds (state_of old) → AreTold ds (state_of new)
  told_stored_to ds told =
      subst (λ (s : State). AreTold ds s) (sym first_stored) (told_kept ds (state_of old) (stored_to (state_of old) count ordinal) told (kept_stored_to (state_of old) count ordinal))
