-- A topic's log has one message more.
use Rattle.std.proofs.Common.{◌≡◌, ℕ, ◌+◌, ◌<◌, false, List, [], ◌∷◌, ◌++◌, map, length, Some, All, Contains, get_or, slice_get, refl, ap, ap₂, ◌∙◌, sym, subst, arith}
use Rattle.std.specs.declared.cmp.Ordering.TheVariants.{Less}
use Rattle.std.proofs.lemmas.List.{get_or_default, length-append}
use Rattle.std.proofs.lemmas.List.Elements.{All-contains, All-head, All-tail}
use Rattle.std.proofs.lemmas.Option.{get_or_from_slice_get, slice_get-get_or, slice_get_within}
use Rattle.pending_core.proofs.Elements.{slice_get_push_end, slice_get_push_other}
use Rattle.position_core.specs.declared.position.Position.{Position}
use Rattle.position_core.specs.declared.message.Entry.{Entry}
use Rattle.position_core.specs.Position.{position_cmp}
use Rattle.delivery_machine.specs.State.{State, Member, Subscription}
use Rattle.delivery_machine.specs.Words.{is_dead}
use Rattle.delivery_machine.specs.WellFormed.{IsWellFormed, IsWellFormedIn}
use Rattle.delivery_machine.specs.Producing.{with_message}
use Rattle.delivery_machine.specs.Run.{Answers}
use Rattle.delivery_machine.specs.declared.event.Event.{Event}
use Rattle.delivery_machine.specs.declared.reply.Reply.TheVariants.{Published}
use Rattle.dedup_core.specs.Sequences.{AgreesWith}
use Rattle.topic_log.specs.Written.{all_of, Written, written_in}
use Rattle.topic_subscriptions.specs.Placed.{IsPlacedIn, IsRising, Placed, sub_in}
use Rattle.topic_subscriptions.proofs.Grown.{grown_in, grown_placed, new_is_alive}
use Rattle.topic_subscriptions.proofs.Links.{earlier}
use Rattle.topic_served.specs.Told.{AreTold}
use Rattle.topic_served.proofs.Appending.{IsOfLog, told_message, well_of_log}
use Rattle.topic_parts.specs.Parts.{log_of}
use Rattle.topic_parts.proofs.Sought.{formed_at}
use Rattle.topic_served.specs.Served.{IsBound, IsSettled, state_in}
use Rattle.topic_served.specs.declared.served.Served.{Served}
use Rattle.topic_served.proofs.Settled.{well_of}
use Rattle.log_events.proofs.SameLog.{with_log}

-- each message of the log stands before it
before_last : (log : List Entry) (e : Entry) → IsRising (log ++ e ∷ []) → (x : Entry) → Contains log x → position_cmp x.position e.position ≡ Less
before_last log e rising x at =
    earlier (log ++ e ∷ []) at.0 (length log) x e rising at.1
    (slice_get_push_other log e at.0 (λ is. absurd (omega (arith, is, at.1))) ∙ slice_get-get_or log at.0 x at.1 ∙ ap (λ (y : Entry). Some y) at.2)
    (slice_get_push_end log e)

-- the subscriptions are the same to the machine
all_grown : (log : List Entry) (e : Entry) (ms : List Member) (ps : List Placed) → All (IsPlacedIn log ms) ps → map (sub_in (log ++ e ∷ [])) ps ≡ map (sub_in log) ps
all_grown log e ms [] placed = refl
all_grown log e ms (p ∷ ps) placed =
    ap₂ (λ (s : Subscription) (ss : List Subscription). s ∷ ss)
    (grown_in log e ms p (All-head (IsPlacedIn log ms) p ps placed))
    (all_grown log e ms ps (All-tail (IsPlacedIn log ms) p ps placed))

module _ (served : Served) (w : Written) (e : Entry) (settled : IsSettled served) (is : written_in w (state_in served) ≡ with_message (state_in served) e) where
  log_is : w.log.log ≡ log_of served.parts ++ e ∷ []
  log_is = ap (λ (s : State). s.log) is

  well : IsWellFormed (state_in served)
  well = well_of (state_in served) settled.reached

  pub grown : state_in (with_log served w) ≡ with_message (state_in served) e
  grown =
      ap (λ (log : List Entry). let s : State = record (written_in w (state_in served)) { subscriptions = map (sub_in log) served.parts.subscriptions.items } in s) log_is
      ∙ ap (λ (ss : List Subscription). let s : State = record (written_in w (state_in served)) { subscriptions = ss } in s) (all_grown (log_of served.parts) e served.parts.members.members served.parts.subscriptions.items settled.bound.tied)
      ∙ is

  of_log : (k : ℕ) (sub : Subscription) → slice_get (state_in served).subscriptions k ≡ Some sub → IsOfLog (log_of served.parts) sub
  of_log k sub at =
      well_of_log (state_in served) sub
      (All-contains (IsWellFormedIn (state_in served)) (state_in served).subscriptions sub well.subscriptions
      (k, slice_get_within (state_in served).subscriptions k sub at, get_or_from_slice_get (state_in served).subscriptions k sub sub at))

  pub bound_grown : IsRising w.log.log → AgreesWith (all_of w) w.numbers → IsBound (with_log served w)
  bound_grown rises agrees = record {
    numbers = agrees;
    tied = subst (λ (log : List Entry). All (IsPlacedIn log served.parts.members.members) served.parts.subscriptions.items) (sym log_is) tied;
    told =
        subst (λ (s : State). AreTold served.dispatchers.items s) (sym grown)
        (told_message (state_in served) e (before_last (log_of served.parts) e rising) served.dispatchers.items of_log settled.bound.told);
  }
    where
      rising : IsRising (log_of served.parts ++ e ∷ [])
      rising = subst (λ (log : List Entry). IsRising log) log_is rises

      alive : (k : ℕ) (d : Placed) → k < length served.parts.subscriptions.items → is_dead (sub_in (log_of served.parts) (get_or served.parts.subscriptions.items k d)) e.position ≡ false
      alive k d lt =
          let p = get_or served.parts.subscriptions.items k d in
          new_is_alive (log_of served.parts) e p.letters.dead rising (formed_at served.parts k p well lt (get_or_default served.parts.subscriptions.items k d p lt)).dead.messages

      tied : All (IsPlacedIn (log_of served.parts ++ e ∷ []) served.parts.members.members) served.parts.subscriptions.items
      tied = λ k d lt. grown_placed (log_of served.parts) e served.parts.members.members (get_or served.parts.subscriptions.items k d) rising (alive k d lt) (settled.bound.tied k d lt)

  -- the answer, as it is given
  pub published : (event : Event) (position : Position) (count : ℕ) → position ≡ e.position → count ≡ w.gone + length w.log.log → Answers (state_in served) event (Published e.position (served.parts.log.gone + length (log_of served.parts) + 1)) (with_message (state_in served) e)
      → Answers (state_in served) event (Published position count) (state_in (with_log served w))
  published event position count here many answers =
      subst (λ (q : Position). Answers (state_in served) event (Published q count) (state_in (with_log served w))) (sym here)
      (subst (λ (n : ℕ). Answers (state_in served) event (Published e.position n) (state_in (with_log served w))) (sym many_more)
      (subst (λ (s : State). Answers (state_in served) event (Published e.position (served.parts.log.gone + length (log_of served.parts) + 1)) s) (sym grown) answers))
    where
      many_more : count ≡ served.parts.log.gone + length (log_of served.parts) + 1
      many_more = omega (arith, many, ap (λ (s : State). s.gone) is, ap length log_is ∙ length-append (log_of served.parts) (e ∷ []))
