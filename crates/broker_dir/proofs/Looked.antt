-- Looking at a topic leaves it as it is, and what it tells is so of its state.
use Rattle.std.proofs.Common.{◌≡◌, ◌⊎◌, inl, inr, ℕ, zero, suc, Bool, true, false, List, [], ◌∷◌, ◌++◌, Option, Some, None, Result, Ok, Err, IsSomeAnd, if◌then◌else◌, subst, sym, arith}
use Rattle.std.proofs.lemmas.List.Elements.{All-append}
use Rattle.std.specs.Prelude.{All}
use Rattle.std.specs.List.{find}
use Rattle.std.specs.String.{string_bytes}
use Rattle.position_core.specs.declared.fault.Fault.{Fault}
use Rattle.delivery_machine.specs.State.{State, Subscription}
use Rattle.delivery_machine.specs.Words.{is_named}
use Rattle.delivery_machine.specs.Statistics.{ShowsStatistics}
use Rattle.delivery_machine.specs.Run.{Step}
use Rattle.delivery_machine.specs.declared.event.Event.TheVariants.{Progress, Stats}
use Rattle.delivery_machine.specs.declared.reply.Reply.{Reply}
use Rattle.delivery_machine.specs.declared.reply.Reply.TheVariants.{Refused}
use Rattle.status_pages.specs.declared.seen.SubscriptionSeen.{SubscriptionSeen}
use Rattle.broker_dir.specs.Handing.{HandsOn}
use Rattle.broker_dir.specs.Seeing.{ShowsReply, ShowsSubscription}

pub progress_same : (s t : State) (r : Result Reply Fault) → HandsOn s Progress r t → t ≡ s
progress_same s t (Ok (Refused fault)) step = step.1
progress_same s t (Ok reply) step = step.1.1
progress_same s t (Err fault) same = same

some_same : (s t : State) (name : List ℕ) (reply : Reply) (o : Option Subscription) → IsSomeAnd o (λ sub. ShowsStatistics s name sub reply t) → t ≡ s
some_same s t name reply None h = absurd h
some_same s t name reply (Some sub) h = h.1

pub stats_same : (s t : State) (name : List ℕ) (r : Result Reply Fault) → HandsOn s (Stats name) r t → t ≡ s
stats_same s t name (Ok (Refused fault)) step = step.1
stats_same s t name (Ok reply) step = some_same s t name reply (find (is_named name) s.subscriptions) step.1
stats_same s t name (Err fault) same = same

-- what is told of the name is told of the subscription that is shown
pub told_of : (s t : State) (name : List ℕ) (reply : Reply) (seen : SubscriptionSeen) → Step s (Stats name) reply t → t ≡ s → string_bytes seen.name ≡ name → ShowsReply reply seen
    → ShowsSubscription s seen
told_of s t name reply seen step same is shows = record {
  reply = reply;
  told = subst (λ (n : List ℕ). Step s (Stats n) reply s) (sym is) (subst (λ (u : State). Step s (Stats name) reply u) same step);
  shows = shows;
}

-- a list with one more, where there was room for it
pub all_pushed : {X : Type 0} (P : X → Type 0) (ok : Bool) (xs ys : List X) (x : X) → ys ≡ (if ok then xs ++ x ∷ [] else xs) → P x → All P xs → All P ys
all_pushed {X} P true xs ys x is here all = subst (All P) (sym is) (All-append P xs (x ∷ []) all one)
  where
    one : All P (x ∷ [])
    one zero d less = here
    one (suc n) d less = absurd (omega (arith, less))
all_pushed P false xs ys x is here all = subst (All P) (sym is) all

-- what a further look shows is so of the state before all looks, which none of them changed
pub shown_on : (s t : State) (xs ys zs : List SubscriptionSeen) → t ≡ s → (All (ShowsSubscription s) xs → All (ShowsSubscription s) ys)
    → (All (ShowsSubscription t) ys → All (ShowsSubscription t) zs) → All (ShowsSubscription s) xs → All (ShowsSubscription s) zs
shown_on s t xs ys zs same earlier later all =
    subst (λ (u : State). All (ShowsSubscription u) zs) same (later (subst (λ (u : State). All (ShowsSubscription u) ys) (sym same) (earlier all)))

-- those of the one kind, and behind them those of the other, are all of one of both
pub each_of_both : {A : Type 0} (P Q : A → Type 0) (xs ys : List A) → All P xs → All Q ys → All (λ x. P x ⊎ Q x) (xs ++ ys)
each_of_both P Q xs ys one other = All-append (λ x. P x ⊎ Q x) xs ys (λ k d lt. inl (one k d lt)) (λ k d lt. inr (other k d lt))
