use Rattle.std.proofs.Common.{◌≡◌, ℕ, List, Some, Option, sym, subst}
use Rattle.std.specs.Prelude.{IsSomeAnd}
use Rattle.std.specs.List.{find}
use Rattle.position_core.specs.declared.kind.Kind.{Kind}
use Rattle.position_core.specs.declared.kind.Kind.TheVariants.{KeyShared}
use Rattle.delivery_machine.specs.State.{State, Subscription}
use Rattle.delivery_machine.specs.Words.{is_named, ChoosesBy}
use Rattle.delivery_machine.specs.Delivering.{Dispatches}
use Rattle.delivery_machine.specs.Laws.{SendsFirstOfHash}
use Rattle.delivery_machine.specs.declared.reply.Reply.TheVariants.{Sent}
use Rattle.machine_laws.proofs.ReachedKept.{reached_kept}
use Rattle.machine_laws.proofs.laws.l4.Goals as goal

sends_first : (t : State) (name : List ℕ) (sub : Subscription) → find (is_named name) t.subscriptions ≡ Some sub → sub.kind ≡ KeyShared → SendsFirstOfHash t name sub
sends_first t name sub found is now consumer count position u answer =
    let sent : Dispatches t name now sub (Sent consumer position count) u = subst (λ (o : Option Subscription). IsSomeAnd o (λ z. Dispatches t name now z (Sent consumer position count) u)) found answer.1 in
    let choice : ChoosesBy KeyShared t sub sent.0 sent.1 = subst (λ (k : Kind). ChoosesBy k t sub sent.0 sent.1) is sent.2.1 in
    (sent.0, sym sent.4, choice.0)

pub returns : goal.returns
returns c s events replies t begins run name sub found is =
    (((reached_kept s events replies t begins run).tended.first name sub found).one_hash is, sends_first t name sub found is)
