use Rattle.std.proofs.Common.{◌≡◌, ◌∙◌, ℕ, List, Some, Option, [], ap, false, get_or, sym}
use Rattle.std.specs.List.{position}
use Rattle.std.specs.Option.{option_map_or}
use Rattle.std.proofs.lemmas.Option.{same_Some}
use Rattle.std.proofs.lemmas.Result.{on_ok_weaker}
use Rattle.position_core.specs.declared.ranges.HashRange.{HashRange}
use Rattle.position_core.specs.declared.kind.Kind.{Kind}
use Rattle.position_core.specs.declared.topic_name.TopicName.{TopicName}
use Rattle.position_core.specs.Kind.{same_kind}
use Rattle.delivery_machine.specs.State.{Subscription}
use Rattle.delivery_machine.specs.Words.{members_of}
use Rattle.delivery_machine.proofs.Kept.{kinds_agree}
use Rattle.topic_members.specs.Members.{joining}
use Rattle.topic_members.specs.declared.member.Terms.{Terms}
use Rattle.topic_subscriptions.specs.Placed.{Placed, is_placed}
use Rattle.topic_parts.specs.declared.parts.Parts.{Parts}
use Rattle.topic_parts.specs.Parts.{log_of, state_of}
use Rattle.topic_parts.proofs.Changing.{named_sub}
use Rattle.topic_served.specs.declared.served.Served.{Served}
use Rattle.member_events.specs.Entering.{HasNoShares, IsWelcome}
use Rattle.member_events.proofs.Newcomer.{entered_kinded, entered_of_kind}
use Rattle.member_events.proofs.Standing.{its_name, one_there}
use Rattle.member_events.proofs.Welcome.{asks_well, may_enter, nobody_there, unshared_there, well}
use Rattle.member_events.proofs.subscribing.enter_as.Goals as goal

module _ (c : Served) (place : ℕ) (name : List ℕ) (kind : Kind) (terms : Terms) (dead_topic : TopicName) (ranges : Option (List HashRange)) (x : Placed) (named : Some place ≡ position (is_placed name) c.parts.subscriptions.items) (at : x ≡ get_or c.parts.subscriptions.items place x)
    (welcome : IsWelcome c name kind terms dead_topic ranges) (other : same_kind x.kind kind ≡ false) where
  abbrev t : Parts
  t = c.parts

  nobody : members_of (state_of t) name ≡ []
  nobody =
      nobody_there (state_of t) name kind terms dead_topic ranges welcome.allowed
      (ap (λ (o : Option Subscription). option_map_or (λ sub. same_kind sub.kind kind) o false) (named_sub (log_of t) t.subscriptions.items name place named x at) ∙ other)

  none_shared : HasNoShares t place
  none_shared p at_p =
      let name_is = ap (λ (q : Placed). q.name) (same_Some p x (at_p ∙ sym (one_there t.subscriptions.items name place x named at))) ∙ its_name t.subscriptions.items name place x named at in
      unshared_there t place p (well c name kind terms dead_topic ranges welcome) at_p (ap (λ (n : List ℕ). members_of (state_of t) n) name_is ∙ nobody)

pub enter-requires-clause-may : goal.enter-requires-clause-may
enter-requires-clause-may c = may_enter c.args.served.now c.args.name c.args.kind c.args.terms c.args.dead_topic c.args.ranges.now c.requires.welcome c.args.place c.requires.named

pub enter-requires-clause-free : goal.enter-requires-clause-free
enter-requires-clause-free c =
    asks_well c.args.served.now c.args.name c.args.kind c.args.terms c.args.dead_topic c.args.ranges.now c.requires.welcome c.args.place c.index.result.now c.requires.named c.index.ensures
    (kinds_agree c.index.result.now.kind c.args.kind (sym (c.is.ensures ∙ ap (λ (k : Kind). same_kind k c.args.kind) c.kind-present.ensures) ∙ c.if-is.true))

pub enter_anew-requires-clause-bound : goal.enter_anew-requires-clause-bound
enter_anew-requires-clause-bound c = c.requires.welcome.settled.bound

pub enter_anew-requires-clause-may : goal.enter_anew-requires-clause-may
enter_anew-requires-clause-may c = may_enter c.args.served.now c.args.name c.args.kind c.args.terms c.args.dead_topic c.args.ranges.now c.requires.welcome c.args.place c.requires.named

pub enter_anew-requires-clause-nobody : goal.enter_anew-requires-clause-nobody
enter_anew-requires-clause-nobody c = nobody c.args.served.now c.args.place c.args.name c.args.kind c.args.terms c.args.dead_topic c.args.ranges.now c.index.result.now c.requires.named c.index.ensures c.requires.welcome (sym (c.is.ensures ∙ ap (λ (k : Kind). same_kind k c.args.kind) c.kind-present.ensures) ∙ c.if-is.false)

pub enter_anew-requires-clause-unshared : goal.enter_anew-requires-clause-unshared
enter_anew-requires-clause-unshared c = none_shared c.args.served.now c.args.place c.args.name c.args.kind c.args.terms c.args.dead_topic c.args.ranges.now c.index.result.now c.requires.named c.index.ensures c.requires.welcome (sym (c.is.ensures ∙ ap (λ (k : Kind). same_kind k c.args.kind) c.kind-present.ensures) ∙ c.if-is.false)

pub returns-then-is-clause-ok : goal.returns-then-is-clause-ok
returns-then-is-clause-ok c =
    let t = c.args.served.now.parts in
    let x = c.index.result.now in
    let same = sym (c.is.ensures ∙ ap (λ (k : Kind). same_kind k c.args.kind) c.kind-present.ensures) ∙ c.if-is.true in
    on_ok_weaker c.enter.result (λ is initial. is ∙ entered_of_kind t c.args.place (joining t.members.next c.args.name c.args.terms c.args.dead_topic) x c.args.kind c.args.ranges.now initial c.requires.named c.index.ensures (kinds_agree x.kind c.args.kind same)) c.enter.ensures.ok

pub returns-clause-ok : goal.returns-clause-ok
returns-clause-ok c =
    let t = c.args.served.now.parts in
    on_ok_weaker c.enter_anew.result (λ is initial. is ∙ entered_kinded t c.args.place (joining t.members.next c.args.name c.args.terms c.args.dead_topic) c.index.result.now c.args.kind c.args.ranges.now initial c.requires.named c.index.ensures) c.enter_anew.ensures.ok
