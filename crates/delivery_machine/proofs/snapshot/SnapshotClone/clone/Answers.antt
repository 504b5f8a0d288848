use Rattle.std.proofs.Common.{◌≡◌, ℕ, List, Option, ◌∙◌, ap, ap₂, sym, subst}
use Rattle.std.proofs.lemmas.List.Elements.{same_from_all_zip}
use Rattle.position_core.specs.declared.topic_name.TopicName.{TopicName}
use Rattle.log_pieces.specs.Pieces.{Parts, joined}
use Rattle.delivery_machine.specs.State.{Author}
use Rattle.delivery_machine.specs.declared.retention.Retention.{Retention}
use Rattle.delivery_machine.specs.Places.{KeptPlaces, KeptTopic, MayRestart}
use Rattle.delivery_machine.proofs.snapshot.SnapshotClone.clone.Goals as goal

abbrev kept : TopicName → ℕ → ℕ → ℕ → ℕ → List Author → Option Retention → Parts → List KeptPlaces → KeptTopic
kept name ledger_size ledger next gone authors retention log subs = record { name = name; ledger_size = ledger_size; ledger = ledger; next_ordinal = next; gone = gone; authors = authors; retention = retention; log = joined log; subscriptions = subs }

same_name : (m n : TopicName) → m.tenant ≡ n.tenant → m.namespace ≡ n.namespace → m.topic ≡ n.topic → m ≡ n
same_name m n tenant namespace topic =
    ap₂ (λ t s. record { tenant = t; namespace = s; topic = m.topic }) tenant namespace
    ∙ ap (λ t. record { tenant = n.tenant; namespace = n.namespace; topic = t }) topic

copied : (m n : TopicName) (ledger_size ledger next gone : ℕ) (old new : List Author) (retention : Option Retention) (p q : Parts) (xs ys : List KeptPlaces) → m ≡ n → old ≡ new → p ≡ q → xs ≡ ys → kept m ledger_size ledger next gone old retention p xs ≡ kept n ledger_size ledger next gone new retention q ys
copied m n ledger_size ledger next gone old new retention p q xs ys name authors log subs =
    ap₂ (λ k r. kept k ledger_size ledger next gone old retention r xs) name log ∙ ap₂ (λ zs cs. kept n ledger_size ledger next gone cs retention q zs) subs authors

pub invariant_of-result : goal.invariant_of-result
invariant_of-result c =
    let i = c.self.inside in
    let part = c.in_ok-name.ensures.cases in
    let name = same_name c.in_ok-name.name i.name part.0 part.1.0 part.1.1 in
    let authors = same_from_all_zip _ i.authors.items c.in_ok-authors.authors.items c.in_ok-authors.ensures.cases.0 (λ x y is. is) in
    let subs = same_from_all_zip _ i.subscriptions.items c.in_ok-subscriptions.subscriptions.items c.in_ok-subscriptions.ensures.cases.0 (λ x y is. is) in
    let is = copied c.in_ok-name.name i.name i.ledger_size i.ledger i.next_ordinal i.gone c.in_ok-authors.authors.items i.authors.items i.retention c.in_ok-log.log i.log c.in_ok-subscriptions.subscriptions.items i.subscriptions.items name authors c.in_ok-log.ensures.cases subs in
    subst (λ (k : KeptTopic). MayRestart k) (sym is) c.self.invariant

pub returns : goal.returns
returns c =
    let i = c.self.inside in
    let part = c.in_ok-name.ensures.cases in
    let name = same_name c.in_ok-name.name i.name part.0 part.1.0 part.1.1 in
    let authors = same_from_all_zip _ i.authors.items c.in_ok-authors.authors.items c.in_ok-authors.ensures.cases.0 (λ x y is. is) in
    let subs = same_from_all_zip _ i.subscriptions.items c.in_ok-subscriptions.subscriptions.items c.in_ok-subscriptions.ensures.cases.0 (λ x y is. is) in
    record {
      cases = copied c.in_ok-name.name i.name i.ledger_size i.ledger i.next_ordinal i.gone c.in_ok-authors.authors.items i.authors.items i.retention c.in_ok-log.log i.log c.in_ok-subscriptions.subscriptions.items i.subscriptions.items name authors c.in_ok-log.ensures.cases subs ∙ c.self.view_is;
    }
