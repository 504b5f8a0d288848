use Rattle.std.proofs.Common.{◌≡◌, ℕ, ◌+◌, List, length, ap, ap₂, ◌∙◌}
use Rattle.std.specs.List.{filter}
use Rattle.position_core.specs.declared.topic_name.TopicName.{TopicName}
use Rattle.position_core.specs.declared.message.Entry.{Entry}
use Rattle.log_pieces.specs.Pieces.{joined}
use Rattle.delivery_machine.specs.Trimming.{with_authors}
use Rattle.topic_lives.specs.Deleting.{moves_letters}
use Rattle.topic_lives.proofs.Left.{is_left, may_go_on}
use Rattle.topic_lives.proofs.deleting.emptied.Goals as goal

same_name : (a b : TopicName) → (a.tenant ≡ b.tenant) × ((a.namespace ≡ b.namespace) × (a.topic ≡ b.topic)) → a ≡ b
same_name a b same =
    ap (λ (t : List ℕ). record { tenant = t; namespace = a.namespace; topic = a.topic }) same.0
    ∙ ap₂ (λ (n t : List ℕ). record { tenant = b.tenant; namespace = n; topic = t }) same.1.0 same.1.1

pub of-requires : goal.of-requires
of-requires c =
    let kept = c.args.kept.now in
    let named : c.in_ok-name.name ≡ kept.name = same_name c.in_ok-name.name c.name.result.now c.in_ok-name.ensures.cases ∙ c.name.ensures in
    let sized : c.ledger_size.result ≡ kept.ledger_size = c.ledger_size.ensures in
    let opened : c.ledger.result ≡ kept.ledger = c.ledger.ensures in
    let next : c.next_ordinal.result ≡ kept.next_ordinal = c.next_ordinal.ensures in
    let long : c.count.result ≡ length kept.log = c.count.ensures ∙ ap (λ (log : List Entry). length log) c.log-2.ensures.value in
    let gone : c.gone-2.result + c.count.result ≡ kept.gone + length kept.log = ap₂ (λ (a b : ℕ). a + b) c.gone-2.ensures long in
    let who : c.in_ok-authors.authors.items ≡ filter moves_letters (with_authors kept.gone kept.log kept.authors) =
    let a = c.in_ok-authors.ensures in let g = c.gone.ensures in let l = c.log.ensures.value in let w = c.authors.ensures in cc in
    may_go_on kept _ c.log.ensures.restarts c.requires.count
    (is_left kept c.in_ok-name.name c.ledger_size.result c.ledger.result c.next_ordinal.result (c.gone-2.result + c.count.result) c.in_ok-authors.authors.items (joined c.new.result) c.new-2.result.items
    named sized opened next gone who c.new.ensures c.new-2.ensures.items) c.new-2.ensures.items
