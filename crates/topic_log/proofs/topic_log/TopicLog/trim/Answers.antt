use Rattle.std.proofs.Common.{◌≡◌, ℕ, ◌+◌, ◌-◌, List, [], length, refl, ap, ap₂, sym, subst, ◌∙◌, arith}
use Rattle.std.proofs.lemmas.Bool.Decides.{nat_tests}
use Rattle.delivery_machine.specs.State.{Author}
use Rattle.delivery_machine.specs.Trimming.{with_authors}
use Rattle.delivery_machine.specs.WellFormed.{AreAuthors}
use Rattle.entry_log.specs.Log.{without_first}
use Rattle.dedup_core.specs.Sequences.{Numbers, AgreesWith}
use Rattle.topic_log.specs.Written.{IsKept, Written}
use Rattle.topic_log.specs.Trimming.{Remembered, without_names}
use Rattle.topic_log.proofs.Forgetting.{agrees_trimmed, kept_trimmed, kept_anew, same_kept, empty_is}
use Rattle.topic_log.proofs.topic_log.TopicLog.trim.Goals as goal
use Rattle.topic_log.proofs.topic_log.TopicLog.trim.Goals.{After-drop-self-inside, then-not-is_empty, else-not-is_empty}

-- whether names are forgotten or not, the rest is as it was
seen : (c : goal.After-drop-self-inside) → ◌≡◌ {A = Written} (record {
  gone = c.if-not-is_empty.self-inside.gone;
  authors = c.if-not-is_empty.self-inside.authors.items;
  retention = c.if-not-is_empty.self-inside.retention;
  log = c.if-not-is_empty.self-inside.entries;
  numbers = c.if-not-is_empty.self-inside.sequences;
  durable = c.if-not-is_empty.self-inside.durable;
  producers = c.if-not-is_empty.self-inside.producers.items;
  next_producer = c.if-not-is_empty.self-inside.next_producer;
}) c.args.self.now
seen c = elim c.if-not-is_empty.branch [
  | then-not-is_empty w ↦ rw w.self-inside-is c.self.view_is
  | else-not-is_empty w ↦ rw w.self-inside-is c.self.view_is
]

are : (c : goal.After-drop-self-inside) → AreAuthors c.args.self.now.gone c.args.self.now.authors
are c = subst (λ (u : Written). AreAuthors u.gone u.authors) c.self.view_is c.self.invariant.remembered

left : (c : goal.After-drop-self-inside) → c.drop_front.new.self ≡ without_first c.args.count c.args.self.now.log
left c = c.drop_front.ensures.value ∙ ap (λ (u : Written). without_first c.args.count u.log) (seen c)

pub invariant_of-self : goal.invariant_of-self
invariant_of-self c =
    let now = c.args.self.now in
    let n = c.args.count in
    let r = c.args.remembered in
    let gone = ap (λ (u : Written). u.gone + n) (seen c) in
    let authors = ap (λ (x : Remembered). x.authors) c.remembered.view_is in
    let durable = ap (λ (u : Written). u.durable - n) (seen c) in
    let kept : IsKept now.gone now.authors now.log.log now.durable c.self.inside.first_auto c.self.inside.gaps.items =
    subst (λ (u : Written). IsKept u.gone u.authors u.log.log u.durable c.self.inside.first_auto c.self.inside.gaps.items) c.self.view_is c.self.invariant in
    elim c.if-not-is_empty.branch [
      | then-not-is_empty w ↦
          let first : c.if-not-is_empty.self-inside.first_auto ≡ 0 = rw w.self-inside-is refl in
          let gaps : c.if-not-is_empty.self-inside.gaps.items ≡ [] = rw w.self-inside-is w.clear.ensures.items in
          same_kept (now.gone + n) _ r.authors _ c.drop_front.new.self.log (now.durable - n) _ 0 _ [] _ gone authors durable first gaps
          (kept_anew now n r (are c) c.requires.within c.requires.remembered now.durable [] c.drop_front.new.self kept.stored c.requires.room (left c) refl)
      | else-not-is_empty w ↦
          let first : c.if-not-is_empty.self-inside.first_auto ≡ c.self.inside.first_auto = rw w.self-inside-is refl in
          let gaps : c.if-not-is_empty.self-inside.gaps.items ≡ c.self.inside.gaps.items = rw w.self-inside-is refl in
          let test = w.if-not-is_empty.false in
          let none : length c.remembered.inside.forgotten.items ≡ 0 = grind (arith, nat_tests, c.is_empty.ensures) in
          same_kept (now.gone + n) _ r.authors _ c.drop_front.new.self.log (now.durable - n) _ c.self.inside.first_auto _ c.self.inside.gaps.items _ gone authors durable first gaps
          (kept_trimmed now n r (are c) c.requires.within c.requires.remembered now.durable c.self.inside.first_auto c.self.inside.gaps.items c.drop_front.new.self kept c.requires.room (left c)
          (sym (ap (λ (x : Remembered). x.forgotten) c.remembered.view_is) ∙ empty_is c.remembered.inside.forgotten.items none))
    ]

pub returns-clause-agrees : goal.returns-clause-agrees
returns-clause-agrees c =
    let now = c.args.self.now in
    let n = c.args.count in
    let r = c.args.remembered in
    let new = c.forget_all.new.sequences in
    let log = c.drop_front.new.self in
    let without : new ≡ without_names r.forgotten now.numbers =
    c.forget_all.ensures ∙ ap₂ (λ (names : List (List ℕ)) (m : Numbers). without_names names m) (ap (λ (x : Remembered). x.forgotten) c.remembered.view_is) (ap (λ (u : Written). u.numbers) (seen c)) in
    let agree : AgreesWith (with_authors (now.gone + n) log.log r.authors) new = agrees_trimmed now n r (are c) c.requires.within c.requires.remembered new log c.requires.agrees (left c) without in
    subst (λ (k : ℕ). AgreesWith (with_authors (k + n) log.log c.remembered.inside.authors.items) new) (sym (ap (λ (u : Written). u.gone) (seen c)))
    (subst (λ (xs : List Author). AgreesWith (with_authors (now.gone + n) log.log xs) new) (sym (ap (λ (x : Remembered). x.authors) c.remembered.view_is)) agree)
