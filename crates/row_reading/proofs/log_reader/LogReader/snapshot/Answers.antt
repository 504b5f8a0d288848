use Rattle.std.proofs.Common.{◌≡◌, ◌<◌, List, length, refl, sym, ap, subst, ◌∙◌}
use Rattle.position_core.specs.declared.topic_name.TopicName.{TopicName}
use Rattle.position_core.specs.TopicName.{topic_text}
use Rattle.position_core.specs.declared.message.Entry.{Entry}
use Rattle.log_pieces.specs.Pieces.{joined}
use Rattle.delivery_machine.specs.State.{Author}
use Rattle.delivery_machine.specs.Places.{KeptPlaces}
use Rattle.row_tables.specs.declared.side_rows.SideRows.{SideRows}
use Rattle.row_forms.specs.Forms.{AreRowsOf, Span, span_of}
use Rattle.row_reading.specs.declared.topic_row.Head.{Head}
use Rattle.row_reading.specs.Reading.{IsFrontIn, IsHeadIn, ReadSoFar, ShowAuthors, ShowSubs, rows_with, span_read}
use Rattle.row_reading.proofs.Restarts.{AreShown, may_restart, of_parts, rows_shown}
use Rattle.row_reading.proofs.Whole.{has_head, its_log, one_head, same_front, show_authors, show_subs}
use Rattle.row_reading.proofs.log_reader.LogReader.snapshot.Goals as goal

pub snapshot_of-requires : goal.snapshot_of-requires
snapshot_of-requires c =
    let before = c.self.inside in
    let own : TopicName = c.args.name.now in
    let found = rw c.in-Ok-Some.field-0-is at c.in-Ok-Some.ensures in
    may_restart own (of_parts own before.head before.front c.in-Ok-Some.parts.authors.items (joined before.log) c.in-Ok-Some.parts.subs.items) c.self.invariant.sound
    c.self.invariant.gone found.remembered c.self.invariant.short found.sound

pub returns-in_ok-snapshot_of-in-Ok-Some-clause-rows : goal.returns-in_ok-snapshot_of-in-Ok-Some-clause-rows
returns-in_ok-snapshot_of-in-Ok-Some-clause-rows c =
    let before = c.self.inside in
    let own : TopicName = c.args.name.now in
    let log : List Entry = joined before.log in
    let sides : SideRows = c.args.sides.now in
    let authors : List Author = c.in-Ok-Some.parts.authors.items in
    let subs : List KeptPlaces = c.in-Ok-Some.parts.subs.items in
    let found = rw c.in-Ok-Some.field-0-is at c.in-Ok-Some.ensures in
    let head : IsHeadIn sides.topics.items before.head = subst (λ (r : ReadSoFar). IsHeadIn sides.topics.items r.head) (sym c.self.view_is) c.requires.head in
    let front : IsFrontIn sides.retentions.items before.front = subst (λ (r : ReadSoFar). IsFrontIn sides.retentions.items r.front) (sym c.self.view_is) c.requires.front in
    let shown : AreShown sides (record { gone = before.front.gone; log = log }) authors subs = record { authors_are = found.authors; own = found.rows; acks = found.acks; deads = found.deads; counts = found.counts } in
    let rows : AreRowsOf (of_parts own before.head before.front authors log subs) (rows_with (topic_text own) (record { gone = before.front.gone; log = log }) sides) = rows_shown own before.head before.front authors log subs sides head front shown in
    rw (c.in_ok-snapshot_of-in-Ok-Some.ensures, ← c.self.view_is) rows

pub returns-in-Ok-None-clause-whole : goal.returns-in-Ok-None-clause-whole
returns-in-Ok-None-clause-whole c =
    λ kept back name rows.
    let own : TopicName = c.args.name.now in
    let sides : SideRows = c.args.sides.now in
    let topic : List _ = topic_text own in
    let before = c.self.inside in
    let view : c.args.self ≡ record { head = before.head; front = before.front; log = joined before.log } = sym c.self.view_is in
    let head : Head = c.args.self.head in
    let h = has_head kept topic sides.topics.items back rows.topics in
    let one = one_head sides.topics.items c.requires.head.0 h.0 head kept h.1 c.requires.head.1 c.requires.head.2 in
    let front = same_front kept own c.args.self.front sides.retentions.items name c.requires.front rows.retentions in
    let span : Span = record { gone = before.front.gone; log = joined before.log } in
    let read : span_read c.args.self ≡ span = ap span_read view in
    let gone : span.gone ≡ kept.gone = ap (λ (s : Span). s.gone) (sym read) ∙ front.0 in
    let log : span.log ≡ kept.log = ap (λ (s : Span). s.log) (sym read) ∙ its_log kept own (span_read c.args.self) sides name front.0 rows in
    let is : span ≡ span_of kept = span_is span.gone kept.gone span.log kept.log gone log in
    let next : before.head.next_ordinal ≡ kept.next_ordinal = sym (ap (λ (r : ReadSoFar). r.head.next_ordinal) view) ∙ one.2 in
    let none = rw c.in-Ok-None.field-0-is at c.in-Ok-None.ensures.all_read in
    none topic kept.authors kept.subscriptions
    (subst (λ n. ShowAuthors n topic kept.authors sides.authors.items) (sym gone) (show_authors kept own sides.authors.items back name rows.authors))
    back.told.few
    (subst (λ (s : Span). ShowSubs own s before.head.next_ordinal topic kept.subscriptions sides.subs.items sides.acks.items sides.deads.items sides.counts.items) (sym is)
    (subst (λ n. ShowSubs own (span_of kept) n topic kept.subscriptions sides.subs.items sides.acks.items sides.deads.items sides.counts.items) (sym next) (show_subs kept own (span_read c.args.self) sides back name rows)))
  where
    span_is : (g h : _) (l m : List Entry) → g ≡ h → l ≡ m → (let a : Span = record { gone = g; log = l } in let b : Span = record { gone = h; log = m } in a ≡ b)
    span_is g h l m x y = rw (x, y) refl
