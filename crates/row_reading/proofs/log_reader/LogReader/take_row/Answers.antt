use Rattle.std.proofs.Common.{◌≡◌, ℕ, ◌+◌, ◌++◌, ◌∷◌, [], List, pos, ap, sym, subst, ◌∙◌, length, length-append, arith}
use Rattle.std.specs.Prelude.{◌≤ℤ◌}
use Rattle.std.proofs.lemmas.List.Elements.{All-push}
use Rattle.position_core.specs.declared.message.Entry.{Entry}
use Rattle.log_pieces.specs.Pieces.{joined}
use Rattle.sqlite.specs.Order.{Row}
use Rattle.delivery_machine.specs.WellFormed.{IsWellFormedLog}
use Rattle.row_reading.specs.declared.topic_row.Head.{Head}
use Rattle.row_reading.specs.Reading.{CountFromZero, GoOn, IsEntryAt, IsNext, ReadSoFar, last_position}
use Rattle.row_reading.proofs.Entries.{above_last, log_more, row_goes_on}
use Rattle.row_reading.proofs.log_reader.LogReader.take_row.Goals as goal

pub invariant_of-self-in-Some : goal.invariant_of-self-in-Some
invariant_of-self-in-Some c =
    let before = c.self.invariant in
    let head : Head = c.self.inside.head in
    let log : List Entry = joined c.self.inside.log in
    let e : Entry = c.in-Some.message in
    let from_zero = rw c.in-Some.is at c.in_ok-message.ensures.from_zero in
    let next = rw (c.in-Some.is, c.last_of.ensures) at c.in_ok-message.ensures.next in
    let pushed : joined c.push.new.self ≡ log ++ e ∷ [] = c.in_ok-push-in-Some.ensures.ok in
    record {
      ordinal = before.ordinal;
      gone = before.gone;
      sound = subst (λ l. IsWellFormedLog head.ledger_size head.ledger l) (sym pushed) (log_more head.ledger_size head.ledger (last_position log) log e before.sound (above_last log before.sound.positions) next);
      sequences = subst CountFromZero (sym pushed) (All-push (λ (m : Entry). pos 0 ≤ℤ m.sequence) log e before.sequences from_zero);
      short = omega (arith, ap length pushed, length-append log (e ∷ []), c.count-count.ensures, c.if-count-ge-MOST.false);
    }

pub returns-in_ok-push-in-Some-clause-rows : goal.returns-in_ok-push-in-Some-clause-rows
returns-in_ok-push-in-Some-clause-rows c =
    λ yes topic.
    let log : List Entry = joined c.self.inside.log in
    let e : Entry = c.in-Some.message in
    let row : Row = c.args.row.now in
    let shown = rw c.in-Some.is at c.in_ok-message.ensures.shown in
    let gone : ℕ = c.self.inside.front.gone in
    let here : IsEntryAt (gone + length log) row e = subst (λ n. IsEntryAt (gone + n) row e) c.count-count.ensures shown in
    let pushed : joined c.push.new.self ≡ log ++ e ∷ [] = c.in_ok-push-in-Some.ensures.ok in
    subst (λ (r : ReadSoFar). GoOn r.front.gone r.log (row ∷ []) (joined c.push.new.self)) c.self.view_is (subst (GoOn gone log (row ∷ [])) (sym pushed) (row_goes_on gone log row e here)) topic

pub returns-in-None-clause-all_read : goal.returns-in-None-clause-all_read
returns-in-None-clause-all_read c =
    λ e readable shown next short.
    let before : ReadSoFar = c.args.self.now in
    let none = rw (c.in-None.is, c.last_of.ensures) at c.in_ok-message.ensures.all_read in
    let same : before ≡ record { head = c.self.inside.head; front = c.self.inside.front; log = joined c.self.inside.log } = sym c.self.view_is in
    let here : IsEntryAt (c.self.inside.front.gone + c.count-count.result) c.args.row.now e = subst (λ n. IsEntryAt n c.args.row.now e) (ap (λ (r : ReadSoFar). r.front.gone + length r.log) same ∙ ap (λ n. c.self.inside.front.gone + n) (sym c.count-count.ensures)) shown in
    absurd (none e readable here (subst (λ (r : ReadSoFar). IsNext r.head.ledger_size r.head.ledger (last_position r.log) e.position) same next))
