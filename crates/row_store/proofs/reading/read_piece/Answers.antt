use Rattle.std.proofs.Common.{◌≡◌, ◌++◌, ◌+◌, ℕ, List, length, true≢false, ap, ap₂, sym, subst, ◌∙◌, arith}
use Rattle.sqlite.specs.Order.{Row}
use Rattle.sqlite.specs.Tree.{Trees}
use Rattle.sqlite.specs.Held.{state}
use Rattle.row_forms.specs.Forms.{entry_rows}
use Rattle.row_tables.specs.Pieces.{ShowsWithin}
use Rattle.row_reading.specs.Reading.{GoOn, ReadSoFar, put}
use Rattle.row_reading.proofs.NextEntries.{many_more}
use Rattle.row_store.proofs.Messages.{more_below, next_part}
use Rattle.row_store.proofs.reading.read_piece.Goals as goal

pub returns-then-not-branch-clause-bad : goal.returns-then-not-branch-clause-bad
returns-then-not-branch-clause-bad g c =
    λ clean bad ready below all readable has.
    let old : ReadSoFar = c.args.reader.now in
    let topic : List ℕ = c.args.topic.now in
    let db : Trees = (state g.S.Store c.args.tx.now.conn.now).now.trees in
    let rows : List Row = c.in_ok-rows.rows.items in
    let from : c.gone.result + c.count.result ≡ old.front.gone + length old.log = ap₂ (λ (n m : ℕ). n + m) c.gone.ensures.value c.count.ensures.value in
    let shows = subst (λ n. ShowsWithin topic n (n + 256) rows db) from (c.in_ok-rows.ensures.rows clean ready) in
    let next = next_part topic old.front.gone (old.front.gone + length old.log + 256) old.log all rows db below has shows (c.in_ok-rows.ensures.ordered clean ready) in
    let read : entry_rows topic old.front.gone old.log ++ (put topic c.deref.result.now ++ next.0) ≡ entry_rows topic old.front.gone all =
    ap (λ l. entry_rows topic old.front.gone old.log ++ (put topic l ++ next.0)) c.deref.ensures.value ∙ next.1 in
    let yes = c.in_ok-take.ensures.all_read topic all next.0 readable read in
    true≢false (sym yes ∙ c.if-not-branch.true)

pub returns-then-len-eq-PIECE-clause-full : goal.returns-then-len-eq-PIECE-clause-full
returns-then-len-eq-PIECE-clause-full g c =
    λ full.
    let old : ReadSoFar = c.args.reader.now in
    let goes = subst (λ (l : List Row). GoOn old.front.gone old.log l c.take.new.self.log) c.deref.ensures.value (c.in_ok-take.ensures.rows c.if-not-branch.false) in
    omega (arith, many_more old.front.gone old.log c.take.new.self.log c.in_ok-rows.rows.items goes, c.len.ensures, c.if-len-eq-PIECE.true)

pub returns-then-len-eq-PIECE-clause-rows : goal.returns-then-len-eq-PIECE-clause-rows
returns-then-len-eq-PIECE-clause-rows g c =
    λ clean full ready below.
    let old : ReadSoFar = c.args.reader.now in
    let topic : List ℕ = c.args.topic.now in
    let db : Trees = (state g.S.Store c.args.tx.now.conn.now).now.trees in
    let rows : List Row = c.in_ok-rows.rows.items in
    let from : c.gone.result + c.count.result ≡ old.front.gone + length old.log = ap₂ (λ (n m : ℕ). n + m) c.gone.ensures.value c.count.ensures.value in
    let shows = subst (λ n. ShowsWithin topic n (n + 256) rows db) from (c.in_ok-rows.ensures.rows clean ready) in
    let goes = subst (λ (l : List Row). GoOn old.front.gone old.log l c.take.new.self.log) c.deref.ensures.value (c.in_ok-take.ensures.rows c.if-not-branch.false) in
    more_below topic old.front.gone (old.front.gone + length old.log) (old.front.gone + length old.log + 256) old.log c.take.new.self.log rows db (omega arith) (omega arith) below shows goes

pub returns-clause-last : goal.returns-clause-last
returns-clause-last g c =
    λ last many.
    let old : ReadSoFar = c.args.reader.now in
    let goes = subst (λ (l : List Row). GoOn old.front.gone old.log l c.take.new.self.log) c.deref.ensures.value (c.in_ok-take.ensures.rows c.if-not-branch.false) in
    omega (arith, many_more old.front.gone old.log c.take.new.self.log c.in_ok-rows.rows.items goes, c.len.ensures, c.if-len-eq-PIECE.false, many)

pub returns-clause-rows : goal.returns-clause-rows
returns-clause-rows g c =
    λ clean last ready below.
    let old : ReadSoFar = c.args.reader.now in
    let topic : List ℕ = c.args.topic.now in
    let db : Trees = (state g.S.Store c.args.tx.now.conn.now).now.trees in
    let rows : List Row = c.in_ok-rows.rows.items in
    let from : c.gone.result + c.count.result ≡ old.front.gone + length old.log = ap₂ (λ (n m : ℕ). n + m) c.gone.ensures.value c.count.ensures.value in
    let shows = subst (λ n. ShowsWithin topic n (n + 256) rows db) from (c.in_ok-rows.ensures.rows clean ready) in
    let goes = subst (λ (l : List Row). GoOn old.front.gone old.log l c.take.new.self.log) c.deref.ensures.value (c.in_ok-take.ensures.rows c.if-not-branch.false) in
    more_below topic old.front.gone (old.front.gone + length old.log) (old.front.gone + length old.log + 256) old.log c.take.new.self.log rows db (omega arith) (omega arith) below shows goes
