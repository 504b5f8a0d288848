use Rattle.std.proofs.Common.{◌≡◌, ◌+◌, ◌≢◌, ℕ, Bool, List, length, true, false, not, IsTrue, refl, ap, ap₂, sym, subst, ◌∙◌, arith}
use Rattle.sqlite.specs.State.{State, HasCleanDisk}
use Rattle.sqlite.specs.Held.{state}
use Rattle.row_tables.specs.Pieces.{has_others}
use Rattle.row_reading.specs.declared.retention_rows.Front.{Front}
use Rattle.row_reading.specs.Reading.{ReadSoFar}
use Rattle.row_store.specs.Begun.{HasLogBelow}
use Rattle.row_store.specs.Found.{HasLog}
use Rattle.row_store.specs.declared.reading.Piece.TheVariants.{Last, Bad}
use Rattle.row_store.proofs.Messages.{all_below, none_after}
use Rattle.row_store.proofs.reading.read_more.Goals as goal

not_so : (b : Bool) → IsTrue (not b) → b ≡ false
not_so true h = cc
not_so false h = refl

so : (b : Bool) → b ≡ false → IsTrue (not b)
so true h = cc
so false h = refl

other : Last ≢ Bad
other e = cc

pub returns-in_ok-others-in-Last-clause-whole : goal.returns-in_ok-others-in-Last-clause-whole
returns-in_ok-others-in-Last-clause-whole g c =
    λ clean none ready below.
    let old : ReadSoFar = c.args.reader.now in
    let new : ReadSoFar = c.read_piece.new.reader in
    let topic : List ℕ = c.args.topic.now in
    let first : State = state g.S.Store c.args.tx.now.conn.now in
    let mid : State = state g.S.Store c.read_piece.new.tx.conn.now in
    let early : HasCleanDisk mid = omega (arith, c.has_others.ensures.survives.clean) in
    let after = (c.in_ok-read_piece.ensures.done early).does ready in
    let ended = rw c.in-Last.is at (c.in_ok-read_piece.ensures.rows early) in
    let gone : ℕ = old.front.gone in
    let from : c.gone-from.result ≡ gone = c.gone-from.ensures.value in
    let end : c.gone-from.result + c.count.result + 256 ≡ gone + (length old.log + 256) = omega (arith, from, c.count.ensures.value) in
    let found : c.in_ok-others-in-Last.others ≡ has_others topic gone (gone + (length old.log + 256)) first.now.trees =
    c.in_ok-others-in-Last.ensures.found clean after.0 ∙ ap₂ (λ n m. has_others topic n m mid.now.trees) from end ∙ ap (has_others topic gone (gone + (length old.log + 256))) after.1 in
    let all : HasLogBelow topic gone (gone + (length old.log + 256)) new.log first.now.trees = subst (λ n. HasLogBelow topic gone n new.log first.now.trees) (let same : gone + length old.log + 256 ≡ gone + (length old.log + 256) = omega arith in same) (ended other ready below) in
    subst (λ (f : Front). HasLog topic f.gone new.log first.now.trees) (sym c.in_ok-read_piece.ensures.front) (all_below topic gone (gone + (length old.log + 256)) new.log first.now.trees all (sym found ∙ not_so c.in_ok-others-in-Last.others none))

pub returns-in_ok-others-in-Last-clause-all_read : goal.returns-in_ok-others-in-Last-clause-all_read
returns-in_ok-others-in-Last-clause-all_read g c =
    λ clean ready below all readable has.
    let old : ReadSoFar = c.args.reader.now in
    let new : ReadSoFar = c.read_piece.new.reader in
    let topic : List ℕ = c.args.topic.now in
    let first : State = state g.S.Store c.args.tx.now.conn.now in
    let mid : State = state g.S.Store c.read_piece.new.tx.conn.now in
    let early : HasCleanDisk mid = omega (arith, c.has_others.ensures.survives.clean) in
    let after = (c.in_ok-read_piece.ensures.done early).does ready in
    let ended = rw c.in-Last.is at (c.in_ok-read_piece.ensures.rows early) in
    let gone : ℕ = old.front.gone in
    let from : c.gone-from.result ≡ gone = c.gone-from.ensures.value in
    let end : c.gone-from.result + c.count.result + 256 ≡ gone + (length old.log + 256) = omega (arith, from, c.count.ensures.value) in
    let found : c.in_ok-others-in-Last.others ≡ has_others topic gone (gone + (length old.log + 256)) first.now.trees =
    c.in_ok-others-in-Last.ensures.found clean after.0 ∙ ap₂ (λ n m. has_others topic n m mid.now.trees) from end ∙ ap (has_others topic gone (gone + (length old.log + 256))) after.1 in
    let short = rw c.in-Last.is at c.in_ok-read_piece.ensures.last in
    let these : HasLogBelow topic gone (gone + (length old.log + 256)) new.log first.now.trees = subst (λ n. HasLogBelow topic gone n new.log first.now.trees) (let same : gone + length old.log + 256 ≡ gone + (length old.log + 256) = omega arith in same) (ended other ready below) in
    so c.in_ok-others-in-Last.others (found ∙ none_after topic gone (length old.log + 256) new.log all first.now.trees these has (short refl))
