use Rattle.std.proofs.Common.{◌≡◌, ℕ, List, false, sym, ap, subst, ◌∙◌, arith}
use Rattle.std.proofs.lemmas.Result.{IfOk-weaker}
use Rattle.position_core.specs.declared.topic_name.TopicName.{TopicName}
use Rattle.sqlite.specs.Tree.{Trees}
use Rattle.sqlite.specs.State.{State, HasCleanDisk}
use Rattle.sqlite.specs.Held.{state}
use Rattle.row_tables.specs.Pieces.{has_others}
use Rattle.row_tables.specs.Sides.{AreSidesOf}
use Rattle.row_store.specs.Begun.{ReadTo, StandsSoFar}
use Rattle.row_store.specs.Found.{IsFound}
use Rattle.row_store.proofs.Storing.{begun_stands, none_read}
use Rattle.row_store.proofs.Unfound.{none_headed, none_of_its_own}
use Rattle.row_store.proofs.finding.begin.Goals as goal

pub returns-then-branch-clause-found : goal.returns-then-branch-clause-found
returns-then-branch-clause-found g c =
    λ clean ready.
    let mid : State = state g.S.Store c.read_sides.new.tx.conn.now in
    let early : HasCleanDisk mid = omega (arith, c.has_others.ensures.survives.clean) in
    none_of_its_own c.args.name.now c.args.topic.now c.in_ok-sides.sides (state g.S.Store c.args.tx.now.conn.now).now.trees c.requires (c.in_ok-sides.ensures.rows early ready) (c.is_empty.ensures.none c.if-is_empty.true).0 (c.in_ok-sides.ensures.ordered early ready)

pub returns-then-is_empty-clause-found : goal.returns-then-is_empty-clause-found
returns-then-is_empty-clause-found g c =
    λ clean ready.
    let topic : List ℕ = c.args.topic.now in
    let first : State = state g.S.Store c.args.tx.now.conn.now in
    let mid : State = state g.S.Store c.read_sides.new.tx.conn.now in
    let early : HasCleanDisk mid = omega (arith, c.has_others.ensures.survives.clean) in
    let after = (c.in_ok-sides.ensures.done early).does ready in
    let none : has_others topic 0 0 first.now.trees ≡ false = sym (ap (has_others topic 0 0) after.1) ∙ sym (c.in_ok-has_others.ensures.found clean after.0) ∙ c.if-branch.false in
    none_read c.args.name.now topic c.in_ok-sides.sides first.now.trees c.requires (c.is_empty.ensures.none c.if-is_empty.true) (c.in_ok-sides.ensures.rows early ready) none

pub returns-in-Some-clause-found : goal.returns-in-Some-clause-found
returns-in-Some-clause-found g c =
    λ clean.
    let first : State = state g.S.Store c.args.tx.now.conn.now in
    let mid : State = state g.S.Store c.read_sides.new.tx.conn.now in
    let early : HasCleanDisk mid = omega (arith, c.go_on.ensures.survives.clean) in
    let reading : ReadTo = c.in-Some.reading in
    let begun = rw c.in-Some.is at c.in_ok-reading.ensures.begun in
    IfOk-weaker c.go_on.result _ _
    (λ found by ready.
    let after = (c.in_ok-sides.ensures.done early).does ready in
    let stands : StandsSoFar mid.now.trees reading =
    begun_stands reading c.args.name.now c.args.topic.now c.in_ok-sides.sides mid.now.trees c.requires begun (subst (λ (db : Trees). AreSidesOf c.args.topic.now db c.in_ok-sides.sides) (sym after.1) (c.in_ok-sides.ensures.rows early ready)) (c.in_ok-sides.ensures.ordered early ready) in
    subst (λ (n : TopicName). IsFound n first.now.trees found) begun.0 (subst (λ (db : Trees). IsFound reading.name db found) after.1 (by after.0 stands)))
    (c.go_on.ensures.found clean)

pub returns-in-None-clause-found : goal.returns-in-None-clause-found
returns-in-None-clause-found g c =
    λ clean ready.
    none_headed c.args.name.now c.args.topic.now c.in_ok-sides.sides (state g.S.Store c.args.tx.now.conn.now).now.trees c.requires (c.in_ok-sides.ensures.rows clean ready) (rw c.in-None.is at c.in_ok-reading.ensures.all_read) (c.in_ok-sides.ensures.ordered clean ready)
