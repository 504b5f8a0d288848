use Rattle.std.proofs.Common.{◌≡◌, ◌+◌, ◌-◌, List, ◌*◌, ◌/◌, ◌%◌, ◌≤◌, ℕ, length, sym, ◌∙◌, ap, arith}
use Rattle.std.specs.List.{slice_get}
use Rattle.log_pieces.proofs.Joined.{slice_get_none}
use Rattle.position_core.specs.declared.message.Entry.{Entry}
use Rattle.log_pieces.specs.Pieces.{Last, loosely}
use Rattle.log_pieces.proofs.Joined.{get_within, get_after}
use Rattle.log_pieces.proofs.loose.Loose.get.Goals as goal

pub returns-in-Some : goal.returns-in-Some
returns-in-Some c =
    let l : Last = record { runs = c.self.inside.runs; last = c.self.inside.last.items } in
    let e : l ≡ c.args.self.now = c.self.view_is in
    let place = c.args.place in
    let split : 32 * (place / 32) + place % 32 ≡ place = omega arith in
    c.get-in-Some.ensures
    ∙ sym (get_within 32 l.runs l.last c.in-Some.found.now (place / 32) (place % 32) c.self.invariant.runs (sym c.in-Some.ensures) (omega arith))
    ∙ ap (λ (n : ℕ). slice_get (loosely l) n) split
    ∙ ap (λ (q : Last). slice_get (loosely q) place) e

pub returns-in-None : goal.returns-in-None
returns-in-None c =
    let l : Last = record { runs = c.self.inside.runs; last = c.self.inside.last.items } in
    let e : l ≡ c.args.self.now = c.self.view_is in
    let same : length l.runs ≡ length c.args.self.now.runs = ap (λ (q : Last). length q.runs) e in
    let past : length l.runs ≤ c.args.place / 32 = slice_get_none l.runs (c.args.place / 32) (sym c.in-None.ensures) in
    absurd (omega (arith, same, past))

pub returns-else-place-before : goal.returns-else-place-before
returns-else-place-before c =
    let l : Last = record { runs = c.self.inside.runs; last = c.self.inside.last.items } in
    let e : l ≡ c.args.self.now = c.self.view_is in
    let place = c.args.place in
    let n = c.in_runs-before.result in
    let same : length l.runs ≡ length c.args.self.now.runs = ap (λ (q : Last). length q.runs) e in
    let is : n ≡ 32 * length l.runs = omega (arith, same) in
    c.message_at.ensures
    ∙ ap (λ (xs : List Entry). slice_get xs (place - n)) c.deref.ensures.value
    ∙ sym (get_after 32 l.runs l.last place n c.self.invariant.runs is c.if-place-before.false)
    ∙ ap (λ (q : Last). slice_get (loosely q) place) e
