use Rattle.std.proofs.Common.{◌≡◌, ◌+◌, ◌*◌, ◌/◌, ◌%◌, ◌≤◌, ℕ, length, sym, ◌∙◌, ap, arith}
use Rattle.std.specs.List.{slice_get}
use Rattle.log_pieces.specs.Pieces.{Parts, all_of, loosely}
use Rattle.log_pieces.proofs.Joined.{get_within, get_after, slice_get_none}
use Rattle.log_pieces.proofs.pieces.Pieces.at.Goals as goal

pub returns-in-Some : goal.returns-in-Some
returns-in-Some c =
    let p : Parts = record { sealed = c.self.inside.sealed; loose = c.self.inside.loose; skipped = c.self.inside.skipped } in
    let e : p ≡ c.args.self.now = c.self.view_is in
    let index = c.args.place in
    let split : 1024 * (index / 1024) + index % 1024 ≡ index = omega arith in
    c.get-in-Some.ensures
    ∙ sym (get_within 1024 p.sealed (loosely p.loose) c.in-Some.segment.now (index / 1024) (index % 1024) c.self.invariant.segments (sym c.in-Some.ensures) (omega arith))
    ∙ ap (λ (n : ℕ). slice_get (all_of p) n) split
    ∙ ap (λ (q : Parts). slice_get (all_of q) index) e

pub returns-in-None : goal.returns-in-None
returns-in-None c =
    let p : Parts = record { sealed = c.self.inside.sealed; loose = c.self.inside.loose; skipped = c.self.inside.skipped } in
    let e : p ≡ c.args.self.now = c.self.view_is in
    let same : length p.sealed ≡ length c.args.self.now.sealed = ap (λ (q : Parts). length q.sealed) e in
    let past : length p.sealed ≤ c.args.place / 1024 = slice_get_none p.sealed (c.args.place / 1024) (sym c.in-None.ensures) in
    absurd (omega (arith, same, past))

pub returns-else-place-sealed : goal.returns-else-place-sealed
returns-else-place-sealed c =
    let p : Parts = record { sealed = c.self.inside.sealed; loose = c.self.inside.loose; skipped = c.self.inside.skipped } in
    let e : p ≡ c.args.self.now = c.self.view_is in
    let index = c.args.place in
    let same : length p.sealed ≡ length c.args.self.now.sealed = ap (λ (q : Parts). length q.sealed) e in
    let n = c.sealed_count-sealed.result in
    let is : n ≡ 1024 * length p.sealed = omega (arith, same) in
    c.get-else-place-sealed.ensures
    ∙ sym (get_after 1024 p.sealed (loosely p.loose) index n c.self.invariant.segments is c.if-place-sealed.false)
    ∙ ap (λ (q : Parts). slice_get (all_of q) index) e
