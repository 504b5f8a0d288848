use Rattle.std.specs.List.{flat_map}
use Rattle.std.proofs.Math.ListN.{length-append}
use Rattle.std.proofs.Common.{◌≡◌, length, ap, arith}
use Rattle.log_pieces.specs.Pieces.{Parts, all_of, loosely}
use Rattle.log_pieces.proofs.Joined.{length_each}
use Rattle.log_pieces.proofs.pieces.Pieces.total.Goals as goal

pub returns-clause-value : goal.returns-clause-value
returns-clause-value c =
    let p : Parts = record { sealed = c.self.inside.sealed; loose = c.self.inside.loose; skipped = c.self.inside.skipped } in
    let e : p ≡ c.args.self.now = c.self.view_is in
    let whole : length (all_of p) ≡ length (all_of c.args.self.now) = ap (λ (q : Parts). length (all_of q)) e in
    let same : length p.sealed ≡ length c.args.self.now.sealed = ap (λ (q : Parts). length q.sealed) e in
    omega (arith, whole, same, length-append (flat_map (λ s. s) p.sealed) (loosely p.loose), length_each 1024 p.sealed c.self.invariant.segments, ap (λ (q : Parts). length (loosely q.loose)) e)

pub returns-clause-within : goal.returns-clause-within
returns-clause-within c =
    let p : Parts = record { sealed = c.self.inside.sealed; loose = c.self.inside.loose; skipped = c.self.inside.skipped } in
    let e : p ≡ c.args.self.now = c.self.view_is in
    let gone : p.skipped ≡ c.args.self.now.skipped = ap (λ (q : Parts). q.skipped) e in
    omega (arith, gone, c.self.invariant.within, returns-clause-value c, ap (λ (q : Parts). length (all_of q)) e)
