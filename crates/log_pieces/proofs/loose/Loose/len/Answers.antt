use Rattle.std.proofs.Common.{◌≡◌, ◌≤◌, length, ap, arith}
use Rattle.std.specs.List.{flat_map}
use Rattle.std.proofs.Math.ListN.{length-append}
use Rattle.log_pieces.specs.Pieces.{Last, loosely}
use Rattle.log_pieces.proofs.Joined.{length_each}
use Rattle.log_pieces.proofs.loose.Loose.len.Goals as goal

pub returns-clause-value : goal.returns-clause-value
returns-clause-value c =
    let l : Last = record { runs = c.self.inside.runs; last = c.self.inside.last.items } in
    let e : l ≡ c.args.self.now = c.self.view_is in
    let whole : length (loosely l) ≡ length (loosely c.args.self.now) = ap (λ (q : Last). length (loosely q)) e in
    let same : length l.runs ≡ length c.args.self.now.runs = ap (λ (q : Last). length q.runs) e in
    omega (arith, whole, same, length-append (flat_map (λ s. s) l.runs) l.last, length_each 32 l.runs c.self.invariant.runs)

pub returns-clause-last : goal.returns-clause-last
returns-clause-last c over =
    let l : Last = record { runs = c.self.inside.runs; last = c.self.inside.last.items } in
    let e : l ≡ c.args.self.now = c.self.view_is in
    let same : length l.last ≡ length c.args.self.now.last = ap (λ (q : Last). length q.last) e in
    let few : length l.runs ≤ 31 = c.self.invariant.few in
    omega (arith, same, few, over)
