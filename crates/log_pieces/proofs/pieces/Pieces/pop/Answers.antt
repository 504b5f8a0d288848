use Rattle.std.proofs.Common.{◌≡◌, ◌<◌, ◌-◌, ◌++◌, List, length, drop, ap, ap₂, ◌∙◌, arith}
use Rattle.std.specs.Prelude.{min}
use Rattle.std.specs.List.{flat_map}
use Rattle.std.proofs.Math.ListN.{length-append}
use Rattle.std.proofs.lemmas.List.{length-take}
use Rattle.position_core.specs.declared.message.Entry.{Entry}
use Rattle.log_pieces.specs.Pieces.{Parts, all_of, joined, front, loosely}
use Rattle.log_pieces.proofs.Joined.{front_after, front_dropped}
use Rattle.log_pieces.proofs.pieces.Pieces.pop.Goals as goal
use Rattle.log_pieces.proofs.pieces.Pieces.pop.Goals.{After-pop}

-- all but the last
left_are : (c : After-pop) → flat_map (λ s. s) c.self.inside.sealed ++ loosely c.pop.new.self ≡ front (flat_map (λ s. s) c.self.inside.sealed ++ loosely c.self.inside.loose)
left_are c =
    let p : Parts = record { sealed = c.self.inside.sealed; loose = c.self.inside.loose; skipped = c.self.inside.skipped } in
    let e : p ≡ c.args.self.now = c.self.view_is in
    let same : length p.loose.last ≡ length c.args.self.now.loose.last = ap (λ (q : Parts). length q.loose.last) e in
    let some : 0 < length (loosely p.loose) = omega (arith, same, c.requires, length-append (flat_map (λ s. s) p.loose.runs) p.loose.last) in
    ap (λ (ys : List Entry). flat_map (λ s. s) p.sealed ++ ys) c.pop.ensures
    ∙ front_after (flat_map (λ s. s) p.sealed) (loosely p.loose) some

pub invariant_of-self : goal.invariant_of-self
invariant_of-self c =
    let p : Parts = record { sealed = c.self.inside.sealed; loose = c.self.inside.loose; skipped = c.self.inside.skipped } in
    let e : p ≡ c.args.self.now = c.self.view_is in
    let left = left_are c in
    record {
      segments = c.self.invariant.segments;
      few = c.self.invariant.few;
      moments = c.self.invariant.moments;
      within = omega (arith, ap (λ (xs : List Entry). length xs) left, length-take (length (all_of p) - 1) (all_of p), c.min-self-inside.ensures, c.total-left.ensures.value, ap (λ (q : Parts). length (all_of q)) e);
    }

pub returns : goal.returns
returns c =
    let p : Parts = record { sealed = c.self.inside.sealed; loose = c.self.inside.loose; skipped = c.self.inside.skipped } in
    let e : p ≡ c.args.self.now = c.self.view_is in
    let n = c.min-self-inside.result in
    let is : n ≡ min p.skipped (length (all_of p) - 1) = omega (arith, c.min-self-inside.ensures, c.total-left.ensures.value, ap (λ (q : Parts). length (all_of q)) e) in
    ap₂ (λ k xs. drop k xs) is (left_are c) ∙ front_dropped p.skipped (all_of p) c.self.invariant.within
    ∙ ap (λ (q : Parts). front (joined q)) e
