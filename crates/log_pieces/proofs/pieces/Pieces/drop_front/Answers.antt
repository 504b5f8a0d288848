use Rattle.std.proofs.Common.{◌≡◌, ◌+◌, ◌-◌, length, drop, ap, sym, ◌∙◌, arith}
use Rattle.std.proofs.lemmas.List.{length-drop, drop-drop}
use Rattle.log_pieces.specs.Pieces.{Parts, all_of}
use Rattle.log_pieces.proofs.pieces.Pieces.drop_front.Goals as goal

pub invariant_of-self : goal.invariant_of-self
invariant_of-self c = record {
  segments = c.self.invariant.segments;
  few = c.self.invariant.few;
  moments = c.self.invariant.moments;
  within = omega (arith, c.total.ensures.value, ap (λ (q : Parts). length (all_of q)) c.self.view_is);
}

pub returns : goal.returns
returns c =
    let p : Parts = record { sealed = c.self.inside.sealed; loose = c.self.inside.loose; skipped = c.self.inside.skipped } in
    let e : p ≡ c.args.self.now = c.self.view_is in
    let now = c.args.self.now in
    let more : c.total.result - (c.count.result - c.args.count) ≡ now.skipped + c.args.count =
    omega (arith, c.total.ensures.value, c.total.ensures.within, c.count.ensures, c.requires, length-drop now.skipped (all_of now)) in
    ap (λ n. drop n (all_of p)) more ∙ ap (λ (q : Parts). drop (now.skipped + c.args.count) (all_of q)) e
    ∙ sym (drop-drop c.args.count now.skipped (all_of now))
