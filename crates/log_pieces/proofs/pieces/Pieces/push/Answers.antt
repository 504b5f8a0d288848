use Rattle.std.proofs.Common.{◌≡◌, ◌++◌, ◌∷◌, [], refl, ap, ◌∙◌}
use Rattle.log_pieces.specs.Pieces.{Parts, joined}
use Rattle.log_pieces.proofs.Trimmed.{pushed}
use Rattle.log_pieces.proofs.pieces.Pieces.push.Goals as goal

pub returns-clause-ok : goal.returns-clause-ok
returns-clause-ok c =
    let p : Parts = record { sealed = c.self.inside.sealed; loose = c.self.inside.loose; skipped = c.self.inside.skipped } in
    let e : p ≡ c.args.self.now = c.self.view_is in
    let q : Parts = record { sealed = c.self.inside.sealed; loose = c.push.new.self; skipped = c.self.inside.skipped } in
    pushed p q c.args.message c.self.invariant.within refl refl c.in_ok-push.ensures.ok ∙ ap (λ (r : Parts). joined r ++ c.args.message ∷ []) e
