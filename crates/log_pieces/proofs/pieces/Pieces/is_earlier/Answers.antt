use Rattle.std.proofs.Common.{◌≡◌, ◌∙◌, Some, sym, subst, arith}
use Rattle.std.specs.List.{slice_get}
use Rattle.log_pieces.specs.Pieces.{Parts}
use Rattle.log_pieces.proofs.Joined.{each_long}
use Rattle.log_pieces.proofs.Moments.{moment_at, is_low}
use Rattle.log_pieces.proofs.pieces.Pieces.is_earlier.Goals as goal

pub returns-in-Some : goal.returns-in-Some
returns-in-Some c low s at =
    let p : Parts = record { sealed = c.self.inside.sealed; loose = c.self.inside.loose; skipped = c.self.inside.skipped } in
    let e : p ≡ c.args.self.now = c.self.view_is in
    let there : slice_get p.sealed c.args.place ≡ Some s = subst (λ (q : Parts). slice_get q.sealed c.args.place ≡ Some s) (sym e) at in
    let moment = moment_at p.sealed c.deref.result.now c.args.place c.in-Some.moment.now _ s (c.deref.ensures.value ∙ c.self.invariant.moments) c.in-Some.ensures.lookup.1 there in
    (omega (arith, moment, is_low _ _ low, c.millis.ensures.value), each_long 1024 p.sealed s c.args.place c.self.invariant.segments there)
