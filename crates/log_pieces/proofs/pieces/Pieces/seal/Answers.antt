use Rattle.std.proofs.Common.{◌≡◌, ◌-◌, ◌*◌, ◌/◌, List, [], ◌∷◌, ◌++◌, ◌<◌, length, drop, refl, ap, ap₂, ◌∙◌, arith}
use Rattle.std.specs.Prelude.{min}
use Rattle.std.specs.List.{flat_map}
use Rattle.position_core.specs.declared.message.Entry.{Entry}
use Rattle.log_pieces.specs.Pieces.{Parts, joined, loosely}
use Rattle.log_pieces.specs.Times.{moment_after}
use Rattle.log_pieces.proofs.Trimmed.{sealed_joined, sealed_pieces}
use Rattle.log_pieces.proofs.pieces.Pieces.seal.Goals as goal

pub invariant_of-self-2 : goal.invariant_of-self-2
invariant_of-self-2 c =
    let p : Parts = record { sealed = c.self.inside.sealed; loose = c.self.inside.loose; skipped = c.self.inside.skipped } in
    let e : p ≡ c.args.self.now = c.self.view_is in
    let full : length (loosely p.loose) ≡ 1024 = ap (λ (q : Parts). length (loosely q.loose)) e ∙ c.requires.full in
    let room : length (joined p) < 1048576 = omega (arith, ap (λ (q : Parts). length (joined q)) e, c.requires.room) in
    let more = c.in_ok-sealed.ensures ∙ ap (λ (s : List Entry). drop c.min-gone.result p.sealed ++ s ∷ []) c.in_ok-segment.ensures in
    let one : loosely c.begin.new.self ≡ c.args.message ∷ [] = ap₂ (λ (rs : List (List Entry)) (xs : List Entry). flat_map (λ s. s) rs ++ xs) c.begin.ensures.runs c.begin.ensures.last in
    let q : Parts = record { sealed = c.in_ok-sealed.sealed; loose = c.begin.new.self; skipped = c.self.inside.skipped - c.min-gone.result * 1024 } in
    let moment : c.moment_after-moment.result ≡ moment_after 0 (loosely p.loose) = c.moment_after-moment.ensures ∙ ap (moment_after 0) c.in_ok-segment.ensures in
    sealed_pieces p c.self.inside.moments.items c.min-gone.result c.self.invariant full (c.min-gone.ensures ∙ ap (λ n. min n (p.skipped / 1024)) c.len.ensures) q c.args.message c.remove_front.new.moments.items room more one refl
    (c.remove_front.ensures ∙ ap (drop c.min-gone.result) (c.in_ok-push.ensures.items ∙ ap (λ m. c.self.inside.moments.items ++ m ∷ []) moment))

pub returns-clause-ok : goal.returns-clause-ok
returns-clause-ok c =
    let p : Parts = record { sealed = c.self.inside.sealed; loose = c.self.inside.loose; skipped = c.self.inside.skipped } in
    let e : p ≡ c.args.self.now = c.self.view_is in
    let full : length (loosely p.loose) ≡ 1024 = ap (λ (q : Parts). length (loosely q.loose)) e ∙ c.requires.full in
    let more = c.in_ok-sealed.ensures ∙ ap (λ (s : List Entry). drop c.min-gone.result p.sealed ++ s ∷ []) c.in_ok-segment.ensures in
    let one : loosely c.begin.new.self ≡ c.args.message ∷ [] = ap₂ (λ (rs : List (List Entry)) (xs : List Entry). flat_map (λ s. s) rs ++ xs) c.begin.ensures.runs c.begin.ensures.last in
    let q : Parts = record { sealed = c.in_ok-sealed.sealed; loose = c.begin.new.self; skipped = c.self.inside.skipped - c.min-gone.result * 1024 } in
    (sealed_joined p c.self.inside.moments.items c.min-gone.result c.self.invariant full (c.min-gone.ensures ∙ ap (λ n. min n (p.skipped / 1024)) c.len.ensures) q c.args.message more one refl ∙ ap (λ (q : Parts). joined q ++ c.args.message ∷ []) e, c.begin.ensures.last)
