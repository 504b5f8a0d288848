use Rattle.std.proofs.Common.{◌≡◌, ℕ, suc, ◌+◌, Vec, Global, List, ◌++◌, ap, ap₂, sym, ◌∙◌, take, arith}
use Rattle.std.specs.List.{flat_map}
use Rattle.position_core.specs.declared.message.Entry.{Entry}
use Rattle.position_core.specs.declared.message.Message.{Message}
use Rattle.log_pieces.specs.Pieces.{Last}
use Rattle.log_pieces.proofs.Joined.{further, slice_get_none}
use Rattle.log_pieces.proofs.loose.Loose.messages.Goals as goal
use Rattle.log_pieces.proofs.loose.Loose.messages.Goals.{in-Some+in_ok-put_all-in-Some, in-None}

pub loop-place-preserved : goal.loop-place-preserved
loop-place-preserved c =
    let l : Last = record { runs = c.self.inside.runs; last = c.self.inside.last.items } in
    let e : l ≡ c.args.self.now = c.self.view_is in
    let runs_are : l.runs ≡ c.args.self.now.runs = ap (λ (q : Last). q.runs) e in
    let next : c.loop-place.place + 1 ≡ suc c.loop-place.place = omega arith in
    elim c.match-get.branch [
      | in-Some+in_ok-put_all-in-Some w ↦
          ap (λ (v : Vec Message Global). v.items) w.all-is
          ∙ w.in_ok-put_all-in-Some.ensures
          ∙ ap₂ (λ (xs ys : List Entry). xs ++ ys) c.loop-place.invariant w.messages.ensures
          ∙ ap (λ (rs : List (List Entry)). flat_map (λ s. s) (take c.loop-place.place rs) ++ w.in-Some.found.now) (sym runs_are)
          ∙ sym (further l.runs w.in-Some.found.now c.loop-place.place (sym w.in-Some.ensures))
          ∙ ap₂ (λ (n : ℕ) (rs : List (List Entry)). flat_map (λ s. s) (take n rs)) (sym next) runs_are
      | in-None w ↦ absurd (omega (arith, slice_get_none l.runs c.loop-place.place (sym w.in-None.ensures), c.len-place-end.ensures, c.loop-place-test.true))
    ]
