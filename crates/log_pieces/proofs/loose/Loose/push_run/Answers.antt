use Rattle.std.proofs.Common.{◌≡◌, List, [], ◌∷◌, ◌++◌, length, ap, ◌∙◌, sym, subst, slice_set, arith}
use Rattle.std.specs.List.{flat_map}
use Rattle.std.proofs.Math.ListN.{length-append}
use Rattle.position_core.specs.declared.message.Entry.{Entry}
use Rattle.log_pieces.specs.Pieces.{Last, loosely, AreEach}
use Rattle.log_pieces.proofs.Joined.{each_push, joined_push, first_set}
use Rattle.log_pieces.proofs.loose.Loose.push_run.Goals as goal

pub invariant_of-self : goal.invariant_of-self
invariant_of-self c =
    let l : Last = record { runs = c.self.inside.runs; last = c.self.inside.last.items } in
    let e : l ≡ c.args.self.now = c.self.view_is in
    let same : length l.runs ≡ length c.args.self.now.runs = ap (λ (q : Last). length q.runs) e in
    let full : length l.last ≡ 32 = ap (λ (q : Last). length q.last) e ∙ c.requires.full in
    let more = c.in_ok-self-inside.ensures ∙ ap (λ (s : List Entry). l.runs ++ s ∷ []) c.in_ok-run.ensures in
    let one : slice_set c.truncate.new.self.items 0 c.args.message ≡ c.args.message ∷ [] = ap (λ (xs : List Entry). slice_set xs 0 c.args.message) c.truncate.ensures.items ∙ first_set l.last c.args.message (omega (arith, full)) in
    record {
      runs = subst (λ (xs : List (List Entry)). AreEach 32 xs) (sym more) (each_push 32 l.runs l.last c.self.invariant.runs full);
      few = omega (arith, ap (λ (xs : List (List Entry)). length xs) more, length-append l.runs (l.last ∷ []), same, c.requires.room);
      rest = omega (arith, ap (λ (xs : List Entry). length xs) one);
    }

pub returns-clause-ok : goal.returns-clause-ok
returns-clause-ok c =
    let l : Last = record { runs = c.self.inside.runs; last = c.self.inside.last.items } in
    let e : l ≡ c.args.self.now = c.self.view_is in
    let full : length l.last ≡ 32 = ap (λ (q : Last). length q.last) e ∙ c.requires.full in
    let more = c.in_ok-self-inside.ensures ∙ ap (λ (s : List Entry). l.runs ++ s ∷ []) c.in_ok-run.ensures in
    let one : slice_set c.truncate.new.self.items 0 c.args.message ≡ c.args.message ∷ [] = ap (λ (xs : List Entry). slice_set xs 0 c.args.message) c.truncate.ensures.items ∙ first_set l.last c.args.message (omega (arith, full)) in (
      ap (λ (xs : List (List Entry)). flat_map (λ s. s) xs ++ slice_set c.truncate.new.self.items 0 c.args.message) more
          ∙ ap (λ (ys : List Entry). flat_map (λ s. s) (l.runs ++ l.last ∷ []) ++ ys) one
          ∙ joined_push l.runs l.last c.args.message
          ∙ ap (λ (q : Last). loosely q ++ c.args.message ∷ []) e,
      one,
    )
