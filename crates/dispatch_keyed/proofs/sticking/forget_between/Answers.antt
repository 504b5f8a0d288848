use Rattle.std.proofs.Common.{◌<◌, sym, ap, ◌∙◌, subst, arith}
use Rattle.std.specs.FinMap as map_of
use Rattle.number_sets.specs.Firsts.{Firsts}
use Rattle.dispatch_keyed.proofs.Firsts.{take_others, fewer, still_none}
use Rattle.dispatch_keyed.proofs.sticking.forget_between.Goals as goal

pub loop-hash-preserved : goal.loop-hash-preserved
loop-hash-preserved c =
    let old = c.loop-hash.firsts in
    let least = c.in-Some.ensures.some in
    let inv = c.loop-hash.invariant in
    record {
      room = ap (λ (f : Firsts). f.room) c.take_out.ensures ∙ inv.room;
      others = λ h out. take_others old c.take_out.new.self c.in-Some.hash c.take_out.ensures h (λ same. out (omega (arith, same, least.0)) (omega (arith, same, least.1))) ∙ inv.others h out;
      kept = λ h none. still_none old c.take_out.new.self c.in-Some.hash h c.take_out.ensures (inv.kept h none);
    }

pub loop-hash-smaller : goal.loop-hash-smaller
loop-hash-smaller c =
    let old = c.loop-hash.firsts in
    subst (λ (f : Firsts). map_of.len f.numbers < map_of.len old.numbers) (sym c.take_out.ensures) (fewer old.numbers c.in-Some.hash _ c.in-Some.ensures.some.2)
