use Rattle.std.proofs.Common.{◌≡◌, List, [], Some, length, drop, get_or, ap, ◌∙◌, subst, arith}
use Rattle.std.specs.List.{slice_get, position_or_len}
use Rattle.std.proofs.lemmas.Option.{slice_get-get_or}
use Rattle.position_core.specs.declared.message.Entry.{Entry}
use Rattle.log_pieces.specs.Pieces.{Parts, AreEach, loosely}
use Rattle.log_pieces.specs.Times.{is_from}
use Rattle.log_pieces.proofs.Moments.{found_in, passed, after_all}
use Rattle.log_pieces.proofs.Trimmed.{length_all}
use Rattle.log_pieces.proofs.pieces.Pieces.count_earlier.Goals as goal

pub returns-then-from-here-lt-SEGMENT : goal.returns-then-from-here-lt-SEGMENT
returns-then-from-here-lt-SEGMENT c =
    let p : Parts = record { sealed = c.self.inside.sealed; loose = c.self.inside.loose; skipped = c.self.inside.skipped } in
    let e : p ≡ c.args.self.now = c.self.view_is in
    let now = c.args.self.now in
    let s : List Entry = get_or now.sealed c.loop-place.place [] in
    let at : slice_get now.sealed c.loop-place.place ≡ Some s = slice_get-get_or now.sealed c.loop-place.place [] (omega (arith, c.loop-place-test.true, c.len-place-end.ensures, ap (λ (q : Parts). length q.sealed) e)) in
    let are : AreEach 1024 now.sealed = subst (λ (q : Parts). AreEach 1024 q.sealed) e c.self.invariant.segments in
    found_in c.args.time now.skipped now.sealed (loosely now.loose) s c.loop-place.place c.loop-place.count c.min-from.result c.earlier_in-here.result are at (omega (arith, c.min-from.ensures, c.saturating_sub.ensures, ap (λ (q : Parts). q.skipped) e)) (c.earlier_in-here.ensures.value s at) c.loop-place.invariant c.if-from-here-lt-SEGMENT.true

pub loop-place-preserved : goal.loop-place-preserved
loop-place-preserved c =
    let p : Parts = record { sealed = c.self.inside.sealed; loose = c.self.inside.loose; skipped = c.self.inside.skipped } in
    let e : p ≡ c.args.self.now = c.self.view_is in
    let now = c.args.self.now in
    let s : List Entry = get_or now.sealed c.loop-place.place [] in
    let at : slice_get now.sealed c.loop-place.place ≡ Some s = slice_get-get_or now.sealed c.loop-place.place [] (omega (arith, c.loop-place-test.true, c.len-place-end.ensures, ap (λ (q : Parts). length q.sealed) e)) in
    let are : AreEach 1024 now.sealed = subst (λ (q : Parts). AreEach 1024 q.sealed) e c.self.invariant.segments in
    passed c.args.time now.skipped now.sealed (loosely now.loose) s c.loop-place.place c.loop-place.count c.min-from.result c.earlier_in-here.result are at (omega (arith, c.min-from.ensures, c.saturating_sub.ensures, ap (λ (q : Parts). q.skipped) e)) (c.earlier_in-here.ensures.value s at) c.loop-place.invariant c.if-from-here-lt-SEGMENT.false c.earlier_in-here.ensures.within

pub overflow_add-count : goal.overflow_add-count
overflow_add-count c =
    omega (arith, c.loop-place.invariant.few, c.earlier_in-here.ensures.within, c.loop-place-test.true, c.len-place-end.ensures, c.self.invariant.few)

pub count_earlier-requires : goal.count_earlier-requires
count_earlier-requires c =
    let p : Parts = record { sealed = c.self.inside.sealed; loose = c.self.inside.loose; skipped = c.self.inside.skipped } in
    let e : p ≡ c.args.self.now = c.self.view_is in
    omega (arith, c.saturating_sub-from.ensures, c.sealed_count.ensures.value, ap (λ (q : Parts). length q.sealed) e, c.self.invariant.within, length_all p c.self.invariant.segments)

pub overflow_add-result : goal.overflow_add-result
overflow_add-result c =
    omega (arith, c.loop-place.invariant.few, c.count_earlier.ensures.few, c.loop-place.auto.place-end, c.len-place-end.ensures, c.self.invariant.few)

pub returns : goal.returns
returns c =
    let p : Parts = record { sealed = c.self.inside.sealed; loose = c.self.inside.loose; skipped = c.self.inside.skipped } in
    let e : p ≡ c.args.self.now = c.self.view_is in
    let now = c.args.self.now in
    let all : c.loop-place.place ≡ length now.sealed = omega (arith, c.loop-place-test.false, c.loop-place.auto.place-end, c.len-place-end.ensures, ap (λ (q : Parts). length q.sealed) e) in
    after_all c.args.time now.skipped now.sealed (loosely now.loose) c.loop-place.place c.loop-place.count c.saturating_sub-from.result c.count_earlier.result c.loop-place.invariant all
    (omega (arith, all, c.saturating_sub-from.ensures, c.sealed_count.ensures.value, ap (λ (q : Parts). q.skipped) e))
    (c.count_earlier.ensures.value ∙ ap (λ (q : Parts). position_or_len (is_from c.args.time) (drop c.saturating_sub-from.result (loosely q.loose))) e)
