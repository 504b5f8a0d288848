use Rattle.std.proofs.Common.{◌≡◌, Bool, true, false, List, inl, inr, get_or, take, refl, sym, ap, ◌∙◌, arith, take_all, true≢false}
use Rattle.std.specs.Prelude.{◌||◌, nat_le}
use Rattle.std.proofs.lemmas.Bool.{cases_Bool, le-leb, leb-true, and_from, and_parts}
use Rattle.std.proofs.lemmas.List.Folds.{list_any_more}
use Rattle.position_core.specs.declared.ranges.HashRange.{HashRange}
use Rattle.position_core.specs.Ranges.{in_range, have_hash}
use Rattle.hash_ranges.proofs.Placed.{range_at}
use Rattle.dispatch_keyed.proofs.Renewed.{rest_on, renewed_on, renewed_since, renewed_again}
use Rattle.dispatch_keyed.proofs.keyed.Keyed.renew_ranges.Goals as goal

neither : (s t : Bool) → (s || t) ≡ false → (s ≡ false) × (t ≡ false)
neither true t e = absurd (true≢false e)
neither false t e = (refl, e)

one_of : (s t : Bool) → (s || t) ≡ true → t ≡ false → s ≡ true
one_of true t e not = refl
one_of false t e not = absurd (true≢false (sym e ∙ not))

pub overflow_add-range : goal.overflow_add-range
overflow_add-range g c = let range = range_at 0 c.args.ranges.now c.loop-range.range-index (record { first = 0; last = 0 }) c.requires.rise c.loop-range-test.true in omega (arith, range.1)

pub loop-range-preserved : goal.loop-range-preserved
loop-range-preserved g c =
    let s = g.V.View.state c.args.view.now in
    let sub = g.V.View.subscription c.args.view.now in
    let begun = c.args.self.now in
    let d = c.loop-range.self in
    let e = c.renew_between.new.self in
    let call = c.renew_between.ensures in
    let inv = c.loop-range.invariant in
    let ranges = c.args.ranges.now in
    let i = c.loop-range.range-index in
    let range = get_or ranges i (record { first = 0; last = 0 }) in
    record {
      rest = rest_on begun d e inv.rest call.rest;
      others = λ h not.
          let parts = neither (have_hash (take i ranges) h) (in_range h range) (sym (list_any_more (in_range h) ranges i (record { first = 0; last = 0 }) c.loop-range-test.true) ∙ not) in
          call.others h (λ low high. true≢false (sym (and_from (nat_le range.first h) (nat_le h range.last) (le-leb range.first h low) (le-leb h range.last (omega arith))) ∙ parts.1))
          ∙ inv.others h parts.0;
      first = λ h within theirs.
          let either = sym (list_any_more (in_range h) ranges i (record { first = 0; last = 0 }) c.loop-range-test.true) ∙ theirs in
          elim (cases_Bool (in_range h range)) [
            | inl here ↦
                let at = and_parts (nat_le range.first h) (nat_le h range.last) here in
                let now = call.first h (leb-true range.first h at.0) (let high = leb-true h range.last at.1 in omega arith) within in
                elim (cases_Bool (have_hash (take i ranges) h)) [
                  | inl before ↦ renewed_again begun d e h s sub call.rest (inv.first h within before) now
                  | inr not ↦ renewed_since begun d e h s sub (inv.others h not) now
                ]
            | inr past ↦
                renewed_on begun d e h s sub call.rest
                (call.others h (λ low high. true≢false (sym (and_from (nat_le range.first h) (nat_le h range.last) (le-leb range.first h low) (le-leb h range.last (omega arith))) ∙ past)))
                (inv.first h within (one_of (have_hash (take i ranges) h) (in_range h range) either past))
          ];
    }

pub returns-clause-others : goal.returns-clause-others
returns-clause-others g c h not =
    c.loop-range.invariant.others h (ap (λ (rs : List HashRange). have_hash rs h) (take_all c.loop-range.range-index c.args.ranges.now c.loop-range-test.false) ∙ not)

pub returns-clause-first : goal.returns-clause-first
returns-clause-first g c h within theirs =
    c.loop-range.invariant.first h within (ap (λ (rs : List HashRange). have_hash rs h) (take_all c.loop-range.range-index c.args.ranges.now c.loop-range-test.false) ∙ theirs)
