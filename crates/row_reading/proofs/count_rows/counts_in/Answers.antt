use Rattle.std.proofs.Common.{◌≡◌, ◌∷◌, ap, rules, subst, sym, true, true≢false, ◌∙◌}
use Rattle.std.specs.FinMap as map_of
use Rattle.std.specs.FinSet as set
use Rattle.std.specs.Ordering.{nat_cmp}
use Rattle.sqlite.specs.declared.types.Value.TheVariants.{Text as Words}
use Rattle.sqlite.specs.Order.{column}
use Rattle.row_reading.specs.Places.{seen}
use Rattle.delivery_machine.specs.Counts.{IsAfterAll}
use Rattle.row_reading.specs.Reading.{BeginsWithCounts}
use Rattle.row_reading.proofs.Counts.{MayBeCounts, counts_may, counts_more, counts_of, none_counted, none_begins, one_counted, same_count}
use Rattle.row_reading.proofs.NextCounts.{next_count}
use Rattle.row_reading.proofs.count_rows.counts_in.Goals as goal
use Rattle.row_forms.specs.Forms.{Span}

pub counts-init : goal.counts-init
counts-init c =
    let span : Span = seen c.args.done.kept in
    record {
      rows = subst (λ counts. BeginsWithCounts c.args.name.now span counts c.args.rows.now c.args.rows.now) (sym c.new-counts.ensures) (none_begins c.args.name.now span c.args.rows.now);
      counted = subst (MayBeCounts span.log c.args.done.acknowledged.now c.args.done.dead.now) (sym c.new-counts.ensures) (none_counted span.log c.args.done.acknowledged.now c.args.done.dead.now);
    }

pub counts-preserved : goal.counts-preserved
counts-preserved c =
    let h = c.counts.invariant in
    let span : Span = seen c.args.done.kept in
    let counted = c.in-Some-counted_in.counted in
    let after : IsAfterAll c.counts.counts counted.position = c.is_after_all.ensures.yes c.if-not-is_after_all.false in
    let pushed : c.push.new.self ≡ map_of.insert c.counts.counts counted.position counted.times = c.in_ok-push.ensures.after after in
    let split : c.counts.rest.now ≡ c.in-Some.row.now ∷ c.in-Some.after.now = search rules in
    record {
      rows = subst (λ counts. BeginsWithCounts c.args.name.now span counts c.args.rows.now c.in-Some.after.now) (sym pushed)
          (counts_more c.args.name.now span c.counts.counts counted.position counted.times c.args.rows.now c.counts.rest.now c.in-Some.after.now c.in-Some.row.now h.rows split c.in-Some-counted_in.ensures.shown after);
      counted = subst (MayBeCounts span.log c.args.done.acknowledged.now c.args.done.dead.now) (sym pushed)
          (one_counted span.log c.args.done.acknowledged.now c.args.done.dead.now c.counts.counts counted.position counted.times h.counted c.in-Some-counted_in.ensures.may);
    }

pub returns-then-not-is_text-clause-counted : goal.returns-then-not-is_text-clause-counted
returns-then-not-is_text-clause-counted c =
    λ dead died. counts_of (seen c.args.done.kept).log c.args.done.acknowledged.now c.args.done.dead.now dead c.requires died c.counts.counts c.counts.invariant.counted

pub returns-clause-counted : goal.returns-clause-counted
returns-clause-counted c =
    λ dead died. counts_of (seen c.args.done.kept).log c.args.done.acknowledged.now c.args.done.dead.now dead c.requires died c.counts.counts c.counts.invariant.counted

pub returns-in_default-counted_in-clause-all_read : goal.returns-in_default-counted_in-clause-all_read
returns-in_default-counted_in-clause-all_read c =
    λ dead counts others died are whole none.
    let h = c.counts.invariant in
    let span : Span = seen c.args.done.kept in
    let acknowledged : set.FinSet nat_cmp = c.args.done.acknowledged.now in
    let places : set.FinSet nat_cmp = c.args.done.dead.now in
    let split : c.counts.rest.now ≡ c.in-Some.row.now ∷ c.in-Some.after.now = search rules in
    let named : column c.in-Some.row.now 0 ≡ Words c.args.name.now = c.is_text.ensures.shown (search rules) ∙ ap Words c.as_str.ensures.value in
    let n = next_count c.args.name.now span acknowledged places c.counts.counts counts c.args.rows.now c.counts.rest.now c.in-Some.after.now others c.in-Some.row.now h.counted (counts_may span.log acknowledged places dead c.requires died counts are)
    h.rows split named whole none in
    c.in_default-counted_in.ensures.all_read n.0 n.1.may n.1.shown

pub returns-then-not-is_after_all-clause-all_read : goal.returns-then-not-is_after_all-clause-all_read
returns-then-not-is_after_all-clause-all_read c =
    λ dead counts others died are whole none.
    let h = c.counts.invariant in
    let span : Span = seen c.args.done.kept in
    let acknowledged : set.FinSet nat_cmp = c.args.done.acknowledged.now in
    let places : set.FinSet nat_cmp = c.args.done.dead.now in
    let split : c.counts.rest.now ≡ c.in-Some.row.now ∷ c.in-Some.after.now = search rules in
    let named : column c.in-Some.row.now 0 ≡ Words c.args.name.now = c.is_text.ensures.shown (search rules) ∙ ap Words c.as_str.ensures.value in
    let n = next_count c.args.name.now span acknowledged places c.counts.counts counts c.args.rows.now c.counts.rest.now c.in-Some.after.now others c.in-Some.row.now h.counted (counts_may span.log acknowledged places dead c.requires died counts are)
    h.rows split named whole none in
    let counted = c.in-Some-counted_in.counted in
    let found = c.in-Some-counted_in.ensures in
    let same : n.0.0 ≡ counted.position = same_count c.args.name.now span c.in-Some.row.now n.0 (counted.position, counted.times) n.1.may.message found.may.message n.1.shown found.shown in
    let yes : c.is_after_all.result ≡ true = c.is_after_all.ensures.no (subst (IsAfterAll c.counts.counts) same n.1.after) in
    true≢false (sym yes ∙ c.if-not-is_after_all.true)
