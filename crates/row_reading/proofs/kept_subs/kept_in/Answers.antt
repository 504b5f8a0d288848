use Rattle.std.proofs.Common.{◌≡◌, subst, sym}
use Rattle.row_reading.specs.Places.{seen}
use Rattle.delivery_machine.specs.Places.{AreBelow, KeptPlaces}
use Rattle.row_reading.specs.Reading.{ArePast, BeginsWithCounts, BeginsWithLetters, BeginsWithRuns}
use Rattle.row_reading.proofs.FirstSub.{its_counts}
use Rattle.row_reading.proofs.Subs.{acks_of_one, one_name, own_row}
use Rattle.row_reading.proofs.kept_subs.kept_in.Goals as goal
use Rattle.row_forms.specs.Forms.{Span}

pub returns-clause-acks : goal.returns-clause-acks
returns-clause-acks c =
    let sub : KeptPlaces = record { name = c.in-Some.sub.name; kind = c.in-Some.sub.kind; acknowledged = c.in-Some-2.acknowledged; counts = c.in-Some-4.counted; dead = c.in-Some-3.dead.items } in
    acks_of_one c.args.deaths.kept.gone sub c.args.left.acks.now c.in-Some-2.acks.now (rw c.in-Some-2.is at c.in_ok-acknowledged.ensures.runs)

pub returns-in_default-clause-all_read : goal.returns-in_default-clause-all_read
returns-in_default-clause-all_read c =
    λ sub acks deads counts readable shown _ _ _ _ _ _.
    let none = rw c.in_default.is at c.in_ok-sub.ensures.all_read in
    none sub.name sub.kind readable.text readable.name (own_row c.args.row.now sub shown)

pub returns-in_default-2-clause-all_read : goal.returns-in_default-2-clause-all_read
returns-in_default-2-clause-all_read c =
    λ sub acks deads counts readable shown runs past _ _ _ _.
    let name : sub.name ≡ c.in-Some.sub.name = one_name c.args.row.now sub.name c.in-Some.sub.name sub.kind c.in-Some.sub.kind (own_row c.args.row.now sub shown) (rw c.in-Some.is at c.in_ok-sub.ensures.shown) in
    let none = rw c.in_default-2.is at c.in_ok-acknowledged.ensures.all_read in
    none sub.acknowledged acks (subst (λ n. BeginsWithRuns n c.args.deaths.kept.gone sub.acknowledged c.args.left.acks.now acks) name runs) (subst (λ n. AreBelow n sub.acknowledged) (sym c.count-count.ensures) readable.within) (subst (λ n. ArePast n acks) name past)

pub returns-in_default-3-clause-all_read : goal.returns-in_default-3-clause-all_read
returns-in_default-3-clause-all_read c =
    λ sub acks deads counts readable shown _ _ letters past _ _.
    let name : sub.name ≡ c.in-Some.sub.name = one_name c.args.row.now sub.name c.in-Some.sub.name sub.kind c.in-Some.sub.kind (own_row c.args.row.now sub shown) (rw c.in-Some.is at c.in_ok-sub.ensures.shown) in
    let none = rw c.in_default-3.is at c.in_ok-dead.ensures.all_read in
    none sub.dead deads readable.letters (subst (λ n. BeginsWithLetters n (seen c.args.deaths.kept) sub.dead c.args.left.deads.now deads) name letters) (subst (λ n. ArePast n deads) name past)

pub returns-in_default-4-clause-all_read : goal.returns-in_default-4-clause-all_read
returns-in_default-4-clause-all_read c =
    λ sub acks deads counts readable shown runs past letters past_letters counted past_counted.
    let span : Span = seen c.args.deaths.kept in
    let name : sub.name ≡ c.in-Some.sub.name = one_name c.args.row.now sub.name c.in-Some.sub.name sub.kind c.in-Some.sub.kind (own_row c.args.row.now sub shown) (rw c.in-Some.is at c.in_ok-sub.ensures.shown) in
    let back : c.in-Some.sub.name ≡ sub.name = sym name in
    let found_runs = subst (λ n. BeginsWithRuns n c.args.deaths.kept.gone c.in-Some-2.acknowledged c.args.left.acks.now c.in-Some-2.acks.now) back (rw c.in-Some-2.is at c.in_ok-acknowledged.ensures.runs) in
    let found_past = subst (λ n. ArePast n c.in-Some-2.acks.now) back (rw c.in-Some-2.is at c.in_ok-acknowledged.ensures.past) in
    let found_letters = subst (λ n. BeginsWithLetters n span c.in-Some-3.dead.items c.args.left.deads.now c.in-Some-3.deads.now) back (rw c.in-Some-3.is at c.in_ok-dead.ensures.rows) in
    let found_past_letters = subst (λ n. ArePast n c.in-Some-3.deads.now) back (rw c.in-Some-3.is at c.in_ok-dead.ensures.past) in
    let are = its_counts c.args.deaths.topic.now span c.args.deaths.next_ordinal c.args.ordinals.now sub c.in-Some-2.acknowledged c.in-Some-3.dead.items c.args.left.acks.now acks c.in-Some-2.acks.now c.args.left.deads.now deads c.in-Some-3.deads.now
    readable runs past found_runs found_past letters past_letters found_letters found_past_letters (rw c.in-Some-3.is at c.in_ok-dead.ensures.dead) (rw c.in-Some-3.is at c.in_ok-dead.ensures.letters) in
    let none = rw c.in_default-4.is at c.in_ok-counted.ensures.all_read in
    none c.in-Some-3.dead.items sub.counts counts (rw c.in-Some-3.is at c.in_ok-dead.ensures.indexes) are (subst (λ n. BeginsWithCounts n span sub.counts c.args.left.counts.now counts) name counted) (subst (λ n. ArePast n counts) name past_counted)

pub returns-clause-sound : goal.returns-clause-sound
returns-clause-sound c =
    let counted = rw c.in-Some-4.is at c.in_ok-counted.ensures.counted in
    record {
      within = subst (λ n. AreBelow n c.in-Some-2.acknowledged) c.count-count.ensures (rw c.in-Some-2.is at c.in_ok-acknowledged.ensures.below);
      counted = counted c.in-Some-3.dead.items (rw c.in-Some-3.is at c.in_ok-dead.ensures.indexes);
      dead = rw c.in-Some-3.is at c.in_ok-dead.ensures.dead;
      letters = rw c.in-Some-3.is at c.in_ok-dead.ensures.letters;
    }
