use Rattle.std.proofs.Common.{◌≡◌, ◌+◌, ◌++◌, ◌∷◌, [], List, ℕ, map, take, refl, ap, sym, subst, true, true≢false, ◌∙◌, append-nil}
use Rattle.std.specs.List.{All, flat_map}
use Rattle.std.specs.FinSet as set
use Rattle.std.proofs.lemmas.Grind.{flat_map-append}
use Rattle.std.proofs.lemmas.List.{take_all}
use Rattle.std.proofs.lemmas.List.Elements.{All-nil, All-push}
use Rattle.sqlite.specs.declared.types.Value.TheVariants.{Text as Words}
use Rattle.position_core.specs.declared.topic_name.TopicName.{TopicName}
use Rattle.row_reading.specs.Places.{seen}
use Rattle.delivery_machine.specs.State.{DeadLetter}
use Rattle.delivery_machine.specs.Places.{KeptPlaces}
use Rattle.delivery_machine.specs.WellFormed.{NamesRise}
use Rattle.row_forms.specs.Forms.{sub_row, sub_rows}
use Rattle.row_reading.specs.Reading.{BeginWithCounts, BeginsWithAcks, BeginsWithDeads, IsSubOf, OrdinalsCame, put}
use Rattle.row_reading.proofs.LeftSubs.{AreLeft, IsRead, left_more, none_left, readable_now, rises_so_far, the_next}
use Rattle.row_reading.proofs.Letters.{came_none, came_then}
use Rattle.row_reading.proofs.Subs.{acks_then, all_acks, all_counts, all_deads, counts_then, deads_then, no_acks_yet, no_names, sound_subs, subs_more}
use Rattle.row_reading.proofs.kept_subs.put_subs.Goals as goal
use Rattle.row_reading.proofs.kept_subs.put_subs.Goals.{In-Some}
use Rattle.row_forms.specs.Forms.{Span}

pub subs-init : goal.subs-init
subs-init c =
    let own : TopicName = c.args.deaths.topic.now in
    let next = c.args.deaths.next_ordinal in
    let span : Span = seen c.args.deaths.kept in
    let none : c.args.subs.now.items ≡ [] = c.requires.empty in
    let empty : c.args.ordinals.now ≡ set.empty = c.requires.no_ordinals in
    record {
      rows = λ topic. ap (sub_rows topic) (sym none);
      acks = subst (λ subs. BeginsWithAcks c.args.deaths.kept.gone subs c.args.others.acks.now c.args.others.acks.now) (sym none) (no_acks_yet c.args.deaths.kept.gone c.args.others.acks.now);
      deads = subst (λ subs. BeginsWithDeads span subs c.args.others.deads.now c.args.others.deads.now) (sym none) (λ topic. refl);
      counts = subst (λ subs. BeginWithCounts span subs c.args.others.counts.now c.args.others.counts.now) (sym none) (λ topic. refl);
      names = subst (λ (subs : List KeptPlaces). NamesRise (map (λ (sub : KeptPlaces). sub.name) subs)) (sym none) no_names;
      each = subst (λ subs. All (IsSubOf own span.log next) subs) (sym none) (All-nil (IsSubOf own span.log next));
      ordinals = subst (λ (subs : List KeptPlaces). OrdinalsCame (flat_map (λ (sub : KeptPlaces). sub.dead) subs) set.empty c.args.ordinals.now) (sym none) (subst (λ s. OrdinalsCame [] set.empty s) (sym empty) (came_none set.empty));
      left = λ topic all show. subst (λ done. AreLeft topic span all done c.args.others.acks.now c.args.others.deads.now c.args.others.counts.now) (sym none) (record { more = all; is = refl; runs = show.runs; letters = show.letters; counted = show.counted });
    }

-- the subscription that was read, with its rows
its_read : (c : In-Some) → IsRead (seen c.args.deaths.kept) c.row-item.result c.in-Some.sub c.subs.left.acks.now c.subs.left.deads.now c.subs.left.counts.now c.in-Some.after.acks.now c.in-Some.after.deads.now c.in-Some.after.counts.now
its_read c = record {
  shown = rw c.in-Some.is at c.in_ok-sub.ensures.row;
  runs = rw c.in-Some.is at c.in_ok-sub.ensures.acks;
  past_runs = rw c.in-Some.is at c.in_ok-sub.ensures.past_acks;
  letters = rw c.in-Some.is at c.in_ok-sub.ensures.deads;
  past_letters = rw c.in-Some.is at c.in_ok-sub.ensures.past_deads;
  counted = rw c.in-Some.is at c.in_ok-sub.ensures.counts;
  past_counted = rw c.in-Some.is at c.in_ok-sub.ensures.past_counts;
}

pub subs-preserved : goal.subs-preserved
subs-preserved c =
    let h = c.subs.invariant in
    let own : TopicName = c.args.deaths.topic.now in
    let next = c.args.deaths.next_ordinal in
    let span : Span = seen c.args.deaths.kept in
    let was : List KeptPlaces = c.subs.subs.items in
    let sub : KeptPlaces = c.in-Some.sub in
    let shown : (topic : List ℕ) → Words topic ∷ c.row-item.result ≡ sub_row topic sub = rw c.in-Some.is at c.in_ok-sub.ensures.row in
    let acks : BeginsWithAcks c.args.deaths.kept.gone (sub ∷ []) c.subs.left.acks.now c.in-Some.after.acks.now = rw c.in-Some.is at c.in_ok-sub.ensures.acks in
    let deads : BeginsWithDeads span (sub ∷ []) c.subs.left.deads.now c.in-Some.after.deads.now = rw c.in-Some.is at c.in_ok-sub.ensures.deads in
    let counts : BeginWithCounts span (sub ∷ []) c.subs.left.counts.now c.in-Some.after.counts.now = rw c.in-Some.is at c.in_ok-sub.ensures.counts in
    let sound : IsSubOf own span.log next sub = rw c.in-Some.is at c.in_ok-sub.ensures.sound in
    let came : OrdinalsCame sub.dead c.subs.ordinals c.kept_in.new.ordinals = rw c.in-Some.is at c.in_ok-sub.ensures.ordinals in
    let dead : KeptPlaces → List DeadLetter = λ s. s.dead in
    let letters : flat_map dead (was ++ sub ∷ []) ≡ flat_map dead was ++ sub.dead = flat_map-append dead was (sub ∷ []) ∙ ap (λ l. flat_map dead was ++ l) (append-nil sub.dead) in
    let pushed : c.put_sub.new.subs.items ≡ was ++ sub ∷ [] = c.in_ok-put_sub-in-Some.ensures.put c.if-not-branch.false in
    record {
      rows = λ topic. subst (λ subs. put topic (take (c.subs.row-index + 1) c.args.rows.now) ≡ sub_rows topic subs) (sym pushed) (subs_more topic c.args.rows.now c.subs.row-index c.row-item.result was sub c.subs-test.true c.row-item.is (h.rows topic) (shown topic));
      acks = subst (λ subs. BeginsWithAcks c.args.deaths.kept.gone subs c.args.others.acks.now c.in-Some.after.acks.now) (sym pushed) (acks_then c.args.deaths.kept.gone was (sub ∷ []) c.args.others.acks.now c.subs.left.acks.now c.in-Some.after.acks.now h.acks acks);
      deads = subst (λ subs. BeginsWithDeads span subs c.args.others.deads.now c.in-Some.after.deads.now) (sym pushed) (deads_then span was (sub ∷ []) c.args.others.deads.now c.subs.left.deads.now c.in-Some.after.deads.now h.deads deads);
      counts = subst (λ subs. BeginWithCounts span subs c.args.others.counts.now c.in-Some.after.counts.now) (sym pushed) (counts_then span was (sub ∷ []) c.args.others.counts.now c.subs.left.counts.now c.in-Some.after.counts.now h.counts counts);
      names = c.in_ok-put_sub-in-Some.ensures.above c.if-not-branch.false;
      each = subst (λ subs. All (IsSubOf own span.log next) subs) (sym pushed) (All-push (IsSubOf own span.log next) was sub h.each sound);
      ordinals = subst (λ (subs : List KeptPlaces). OrdinalsCame (flat_map dead subs) set.empty c.kept_in.new.ordinals) (sym pushed)
          (subst (λ ds. OrdinalsCame ds set.empty c.kept_in.new.ordinals) (sym letters) (came_then (flat_map dead was) sub.dead set.empty c.subs.ordinals c.kept_in.new.ordinals h.ordinals came));
      left = λ topic all show.
          let n = the_next own span next topic all was c.args.rows.now c.args.others.acks.now c.args.others.deads.now c.args.others.counts.now c.subs.left.acks.now c.subs.left.deads.now c.subs.left.counts.now c.subs.row-index c.row-item.result show (h.left topic all show) c.subs-test.true c.row-item.is (h.rows topic) in
          subst (λ done. AreLeft topic span all done c.in-Some.after.acks.now c.in-Some.after.deads.now c.in-Some.after.counts.now) (sym pushed)
          (left_more own span next topic all was c.row-item.result c.subs.left.acks.now c.subs.left.deads.now c.subs.left.counts.now c.in-Some.after.acks.now c.in-Some.after.deads.now c.in-Some.after.counts.now sub show.each n (its_read (goal.at.subs-preserved c).In-Some) sound);
    }

pub returns-clause-acks : goal.returns-clause-acks
returns-clause-acks c = λ whole. all_acks c.args.deaths.kept.gone c.subs.subs.items c.args.others.acks.now c.subs.left.acks.now c.subs.invariant.acks (c.is_empty.ensures.acks whole)

pub returns-clause-deads : goal.returns-clause-deads
returns-clause-deads c = λ whole. all_deads (seen c.args.deaths.kept) c.subs.subs.items c.args.others.deads.now c.subs.left.deads.now c.subs.invariant.deads (c.is_empty.ensures.deads whole)

pub returns-clause-counts : goal.returns-clause-counts
returns-clause-counts c = λ whole. all_counts (seen c.args.deaths.kept) c.subs.subs.items c.args.others.counts.now c.subs.left.counts.now c.subs.invariant.counts (c.is_empty.ensures.counts whole)

pub returns-clause-sound : goal.returns-clause-sound
returns-clause-sound c = λ whole.
    sound_subs c.args.deaths.topic.now (seen c.args.deaths.kept).log c.args.deaths.next_ordinal c.subs.subs.items c.subs.ordinals c.subs.invariant.names c.subs.invariant.each c.subs.invariant.ordinals c.requires.last

pub returns-then-not-branch-clause-all_read : goal.returns-then-not-branch-clause-all_read
returns-then-not-branch-clause-all_read c =
    λ topic all show.
    let h = c.subs.invariant in
    let own : TopicName = c.args.deaths.topic.now in
    let next = c.args.deaths.next_ordinal in
    let span : Span = seen c.args.deaths.kept in
    let was : List KeptPlaces = c.subs.subs.items in
    let n = the_next own span next topic all was c.args.rows.now c.args.others.acks.now c.args.others.deads.now c.args.others.counts.now c.subs.left.acks.now c.subs.left.deads.now c.subs.left.counts.now c.subs.row-index c.row-item.result show (h.left topic all show) c.subs-test.true c.row-item.is (h.rows topic) in
    let sub : KeptPlaces = c.in-Some.sub in
    let sound : IsSubOf own span.log next sub = rw c.in-Some.is at c.in_ok-sub.ensures.sound in
    let left = left_more own span next topic all was c.row-item.result c.subs.left.acks.now c.subs.left.deads.now c.subs.left.counts.now c.in-Some.after.acks.now c.in-Some.after.deads.now c.in-Some.after.counts.now sub show.each n
    (its_read (goal.at.returns-then-not-branch-clause-all_read c).In-Some) sound in
    let rise : NamesRise (map (λ (s : KeptPlaces). s.name) (was ++ sub ∷ [])) = rises_so_far all (was ++ sub ∷ []) left.more left.is show.names in
    let yes : c.in_ok-put_sub-in-Some.field-0 ≡ true = c.in_ok-put_sub-in-Some.ensures.all_put rise in
    absurd (true≢false (sym yes ∙ c.if-not-branch.true))

pub returns-in-None-clause-all_read : goal.returns-in-None-clause-all_read
returns-in-None-clause-all_read c =
    λ topic all show.
    let h = c.subs.invariant in
    let own : TopicName = c.args.deaths.topic.now in
    let next = c.args.deaths.next_ordinal in
    let span : Span = seen c.args.deaths.kept in
    let was : List KeptPlaces = c.subs.subs.items in
    let n = the_next own span next topic all was c.args.rows.now c.args.others.acks.now c.args.others.deads.now c.args.others.counts.now c.subs.left.acks.now c.subs.left.deads.now c.subs.left.counts.now c.subs.row-index c.row-item.result show (h.left topic all show) c.subs-test.true c.row-item.is (h.rows topic) in
    let ready = readable_now own span.log next all was n.sub n.others c.subs.ordinals show.each n.is show.ordinals.distinct h.ordinals in
    let none = rw c.in-None.is at c.in_ok-sub.ensures.all_read in
    absurd (none n.sub n.begins.later_acks n.begins.later_deads n.begins.later_counts ready n.shown n.begins.runs n.begins.past_runs n.begins.letters n.begins.past_letters n.begins.counted n.begins.past_counted)

pub returns-clause-all_read : goal.returns-clause-all_read
returns-clause-all_read c =
    λ topic all show.
    let h = c.subs.invariant in
    let span : Span = seen c.args.deaths.kept in
    let whole : put topic c.args.rows.now ≡ sub_rows topic c.subs.subs.items = ap (put topic) (sym (take_all c.subs.row-index c.args.rows.now c.subs-test.false)) ∙ h.rows topic in
    let e = none_left c.args.deaths.topic.now span c.args.deaths.next_ordinal topic all c.subs.subs.items c.args.rows.now c.args.others.acks.now c.args.others.deads.now c.args.others.counts.now c.subs.left.acks.now c.subs.left.deads.now c.subs.left.counts.now show (h.left topic all show) whole in
    (c.is_empty.ensures.all_empty e.1 e.2 e.3, e.0)
