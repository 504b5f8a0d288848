use Rattle.std.proofs.Common.{◌≡◌, ℕ, List, map, take}
use Rattle.std.specs.List.{All, flat_map}
use Rattle.std.specs.FinSet as set
use Rattle.row_reading.specs.Places.{seen}
use Rattle.delivery_machine.specs.Places.{KeptPlaces}
use Rattle.delivery_machine.specs.WellFormed.{NamesRise}
use Rattle.row_forms.specs.Forms.{sub_rows}
use Rattle.row_reading.specs.Reading.{BeginWithCounts, BeginsWithAcks, BeginsWithDeads, IsSubOf, OrdinalsCame, ShowSubs, put}
use Rattle.row_reading.proofs.LeftSubs.{AreLeft}
use Rattle.row_reading.proofs.kept_subs.put_subs.Given as goal

abbrev pub invariant-subs : goal.invariant-subs
invariant-subs l = record {
  rows : (topic : List ℕ) → put topic (take l.row-index l.rows) ≡ sub_rows topic l.subs.items;
  acks : BeginsWithAcks l.deaths.kept.gone l.subs.items l.others.acks.now l.left.acks.now;
  deads : BeginsWithDeads (seen l.deaths.kept) l.subs.items l.others.deads.now l.left.deads.now;
  counts : BeginWithCounts (seen l.deaths.kept) l.subs.items l.others.counts.now l.left.counts.now;
  names : NamesRise (map (λ sub. sub.name) l.subs.items);
  each : All (IsSubOf l.deaths.topic.now (seen l.deaths.kept).log l.deaths.next_ordinal) l.subs.items;
  ordinals : OrdinalsCame (flat_map (λ sub. sub.dead) l.subs.items) set.empty l.ordinals;
  left : (topic : List ℕ) (all : List KeptPlaces) → ShowSubs l.deaths.topic.now (seen l.deaths.kept) l.deaths.next_ordinal topic all l.rows l.others.acks.now l.others.deads.now l.others.counts.now
      → AreLeft topic (seen l.deaths.kept) all l.subs.items l.left.acks.now l.left.deads.now l.left.counts.now;
}
