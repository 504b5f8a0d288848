use Rattle.std.proofs.Common.{◌≡◌, List, [], OnOk, ap, subst, ◌∙◌}
use Rattle.std.specs.FinMap as map_of
use Rattle.std.proofs.lemmas.List.Elements.{All-head, All-same}
use Rattle.std.proofs.lemmas.Result.{on_ok_weaker}
use Rattle.delivery_machine.specs.Places.{KeptPlaces}
use Rattle.row_forms.specs.Places.{seen}
use Rattle.row_forms.specs.Forms.{Span}
use Rattle.row_forms.specs.Parts.{AreCountedIn, ExtendsByEntries, IsCountedIn}
use Rattle.row_forms.proofs.Counts.{counts_change, counts_come, counts_go}
use Rattle.row_forms.proofs.count_difference.add.Goals as goal

pub add_counts-requires-clause-there : goal.add_counts-requires-clause-there
add_counts-requires-clause-there c =
    let was : Span = seen c.args.logs.was in
    let old = c.in-Gone.old.now in
    let there : AreCountedIn was.log old = All-head (AreCountedIn was.log) old [] (rw c.in-Gone.is at c.requires.there) in
    All-same (IsCountedIn was.log) _ (map_of.entries old.counts) (c.as_slice.ensures.entries ∙ ap (λ (k : KeptPlaces). map_of.entries k.counts) c.old.view_is) there

pub add_counts-requires-in-New-clause-here : goal.add_counts-requires-in-New-clause-here
add_counts-requires-in-New-clause-here c =
    let log : Span = seen c.args.logs.now in
    let new = c.in-New.new.now in
    let here : AreCountedIn log.log new = All-head (AreCountedIn log.log) new [] (rw c.in-New.is at c.requires.here) in
    All-same (IsCountedIn log.log) _ (map_of.entries new.counts) (c.as_slice-in-New.ensures.entries ∙ ap (λ (k : KeptPlaces). map_of.entries k.counts) c.new.view_is) here

pub add_counts-requires-in-Both-clause-here : goal.add_counts-requires-in-Both-clause-here
add_counts-requires-in-Both-clause-here c =
    let log : Span = seen c.args.logs.now in
    let new = c.in-Both.new.now in
    let here : AreCountedIn log.log new = All-head (AreCountedIn log.log) new [] (rw c.in-Both.is at c.requires.here) in
    All-same (IsCountedIn log.log) _ (map_of.entries new.counts) (c.as_slice-in-Both-2.ensures.entries ∙ ap (λ (k : KeptPlaces). map_of.entries k.counts) c.new-in-Both.view_is) here

pub add_counts-requires-in-Both-clause-there : goal.add_counts-requires-in-Both-clause-there
add_counts-requires-in-Both-clause-there c =
    let was : Span = seen c.args.logs.was in
    let old = c.in-Both.old.now in
    let there : AreCountedIn was.log old = All-head (AreCountedIn was.log) old [] (rw c.in-Both.is at c.requires.there) in
    All-same (IsCountedIn was.log) _ (map_of.entries old.counts) (c.as_slice-in-Both.ensures.entries ∙ ap (λ (k : KeptPlaces). map_of.entries k.counts) c.old-in-Both.view_is) there

pub returns-in-Gone : goal.returns-in-Gone
returns-in-Gone c =
    let was : Span = seen c.args.logs.was in
    let log : Span = seen c.args.logs.now in
    let d = c.args.difference.now in
    let e = c.add_counts.new.difference in
    let r = c.add_counts.result in
    let entries : OnOk r (ExtendsByEntries c.old.inside.name was log (map_of.entries c.old.inside.counts) [] d e) = rw c.as_slice.ensures.entries at c.add_counts.ensures in
    rw c.in-Gone.is
    (on_ok_weaker r (counts_go was log c.in-Gone.old.now d e) (subst (λ (k : KeptPlaces). OnOk r (ExtendsByEntries k.name was log (map_of.entries k.counts) [] d e)) c.old.view_is entries))

pub returns-in-New : goal.returns-in-New
returns-in-New c =
    let was : Span = seen c.args.logs.was in
    let log : Span = seen c.args.logs.now in
    let d = c.args.difference.now in
    let e = c.add_counts-in-New.new.difference in
    let r = c.add_counts-in-New.result in
    let entries : OnOk r (ExtendsByEntries c.new.inside.name was log [] (map_of.entries c.new.inside.counts) d e) = rw c.as_slice-in-New.ensures.entries at c.add_counts-in-New.ensures in
    rw c.in-New.is
    (on_ok_weaker r (counts_come was log c.in-New.new.now d e) (subst (λ (k : KeptPlaces). OnOk r (ExtendsByEntries k.name was log [] (map_of.entries k.counts) d e)) c.new.view_is entries))

pub returns-in-Both : goal.returns-in-Both
returns-in-Both c =
    let was : Span = seen c.args.logs.was in
    let log : Span = seen c.args.logs.now in
    let old = c.in-Both.old.now in
    let new = c.in-Both.new.now in
    let d = c.args.difference.now in
    let e = c.add_counts-in-Both.new.difference in
    let r = c.add_counts-in-Both.result in
    let names : old.name ≡ new.name = rw c.in-Both.is at c.requires.key in
    let entries : OnOk r (ExtendsByEntries c.new-in-Both.inside.name was log (map_of.entries c.old-in-Both.inside.counts) (map_of.entries c.new-in-Both.inside.counts) d e) =
    rw (c.as_slice-in-Both.ensures.entries, c.as_slice-in-Both-2.ensures.entries) at c.add_counts-in-Both.ensures in
    rw c.in-Both.is
    (on_ok_weaker r (counts_change was log old new d e names)
    (subst (λ (k : KeptPlaces). OnOk r (ExtendsByEntries new.name was log (map_of.entries k.counts) (map_of.entries new.counts) d e)) c.old-in-Both.view_is
    (subst (λ (k : KeptPlaces). OnOk r (ExtendsByEntries k.name was log (map_of.entries c.old-in-Both.inside.counts) (map_of.entries k.counts) d e)) c.new-in-Both.view_is entries)))
