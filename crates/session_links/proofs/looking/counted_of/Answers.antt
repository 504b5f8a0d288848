use Rattle.std.proofs.Common.{rules, sym}
use Rattle.std.proofs.lemmas.List.Sorted.{answers_always}
use Rattle.session_links.proofs.Searched.{found_by_search, not_by_search}
use Rattle.session_links.proofs.looking.counted_of.Goals as goal

-- the closure gives the position of a count
pub returns-in-Ok : goal.returns-in-Ok
returns-in-Ok c =
    let facts = c.in-Ok.ensures in
    found_by_search c.args.counted.now c.args.position c.in-Ok.place c.index-counted-place.result c.requires
    (facts.position (λ one. one.position) (answers_always _ _ _ (λ f a r g called. search rules))) facts.bound c.index-counted-place.is

pub returns-in-Err : goal.returns-in-Err
returns-in-Err c =
    let facts = c.in-Err.ensures in
    sym (not_by_search c.args.counted.now c.args.position _ c.requires (facts.position (λ one. one.position) (answers_always _ _ _ (λ f a r g called. search rules))))
