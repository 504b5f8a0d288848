use Rattle.std.proofs.Common.{ap, ◌∙◌}
use Rattle.std.specs.List.{position}
use Rattle.position_core.specs.declared.position.Position.{Position}
use Rattle.position_core.specs.declared.held.Held.{Held}
use Rattle.position_core.specs.Position.{same_position}
use Rattle.delivery_machine.proofs.Places.{changed_there, unchanged}
use Rattle.plain_lists.proofs.pending.rehold.Goals as goal

pub returns-in-Some : goal.returns-in-Some
returns-in-Some c =
    let there = c.in-Some.ensures ∙ ap (position (λ (e : Position × Held). same_position c.args.position e.0)) c.deref.ensures.value in
    changed_there (λ (e : Position × Held). same_position c.args.position e.0) (λ (e : Position × Held). (e.0, c.args.held)) c.args.entries.now.items c.in-Some.place c.index.result.now _ there (ap (λ (e : Position × Held). (e.0, c.args.held)) c.index.ensures)

pub returns-in-None : goal.returns-in-None
returns-in-None c =
    unchanged (λ (e : Position × Held). same_position c.args.position e.0) (λ (e : Position × Held). (e.0, c.args.held)) c.args.entries.now.items (c.in-None.ensures ∙ ap (position (λ (e : Position × Held). same_position c.args.position e.0)) c.deref.ensures.value)
