use Rattle.std.proofs.Common.{◌≡◌, ◌∙◌, ap, arith, List, ℕ, Some, None}
use Rattle.std.specs.List.{position}
use Rattle.std.specs.Str.{bytes_eq}
use Rattle.delivery_machine.specs.Producing.{auto_name}
use Rattle.delivery_machine.proofs.Places.{none_passes}
use Rattle.plain_lists.proofs.Free.{Searched-more, Searched-end}
use Rattle.plain_lists.proofs.auto.least_free.Goals as goal

pub loop-names-preserved : goal.loop-names-preserved
loop-names-preserved c =
    let there : Some c.in-Some.place ≡ position (λ other. bytes_eq other (auto_name c.loop-names.number)) c.loop-names.names.items =
    c.in-Some.ensures
    ∙ ap (λ (name : List ℕ). position (λ other. bytes_eq other name) c.deref.result.now) c.in_ok-auto_name.ensures
    ∙ ap (position (λ other. bytes_eq other (auto_name c.loop-names.number))) c.deref.ensures.value in
    rw c.remove.ensures.items (Searched-more c.args.names.items c.loop-names.names.items c.loop-names.number c.in-Some.place (omega arith) c.loop-names.invariant there)

pub returns : goal.returns
returns c =
    let nowhere : None ≡ position (λ other. bytes_eq other (auto_name c.loop-names.number)) c.loop-names.names.items =
    c.in_default.ensures
    ∙ ap (λ (name : List ℕ). position (λ other. bytes_eq other name) c.deref.result.now) c.in_ok-auto_name.ensures
    ∙ ap (position (λ other. bytes_eq other (auto_name c.loop-names.number))) c.deref.ensures.value in
    Searched-end c.args.names.items c.loop-names.names.items c.loop-names.number (omega arith) c.loop-names.invariant (none_passes (λ (other : List ℕ). bytes_eq other (auto_name c.loop-names.number)) c.loop-names.names.items nowhere)
