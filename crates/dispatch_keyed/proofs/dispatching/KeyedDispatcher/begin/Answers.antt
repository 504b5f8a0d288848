use Rattle.std.proofs.Common.{refl, ap, ap₂, sym, ◌∙◌, arith}
use Rattle.number_sets.specs.Firsts.{Firsts}
use Rattle.hash_rows.proofs.Moving.{unsent_behind}
use Rattle.dispatch_keyed.specs.Owning.{owners_with}
use Rattle.dispatch_keyed.proofs.Agreed.{agrees_empty, key_shared}
use Rattle.dispatch_keyed.proofs.Owning.{nobody_in_line}
use Rattle.dispatch_keyed.proofs.dispatching.KeyedDispatcher.begin.Goals as goal

pub returns-clause-ok : goal.returns-clause-ok
returns-clause-ok g c =
    let s = g.V.View.state c.args.view.now in
    let sub = g.V.View.subscription c.args.view.now in
    agrees_empty _ s sub (key_shared sub.kind c.requires.kind) (c.new.ensures ∙ ap₂ owners_with (sym c.requires.unshared) (sym (nobody_in_line s sub c.requires.empty))) refl (λ i past. unsent_behind s sub i (omega (arith, past, c.length.ensures)))
    c.new-2.ensures (ap (λ (f : Firsts). f.numbers) c.new-3.ensures)
