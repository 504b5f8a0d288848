use Rattle.std.proofs.Common.{◌∙◌, List, sym, subst, arith, length-take}
use Rattle.std.proofs.lemmas.List.{with_items_is}
use Rattle.delivery_machine.specs.State.{State}
use Rattle.topic_served.specs.Told.{AreTold}
use Rattle.topic_served.specs.declared.dispatch.Dispatch.{Dispatch}
use Rattle.topic_parts.specs.Parts.{log_of, state_of}
use Rattle.topic_served.specs.Trimming.{AreTrimmed}
use Rattle.topic_served.proofs.Going.{are_idle, are_trimmed}
use Rattle.topic_served.proofs.served.Served.trim.Goals as goal

pub returns-clause-bound : goal.returns-clause-bound
returns-clause-bound c =
    let old = c.args.self.now.parts in
    let may = c.requires.may in
    let rising = c.requires.well.log.positions in
    let trimmed = subst (λ (t : State). AreTrimmed c.args.count (state_of old) t) (sym c.trim.ensures.state)
    (are_trimmed (state_of old) c.args.count rising (omega (arith, may.within, may.stored, length-take old.log.durable (log_of old))) (are_idle old c.args.count rising c.requires.bound.tied may.acknowledged)) in
    let told = c.tell_all.ensures (state_of old)
    (subst (λ (ds : List Dispatch). AreTold ds (state_of old)) (sym c.deref_mut.ensures.value) c.requires.bound.told) trimmed in
    record {
      numbers = c.trim.ensures.agrees;
      tied = c.trim.ensures.tied;
      told = subst (λ (ds : List Dispatch). AreTold ds (state_of c.trim.new.self))
          (sym (with_items_is c.args.self.now.dispatchers c.tell_all.new.dispatchers (told.many ∙ trimmed.many ∙ sym c.requires.bound.told.many ∙ sym c.args.self.now.dispatchers.ok.0))) told;
    }
