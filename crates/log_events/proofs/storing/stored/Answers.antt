use Rattle.std.proofs.Common.{◌+◌, ◌∙◌, ap, refl, length, map}
use Rattle.delivery_machine.specs.declared.reply.Reply.TheVariants.{Durable}
use Rattle.topic_log.specs.Written.{Written}
use Rattle.topic_subscriptions.specs.Placed.{all_safe_in}
use Rattle.topic_parts.specs.Parts.{log_of}
use Rattle.topic_served.specs.Served.{state_in}
use Rattle.topic_served.proofs.Settled.{well_of}
use Rattle.log_events.proofs.Safe.{all_stored, is_stored, numbers_stay, tied_stored, told_stored, with_stored}
use Rattle.log_events.proofs.storing.stored.Goals as goal

pub returns-clause-answers : goal.returns-clause-answers
returns-clause-answers c =
    let old = c.args.served.now.parts in
    let new = with_stored old c.store.new.self c.store_all.new.subscriptions in
    let subs = c.store_all.ensures ∙ ap (map all_safe_in) c.deref_mut.ensures.value in (
      refl,
      (
        ap (λ n. Durable n) (c.had.ensures.value ∙ ap (λ (w : Written). w.gone + length w.log.log) c.store.ensures),
        all_stored old new (is_stored (length (log_of old)) all_safe_in old c.store.new.self c.store_all.new.subscriptions c.store.ensures subs),
      ),
    )

pub returns-clause-bound : goal.returns-clause-bound
returns-clause-bound c =
    let old = c.args.served.now.parts in
    let new = with_stored old c.store.new.self c.store_all.new.subscriptions in
    let subs = c.store_all.ensures ∙ ap (map all_safe_in) c.deref_mut.ensures.value in
    let is = is_stored (length (log_of old)) all_safe_in old c.store.new.self c.store_all.new.subscriptions c.store.ensures subs in
    record {
      numbers = numbers_stay old.log c.store.new.self (length (log_of old)) c.store.ensures c.requires.bound.numbers;
      tied = tied_stored old new is c.requires.bound.tied;
      told = told_stored old new is c.args.served.now.dispatchers.items (well_of (state_in c.args.served.now) c.requires.reached).durable c.requires.bound.told;
    }
