use Rattle.std.proofs.Common.{◌+◌, ◌-◌, ◌∙◌, ap, ap₂, refl, length, map}
use Rattle.std.specs.Prelude.{max, min}
use Rattle.delivery_machine.specs.declared.reply.Reply.TheVariants.{Durable}
use Rattle.topic_log.specs.Written.{Written}
use Rattle.topic_subscriptions.specs.Placed.{safe_below_in}
use Rattle.topic_parts.specs.Parts.{log_of}
use Rattle.log_events.proofs.Safe.{first_stored, is_stored, numbers_stay, tied_stored_to, told_stored_to, with_stored}
use Rattle.log_events.proofs.storing.stored_to.Goals as goal

pub returns-clause-answers : goal.returns-clause-answers
returns-clause-answers c =
    let old = c.args.served.now.parts in
    let new = with_stored old c.store_to.new.self c.store_all_to.new.subscriptions in
    let durable = max old.log.durable (min (c.args.length - old.log.gone) (length (log_of old))) in
    let subs = c.store_all_to.ensures ∙ ap (map (safe_below_in c.args.ordinal)) c.deref_mut.ensures.value in (
      refl,
      (
        ap₂ (λ m n. Durable (m + n)) (c.gone.ensures.value ∙ ap (λ (w : Written). w.gone) c.store_to.ensures.value) (c.durable.ensures.value ∙ ap (λ (w : Written). w.durable) c.store_to.ensures.value),
        first_stored old new c.args.length c.args.ordinal (is_stored durable (safe_below_in c.args.ordinal) old c.store_to.new.self c.store_all_to.new.subscriptions c.store_to.ensures.value subs),
      ),
    )

pub returns-clause-bound : goal.returns-clause-bound
returns-clause-bound c =
    let old = c.args.served.now.parts in
    let new = with_stored old c.store_to.new.self c.store_all_to.new.subscriptions in
    let durable = max old.log.durable (min (c.args.length - old.log.gone) (length (log_of old))) in
    let subs = c.store_all_to.ensures ∙ ap (map (safe_below_in c.args.ordinal)) c.deref_mut.ensures.value in
    let is = is_stored durable (safe_below_in c.args.ordinal) old c.store_to.new.self c.store_all_to.new.subscriptions c.store_to.ensures.value subs in
    record {
      numbers = numbers_stay old.log c.store_to.new.self durable c.store_to.ensures.value c.requires.bound.numbers;
      tied = tied_stored_to old new c.args.length c.args.ordinal is c.requires.bound.tied;
      told = told_stored_to old new c.args.length c.args.ordinal is c.args.served.now.dispatchers.items c.requires.bound.told;
    }
