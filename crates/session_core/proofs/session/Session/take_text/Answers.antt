use Rattle.std.proofs.Common.{refl, ap, sym, ◌∙◌, Some}
use Rattle.session_core.proofs.Taking.{text_answered, text_asked, text_closes, text_shown, text_unread}
use Rattle.session_core.proofs.session.Session.take_text.Goals as goal

pub returns-in_default : goal.returns-in_default
returns-in_default g c = text_unread _ _ _ _ _ (ap Some c.wants_memory.ensures)

pub returns-in-Asks : goal.returns-in-Asks
returns-in-Asks g c = text_asked _ _ _ _ _ _ _ _ _ (sym c.in-Ok.ensures ∙ c.in-Asks.is) c.take_reply.ensures

pub returns-in-Answers : goal.returns-in-Answers
returns-in-Answers g c =
    text_answered c.args.self.now _ _ _ _ _ (sym c.in-Ok.ensures ∙ c.in-Answers.is) (record { party = refl; durable = refl; copies = refl; copies_sent = refl }) refl c.push_back_reserved.ensures.items

pub returns-in-Closes : goal.returns-in-Closes
returns-in-Closes g c = text_closes _ _ _ _ _ (sym c.in-Ok.ensures ∙ c.in-Closes.is)

pub returns-in-Shows : goal.returns-in-Shows
returns-in-Shows g c = text_shown _ _ _ _ _ _ (sym c.in-Ok.ensures ∙ c.in-Shows.is) c.take_overview.ensures
