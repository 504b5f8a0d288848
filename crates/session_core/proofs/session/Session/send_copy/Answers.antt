use Rattle.std.proofs.Common.{refl, sym, ap, ◌∙◌, subst, get_or}
use Rattle.session_texts.specs.Unsent.{IsDeliveryText}
use Rattle.session_core.proofs.Unsent.{sends_copy}
use Rattle.session_core.proofs.session.Session.send_copy.Goals as goal

pub returns-in-Ok-send : goal.returns-in-Ok-send
returns-in-Ok-send g c =
    sends_copy c.args.self.now _ c.index-as_slice-self.result c.as_str.result.now _ _ (g.C.Conn.has_room c.args.conn.now) _ (g.C.Conn.has_room c.send.new.self) c.requires.some
    (c.index-as_slice-self.is ∙ ap (λ l. get_or l c.args.self.now.copies_sent c.index-as_slice-self.result) c.as_slice.ensures)
    (subst (IsDeliveryText c.index-as_slice-self.result) (sym c.as_str.ensures.value) c.in-Ok.ensures) refl refl refl
    (record { party = refl; next = refl; durable = refl }) c.in-Ok-send.ensures.ok.1 c.in-Ok-send.ensures.ok.0
