use Rattle.std.proofs.Common.{OnOk, string_bytes, subst}
use Rattle.position_core.specs.declared.message.Entry.{Entry}
use Rattle.wire_json.specs.Deliveries.{IsDelivery}
use Rattle.session_texts.specs.Unsent.{IsDeliveryText}
use Rattle.session_texts.proofs.writing.write_delivery.Goals as goal

pub returns : goal.returns
unfolding IsDeliveryText
returns c = subst (λ (m : Entry). OnOk c.delivery_text.result (IsDelivery m c.args.delivery.now.count (string_bytes c.delivery_text.new.out))) c.entry.ensures c.delivery_text.ensures
