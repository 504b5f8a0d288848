-- The exchange that adds a mark keeps the rule.
use Rattle.std.proofs.Common.{◌≡◌, length, sym, ◌∙◌, ap}
use Rattle.marks.proofs.Adding.{adds_moves}
use Rattle.marks.proofs.marker.Marker.mark.Goals as goal

pub compare_exchange-found-requires : goal.compare_exchange-found-requires
compare_exchange-found-requires g c =
    let self = c.args.self.now in
    let h = self.head_is in
    let seen = c.again-seen.ensures in
    let offer = c.plain-offer.ensures in
    let pen = c.no_pen-pen.ensures in
    let book = ap (λ s. s.book) seen ∙ (self.seen_is ∙ sym (ap (λ w. w.book) h)) in
    let counted : length c.again-seen.result.log ≡ self.count = ap (λ s. length s.log) seen ∙ sym self.counted in (
      ap (λ w. w.tracked) h,
      book,
      pen.0 ∙ book,
      offer.0,
      rw (ap (λ w. w.key) h, pen.1, offer.1, offer.3) (adds_moves c.again-seen.result.log (g.M.Asks.ask c.args.about.now) self.count counted),
    )
