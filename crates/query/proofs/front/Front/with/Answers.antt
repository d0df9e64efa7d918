use Rattle.std.proofs.Common.{sym, ◌∙◌, ap, length}
use Rattle.query.proofs.Counting.{adds}
use Rattle.query.proofs.front.Front.with.Goals as goal

pub compare_exchange-found-requires : goal.compare_exchange-found-requires
compare_exchange-found-requires c =
    let word = c.requires in
    let seen = c.again-seen.ensures in
    let offer = c.plain-offer.ensures in
    let pen = c.no_pen-pen.ensures in
    let book = ap (λ s. s.book) seen ∙ (ap (λ b. b.book) c.self.view_is ∙ sym (ap (λ w. w.book) word)) in (
      ap (λ w. w.tracked) word,
      book,
      pen.0 ∙ book,
      offer.0,
      rw (ap (λ w. w.key) word, pen.1, offer.1, offer.3) (adds c.again-seen.result.log c.args.delta.now c.self.inside.count (ap (λ s. length s.log) seen ∙ sym c.self.invariant)),
    )
