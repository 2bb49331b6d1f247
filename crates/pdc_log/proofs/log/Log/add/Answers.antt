use Rattle.std.proofs.Common.{sym, ◌∙◌, ap}
use Rattle.pdc_log.proofs.Adding.{adds_moves}
use Rattle.pdc_log.proofs.log.Log.add.Goals as goal

pub compare_exchange-found-requires : goal.compare_exchange-found-requires
compare_exchange-found-requires g c =
    let h = c.args.self.now.head_is in
    let learnt = c.learn.ensures in
    let ours = ap (λ s. s.book) c.again-both.ensures in
    let offer = c.plain-offer.ensures in
    let pen = c.no_pen-pen.ensures in (
      ap (λ w. w.tracked) h,
      learnt.0 ∙ (ours ∙ sym (ap (λ w. w.book) h)),
      pen.0 ∙ (learnt.0 ∙ (ours ∙ sym (ap (λ w. w.book) h))),
      offer.0,
      rw (ap (λ w. w.key) h, pen.1, offer.1) (adds_moves c.learn.new.self.log (g.M.Plain.ask c.args.about.now) c.args.self.now.steps c.plain-offer.result.state),
    )
