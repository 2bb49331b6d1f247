use Rattle.pdc_table.specs.pdc_columns.Taking.{body_cells_of}
use Rattle.pdc_align.proofs.Follows.{data_answer, data_follows}
use Rattle.pdc_align.proofs.alignment.Alignment.put.Goals as goal
use Rattle.std.proofs.Common.{◌∙◌}

pub returns-clause-answer : goal.returns-clause-answer
returns-clause-answer g c life E stands =
    c.offer.ensures.answer
    ∙ data_answer c.answers_agree.ensures life E c.args.self.now.state c.args.stream c.args.instant (body_cells_of c.args.cells.now c.args.quality) c.requires stands

pub returns-clause-stands : goal.returns-clause-stands
returns-clause-stands g c life E bytes payload stands run =
    data_follows c.take_is_take.ensures c.others_leave_it.ensures life E c.args.self.now.state c.offer.new.self.state c.args.stream c.args.instant c.args.quality bytes payload
    (body_cells_of c.args.cells.now c.args.quality) c.offer.result c.offer.ensures.answer c.offer.ensures.state stands run
