use Rattle.pdc_arrival.specs.pdc_block.Block.{words_in}
use Rattle.pdc_table.specs.pdc_columns.Parts.{cut_cells}
use Rattle.pdc_align.proofs.Follows.{data_answer, data_follows}
use Rattle.pdc_align.proofs.alignment.Alignment.put_parts.Goals as goal
use Rattle.std.proofs.Common.{◌∙◌}

pub returns-clause-answer : goal.returns-clause-answer
returns-clause-answer g c life E stands =
    c.offer_parts.ensures.answer
    ∙ data_answer c.answers_agree.ensures life E c.args.self.now.state c.args.stream c.args.instant (cut_cells g.P.Part.column_of g.P.Part.shape_of c.args.cut.now.parts.now c.args.quality (words_in c.args.cut.now.bytes.now)) c.requires.put stands

pub returns-clause-stands : goal.returns-clause-stands
returns-clause-stands g c life E bytes payload stands run =
    data_follows c.take_is_take.ensures c.others_leave_it.ensures life E c.args.self.now.state c.offer_parts.new.self.state c.args.stream c.args.instant c.args.quality bytes payload
    (cut_cells g.P.Part.column_of g.P.Part.shape_of c.args.cut.now.parts.now c.args.quality (words_in c.args.cut.now.bytes.now)) c.offer_parts.result c.offer_parts.ensures.answer c.offer_parts.ensures.state stands run
