use Rattle.std.proofs.Common.{ap}
use Rattle.pdc_life.specs.Merger.{merged_answer}
use Rattle.pdc_arrival.specs.Views.{arrival_view}
use Rattle.pdc_arrival.specs.declared.arrival.Arrival.{Arrival}
use Rattle.pdc_align.specs.Align.{is_left}
use Rattle.pdc_merge.proofs.answering.answer.Goals as goal

pub returns-in-BytesRefused-clause-stands : goal.returns-in-BytesRefused-clause-stands
returns-in-BytesRefused-clause-stands g c life E bytes stands held run =
    c.others_are_left.ensures life E c.args.alignment.now.state c.args.stream bytes (arrival_view c.args.arrival.now) (merged_answer life E c.args.stream (arrival_view c.args.arrival.now)) stands
    (ap (λ (a : Arrival). is_left (merged_answer life E c.args.stream (arrival_view a)).outcome) c.in-BytesRefused.is) run
