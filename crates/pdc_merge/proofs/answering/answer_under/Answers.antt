use Rattle.std.proofs.Common.{◌≡◌, ℕ, List, ◌∷◌, ◌∙◌, ap, drop, subst, sym}
use Rattle.pdc_block.specs.Block.{words_in}
use Rattle.pdc_row.specs.CellView.{CellView}
use Rattle.pdc_life.specs.Answer.{with_cells}
use Rattle.pdc_life.specs.Arrival.{Arrival, Data}
use Rattle.pdc_life.specs.Life.{Answer, Arrive}
use Rattle.pdc_life.specs.Merger.{held_layout, merged_data_answer}
use Rattle.pdc_life.specs.Run.{IsRun}
use Rattle.pdc_life.specs.declared.outcome.Outcome.{Outcome}
use Rattle.pdc_align.specs.Align.{StandsFor, is_left}
use Rattle.pdc_merge.specs.Cells.{cells_in}
use Rattle.pdc_merge.proofs.ByLayout.{read_under, refused_under}
use Rattle.pdc_merge.proofs.Lives.{at_stream}
use Rattle.pdc_merge.proofs.answering.answer_under.Goals as goal

pub returns-in-Some-clause-answer : goal.returns-in-Some-clause-answer
returns-in-Some-clause-answer g c life E stands held =
    ap (λ (a : Answer). a.outcome)
    (sym (refused_under life E c.args.stream c.args.instant c.args.quality c.args.payload.now c.args.layout.now (held_layout E c.args.stream) c.in-Some.refusal
    (held ∙ at_stream E c.args.stream c.requires.stream) (sym c.data_refusal.ensures ∙ c.in-Some.is)))

pub returns-in-Some-clause-stands : goal.returns-in-Some-clause-stands
returns-in-Some-clause-stands g c life E bytes stands held run =
    c.others_are_left.ensures life E c.args.alignment.now.state c.args.stream bytes (Data c.args.instant c.args.quality c.args.payload.now)
    (merged_data_answer life E c.args.stream c.args.instant c.args.quality c.args.payload.now (held_layout E c.args.stream)) stands
    (ap (λ (a : Answer). is_left a.outcome)
    (refused_under life E c.args.stream c.args.instant c.args.quality c.args.payload.now c.args.layout.now (held_layout E c.args.stream) c.in-Some.refusal
    (held ∙ at_stream E c.args.stream c.requires.stream) (sym c.data_refusal.ensures ∙ c.in-Some.is))) run

pub returns-in-None-clause-answer : goal.returns-in-None-clause-answer
returns-in-None-clause-answer g c life E stands held =
    c.put_data.ensures.answer life E stands
    ∙ ap (λ (a : Answer). a.outcome)
    (read_under c.columns_stand.ensures life E c.args.alignment.now.state c.args.stream c.args.instant c.args.quality c.args.payload.now c.args.layout.now (held_layout E c.args.stream) stands
    (held ∙ at_stream E c.args.stream c.requires.stream) c.requires.in_place (sym c.data_refusal.ensures ∙ c.in-None.is))

pub returns-in-None-clause-stands : goal.returns-in-None-clause-stands
returns-in-None-clause-stands g c life E bytes stands held run =
    let a = c.args.alignment.now.state in
    let cells : List (ℕ × CellView) = cells_in a c.args.quality c.args.layout.now.sections (drop 7 (words_in c.args.payload.now)) in
    let said : Arrival = Data c.args.instant c.args.quality c.args.payload.now in
    let is : with_cells c.put_data.result cells ≡ merged_data_answer life E c.args.stream c.args.instant c.args.quality c.args.payload.now (held_layout E c.args.stream) =
    ap (λ (o : Outcome). with_cells o cells) (c.put_data.ensures.answer life E stands)
    ∙ read_under c.columns_stand.ensures life E a c.args.stream c.args.instant c.args.quality c.args.payload.now c.args.layout.now (held_layout E c.args.stream) stands
    (held ∙ at_stream E c.args.stream c.requires.stream) c.requires.in_place (sym c.data_refusal.ensures ∙ c.in-None.is) in
    subst (λ (answer : Answer). StandsFor life (Arrive c.args.stream bytes said answer ∷ E) c.put_data.new.alignment.state) is
    (c.put_data.ensures.stands life E bytes stands (subst (λ (answer : Answer). IsRun life (Arrive c.args.stream bytes said answer ∷ E)) (sym is) run))
