use Rattle.std.proofs.Common.{◌≡◌, ◌≤◌, ◌∙◌, ap, length, rules, subst, sym, true}
use Rattle.std.specs.Prelude.{IfOk}
use Rattle.pdc_life.specs.Answer.{answer_in_time}
use Rattle.pdc_life.specs.Life.{Answer}
use Rattle.pdc_life.specs.Merger.{HeldLayout, merged_data_answer}
use Rattle.pdc_plain_steps.specs.Views.{answer_view, given_view, life_view}
use Rattle.pdc_plain.specs.Views.{layout_view}
use Rattle.pdc_plain.proofs.Merged.{merged_taken}
use Rattle.pdc_plain.proofs.merger.data_answer.Goals as goal

pub returns : goal.returns
returns c =
    let g = given_view c.args.given.now in
    let E = life_view c.args.life.now in
    let layout : HeldLayout = layout_view c.in-Some.layout in
    let long : 14 ≤ length c.args.payload.now = search rules in
    let bears : c.bears.result ≡ true = search rules in
    let taken = merged_taken c.words_are_cut.ensures g E c.args.stream c.args.tag.instant c.args.tag.quality c.args.payload.now c.split_at.result.0.now c.split_at.result.1.now layout c.split_at.ensures.front c.split_at.ensures.back long
    (sym c.bears.ensures ∙ bears) (c.if-blocks-blocks_len.false ∙ c.blocks_len.ensures.value) in
    subst (λ (a : Answer). IfOk c.answer_in_time.result (λ answer. answer_view answer ≡ a))
    (ap (answer_in_time g E c.args.stream c.args.tag.instant) c.in_ok-cells.ensures ∙ sym taken ∙ ap (merged_data_answer g E c.args.stream c.args.tag.instant c.args.tag.quality c.args.payload.now) c.in-Some.ensures)
    c.answer_in_time.ensures
