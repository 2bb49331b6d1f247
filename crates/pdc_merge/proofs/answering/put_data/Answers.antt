use Rattle.std.proofs.Common.{◌≡◌, ◌∷◌, ◌∙◌, ◌-◌, ℕ, Bool, List, ap, arith, drop, length, subst, sym, take, true}
use Rattle.std.proofs.lemmas.List.{length-drop, take_all}
use Rattle.pdc_block.specs.Block.{words_in}
use Rattle.pdc_block.specs.Laws.{WordsAreCut}
use Rattle.pdc_row.specs.CellView.{CellView}
use Rattle.pdc_table.specs.Content.{IsPut}
use Rattle.pdc_table.specs.pdc_columns.Parts.{cut_cells}
use Rattle.pdc_life.specs.Answer.{outcome_in_time, with_cells}
use Rattle.pdc_life.specs.Arrival.{Data}
use Rattle.pdc_life.specs.Life.{Arrive}
use Rattle.pdc_life.specs.Run.{IsRun}
use Rattle.pdc_align.specs.Align.{StandsFor, State}
use Rattle.pdc_merge.specs.Cells.{are_in_force, cells_in}
use Rattle.pdc_merge.specs.declared.held_layout.HeldSection.{HeldSection}
use Rattle.pdc_merge.proofs.Placed.{all_given, is_put}
use Rattle.pdc_merge.proofs.answering.put_data.Goals as goal

behind_own : (bytes : List ℕ) → take (length bytes - 14) (drop 14 bytes) ≡ drop 14 bytes
behind_own bytes = take_all (length bytes - 14) (drop 14 bytes) (omega (arith, length-drop 14 bytes))

-- the cells of the blocks behind the own one
behind : (a : State) (q : ℕ) (sections : List HeldSection) (payload : List ℕ) → WordsAreCut → cells_in a q sections (words_in (take (length payload - 14) (drop 14 payload))) ≡ cells_in a q sections (drop 7 (words_in payload))
behind a q sections payload w = ap (cells_in a q sections) (ap words_in (behind_own payload) ∙ w.behind 7 payload)

-- where the count of each section is in force, these are the cells that the parts of the layout cut
cut : (a : State) (q : ℕ) (sections lent : List HeldSection) (payload : List ℕ) → WordsAreCut → lent ≡ sections → are_in_force a lent ≡ true
    → cut_cells (λ (s : HeldSection). s.column) (λ (s : HeldSection). s.shape) lent q (words_in (take (length payload - 14) (drop 14 payload))) ≡ cells_in a q sections (drop 7 (words_in payload))
cut a q sections lent payload w e h =
    sym (all_given a q lent (words_in (take (length payload - 14) (drop 14 payload))) h)
    ∙ ap (λ (ss : List HeldSection). cells_in a q ss (words_in (take (length payload - 14) (drop 14 payload)))) e
    ∙ behind a q sections payload w

-- where it was said that each is
known : (a : State) (lent sections : List HeldSection) (b : Bool) → lent ≡ sections → b ≡ are_in_force a sections → b ≡ true → are_in_force a lent ≡ true
known a lent sections b e h t = ap (are_in_force a) e ∙ sym h ∙ t

pub put_parts-requires-clause-put : goal.put_parts-requires-clause-put
put_parts-requires-clause-put g c =
    let a = c.args.alignment.now.state in
    subst (λ (cs : List (ℕ × CellView)). IsPut a.content c.args.stream cs)
    (sym (cut a c.args.quality c.args.layout.now.sections c.sections.result.now c.args.payload.now c.words_are_cut.ensures c.sections.ensures.sections (known c.args.alignment.now.state c.sections.result.now c.args.layout.now.sections c.args.is_in_force c.sections.ensures.sections c.requires.in_force c.if-is_in_force.true)))
    (is_put a c.args.stream c.args.quality c.args.layout.now.sections (drop 7 (words_in c.args.payload.now)) c.requires.each c.requires.lanes c.requires.stream c.requires.in_place)

pub returns-then-is_in_force-clause-answer : goal.returns-then-is_in_force-clause-answer
returns-then-is_in_force-clause-answer g c life E stands =
    c.put_parts.ensures.answer life E stands
    ∙ ap (outcome_in_time life E c.args.stream c.args.instant)
    (cut c.args.alignment.now.state c.args.quality c.args.layout.now.sections c.sections.result.now c.args.payload.now c.words_are_cut.ensures c.sections.ensures.sections (known c.args.alignment.now.state c.sections.result.now c.args.layout.now.sections c.args.is_in_force c.sections.ensures.sections c.requires.in_force c.if-is_in_force.true))

pub returns-then-is_in_force-clause-stands : goal.returns-then-is_in_force-clause-stands
returns-then-is_in_force-clause-stands g c life E bytes stands =
    subst (λ (cs : List (ℕ × CellView)). IsRun life (Arrive c.args.stream bytes (Data c.args.instant c.args.quality c.args.payload.now) (with_cells c.put_parts.result cs) ∷ E)
    → StandsFor life (Arrive c.args.stream bytes (Data c.args.instant c.args.quality c.args.payload.now) (with_cells c.put_parts.result cs) ∷ E) c.put_parts.new.self.state)
    (cut c.args.alignment.now.state c.args.quality c.args.layout.now.sections c.sections.result.now c.args.payload.now c.words_are_cut.ensures c.sections.ensures.sections (known c.args.alignment.now.state c.sections.result.now c.args.layout.now.sections c.args.is_in_force c.sections.ensures.sections c.requires.in_force c.if-is_in_force.true))
    (c.put_parts.ensures.stands life E bytes c.args.payload.now stands)
