use Rattle.std.proofs.Common.{◌≡◌, ◌∙◌, List, None, ap, false, sym}
use Rattle.std.specs.List.{list_any}
use Rattle.pdc_align.specs.Align.{AlignmentView, ColumnState, State, in_force_in}
use Rattle.pdc_align.specs.Calls.{cleared_from, is_ready_in, ready_from}
use Rattle.pdc_align.specs.declared.ticked.Ticked.{Ticked}
use Rattle.pdc_align.proofs.Kept.{forces}
use Rattle.pdc_align.proofs.NoneReady.{kept_unless, state_none, told_none}
use Rattle.pdc_align.proofs.alignment.Alignment.step.Goals as goal

pub returns-then-not-any_ready-clause-answer : goal.returns-then-not-any_ready-clause-answer
returns-then-not-any_ready-clause-answer g c =
    let none : list_any is_ready_in (cleared_from 0 c.args.counts.now c.args.self.now.state.columns) ≡ false =
    ap (λ (a : State). list_any is_ready_in a.columns) (sym c.close-closed.ensures.state) ∙ sym c.close-closed.ensures.ready ∙ c.if-not-any_ready.true in
    ap {B = Ticked} (λ closed. record { closed = closed; change = None; used_up = false }) c.close-closed.ensures.answer
    ∙ sym (told_none c.args.self.now.state c.args.now c.args.counts.now none)

pub returns-then-not-any_ready-clause-state : goal.returns-then-not-any_ready-clause-state
returns-then-not-any_ready-clause-state g c =
    let none : list_any is_ready_in (cleared_from 0 c.args.counts.now c.args.self.now.state.columns) ≡ false =
    ap (λ (a : State). list_any is_ready_in a.columns) (sym c.close-closed.ensures.state) ∙ sym c.close-closed.ensures.ready ∙ c.if-not-any_ready.true in
    c.close-closed.ensures.state ∙ sym (state_none c.args.self.now.state c.args.now c.args.counts.now none)

pub returns-clause-in_force : goal.returns-clause-in_force
returns-clause-in_force g c =
    λ told.
    let columns : List ColumnState = c.close-closed.new.self.state.columns in
    let ready : c.as_slice-2.result.now ≡ ready_from 0 columns =
    c.as_slice-2.ensures.value ∙ c.ready-ready.ensures.ready ∙ ap (ready_from 0) (c.as_slice.ensures.value ∙ ap (λ (v : AlignmentView). v.state.columns) c.self.view_is) in
    ap in_force_in c.adopt.ensures.state
    ∙ ap forces (kept_unless 0 c.close-closed.new.self.state.change columns c.as_slice-2.result.now ready (sym c.adopt.ensures.answer ∙ told))
    ∙ c.close-closed.ensures.in_force
