use Rattle.std.proofs.Common.{◌≡◌, ◌*◌, ◌∷◌, ℕ, ap, length, sym, ◌∙◌}
use Rattle.std.specs.List.{list_any, refill}
use Rattle.pdc_align.specs.Align.{AlignmentView, in_force_in}
use Rattle.pdc_align.specs.Calls.{cleared_from, is_ready_in}
use Rattle.pdc_align.specs.Kept.{shapes_in}
use Rattle.pdc_align.proofs.Kept.{forces, forces_cleared, quiet_after, rewritten, shapes_cleared}
use Rattle.pdc_align.proofs.alignment.Alignment.clear.Goals as goal

pub invariant_of-self : goal.invariant_of-self
invariant_of-self g c =
    let old = c.self.inside.columns.items in
    let new = c.clear-any_ready.new.columns in
    let counts = c.args.counts.now in
    let whole : refill (length c.self.inside.columns.items) old new ≡ new =
    rewritten (length c.self.inside.columns.items) old c.as_mut_slice.result.now new c.as_mut_slice.ensures.value c.as_mut_slice.ensures.len c.clear-any_ready.auto.columns in
    let cleared : refill (length c.self.inside.columns.items) old new ≡ cleared_from 0 counts old =
    whole ∙ c.clear-any_ready.ensures.columns ∙ ap (cleared_from 0 counts) c.as_mut_slice.ensures.value in
    record {
      well_formed = c.self.invariant.well_formed;
      each = ap length whole ∙ c.clear-any_ready.auto.columns ∙ ap length c.as_mut_slice.ensures.value ∙ c.self.invariant.each;
      lanes = c.self.invariant.lanes;
      gone = c.self.invariant.gone;
      shapes = c.self.invariant.shapes ∙ sym (ap shapes_in cleared ∙ shapes_cleared 0 counts old);
      quiet = quiet_after counts old (refill (length c.self.inside.columns.items) old new) c.clear-any_ready.result cleared (c.clear-any_ready.ensures.ready ∙ ap (list_any is_ready_in) (sym whole));
    }

pub returns-clause-unchanged : goal.returns-clause-unchanged
returns-clause-unchanged g c =
    let old = c.self.inside.columns.items in
    let new = c.clear-any_ready.new.columns in
    let counts = c.args.counts.now in
    let whole : refill (length c.self.inside.columns.items) old new ≡ new =
    rewritten (length c.self.inside.columns.items) old c.as_mut_slice.result.now new c.as_mut_slice.ensures.value c.as_mut_slice.ensures.len c.clear-any_ready.auto.columns in
    let long : length (refill (length c.self.inside.columns.items) old new) ≡ length old = ap length whole ∙ c.clear-any_ready.auto.columns ∙ ap length c.as_mut_slice.ensures.value in
    record {
      sizes = record {
        columns = ap (λ (v : AlignmentView). v.state.content.columns) c.self.view_is;
        lanes = ap (λ (v : AlignmentView). v.state.content.lanes) c.self.view_is;
        each = long ∙ ap (λ (v : AlignmentView). length v.state.columns) c.self.view_is;
      };
      memory = ap (λ (n : ℕ). c.self.inside.columns.capacity ∷ (2 * n) ∷ g.T.Table.memory c.self.inside.table) long ∙ ap (λ (v : AlignmentView). v.memory) c.self.view_is;
      in_force = ap forces (whole ∙ c.clear-any_ready.ensures.columns ∙ ap (cleared_from 0 counts) c.as_mut_slice.ensures.value) ∙ forces_cleared 0 counts old ∙ ap (λ (v : AlignmentView). in_force_in v.state) c.self.view_is;
      disagreements = ap (λ (v : AlignmentView). v.disagreements) c.self.view_is;
      popped = ap (λ (v : AlignmentView). v.popped) c.self.view_is;
    }
