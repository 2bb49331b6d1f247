use Rattle.std.proofs.Common.{◌≡◌, ◌*◌, ◌∷◌, ℕ, ap, length, map, sym, true≢false, ◌∙◌}
use Rattle.std.specs.List.{refill}
use Rattle.pdc_arrival.specs.Views.{section_part}
use Rattle.pdc_align.specs.Align.{AlignmentView, in_force_in}
use Rattle.pdc_align.specs.Calls.{with_sections}
use Rattle.pdc_align.specs.Kept.{shapes_in}
use Rattle.pdc_align.proofs.Kept.{forces, forces_held, rewritten, shapes_held}
use Rattle.pdc_align.proofs.alignment.Alignment.keep.Goals as goal

pub invariant_of-self : goal.invariant_of-self
invariant_of-self g c =
    let old = c.self.inside.columns.items in
    let new = c.hold.new.columns in
    let parts = map section_part c.args.sections.now in
    let whole : refill (length c.self.inside.columns.items) old new ≡ new =
    rewritten (length c.self.inside.columns.items) old c.as_mut_slice.result.now new c.as_mut_slice.ensures.value c.as_mut_slice.ensures.len c.hold.auto.columns in
    record {
      well_formed = c.self.invariant.well_formed;
      each = ap length whole ∙ c.hold.auto.columns ∙ ap length c.as_mut_slice.ensures.value ∙ c.self.invariant.each;
      lanes = c.self.invariant.lanes;
      gone = c.self.invariant.gone;
      shapes = c.self.invariant.shapes ∙ sym (ap shapes_in (whole ∙ c.hold.ensures ∙ ap (with_sections parts) c.as_mut_slice.ensures.value) ∙ shapes_held parts old);
      quiet = λ e. absurd (true≢false (sym e));
    }

pub returns-clause-unchanged : goal.returns-clause-unchanged
returns-clause-unchanged g c =
    let old = c.self.inside.columns.items in
    let new = c.hold.new.columns in
    let parts = map section_part c.args.sections.now in
    let whole : refill (length c.self.inside.columns.items) old new ≡ new =
    rewritten (length c.self.inside.columns.items) old c.as_mut_slice.result.now new c.as_mut_slice.ensures.value c.as_mut_slice.ensures.len c.hold.auto.columns in
    let long : length (refill (length c.self.inside.columns.items) old new) ≡ length old = ap length whole ∙ c.hold.auto.columns ∙ ap length c.as_mut_slice.ensures.value in
    record {
      sizes = record {
        columns = ap (λ (v : AlignmentView). v.state.content.columns) c.self.view_is;
        lanes = ap (λ (v : AlignmentView). v.state.content.lanes) c.self.view_is;
        each = long ∙ ap (λ (v : AlignmentView). length v.state.columns) c.self.view_is;
      };
      memory = ap (λ (n : ℕ). c.self.inside.columns.capacity ∷ (2 * n) ∷ g.T.Table.memory c.self.inside.table) long ∙ ap (λ (v : AlignmentView). v.memory) c.self.view_is;
      in_force = ap forces (whole ∙ c.hold.ensures ∙ ap (with_sections parts) c.as_mut_slice.ensures.value) ∙ forces_held parts old ∙ ap (λ (v : AlignmentView). in_force_in v.state) c.self.view_is;
      disagreements = ap (λ (v : AlignmentView). v.disagreements) c.self.view_is;
      popped = ap (λ (v : AlignmentView). v.popped) c.self.view_is;
    }
