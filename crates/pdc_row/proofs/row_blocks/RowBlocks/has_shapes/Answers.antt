use Rattle.std.proofs.Common.{◌≡◌, ◌∙◌, ap, arith, length, sym, take}
use Rattle.std.proofs.lemmas.Bool.{eq-eqb, false≢true}
use Rattle.std.proofs.lemmas.List.{length-take-le}
use Rattle.pdc_row.specs.KeptBlocks.{shapes_of}
use Rattle.pdc_row.proofs.KeptLemmas.{shapes_are}
use Rattle.pdc_row.proofs.row_blocks.RowBlocks.has_shapes.Goals as goal

pub returns-then-are_same-clause-same : goal.returns-then-are_same-clause-same
returns-then-are_same-clause-same c = λ e.
    ap shapes_of (sym c.self.view_is)
    ∙ shapes_are (take c.self.inside.count c.self.inside.shapes) (take c.self.inside.len c.self.inside.room)
    ∙ ap (λ n. take n c.self.inside.shapes) c.if-self-shapes.true
    ∙ ap (take c.shapes.inside.count) (c.are_same.ensures e)
    ∙ c.shapes.view_is

pub returns-else-self-shapes-clause-other : goal.returns-else-self-shapes-clause-other
returns-else-self-shapes-clause-other c = λ e same.
    let i = c.self.inside in
    let own : take i.count i.shapes ≡ take c.shapes.inside.count c.shapes.inside.each =
    sym (shapes_are (take i.count i.shapes) (take i.len i.room)) ∙ ap shapes_of c.self.view_is ∙ same ∙ sym c.shapes.view_is in
    let counts : i.count ≡ c.shapes.inside.count =
    sym (length-take-le i.count i.shapes (omega (arith, c.self.invariant.few, c.self.invariant.places)))
    ∙ ap length own
    ∙ length-take-le c.shapes.inside.count c.shapes.inside.each (omega (arith, c.shapes.invariant.few, c.shapes.invariant.places)) in
    false≢true (sym e ∙ eq-eqb i.count c.shapes.inside.count counts)
