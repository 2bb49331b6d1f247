use Rattle.std.proofs.Common.{◌∙◌, ap, sym}
use Rattle.pdc_row.specs.declared.due_row.DueRow.{DueRow}
use Rattle.pdc_columns.specs.ColumnParts.{columns_of}
use Rattle.pdc_columns.proofs.Lent.{many_lent, seen_lent}
use Rattle.pdc_columns.proofs.Twins.{known_of, seconds_held}
use Rattle.pdc_columns.proofs.WholeFrames.{whole_first_joined}
use Rattle.pdc_columns.proofs.WholeRows.{not_other}
use Rattle.pdc_columns.proofs.columns.Columns.join_whole.Goals as goal

pub are_those_of-requires : goal.are_those_of-requires
are_those_of-requires g c e =
    known_of c.args.cut.now.is_twin c.args.cut.now.bytes.now c.get.result.now.blocks c.args.self.now e c.requires
    (seconds_held c.self.inside.held c.in-Some.held c.get.result.now.blocks c.self.inside.second.value c.args.self.now (seen_lent _ _ _ _ _ c.get.ensures c.self.view_is) c.in-Some.ensures (many_lent _ _ _ c.get.ensures c.self.invariant.first) c.self.invariant.second c.if-held.false (not_other c.in-Some.held.second c.if-not-held.false) (not_other c.in-Some.held.alike c.if-not-held-2.false))

pub returns-clause-whole : goal.returns-clause-whole
returns-clause-whole g c = λ _.
    ap (λ (r : DueRow). columns_of c.fill.new.self r.blocks c.self.inside.second.value) (sym c.get.ensures)
    ∙ whole_first_joined g.P.Part.column_of g.P.Part.shape_of c.args.cut.now.parts.now c.args.quality c.args.cut.now.bytes.now c.self.inside.held c.fill.new.self c.in-Some.held c.get.result.now.blocks c.self.inside.second.value c.args.self.now
    c.words_are_cut.ensures (c.are_those_of.ensures.laid c.if-not-are_those_of.false)
    (seen_lent _ _ _ _ _ c.get.ensures c.self.view_is) c.in-Some.ensures (many_lent _ _ _ c.get.ensures c.self.invariant.first) c.self.invariant.second (c.are_those_of.ensures.same c.if-not-are_those_of.false) c.fill.ensures
