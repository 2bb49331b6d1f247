use Rattle.std.proofs.Common.{◌≡◌, drop}
use Rattle.pdc_table.specs.Content.{HasSizesOf, IsContent}
use Rattle.pdc_align.specs.State.{after_adoptions}
use Rattle.pdc_align.proofs.adopting.adopt_in.Given as goal

-- what is left is adopted in the table as it is
abbrev pub invariant-loop-column : goal.invariant-loop-column
invariant-loop-column g l = record {
  content : after_adoptions (g.T.Table.content l.table) (drop l.column-index l.columns) ≡ after_adoptions (g.T.Table.content l.initial.table) l.columns;
  closed : (g.T.Table.content l.table).closed ≡ (g.T.Table.content l.initial.table).closed;
  last : (g.T.Table.content l.table).last ≡ (g.T.Table.content l.initial.table).last;
  sizes : HasSizesOf (g.T.Table.content l.initial.table) (g.T.Table.content l.table);
  memory : g.T.Table.memory l.table ≡ g.T.Table.memory l.initial.table;
  disagreements : g.T.Table.disagreements l.table ≡ g.T.Table.disagreements l.initial.table;
  well_formed : IsContent (g.T.Table.content l.table);
}
