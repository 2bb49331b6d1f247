-- Of which nodes the held layout is in force.
use Rattle.std.proofs.Common.{◌≡◌, ◌&&◌, ℕ, Bool, true, false, cond, eqb, List, [], ◌∷◌, None, Option, Some, ap, get_or, refl, sym, ◌∙◌}
use Rattle.std.proofs.Math.ListN.{get_or-map}
use Rattle.pdc_cfg.specs.Section.{SectionFields}
use Rattle.pdc_align.specs.Align.{ColumnState, State, in_force_in}
use Rattle.pdc_align.specs.Calls.{column_in, no_column}
use Rattle.pdc_merge.specs.Cells.{are_in_force, has_count, is_at, is_in_force, layouts_in_force}
use Rattle.pdc_merge.specs.Held.{LayoutView, LayoutsView, layout_at}
use Rattle.pdc_merge.specs.declared.held_layout.HeldSection.{HeldSection}
use Rattle.pdc_merge.specs.declared.in_force.InForce.{InForce}

-- ---- where the sections in force are the same, so are these

at : (a : State) (c : ℕ) → (column_in a c).in_force ≡ get_or (in_force_in a) c None
at a c = sym (get_or-map (λ (column : ColumnState). column.in_force) a.columns c no_column)

one_same : (a b : State) (c : ℕ) → in_force_in b ≡ in_force_in a → (column_in b c).in_force ≡ (column_in a c).in_force
one_same a b c e = at b c ∙ ap (λ (fs : List (Option SectionFields)). get_or fs c None) e ∙ sym (at a c)

all_same : (a b : State) (sections : List HeldSection) → in_force_in b ≡ in_force_in a → are_in_force b sections ≡ are_in_force a sections
all_same a b [] e = refl
all_same a b (s ∷ sections) e =
    ap (λ (f : Option SectionFields). has_count f s.count && are_in_force b sections) (one_same a b s.column e)
    ∙ ap (λ r. has_count (column_in a s.column).in_force s.count && r) (all_same a b sections e)

may_same : (a b : State) (layout : Option LayoutView) → in_force_in b ≡ in_force_in a → is_in_force b layout ≡ is_in_force a layout
may_same a b None e = refl
may_same a b (Some layout) e = all_same a b layout.sections e

pub same_in_force : (a b : State) (held : LayoutsView) → in_force_in b ≡ in_force_in a → layouts_in_force b held ≡ layouts_in_force a held
same_in_force a b held e =
    ap {B = InForce} (λ x. record { first = x; second = is_in_force b held.second }) (may_same a b held.first e)
    ∙ ap {B = InForce} (λ x. record { first = is_in_force a held.first; second = x }) (may_same a b held.second e)

-- ---- of one node

which : (a : State) (held : LayoutsView) (b : Bool) → cond b (is_in_force a held.first) (is_in_force a held.second) ≡ is_in_force a (cond b held.first held.second)
which a held true = refl
which a held false = refl

pub of_node : (a : State) (held : LayoutsView) (s : ℕ) (layout : LayoutView) (k : InForce) → k ≡ layouts_in_force a held → Some layout ≡ layout_at held s → is_at k s ≡ are_in_force a layout.sections
of_node a held s layout k e h = ap (λ (l : InForce). is_at l s) e ∙ which a held (eqb s 0) ∙ ap (is_in_force a) (sym h)
