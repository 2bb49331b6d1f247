-- What is kept beside the columns stays what is kept of them.
use Rattle.std.proofs.Common.{◌≡◌, ℕ, ◌+◌, Bool, true, false, cond, leb, not, List, [], ◌∷◌, append-nil, get_or, length, map, set, zero, suc, Option, refl, sym, ap, ◌∙◌, arith}
use Rattle.std.specs.Prelude.{max}
use Rattle.std.specs.List.{list_any, refill}
use Rattle.std.proofs.lemmas.List.{drop_all, take_all}
use Rattle.pdc_arrival.specs.pdc_cfg.Section.{SectionFields}
use Rattle.pdc_arrival.specs.pdc_life.Given.{count_for}
use Rattle.pdc_arrival.specs.pdc_life.Life.{greater}
use Rattle.pdc_align.specs.State.{shape_in}
use Rattle.pdc_align.specs.Align.{ColumnState}
use Rattle.pdc_align.specs.Calls.{clear_to, cleared_from, is_ready_in, no_column, with_section, with_sections}
use Rattle.pdc_align.specs.Kept.{AreQuietAt, shapes_in}

-- ---- the shapes: no section comes into force where one is held, or where a count is cleared

if_held : (b : Bool) (s : Option SectionFields) (column : ColumnState) → shape_in (cond b (record column { held = s }) column).in_force ≡ shape_in column.in_force
if_held true s column = refl
if_held false s column = refl

one_held : (n : ℕ) (s : SectionFields) (columns : List ColumnState) → shapes_in (set columns n (with_section s (get_or columns n no_column))) ≡ shapes_in columns
one_held n s [] = refl
one_held zero s (column ∷ columns) =
    ap (λ x. x ∷ shapes_in columns) (if_held (leb column.opening s.count) (greater column.held s) column)
one_held (suc n) s (column ∷ columns) = ap (λ xs. shape_in column.in_force ∷ xs) (one_held n s columns)

pub shapes_held : (parts : List (ℕ × SectionFields)) (columns : List ColumnState) → shapes_in (with_sections parts columns) ≡ shapes_in columns
shapes_held [] columns = refl
shapes_held (part ∷ parts) columns =
    shapes_held parts (set columns part.0 (with_section part.1 (get_or columns part.0 no_column))) ∙ one_held part.0 part.1 columns

pub shapes_cleared : (first : ℕ) (counts : List ℕ) (columns : List ColumnState) → shapes_in (cleared_from first counts columns) ≡ shapes_in columns
shapes_cleared first counts [] = refl
shapes_cleared first counts (column ∷ columns) = ap (λ xs. shape_in column.in_force ∷ xs) (shapes_cleared (first + 1) counts columns)

-- ---- the sections in force: they stay as well

abbrev pub forces : List ColumnState → List (Option SectionFields)
forces columns = map (λ (column : ColumnState). column.in_force) columns

if_held_too : (b : Bool) (s : Option SectionFields) (column : ColumnState) → (cond b (record column { held = s }) column).in_force ≡ column.in_force
if_held_too true s column = refl
if_held_too false s column = refl

force_held : (n : ℕ) (s : SectionFields) (columns : List ColumnState) → forces (set columns n (with_section s (get_or columns n no_column))) ≡ forces columns
force_held n s [] = refl
force_held zero s (column ∷ columns) = ap (λ x. x ∷ forces columns) (if_held_too (leb column.opening s.count) (greater column.held s) column)
force_held (suc n) s (column ∷ columns) = ap (λ xs. column.in_force ∷ xs) (force_held n s columns)

pub forces_held : (parts : List (ℕ × SectionFields)) (columns : List ColumnState) → forces (with_sections parts columns) ≡ forces columns
forces_held [] columns = refl
forces_held (part ∷ parts) columns =
    forces_held parts (set columns part.0 (with_section part.1 (get_or columns part.0 no_column))) ∙ force_held part.0 part.1 columns

pub forces_cleared : (first : ℕ) (counts : List ℕ) (columns : List ColumnState) → forces (cleared_from first counts columns) ≡ forces columns
forces_cleared first counts [] = refl
forces_cleared first counts (column ∷ columns) = ap (λ xs. column.in_force ∷ xs) (forces_cleared (first + 1) counts columns)

-- ---- the counts: to clear them twice is to clear them once

max_twice : (a b : ℕ) → max (max a b) b ≡ max a b
max_twice a b = omega arith

pub cleared_twice : (first : ℕ) (counts : List ℕ) (columns : List ColumnState) → cleared_from first counts (cleared_from first counts columns) ≡ cleared_from first counts columns
cleared_twice first counts [] = refl
cleared_twice first counts (column ∷ columns) =
    ap (λ n. record column { cleared = n } ∷ cleared_from (first + 1) counts (cleared_from (first + 1) counts columns)) (max_twice column.cleared (count_for first counts))
    ∙ ap (λ cs. clear_to (count_for first counts) column ∷ cs) (cleared_twice (first + 1) counts columns)

is_false : (b : Bool) → not b ≡ true → b ≡ false
is_false true e = sym e
is_false false e = refl

-- once they are cleared, and none is ready, a tick with them leaves the columns as they are
pub quiet_after : (counts : List ℕ) (old new : List ColumnState) (any : Bool) → new ≡ cleared_from 0 counts old → any ≡ list_any is_ready_in new → not any ≡ true → AreQuietAt counts new
quiet_after counts old new any e h none = record {
  cleared = ap (cleared_from 0 counts) e ∙ cleared_twice 0 counts old ∙ sym e;
  none_ready = sym h ∙ is_false any none;
}

-- ---- what is written over all columns is what is kept

pub rewritten : {X : Type 0} → (n : ℕ) (old lent new : List X) → lent ≡ old → length lent ≡ n → length new ≡ length lent → refill n old new ≡ new
rewritten n old lent new e h k =
    ap (λ xs. refill n xs new) (sym e) ∙ rw (drop_all (length new) lent (omega (arith, k)), append-nil new) (take_all n new (omega (arith, h, k)))
