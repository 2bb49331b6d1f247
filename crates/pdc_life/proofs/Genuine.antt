-- Each block of a row is absent, or was brought; what was taken and is present is shown.
use Rattle.pdc_life.proofs.Names.{[], if◌then◌else◌, ◌==◌, ◌∙◌, ◌∷◌, ◌≡◌, AllByRecursion, ap, AreGenuine, block_in, block_or_absent, BlocksAreGenuine, BlockView, cell_of, CellsWereGiven, CellView, chosen_of, ChosenIsShown, closed, columns_of, cond_both, cons_option, Entry, filter_map, first_cell, Given, inl, inr, IsGenuine, IsGenuineRow, IsOfSectionInForce, IsRowOfTick, List, None, none-some, Option, option_map, popped, present_of, refl, RowsAreGenuine, RowView, same_Some, second_cell, section_in_force, SectionFields, Some, subst, sym, waiting, with_section, ℕ}
use Rattle.pdc_life.proofs.Closing.{rows_are_of_their_ticks}
use Rattle.pdc_life.proofs.Filtered.{listed_in}
use Rattle.pdc_life.proofs.Gave.{cell_was_given, first_is, gave_under_section, present_is}
use Rattle.pdc_life.proofs.InForce.{cells_are_of_sections}
use Rattle.pdc_life.proofs.LifeLaws.{rows_come_out_once}
use Rattle.pdc_life.proofs.Lists.{each, front_part}

pub cells_were_given : CellsWereGiven
cells_were_given g E s c i cell h = gave_under_section g E s c i cell (cell_was_given E s c i cell h)

-- ---- the chosen cell is present, and of a lane

-- a cell that some stream gave
pub record IsGivenCell (g : Given) (E : List Entry) (c i : ℕ) (cell : CellView) : Type 0 where
  pub stream : ℕ
  pub is : cell_of E stream c i ≡ Some cell

pub chosen_is_given : (g : Given) (E : List Entry) (c i : ℕ) (cell : CellView) → chosen_of g E c i ≡ Some cell → IsGivenCell g E c i cell
chosen_is_given g E c i cell h = elim (first_is (present_of (first_cell g E c i)) (present_of (second_cell g E c i)) cell h) [
  | inl e ↦ record { stream = if g.lanes == 1 then c else 0; is = (present_is (first_cell g E c i) cell e).0 }
  | inr e ↦ cond_both (g.lanes == 1) None (cell_of E 1 c i) (λ (o : Option CellView). o ≡ Some cell → IsGivenCell g E c i cell)
      (λ one k. absurd (none-some cell k)) (λ two k. record { stream = 1; is = k }) (present_is (second_cell g E c i) cell e.1).0
]

-- ---- blocks

chosen_genuine : (g : Given) (E : List Entry) (c i : ℕ) (s : SectionFields) (o : Option CellView) → section_in_force g E c ≡ Some s → chosen_of g E c i ≡ o → IsGenuine g E c i s (block_or_absent s.shape o)
chosen_genuine g E c i s None k e = inl refl
chosen_genuine g E c i s (Some cell) k e =
    let from = chosen_is_given g E c i cell e in
    inr (record { stream = from.stream; cell = cell; given = cells_were_given g E from.stream c i cell from.is; in_force = k; block = refl })

pub blocks_are_genuine : BlocksAreGenuine
blocks_are_genuine g E c i s b k h =
    let is : block_or_absent s.shape (chosen_of g E c i) ≡ b =
    same_Some (block_or_absent s.shape (chosen_of g E c i)) b (sym (ap (λ (o : Option SectionFields). block_in o (chosen_of g E c i)) k) ∙ h) in
    subst (IsGenuine g E c i s) is (chosen_genuine g E c i s (chosen_of g E c i) k refl)

with_column : (g : Given) (E : List Entry) (c i : ℕ) (o : Option SectionFields) (parts : List (ℕ × SectionFields)) (blocks : List BlockView) → section_in_force g E c ≡ o → AreGenuine g E i parts blocks
    → AreGenuine g E i (cons_option (option_map (λ (s : SectionFields). (c, s)) o) parts) (cons_option (block_in o (chosen_of g E c i)) blocks)
with_column g E c i None parts blocks k rest = rest
with_column g E c i (Some s) parts blocks k rest = (chosen_genuine g E c i s (chosen_of g E c i) k refl, rest)

all_genuine : (g : Given) (E : List Entry) (i : ℕ) (cs : List ℕ) → AreGenuine g E i (filter_map (with_section g E) cs) (filter_map (λ c. block_in (section_in_force g E c) (chosen_of g E c i)) cs)
all_genuine g E i [] = tt
all_genuine g E i (c ∷ cs) =
    with_column g E c i (section_in_force g E c) (filter_map (with_section g E) cs) (filter_map (λ d. block_in (section_in_force g E d) (chosen_of g E d i)) cs) refl (all_genuine g E i cs)

-- ---- rows

genuine_row : (g : Given) (E : List Entry) (r : RowView) → IsRowOfTick g E r → IsGenuineRow g E r
genuine_row g E r t = record {
  of_tick = t;
  blocks = subst (λ (row : RowView). AreGenuine g t.before r.instant (filter_map (with_section g t.before) (columns_of g)) row.blocks) (sym t.same)
      (all_genuine g t.before r.instant (columns_of g));
}

pub rows_are_genuine : RowsAreGenuine
rows_are_genuine g E run =
    let every : AllByRecursion (IsGenuineRow g E) (closed E) =
    each (IsRowOfTick g E) (IsGenuineRow g E) (closed E) (genuine_row g E) (rows_are_of_their_ticks g E run) in
    let parts = front_part (IsGenuineRow g E) (popped E) (waiting E) (subst (λ (rows : List RowView). AllByRecursion (IsGenuineRow g E) rows) (rows_come_out_once g E run) every) in
    (every, parts.1, parts.0)

-- ---- what is chosen is shown

pub chosen_is_shown : ChosenIsShown
chosen_is_shown g E c i cell run here h =
    let from = chosen_is_given g E c i cell h in
    let t : IsOfSectionInForce g E (c, cell) = cells_are_of_sections g E from.stream c i cell run from.is in
    listed_in (λ d. block_in (section_in_force g E d) (chosen_of g E d i)) g.columns c cell.block here
    (ap (λ (o : Option SectionFields). block_in o (chosen_of g E c i)) t.in_force ∙ ap (λ (o : Option CellView). block_in (Some t.section) o) h)
