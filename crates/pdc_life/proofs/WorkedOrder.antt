-- More lives of a node worked out by computing the definitions: rows in their order, and a PMU that comes later.
use Rattle.pdc_life.proofs.Names.{[], ◌∷◌, ◌≡◌, arith, BlockView, Candidate, Entry, Given, Late, Layout, List, map, NoConfig, None, popped, ReadStep, refl, Refused, Relative, RowView, Taken, ToArrive, ToPop, words_in, ℕ}
use Rattle.pdc_life.specs.Vectors.{body_3, body_4, body_absent, e13, section_11}
use Rattle.pdc_life.proofs.Vectors.{fields_13, output}
use Rattle.pdc_life.proofs.Worked.{after, answers, begun, data_of, instants, layout_11, layout_12, tick_at, wide, zeros}

-- Data of both for 57478860002 and then for 57478860001: one tick closes both, and the lower comes out first. What comes
-- for it afterwards is late.
abbrev pub out_of_order : List ReadStep
out_of_order =
    data_of 0 2 body_3 ∷ data_of 1 2 body_4 ∷ data_of 0 1 body_3 ∷ data_of 1 1 body_4 ∷ tick_at 2 ∷ ToPop ∷ ToPop ∷ data_of 0 1 body_3 ∷ []

closed_in_order : instants (after wide (begun wide) out_of_order) ≡ 57478860001 ∷ 57478860002 ∷ []
closed_in_order = refl

late : answers (after wide (begun wide) out_of_order) ≡ Refused Late ∷ Taken ∷ Taken ∷ Taken ∷ Taken ∷ Candidate ∷ Candidate ∷ []
late = refl

-- PMU 12 has no count yet: its data is refused, and an instant closes without it.
data_before_a_configuration : answers (after wide [] (layout_11 1 section_11 ∷ tick_at 0 ∷ data_of 1 1 body_4 ∷ [])) ≡ Refused NoConfig ∷ Candidate ∷ []
data_before_a_configuration = refl

-- Three PMUs and a wait of 10. The third is adopted when an instant is open already: the instant waits for it too.
abbrev pub three : Given
three = record {
  output = output 201 (omega arith, omega arith);
  wait = 10;
  wait_kind = Relative;
  window = 64;
  ahead = 32;
  columns = 3;
  lanes = 1;
  start = 1;
  floor = 0;
  counts = zeros;
  opening = 0;
}

abbrev pub third_comes_later : List Entry
third_comes_later =
    after three []
    (layout_11 1 section_11 ∷ layout_12 ∷ tick_at 0 ∷ data_of 0 1 body_3 ∷ ToArrive 2 e13 (Layout None ((2, fields_13) ∷ [])) ∷ tick_at 1
    ∷ data_of 1 1 body_4 ∷ tick_at 2 ∷ ToPop ∷ [])

waits_for_the_third : popped third_comes_later ≡ []
waits_for_the_third = refl

abbrev pub blocks_of : List RowView → List (List (List ℕ))
blocks_of rows = map (λ (r : RowView). map (λ (b : BlockView). b.words) r.blocks) rows

closes_with_the_third : blocks_of (popped (after three third_comes_later (data_of 2 1 body_absent ∷ tick_at 2 ∷ ToPop ∷ []))) ≡ (words_in body_3 ∷ words_in body_4 ∷ words_in body_absent ∷ []) ∷ []
closes_with_the_third = refl
