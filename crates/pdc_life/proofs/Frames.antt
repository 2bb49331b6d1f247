-- The frames of a life.
use Rattle.pdc_life.proofs.Names.{[], ◌*◌, ◌++◌, ◌+◌, ◌<◌, ◌^◌, ◌∙◌, ◌∷◌, ◌≡◌, ◌≤◌, absent_of, AllByRecursion, ap, AreOfShapes, AreSound, AreWords, arith, block_in, block_or_absent, BlockView, CellView, changes, chosen_of, closed, columns_of, cond_both, ConfigFields, cons_option, Entry, false≢true, Fields, filter_map, Given, has_change, inl, inr, is_adoption, IsConfig, IsCut, IsFrame, IsOfSectionInForce, IsRowOfTick, IsRun, IsSection, layout_fields_of, layout_payload_of, layout_wire, LayoutsAreFrames, length, length-append, length-map, length-range_with_len, length-replicate, List, ltb, map, None, Option, own_block, own_bytes, OwnSectionsTellStamps, ready_columns, refl, replicate, row_instants, row_of, row_payload, RowsAreCut, RowsAreFrames, RowView, rules, same_Some, section_in_force, SectionFields, sections_in_force, Shape, Some, subst, suc, sym, Tick, TickAnswer, true, word_count_of, words_of_row, zero, ℕ}
use Rattle.pdc_life.specs.Frames.{ChangesFit, ClosedRowsAreFrames, IsFramedRow, LayoutsOfLivesAreFrames, LayoutsTellStamps, shapes_in_force}
use Rattle.pdc_life.proofs.Closing.{rows_are_of_their_ticks}
use Rattle.pdc_life.proofs.Come.{in_force_whole}
use Rattle.pdc_life.proofs.Genuine.{chosen_is_given}
use Rattle.pdc_life.proofs.InForce.{cells_are_of_sections}
use Rattle.pdc_life.proofs.LifeLaws.{changes_rise_by_one}
use Rattle.pdc_life.proofs.Lists.{heads, May}
use Rattle.pdc_life.proofs.Steps.{run_of_tick, ticked_before}
use Rattle.pdc_life.proofs.Tagged.{closed_low}
use Rattle.pdc_life.proofs.Worst.{quality_is_worst_shown}

-- ---- change numbers

pub changes_fit : ChangesFit
changes_fit g [] run = omega arith
changes_fit g (Tick now counts answer ∷ E) run =
    subst (λ n. n < 2 ^ 32) (sym (changes_rise_by_one E (Tick now counts answer)))
    (cond_both (is_adoption (Tick now counts answer)) (changes E + 1) (changes E) (λ n. n < 2 ^ 32)
    (λ adopted. cond_both (has_change E) (ready_columns g E counts) [] (λ (ds : List ℕ). ltb 0 (length ds) ≡ true → changes E + 1 < 2 ^ 32)
    (λ left k. search (rules, left)) (λ none k. absurd (false≢true k)) (ap (λ (a : TickAnswer). ltb 0 (length a.adopted)) (sym run.0) ∙ adopted))
    (λ quiet. changes_fit g E run.1))
changes_fit g (e ∷ E) run = changes_fit g E (ticked_before g e E run)

-- ---- words of blocks

pub words_cons : (w : ℕ) (ws : List ℕ) → w < 2 ^ 16 → AreWords ws → AreWords (w ∷ ws)
words_cons w ws h k zero = h
words_cons w ws h k (suc i) = k i

words_append : (ws more : List ℕ) → AreWords ws → AreWords more → AreWords (ws ++ more)
words_append [] more h k = k
words_append (w ∷ ws) more h k = words_cons w (ws ++ more) (h 0) (words_append ws more (λ i. h (suc i)) k)

pub words_none : AreWords []
words_none i = omega arith

words_replicate : (n w : ℕ) → w < 2 ^ 16 → AreWords (replicate n w)
words_replicate zero w h = words_none
words_replicate (suc n) w h = words_cons w (replicate n w) h (words_replicate n w h)

length-absent : (shape : Shape) → length (absent_of shape) ≡ word_count_of shape
length-absent shape = simp (length-append, length-replicate) (omega arith)

words_absent : (shape : Shape) → AreWords (absent_of shape)
words_absent shape =
    let phasors : List ℕ = replicate (2 * shape.phasors) 0x8000 in
    let analogs : List ℕ = replicate shape.analogs 0x8000 in
    let digitals : List ℕ = replicate shape.digitals 0 in
    let between : AreWords (0x8000 ∷ 0x8000 ∷ analogs) =
    words_cons 0x8000 (0x8000 ∷ analogs) (omega arith) (words_cons 0x8000 analogs (omega arith) (words_replicate shape.analogs 0x8000 (omega arith))) in
    let front : AreWords (phasors ++ (0x8000 ∷ 0x8000 ∷ analogs)) =
    words_append phasors (0x8000 ∷ 0x8000 ∷ analogs) (words_replicate (2 * shape.phasors) 0x8000 (omega arith)) between in
    words_cons 0xA1F0 (phasors ++ (0x8000 ∷ 0x8000 ∷ analogs) ++ digitals) (omega arith)
    (words_append (phasors ++ (0x8000 ∷ 0x8000 ∷ analogs)) digitals front (words_replicate shape.digitals 0 (omega arith)))

-- a block of the shape
abbrev IsBlockOf : Shape → List ℕ → Type 0
IsBlockOf shape words = (length words ≡ word_count_of shape) × AreWords words

block_shaped : (g : Given) (E : List Entry) (c i : ℕ) (s : SectionFields) (o : Option CellView) → IsRun g E → section_in_force g E c ≡ Some s → chosen_of g E c i ≡ o → IsBlockOf s.shape (block_or_absent s.shape o).words
block_shaped g E c i s None run f h = (length-absent s.shape, words_absent s.shape)
block_shaped g E c i s (Some cell) run f h =
    let from = chosen_is_given g E c i cell h in
    let t : IsOfSectionInForce g E (c, cell) = cells_are_of_sections g E from.stream c i cell run from.is in
    let same : t.section ≡ s = same_Some t.section s (sym t.in_force ∙ f) in
    (t.count ∙ ap (λ (u : SectionFields). word_count_of u.shape) same, t.fits)

with_column : (g : Given) (E : List Entry) (c i : ℕ) (o : Option SectionFields) (sections : List SectionFields) (blocks : List BlockView) → IsRun g E → section_in_force g E c ≡ o
    → AreOfShapes (map (λ (s : SectionFields). s.shape) sections) (map (λ (b : BlockView). b.words) blocks)
    → AreOfShapes (map (λ (s : SectionFields). s.shape) (cons_option o sections)) (map (λ (b : BlockView). b.words) (cons_option (block_in o (chosen_of g E c i)) blocks))
with_column g E c i None sections blocks run f rest = rest
with_column g E c i (Some s) sections blocks run f rest =
    let one : IsBlockOf s.shape (block_or_absent s.shape (chosen_of g E c i)).words = block_shaped g E c i s (chosen_of g E c i) run f refl in
    (one.0, one.1, rest)

blocks_shaped : (g : Given) (E : List Entry) (i : ℕ) (cs : List ℕ) → IsRun g E
    → AreOfShapes (map (λ (s : SectionFields). s.shape) (filter_map (section_in_force g E) cs)) (map (λ (b : BlockView). b.words) (filter_map (λ c. block_in (section_in_force g E c) (chosen_of g E c i)) cs))
blocks_shaped g E i [] run = tt
blocks_shaped g E i (c ∷ cs) run =
    with_column g E c i (section_in_force g E c) (filter_map (section_in_force g E) cs) (filter_map (λ d. block_in (section_in_force g E d) (chosen_of g E d i)) cs) run refl (blocks_shaped g E i cs run)

-- ---- qualities

row_quality : (g : Given) (E : List Entry) (i : ℕ) → IsRun g E → (row_of g E i).quality < 2 ^ 8
row_quality g E i run = elim (quality_is_worst_shown g E i run).of_one [
  | inl k ↦ omega (arith, k.2)
  | inr k ↦ omega (arith, k)
]

-- ---- how many there are

no_more : (o : Option SectionFields) (sections : List SectionFields) → length (cons_option o sections) ≤ 1 + length sections
no_more None sections = omega arith
no_more (Some s) sections = omega arith

few_sections : (g : Given) (E : List Entry) (cs : List ℕ) → length (filter_map (section_in_force g E) cs) ≤ length cs
few_sections g E [] = omega arith
few_sections g E (c ∷ cs) = omega (arith, few_sections g E cs, no_more (section_in_force g E c) (filter_map (section_in_force g E) cs))

few_in_force : (g : Given) (E : List Entry) → g.columns ≤ 16 → length (sections_in_force g E) ≤ 16
few_in_force g E h = omega (arith, h, few_sections g E (columns_of g), length-range_with_len 0 g.columns)

-- ---- rows

module _ (frames : RowsAreFrames) (cut : RowsAreCut) where
  framed : (g : Given) (E : List Entry) (row : RowView) → IsRun g E → g.columns ≤ 16 → g.start < 2 ^ 32 → IsRowOfTick g E row → row.instant < 4294967296 * g.output.rate → IsFramedRow g E row
  framed g E row run few start t low =
      let before : IsRun g t.before = run_of_tick g E row t run in
      let shaped : AreOfShapes (shapes_in_force g t.before) (words_of_row row) =
      subst (λ (r : RowView). AreOfShapes (shapes_in_force g t.before) (words_of_row r)) (sym t.same) (blocks_shaped g t.before row.instant (columns_of g) before) in
      let quality : row.quality < 2 ^ 8 = subst (λ (r : RowView). r.quality < 2 ^ 8) (sym t.same) (row_quality g t.before row.instant before) in
      let number : length (shapes_in_force g t.before) ≤ 16 =
      omega (arith, few_in_force g t.before few, length-map (sections_in_force g t.before) (λ (s : SectionFields). s.shape)) in
      let from : row.start ≡ g.start = ap (λ (r : RowView). r.start) t.same in
      let change : row.change ≡ changes t.before = ap (λ (r : RowView). r.change) t.same in
      record {
        of_tick = t;
        frame = frames g.output row (shapes_in_force g t.before) number shaped low quality;
        cut = λ own phasors analogs digitals. subst (λ (n : ℕ). IsCut (own ∷ shapes_in_force g t.before) (row_payload row) (own_block n (changes t.before) ∷ words_of_row row)) from
            (subst (λ (n : ℕ). IsCut (own ∷ shapes_in_force g t.before) (row_payload row) (own_block row.start n ∷ words_of_row row)) change
            (cut row own (shapes_in_force g t.before) phasors analogs digitals (omega (arith, from, start)) (omega (arith, change, changes_fit g t.before before.ticked)) shaped));
      }

  all_framed : (g : Given) (E : List Entry) (rows : List RowView) → IsRun g E → g.columns ≤ 16 → g.start < 2 ^ 32 → AllByRecursion (IsRowOfTick g E) rows → AllByRecursion (λ i. i < 4294967296 * g.output.rate) (row_instants rows)
      → AllByRecursion (IsFramedRow g E) rows
  all_framed g E [] run few start a b = tt
  all_framed g E (row ∷ rows) run few start a b = (framed g E row run few start a.0 b.0, all_framed g E rows run few start a.1 b.1)

  pub closed_rows_are_frames : ClosedRowsAreFrames
  closed_rows_are_frames g E run few start =
      all_framed g E (closed E) run few start (rows_are_of_their_ticks g E run.ticked) (closed_low g E run.ticked run.sound)

-- ---- layouts

with_section : (o : Option SectionFields) (sections : List SectionFields) → May IsSection o → AllByRecursion IsSection sections → AllByRecursion IsSection (cons_option o sections)
with_section None sections h a = a
with_section (Some s) sections h a = (h, a)

all_whole : (g : Given) (E : List Entry) (cs : List ℕ) → AreSound g E → AllByRecursion IsSection (filter_map (section_in_force g E) cs)
all_whole g E [] run = tt
all_whole g E (c ∷ cs) run = with_section (section_in_force g E c) (filter_map (section_in_force g E) cs) (in_force_whole g E c run) (all_whole g E cs run)

-- what the laws of frames and of configurations say
pub record LayoutLaws : Type 0 where
  pub layouts : LayoutsAreFrames
  pub stamps : OwnSectionsTellStamps
  pub same_frame : (bytes : List ℕ) (f k : Fields) → IsFrame bytes f → IsFrame bytes k → f ≡ k
  pub same_config : (payload : List ℕ) (a b : ConfigFields) → IsConfig payload a → IsConfig payload b → a ≡ b

module _ (laws : LayoutLaws) where
  pub layouts_of_lives_are_frames : LayoutsOfLivesAreFrames
  layouts_of_lives_are_frames g E soc run few fits =
      laws.layouts g.output g.start (changes E) soc (sections_in_force g E) (few_in_force g E few) (all_whole g E (columns_of g) run.sound) fits

  pub layouts_tell_stamps : LayoutsTellStamps
  layouts_tell_stamps g h E F soc other run also few fewer soc_fits other_fits start start' same =
      let one = layouts_of_lives_are_frames g E soc run few soc_fits in
      let two = layouts_of_lives_are_frames h F other also fewer other_fits in
      let fields = laws.same_frame (layout_wire h F other) _ _ (subst (λ (bytes : List ℕ). IsFrame bytes (layout_fields_of g.output g.start (changes E) (sections_in_force g E) soc)) same one.0) two.0 in
      let payload : layout_payload_of g.output g.start (changes E) (sections_in_force g E) ≡ layout_payload_of h.output h.start (changes F) (sections_in_force h F) =
      ap (λ (f : Fields). f.payload) fields in
      let config : one.1.config ≡ two.1.config =
      laws.same_config (layout_payload_of h.output h.start (changes F) (sections_in_force h F)) one.1.config two.1.config
      (subst (λ (bytes : List ℕ). IsConfig bytes one.1.config) payload one.1.spelled) two.1.spelled in
      let sections : one.1.own ∷ sections_in_force g E ≡ two.1.own ∷ sections_in_force h F = sym one.1.sections ∙ ap (λ (k : ConfigFields). k.sections) config ∙ two.1.sections in
      let parts = heads one.1.own two.1.own (sections_in_force g E) (sections_in_force h F) sections in
      let bytes : own_bytes g.output.id.value g.output.nominal g.start (changes E) ≡ own_bytes h.output.id.value h.output.nominal h.start (changes F) =
      sym one.1.itself ∙ ap (λ (s : SectionFields). s.bytes) parts.0 ∙ two.1.itself in
      let stamp = laws.stamps g.output.id.value h.output.id.value g.output.nominal h.output.nominal g.start (changes E) h.start (changes F) start (changes_fit g E run.ticked) start' (changes_fit h F also.ticked) bytes in
      (stamp.0, stamp.1, parts.1)
