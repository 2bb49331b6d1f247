use Rattle.std.proofs.Common.{◌≡◌, ◌-◌, ◌<◌, ◌∷◌, ◌++◌, ◌∙◌, ℕ, List, [], ap, arith, drop, length, map, refl, rules, slice_index_or, subst, suc, sym, take, true}
use Rattle.pdc_life.specs.pdc_cfg.Config.{config_fields_of}
use Rattle.pdc_life.specs.pdc_cfg.Section.{SectionFields, fields_of_view}
use Rattle.pdc_life.specs.pdc_cfg.declared.section.SectionView.{SectionView}
use Rattle.pdc_life.specs.MergerReading.{AreOfTable}
use Rattle.pdc_arrival.specs.declared.arrival.ColumnSection.{ColumnSection}
use Rattle.pdc_arrival.specs.Placing.{are_in_order, parts_from}
use Rattle.pdc_arrival.specs.Views.{section_part, stamp_view}
use Rattle.pdc_arrival.proofs.Beside.{not_of_table, of_table}
use Rattle.pdc_arrival.proofs.from_node.read_layout.Goals as goal

-- the first of some sections, and the others
first_and_others : (sections : List SectionView) (s : SectionView) → 0 < length sections → s ≡ slice_index_or sections 0 s → map fields_of_view sections ≡ fields_of_view s ∷ map fields_of_view (drop 1 sections)
first_and_others [] s h e = absurd (omega (arith, h))
first_and_others (x ∷ sections) s h e = ap (λ (t : SectionView). fields_of_view t ∷ map fields_of_view sections) (sym e)

abbrev others_of : List SectionView → List SectionFields
others_of sections = map fields_of_view (take (length sections - 1) (drop 1 sections))

take_all : (sections : List SectionView) → take (length sections) sections ≡ sections
take_all [] = refl
take_all (s ∷ sections) = ap (λ (ss : List SectionView). s ∷ ss) (take_all sections)

others_are : (sections : List SectionView) → take (length sections - 1) (drop 1 sections) ≡ drop 1 sections
others_are [] = refl
others_are (s ∷ sections) = let n : suc (length sections) - 1 ≡ length sections = omega arith in ap (λ (k : ℕ). take k sections) n ∙ take_all sections

-- what is said of the table and of the sections behind the first, wherever they lie
same_table : {A : Type 0} (f : List ℕ → List SectionFields → A) (sources table : List ℕ) (sections all : List SectionView) → sources ≡ table → sections ≡ all → f sources (others_of sections) ≡ f table (map fields_of_view (drop 1 all))
same_table f sources table sections all e k =
    ap (λ (xs : List ℕ). f xs (map fields_of_view (take (length sections - 1) (drop 1 sections)))) e
    ∙ ap (λ (ss : List SectionView). f table (map fields_of_view ss)) (others_are sections ∙ ap (drop 1) k)

pub returns-in_default : goal.returns-in_default
returns-in_default c bytes has = record {
  own = fields_of_view c.index-deref-0.result;
  others = map fields_of_view (drop 1 c.args.config.now.sections.items);
  has = record {
    config = config_fields_of c.args.config.now;
    base = record { has = has; time_base = c.if-config-node.false; rate = search rules };
    sections = first_and_others c.args.config.now.sections.items c.index-deref-0.result (search rules) (search rules);
  };
  none = c.in_default.ensures;
}

pub returns-then-place_sections : goal.returns-then-place_sections
returns-then-place_sections c bytes has = record {
  own = fields_of_view c.index-deref-0.result;
  others = map fields_of_view (drop 1 c.args.config.now.sections.items);
  has = record {
    config = config_fields_of c.args.config.now;
    base = record { has = has; time_base = c.if-config-node.false; rate = search rules };
    sections = first_and_others c.args.config.now.sections.items c.index-deref-0.result (search rules) (search rules);
  };
  itself = c.in-Some.ensures;
  of_table =
      let sources = c.args.settings.now.sources.items in
      let others = map fields_of_view (drop 1 c.args.config.now.sections.items) in
      let same = same_table are_in_order c.as_slice-2.result.now sources c.as_slice.result.now c.args.config.now.sections.items c.as_slice-2.ensures.value c.as_slice.ensures.value in
      let all : are_in_order sources others ≡ true = sym same ∙ sym c.place_sections.ensures.all ∙ c.if-place_sections.true in
      let found : parts_from 0 sources others ≡ map section_part c.place_sections.new.placed.items =
      sym (same_table (parts_from 0) c.as_slice-2.result.now sources c.as_slice.result.now c.args.config.now.sections.items c.as_slice-2.ensures.value c.as_slice.ensures.value)
      ∙ sym (c.place_sections.ensures.placed ∙ ap (λ (ss : List ColumnSection). map section_part ss ++ parts_from 0 c.as_slice-2.result.now (others_of c.as_slice.result.now)) c.new-sections.ensures) in
      subst (AreOfTable sources others) found (of_table sources others all);
}

pub returns-else-place_sections : goal.returns-else-place_sections
returns-else-place_sections c bytes has = record {
  own = fields_of_view c.index-deref-0.result;
  others = map fields_of_view (drop 1 c.args.config.now.sections.items);
  has = record {
    config = config_fields_of c.args.config.now;
    base = record { has = has; time_base = c.if-config-node.false; rate = search rules };
    sections = first_and_others c.args.config.now.sections.items c.index-deref-0.result (search rules) (search rules);
  };
  stamp = stamp_view c.in-Some.stamp;
  itself = c.in-Some.ensures;
  none =
      let sources = c.args.settings.now.sources.items in
      let others = map fields_of_view (drop 1 c.args.config.now.sections.items) in
      let same = same_table are_in_order c.as_slice-2.result.now sources c.as_slice.result.now c.args.config.now.sections.items c.as_slice-2.ensures.value c.as_slice.ensures.value in
      not_of_table sources others (sym same ∙ sym c.place_sections.ensures.all ∙ c.if-place_sections.false);
}
