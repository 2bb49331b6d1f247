-- The names that most laws of lives cite, passed on from one place. Declares nothing.
pub use Rattle.pdc_life.specs.Names.{[], absent_view, AllByRecursion, AreBelow, BlockView, Bool, CellView, Contains, drop, false, filter, filter_map, flat_map, is_near, is_present, is_some, IsBody, IsCut, IsFrame, IsLayout, IsSection, layout_fields_of, layout_payload_of, length, List, list_all, map, max, MAX_PMUS, nat_le, None, Option, option_map, own_block, range_with_len, Rises, row_fields, row_instants, row_payload, RowView, SectionFields, Shape, slice_get, Some, stamp_words, time_quality_of, true, wire_of, word_count_of, words_in, ℕ}
pub use Rattle.pdc_life.specs.Answer.{answered, IsReadStep, life_from, outcome_in_time, ReadStep, Rules, Step}
pub use Rattle.pdc_life.specs.Arrival.{Arrival, Data, Layout, Stamp}
pub use Rattle.pdc_life.specs.CoreKind.{CoreKind, IsLifeOf, OfMerger, OfNode, ReadsAs, rules_of, Says, SenderOf}
pub use Rattle.pdc_life.specs.Given.{columns_of, count_for, Given}
pub use Rattle.pdc_life.specs.Life.{Answer, Arrive, cell_of, changes, cleared_count, closed, Entry, held_instants, held_section, is_adoption, is_adoption_of, is_of_column, last_of, now_of, open_instants, Pop, popped, section_in_force, sections_for, take_of, Tick, TickAnswer, waiting}
pub use Rattle.pdc_life.specs.Merger.{held_layout, HeldLayout, own_words, payload_len}
pub use Rattle.pdc_life.specs.Node.{cell_under}
pub use Rattle.pdc_life.specs.Row.{block_in, chosen_of, closing, is_due, row_of}
pub use Rattle.pdc_life.specs.Run.{IsOfSectionInForce, IsRun, IsTicked}
pub use Rattle.pdc_life.specs.declared.given.Settings.{Settings}
pub use Rattle.pdc_life.specs.declared.merging.MergerSettings.{MergerSettings}
pub use Rattle.pdc_life.specs.declared.outcome.Outcome.TheVariants.{Candidate, Taken}
