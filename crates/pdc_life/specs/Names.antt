-- The names of the libraries below that most definitions of this crate cite, passed on from one place. Declares nothing.
pub use Rattle.std.specs.Prelude.{[], Bool, codes, drop, false, filter, find, is_some, length, List, map, max, min, nat_eq, nat_le, nat_lt, None, not, Option, option_map, replicate, slice_index_or, Some, sum, take, true, ℕ}
pub use Rattle.std.specs.Cmp.Lexicographic.{pointwise}
pub use Rattle.std.specs.List.{AllByRecursion, Contains, filter_map, flat_map, list_all, list_any, range_with_len, slice_get}
pub use Rattle.pdc_row.specs.Layout.{IsLayout, layout_fields_of, layout_payload_of, layout_wire_of, own_block, own_bytes, row_fields, row_payload, stamp_words, wire_of}
pub use Rattle.pdc_row.specs.pdc_block.Block.{AreWords, IsBody, IsCut, words_in}
pub use Rattle.pdc_row.specs.pdc_cfg.Config.{ConfigFields, IsConfig}
pub use Rattle.pdc_row.specs.pdc_cfg.Section.{fields_of_view, IsSection, SectionFields}
pub use Rattle.pdc_row.specs.pdc_cfg.Shape.{word_count_of}
pub use Rattle.pdc_row.specs.pdc_cfg.declared.fault.CfgFault.TheVariants.{Cut, FloatFormat, TooMany, WrongKind}
pub use Rattle.pdc_row.specs.pdc_cfg.declared.shape.Shape.{Shape}
pub use Rattle.pdc_row.specs.pdc_frame.Frame.{Fields, IsFrame}
pub use Rattle.pdc_row.specs.CellView.{absent_view, BlockView, CellView, is_present, same_block}
pub use Rattle.pdc_row.specs.Quality.{greatest, quality_of, time_quality_of}
pub use Rattle.pdc_row.specs.Rising.{AreBelow, is_near, Rises, rising}
pub use Rattle.pdc_row.specs.RowView.{row_instants, RowView}
pub use Rattle.pdc_row.specs.declared.limits.TheConstants.{MAX_PMUS}
