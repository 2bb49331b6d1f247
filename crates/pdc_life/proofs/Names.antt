-- The names that most proofs of this crate cite, passed on from one place. Declares nothing.
pub use Rattle.std.proofs.Common.{[], ◌&&◌, ◌*◌, ◌++◌, ◌+◌, ◌<◌, ◌==◌, ◌^◌, ◌||◌, ◌↔◌, ◌∙◌, ◌∷◌, ◌≡◌, ◌≢◌, ◌≤◌, ◌⊎◌, ap, arith, Bool, cond, drop, eqb, false, filter, inl, inr, is_some, leb, length, length-append, List, ltb, map, max, nat_lt, None, not, Option, option_map, refl, replicate, rules, slice_index_or, Some, subst, suc, sym, take, true, zero, ℕ}
pub use Rattle.std.proofs.lemmas.Bool.{cases_lt, cond-false, cond_both, false≢true, or_parts}
pub use Rattle.std.proofs.lemmas.List.{append_assoc, get_or-drop, length-drop, length-map, length-replicate, length-take-le, map-append, take-append-drop}
pub use Rattle.std.proofs.lemmas.List.Elements.{All-contains, All-from_recursion, Contains-append_left, Contains-append_right}
pub use Rattle.std.proofs.lemmas.List.FromFn.{length-range_with_len}
pub use Rattle.std.proofs.lemmas.Map.Views.{any-filter_same}
pub use Rattle.std.proofs.lemmas.Option.{cond_some, none-some, same_Some, slice_get_within}
pub use Rattle.std.specs.Cmp.Lexicographic.{other_text, pointwise, same_text}
pub use Rattle.std.specs.Int.{cast_signed, cast_unsigned, to_be_bytes, w16, w32}
pub use Rattle.std.specs.List.{AllByRecursion, cons_option, Contains, filter_map, find, flat_map, list_all, list_any, range_with_len, slice_get}
pub use Rattle.std.specs.Prelude.{if◌then◌else◌, nat_eq, nat_le, sum}
pub use Rattle.pdc_row.specs.Laws.{LayoutsAreFrames, OwnSectionsTellStamps, RowsAreCut, RowsAreFrames, words_of_row}
pub use Rattle.pdc_row.specs.Layout.{layout_fields_of, layout_payload_of, own_block, own_bytes, row_payload, stamp_words}
pub use Rattle.pdc_row.specs.declared.output.Nominal.TheVariants.{Hz50, Hz60}
pub use Rattle.pdc_row.specs.pdc_block.Block.{AreOfShapes, AreWords, bytes_of_blocks, bytes_of_words, IsBody, IsCut, words_in}
pub use Rattle.pdc_row.specs.pdc_block.Laws.{WordsOfBytes}
pub use Rattle.pdc_row.specs.pdc_cfg.Config.{ConfigFields, IsConfig, IsPayloadFault, payload_of}
pub use Rattle.pdc_row.specs.pdc_cfg.Section.{IsSection, SectionFields}
pub use Rattle.pdc_row.specs.pdc_cfg.Shape.{word_count_of}
pub use Rattle.pdc_row.specs.pdc_cfg.declared.fault.CfgFault.TheVariants.{Cut, FloatFormat, TooMany, WrongKind}
pub use Rattle.pdc_row.specs.pdc_cfg.declared.shape.Shape.{Shape}
pub use Rattle.pdc_row.specs.pdc_frame.Bytes.{AreBytes}
unfoldable pub use Rattle.pdc_row.specs.pdc_frame.CheckWord.{check_word_of}
pub use Rattle.pdc_row.specs.pdc_frame.Frame.{Fields, IsFirstFault, IsFrame}
pub use Rattle.pdc_row.specs.CellView.{absent_of, absent_view, BlockView, CellView, is_present}
pub use Rattle.pdc_row.specs.Chosen.{block_or_absent, first_of, present_of}
pub use Rattle.pdc_row.specs.Quality.{greatest, quality_of, time_quality_of}
pub use Rattle.pdc_row.specs.Rising.{AreBelow, is_near, place, Rises, rising}
pub use Rattle.pdc_row.specs.RisingLaws.{RisingLaws}
pub use Rattle.pdc_row.specs.RowView.{row_instants, RowView}
pub use Rattle.pdc_row.specs.pdc_frame.Instant.{instant_of, IsInstant}
unfoldable pub use Rattle.pdc_row.specs.pdc_frame.Nearest.{nearest_of}
unfoldable pub use Rattle.pdc_row.specs.pdc_frame.Tag.{tag_of}
pub use Rattle.pdc_life.specs.Answer.{again_answer, answer_in_time, answered, bare, first_cause, has_change, is_newer, is_other, is_ready, IsLife, IsReadStep, life_from, outcome_in_time, ReadStep, ready_columns, Rules, Step, step_of, steps_of, tick_answer, ToArrive, ToPop, ToTick, waiting_counts}
pub use Rattle.pdc_life.specs.Arrival.{Arrival, BytesRefused, Data, Layout, Stamp}
pub use Rattle.pdc_life.specs.CoreKind.{CoreKind, given_of, IsLifeOf, OfMerger, OfNode, ReadsAs, rules_of, Says, SenderOf}
pub use Rattle.pdc_life.specs.Gave.{AreExact, Gave, GavePresent, GaveShown, GaveUnderSection, IsExact, IsExactRow, IsWorstShown, place_of, PlacesAreOfLayouts, PresentExactlyWhereGiven, QualityIsWorstShown, RowsAreExact, ShallShow, ShallShowCell, ShallShowSome, TakenIsGiven}
pub use Rattle.pdc_life.specs.Genuine.{AreGenuine, BlocksAreGenuine, CellsWereGiven, ChosenIsShown, IsGenuine, IsGenuineRow, RowsAreGenuine, TakenIsShown, with_section}
pub use Rattle.pdc_life.specs.Given.{columns_of, count_for, Given, streams_of}
pub use Rattle.pdc_life.specs.Laws.{ChangesNeverFall, ChangesRiseByOne, InForceIsCleared, IsRowOfTick, LivesAreRuns, NoneOvertakes, RowsAreOfTheirTicks, RowsComeOutOnce, RowsRise, SameChangeSameSections}
pub use Rattle.pdc_life.specs.Life.{Answer, Arrive, cell_in, cell_of, changes, cleared_count, closed, Entry, first_greatest, greater, held_instants, held_section, is_adoption, is_adoption_of, is_candidate, is_of_column, is_take_of, is_taken, last_of, now_of, open_instants, Pop, popped, section_in_force, sections_at, sections_for, Take, take_at, take_of, takes, takes_since_adopted, Tick, TickAnswer, waiting}
pub use Rattle.pdc_life.specs.Merger.{differs_from, has_count_conflict, held_layout, HeldLayout, is_in_force, is_older, layout_answer, merged_answer, merged_cells, merged_data_answer, own_words, payload_len}
pub use Rattle.pdc_life.specs.MergerReading.{AreOfTable, HasSections, IsLayoutOf, IsOwn, nodes_of, ReadsFrom, stream_from}
pub use Rattle.pdc_life.specs.Node.{cell_under, data_answer, node_answer, section_after, section_answer}
pub use Rattle.pdc_life.specs.NodeReading.{IsValid, Reads, stream_of}
pub use Rattle.pdc_life.specs.OneLife.{OneStepMore, ReadsOnce, StepsMakeLives}
pub use Rattle.pdc_life.specs.Published.{layout_wire, published, sections_in_force}
pub use Rattle.pdc_life.specs.Reading.{HasConfig, HasNoInstant, IsBroken, IsData, IsForeign, IsOfStream, IsOtherKind, Stream}
pub use Rattle.pdc_life.specs.Row.{block_in, chosen_of, closing, first_cell, is_due, quality_in, row_of, second_cell}
pub use Rattle.pdc_life.specs.Run.{AreSound, HaveColumns, IsInTime, IsOfSectionInForce, IsRun, IsSound, IsTicked}
pub use Rattle.pdc_life.specs.Sections.{came_at, came_for, CountsNeverFall, HasCome, HeldHasCome, HeldIsGreatest, HeldIsSection, InForceHasCome, InForceIsSection, IsFirstGreatest, IsHeld, KeepsCount, NodeHoldsGreatest, SameCountSameSection}
pub use Rattle.pdc_life.specs.Tagged.{NextIsAbove, RowsHaveTags}
pub use Rattle.pdc_life.specs.declared.given.Settings.{Settings}
pub use Rattle.pdc_life.specs.declared.merging.MergedNode.{MergedNode}
pub use Rattle.pdc_life.specs.declared.merging.MergerSettings.{MergerSettings}
pub use Rattle.pdc_life.specs.declared.outcome.Outcome.{Outcome}
pub use Rattle.pdc_life.specs.declared.outcome.Outcome.TheVariants.{Candidate, Known, Refused, Taken}
pub use Rattle.pdc_life.specs.declared.outcome.Refusal.TheVariants.{Ahead, BadOwnBlock, BadTag, Conflict, CountConflict, Duplicate, Late, NoConfig, NoConfiguration, NoFrame, OldStamp, OtherStamp, OutOfWindow, StaleCount, UnknownSource, WrongId, WrongLength, WrongRate, WrongSource, WrongTimeBase}
pub use Rattle.pdc_life.specs.declared.pmu.Pmu.{Pmu}
pub use Rattle.pdc_life.specs.declared.timing.WaitKind.{WaitKind}
pub use Rattle.pdc_life.specs.declared.timing.WaitKind.TheVariants.{Absolute, Relative}
