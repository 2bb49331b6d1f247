-- The names that the proofs cite of the definitions, and of the crates below, passed on from one place.
pub use Rattle.std.specs.{Int.{cast_signed, to_be_bytes, w16}, List.{AllByRecursion, cons_option, Contains, filter_map, list_all, list_any, range_with_len, slice_get}, Prelude.{[], ◌++◌, ◌+◌, ◌-◌, ◌<◌, ◌==◌, ◌||◌, ◌∷◌, ◌≡◌, ◌≢◌, ◌≤◌, ◌⊎◌, Bool, false, length, List, map, nat_lt, None, refl, replicate, Some, true, ℕ}}
pub use Rattle.std.proofs.{lemmas.Bool.{false≢true}, lemmas.List.{append-nil, append_assoc, length-map, length-replicate, map-append}, lemmas.List.Elements.{Contains-append_cases, Contains-append_left, Contains-append_right, filter-append}, lemmas.List.FromFn.{length-range_with_len}, lemmas.Option.{get_or_from_slice_get, none-some, same_Some, slice_get-map, slice_get_within}}
pub use Rattle.pdc_frame.specs.{Bytes.{AreBytes}, declared.frame.Kind.{Kind}, declared.frame.Kind.TheVariants.{Cfg2, DataFrame}, Frame.{Fields, Fits, IsFrame, spelling_of}}
pub use Rattle.pdc_block.specs.pdc_cfg.{Config.{ConfigFields, IsConfig}, declared.shape.Shape.{Shape}, Section.{IsSection, SectionFields}}
pub use Rattle.pdc_block.specs.{AbsentBlock.{absent_of}, Block.{AreWords, bytes_of_blocks, bytes_of_words, IsBody, IsCut, words_in}}
pub use Rattle.pdc_frame.specs.Instant.{IsInstant}
pub use Rattle.pdc_row.specs.{CellView.{BlockView}, Rising.{AreBelow, Rises}, RowView.{row_instants, RowView}}
pub use Rattle.pdc_row.proofs.Rising.{below_append}
pub use Rattle.pdc_row.specs.{declared.output.Nominal.{Nominal}, declared.output.Nominal.TheVariants.{Hz50, Hz60}, declared.output.Output.{Output}, Laws.{words_of_row}, Layout.{layout_fields_of, layout_payload_of, own_block, own_bytes, row_fields, row_payload, stamp_words, wire_of}}
pub use Rattle.pdc_mark.specs.{Counts.{raised_to}, declared.stored.Stored.{Stored}, Stored.{with_next_start}}
pub use Rattle.pdc_life.specs.{Answer.{answered, greatest_count, pop_answer, tick_answer, ToTick, waiting_counts}, Arrival.{Arrival, Data, Layout, Stamp}, CellData.{IsDataOf, shapes_of}, CoreKind.{column_count, CoreKind, given_of, IsLifeOf, OfMerger, OfNode, rules_of, Says}, declared.given.Settings.{Settings}, declared.merging.MergedNode.{MergedNode}, declared.merging.MergerSettings.{MergerSettings}, declared.outcome.Outcome.{Outcome}, declared.outcome.Outcome.TheVariants.{Candidate, Refused, Taken}, declared.outcome.Refusal.TheVariants.{Late, StaleCount}, declared.pmu.Pmu.{Pmu}, declared.timing.Timing.{Timing}, declared.timing.WaitKind.{WaitKind}, declared.timing.WaitKind.TheVariants.{Absolute, Relative}, Distinct.{are_distinct}, Frames.{IsFramedRow, shapes_in_force}, Gave.{AreExact, IsWorstShown}, Genuine.{AreGenuine, columns_in_force, HasBrought, IsGenuine, IsGenuineRow}, Given.{columns_of, count_for, Given}, Laws.{IsRowOfTick}, Life.{Answer, Arrive, changes, cleared_count, closed, Entry, held_section, is_adoption, is_candidate, Pop, popped, section_in_force, Tick, TickAnswer, waiting}, Merger.{held_layout, HeldLayout}, MergerReading.{IsLayoutOf, IsOwn, nodes_of}, NodeReading.{IsValid, Reads, stream_of}, OneLife.{ReadsOnce}, Published.{layout_wire, sections_in_force}, Reading.{HasBase, HasConfig, IsData, IsOfStream, Stream}, Row.{closing, row_of}, Run.{IsRun}, Vectors.{body_3, body_4, e1, e2, e3, e4, o1, o3, section_11, section_11_two, section_12}}
pub use Rattle.pdc_history.specs.{Agree.{ids_of, MayBegin, SettingsAgree, sources_of, time_bases_of}, Asked.{AskedIsReadOnce, Brings, BringsToNamed, Cause, CausesAreOne, FaultsMayNotHappen, Foreign, HasOtherBody, HasOtherSection, IsFault, IsNamed, IsUnnamed, Junk, NoSuchFrame, OtherBody, OtherSection, Send, SentMayCome, StartsUsedUp, To}, Event.{Act, Bring, Do, Event, happens, history_from, left_in, Miss, OfPublish, OfStart, OfTick, Publish, Stop, StopDuring, Store, TickAt}, Frames.{AreGenuineBlocks, IsCutOf, IsCutUnder, IsGenuineBlock, IsLayoutSent, IsLayoutUnder, SectionWasSent, stream_from, WasSent}, Genuine.{FramesAgree, HasGenuineFrames, HeldLayoutsWereSent, IsGenuineData, IsPublishedData, LayoutsAreOne, MergedBlocksAreGenuine, NodeBlocksAreGenuine, PublishedAgree, PublishedWereSent, Shows, ShowsPublished}, History.{EventsMakeHistories, IsForOne, IsHistory, IsMade, IsOfPmu, IsOneBody, IsOneSection, MayAllHappen, MayCome, MayHappen, MaySend, stream_ids}, Known.{BlockLaws, FrameLaws, LifeLaws}, Lives.{IsRowAt, LivesAreLives, PublishedRowsAreThose, rows_of_lives, rows_of_one, RowsAreOfLives}, Marks.{AdoptedCountsNeverFall, InstantsRise, MarkBounds, MarksBound, WaitingIsWhole}, Play.{Answered, Began, Closed, Gave, IsPlayOf, PlaysAreHistories, PlaysAreOne, SentAs, StepsAreOne, Told, told_of}, Pmus.{PmusSendTheirOwn}, Seen.{OfHistories, seen_in}, World.{A, B, begins_at, begun_with, Comes, ended, Ends, entry_at, first_mark, given_by, given_in, Happened, is_same, kind_of, lead_of, life_of, M, mark_of, opened_with, output_of, past_lives, PastLife, published, published_at, Publishes, raised, reserved, Sends, sent, sent_at, since, Ticks, Who, with_counts_of, with_entry, World}}
