-- The names that the proofs cite of the definitions, and of the crates below, passed on from one place.
pub use Rattle.std.specs.{Int.{cast_signed, cast_unsigned, to_be_bytes, w16, w32}, List.{AllByRecursion, Contains, slice_get, sum_by}, Prelude.{◌↔◌, ◌⊎◌, slice_index}}
pub use Rattle.std.proofs.{lemmas.Bool.{cases_eq, cases_lt}, lemmas.Int.{of_z-to_z, to_z-of_z}, lemmas.List.{map-append, take-append-drop}, lemmas.List.Elements.{filter-append}, lemmas.Option.{none-some, same_Some, slice_get-get_or}, Math.Seq.{take-append_seam}}
pub use mathlib.Core.List.{map-map}
pub use mir.ValLaws.{of_z_fits}
pub use borrow.Author.Gap.{read_sfits}
pub use Rattle.pdc_frame.specs.{Bytes.{AreBytes, long_at, word_at}, CheckWord.{check_word_of}, declared.frame.Kind.{Kind}, declared.frame.Kind.TheVariants.{Cfg2, DataFrame}, Frame.{before_check, Fields, fields_in, Fits, IsFrame, number_of, spelling_of}, Parts.{PartsKeepTheirWords}}
pub use Rattle.pdc_cfg.specs.{Config.{bytes_of_sections, ConfigFields, IsConfig, payload_of}, declared.shape.Shape.{Shape}, Section.{analogs_in, AreFew, count_in, digitals_in, format_in, HasIntegers, IsSection, len_in, phasors_in, SectionFields, source_in}, Shape.{section_len, section_len_of, word_count_of}}
pub use Rattle.pdc_block.specs.{AbsentBlock.{absent_of}, Block.{body_len_of, bytes_of_blocks, bytes_of_words, IsBody, IsCut}}
pub use Rattle.pdc_frame.specs.Instant.{instant_of, IsInstant}
pub use Rattle.pdc_row.specs.{Rising.{Rises}, RowView.{row_instants, RowView}}
pub use Rattle.pdc_row.specs.{declared.output.Nominal.TheVariants.{Hz50, Hz60}, Layout.{own_block, own_bytes, row_payload, wire_of}}
pub use Rattle.pdc_life.specs.{Arrival.{Stamp}, declared.given.Settings.{Settings}, declared.pmu.Pmu.{Pmu}, MergerReading.{IsOwn}, NodeReading.{IsValid, stream_of}, Reading.{HasConfig, IsData, Stream}}
pub use Rattle.pdc_history.specs.{Frames.{AreGenuineBlocks, IsCutOf, IsCutUnder, IsLayoutUnder, SectionWasSent, WasSent}, Genuine.{FramesAgree, HasGenuineFrames, IsGenuineData, IsPublishedData, PublishedWereSent, Shows}, History.{IsHistory}, Lives.{rows_of_one}, Pmus.{PmusSendOneBody, PmusSendOneSection}, Seen.{OfHistories, output_in, Seen, seen_in, stream_in}, World.{A, B, first_mark, Happened, is_same, M, output_of, published, published_at, Publishes, sent, sent_at, Who, World}}
pub use Rattle.pdc_history.proofs.{Cuts.{own_shape}, Lists.{appended, head_of, last_one, mapped, place_there, tail_of}}
pub use Rattle.pdc_history.specs.{declared.reply.Published.{Published}, Handed.{who_of}}
pub use Rattle.pdc_world.specs.{Holds.{Holds, HoldsSome}, Replies.{listed, listed_at, name_of, published_as}, Views.{WorldView}}
pub use Rattle.pdc_world.specs.{Agree.{PublishedAgree, ShowsPublished}, Frames.{bytes_of, LayoutsAreOne}, Published.{InstantsRise, IsSentData, RowsAreSentData}, Seen.{AreRising, instants_of, rows_of, seen_of}}
