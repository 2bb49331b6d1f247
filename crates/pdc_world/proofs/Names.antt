-- The names that the proofs cite of the definitions, and of the crates below, passed on from one place.
pub use Rattle.std.specs.List.{All, AllByRecursion, Contains, slice_get}
pub use Rattle.std.proofs.{lemmas.Bool.{and_from, and_parts, both_ways, cases_lt, eq-eqb, eqb-false, eqb-true, lt-ltb, ltb-false, ltb-true, ne_eqb, not-true, not_from_false}, lemmas.List.{append-nil, length-map, length-take-le, map-append, take-append-drop, take_all, take_more}, lemmas.Option.{get_or_from_slice_get, slice_get-map, slice_get_read, slice_get_within}}
pub use Rattle.pdc_frame.specs.{declared.limits.TheConstants.{MAX_SIZE}, Frame.{Fields, IsFrame}}
pub use Rattle.pdc_row.specs.{declared.due_row.DueRow.{DueRow}, RowView.{row_view, RowView}}
pub use Rattle.pdc_row.specs.{declared.output.Output.{Output}, Layout.{wire_of}}
pub use Rattle.pdc_mark.specs.{declared.stored.Stored.{Stored}, Stops.{Stop}, Stored.{with_due, with_next_start, with_waiting}}
pub use Rattle.pdc_life.specs.{Answer.{answered, pop_answer, Rules, tick_answer, ToArrive, ToPop, ToTick, waiting_counts}, Arrival.{Arrival}, CoreKind.{CoreKind, given_of, IsLifeOf, OfMerger, OfNode, rules_of, Says}, declared.given.Settings.{Settings}, declared.merging.MergerSettings.{MergerSettings}, declared.outcome.Outcome.{Outcome}, declared.pmu.Pmu.{Pmu}, Given.{Given}, Life.{changes, Entry, Pop, Tick}, Published.{layout_wire}, Run.{IsRun}}
pub use Rattle.pdc_align.specs.{Align.{new_change, ticked_of}, declared.ticked.Ticked.{Ticked}}
pub use Rattle.pdc_core.specs.Core.{Hears}
pub use Rattle.pdc_node.specs.Node.{NodeView}
pub use Rattle.pdc_merge.specs.Merger.{MergerView}
pub use Rattle.pdc_history.specs.{Agree.{ids_of, MayBegin, SettingsAgree, sources_of, time_bases_of}, Asked.{Asked, Cause, CausesAreOne, FaultsMayNotHappen, Foreign, IsFault, IsNamed, IsReadOf, IsUnnamed, Junk, OtherBody, OtherSection, StartsUsedUp, To}, Event.{Bring, due_in, Miss}, Genuine.{IsPublishedData}, History.{IsForOne, IsHistory, MayCome, stream_ids}, Play.{IsPlayOf, IsStepOf}, World.{A, B, begun_with, Comes, Ends, first_mark, given_by, given_in, Happened, is_same, kind_of, lead_of, life_of, M, mark_of, opened_with, output_of, PassesBy, published, Publishes, raised, reserved, Sends, sent, sent_at, since, Ticks, Who, with_counts_of, with_entry, World}}
pub use Rattle.pdc_history.proofs.{Layouts.{life_after_tick}, Lists.{last_one, place_there, tail_of}, Moments.{is_itself, same_who}, Senders.{few_columns}}
pub use Rattle.pdc_history.specs.{declared.send_fault.SendFault.{SendFault}, declared.send_fault.SendFault.TheVariants.{NoMemory}, Histories.{HasCause, IsSentIn, MayBeSent}, Sent.{IsOfNone, IsOfPmu, SentView}}
pub use Rattle.pdc_history.specs.{declared.act.StopAt.{StopAt}, declared.event.Event.{Event}, declared.event_fault.Fault.{Fault}, declared.event_fault.Premise.TheVariants.{Genuine, OneBody, OneSection, OneTable}, declared.reply.Published.{Published}, declared.reply.Reply.{Reply}, Handed.{act_of, asked_of, fault_of, store_of, who_of}}
pub use Rattle.pdc_station.specs.{declared.fault.StopFault.{StopFault}, pdc_publisher.Publisher.{mark_in}, Station.{HasStopped, left_by, start_left, wire_of_some}}
pub use Rattle.pdc_world.specs.{Acts.{fault_of_send, fault_of_stop, frames_if, frames_with, HasCome, is_own, IsAct, IsMade, IsPart, IsRefused, IsSeat, IsSend, IsSomeFrame, IsSomePart, IsWhy, Keeps, layouts_of, listed_with}, Agreement.{are_alike, are_free, are_sources, are_three, do_agree, is_free, is_taken_for}, declared.opening.Leads.{Leads}, Holds.{Holds, HoldsSome, IsAnswered, IsCutShort, IsPlayed, IsSeated}, Known.{FramesAreKnown}, Ledger.{ledger_has_room, ledger_view, station_view, world_view}, Opening.{are_left, HasNoStart, world_of}, Receiver.{core_in}, Replies.{listed_at, name_of, published_as}, Seats.{CoreOf, kind_in, Seat, seat_of, station_of}, Views.{LedgerView, StationView, WorldView}}
