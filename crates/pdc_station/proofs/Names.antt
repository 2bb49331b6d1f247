-- The names that the proofs cite of the definitions, and of the crates below, passed on from one place.
pub use Rattle.std.specs.{List.{AllByRecursion, concat, Contains}, Option.{option_to_list}}
pub use Rattle.std.proofs.{lemmas.List.{append-nil, append_assoc, map-append}, lemmas.List.Elements.{Contains-append_cases}, lemmas.List.Folds.{concat-append}}
pub use Rattle.pdc_row.specs.{declared.due_row.DueRow.{DueRow}, Rising.{AreBelow, Rises}, RowView.{row_instants, row_view, RowView}}
pub use Rattle.pdc_row.proofs.Rising.{below_append, below_higher, rises_append}
pub use Rattle.pdc_row.specs.{declared.output.Output.{Output}, Layout.{wire_of}}
pub use Rattle.pdc_mark.specs.Stored.{with_next_start}
pub use Rattle.pdc_publisher.specs.Publisher.{mark_in}
pub use Rattle.pdc_life.specs.{Answer.{answered, pop_answer, Rules, ToPop}, Given.{Given}, Life.{Entry, Pop, popped}, Published.{published}}
pub use Rattle.pdc_align.specs.Popped.{popped_after}
pub use Rattle.pdc_history.proofs.Lists.{element, in_one, not_empty, not_in_none}
pub use Rattle.pdc_station.specs.{Calls.{AllAreSent, Call, Empty, Lost, MakeAll, Makes, NoLostRowIsSent, publish_of, rows_lost, rows_popped, rows_sent, RowsAreOfTheLife, Sent, SentRowsAreAppended, SentRowsRise, Told}, Published.{PopsArePublished}, Station.{wire_of_some}}
