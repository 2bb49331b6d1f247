use Rattle.pdc_row.proofs.Frames.{Tags, rows_are_cut, rows_are_frames}
use Rattle.pdc_row.proofs.output_laws.rows_are_frames.Goals as goal

pub returns-clause-frames : goal.returns-clause-frames
returns-clause-frames c output row shapes few blocks instant quality =
    let tags : Tags = record { computed = c.tag_is_nearest.ensures.computed; exists = c.tag_is_nearest.ensures.exists; count = c.tag_is_nearest.ensures.count } in
    rows_are_frames tags output row shapes few blocks instant quality

pub returns-clause-cut : goal.returns-clause-cut
returns-clause-cut c row own shapes phasors analogs digitals start change blocks = rows_are_cut row own shapes phasors analogs digitals start change blocks
