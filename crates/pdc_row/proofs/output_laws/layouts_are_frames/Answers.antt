use Rattle.pdc_row.proofs.Frames.{layouts_are_frames}
use Rattle.pdc_row.proofs.output_laws.layouts_are_frames.Goals as goal

pub returns : goal.returns
returns c output start change soc sections few a fits = layouts_are_frames output start change soc sections few a fits
