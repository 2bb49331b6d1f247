use Rattle.pdc_open_row.proofs.TakenParts.{eight_taken}
use Rattle.pdc_open_row.proofs.streams.eight_taken.Goals as goal

pub returns : goal.returns
returns c = eight_taken c.args.required.now c.args.taken.now c.requires.required c.requires.taken
