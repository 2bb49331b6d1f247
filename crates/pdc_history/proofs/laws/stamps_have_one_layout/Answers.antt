use Rattle.pdc_history.proofs.{Cuts.{published_were_sent}, Layouts.{layouts_are_one}}
use Rattle.pdc_history.proofs.laws.stamps_have_one_layout.Goals as goal

pub returns-clause-published : goal.returns-clause-published
returns-clause-published c W H is = published_were_sent c.lives_are_known.ensures c.frames_are_known.ensures W H is

pub returns-clause-layouts : goal.returns-clause-layouts
returns-clause-layouts c W H who stamp sections others is a b =
    layouts_are_one c.lives_are_known.ensures c.frames_are_known.ensures W H who stamp sections others is a b
