use Rattle.std.proofs.Common.{refl}
use Rattle.pdc_mark.proofs.Marks.{held_image}
use Rattle.pdc_mark.proofs.store.make_ready.Goals as goal

pub returns-clause-images : goal.returns-clause-images
returns-clause-images g c = held_image _ _ c.args.held c.args.is_closed _ c.requires refl
