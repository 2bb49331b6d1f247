use Rattle.pdc_mark.proofs.Marks.{held_image}
use Rattle.pdc_mark.proofs.disk_mark.DiskMarkMark.stored.Goals as goal

pub returns-clause-kept : goal.returns-clause-kept
returns-clause-kept g c whole = let mark = c.args.self.now in held_image _ _ mark.held mark.is_other_closed mark.slot (mark.stands whole) (mark.told whole)
