use Rattle.pdc_row.proofs.Rooms.{part_of}
use Rattle.pdc_row.proofs.room.Room.part.Goals as goal

pub returns : goal.returns
returns c = part_of c.args.start c.args.end c.self.inside.bytes c.args.self.now c.requires.order c.self.view_is
