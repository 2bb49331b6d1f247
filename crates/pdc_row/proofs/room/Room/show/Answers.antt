use Rattle.std.proofs.Common.{◌∙◌, refl, sym}
use Rattle.pdc_row.proofs.Rooms.{long_room}
use Rattle.pdc_row.proofs.room.Room.show.Goals as goal

pub returns-clause-long : goal.returns-clause-long
returns-clause-long g c = long_room c.put_ends.new.bytes _ c.put_ends.array_long refl ∙ sym (long_room c.self.inside.bytes c.args.self.now c.self.told c.self.view_is)
