use Rattle.std.proofs.Common.{arith}
use Rattle.pdc_row.proofs.Rooms.{written_in}
use Rattle.pdc_row.proofs.room.Room.write.Goals as goal

pub returns : goal.returns
returns g c = (
  c.write_bytes.new.bytes,
  written_in c.args.start c.args.end c.self.inside.bytes c.args.self.now c.write_bytes.new.bytes (omega (arith, c.self.told)) c.self.view_is,
  omega (arith, c.write_bytes.auto.bytes),
  c.write_bytes.ensures,
)
