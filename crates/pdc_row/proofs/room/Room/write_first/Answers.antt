use Rattle.std.proofs.Common.{◌∙◌, ◌++◌, List, ℕ, ap, arith, drop, length}
use Rattle.pdc_row.proofs.Rooms.{written_first}
use Rattle.pdc_row.proofs.room.Room.write_first.Goals as goal

pub returns : goal.returns
returns c =
    written_first (length c.args.bytes.now) c.self.inside.bytes c.args.self.now c.copy_from_slice.new.self (omega (arith, c.self.told)) c.self.view_is
    ∙ ap (λ (bytes : List ℕ). bytes ++ drop (length c.args.bytes.now) c.args.self.now) c.copy_from_slice.ensures.after
