use Rattle.std.proofs.Common.{◌∙◌, ◌++◌, List, ℕ, ap₂, arith, take}
use Rattle.pdc_row.specs.KeptBlocks.{room_in}
use Rattle.pdc_row.proofs.Rooms.{ends_framed, ends_leave}
use Rattle.pdc_row.proofs.room.put_ends.Goals as goal

pub returns-clause-framed : goal.returns-clause-framed
returns-clause-framed c =
    ends_framed c.args.len c.args.bytes.now c.copy_from_slice.new.self c.copy_from_slice-2.new.self (omega (arith, c.requires, c.told-bytes)) (omega (arith, c.copy_from_slice.auto.self)) (omega (arith, c.copy_from_slice-2.auto.self))
    ∙ ap₂ (λ (front check : List ℕ). front ++ (take c.args.len (room_in c.args.bytes.now) ++ check)) c.copy_from_slice.ensures.after c.copy_from_slice-2.ensures.after

pub returns-clause-first : goal.returns-clause-first
returns-clause-first c =
    ends_leave c.args.len c.args.bytes.now c.copy_from_slice.new.self c.copy_from_slice-2.new.self (omega (arith, c.requires, c.told-bytes)) (omega (arith, c.copy_from_slice.auto.self))
