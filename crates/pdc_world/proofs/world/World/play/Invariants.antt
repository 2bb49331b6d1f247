use Rattle.std.proofs.Common.{List, map, take}
use Rattle.pdc_world.proofs.Names.{asked_of, Happened, Holds, IsPlayed, World}
use Rattle.pdc_world.proofs.world.World.play.Given as goal

-- the events so far were played
abbrev pub invariant-loop-index : goal.invariant-loop-index
invariant-loop-index g l = (W : World) (H : List Happened) → Holds W H l.initial.self → IsPlayed W H (map asked_of (take l.index l.events)) l.self
