use Rattle.std.proofs.Common.{rules, ◌≡◌, false, refl}
use Rattle.pdc_server.specs.Remembering.{Memory, WasFound, WasLeft, memory_of}
use Rattle.pdc_server.specs.Stamps.{is_stamp}
use Rattle.pdc_server.proofs.recent.Recent.push.Goals as goal

found : (memory : Memory) → WasFound memory
unfolding WasFound
found memory = tt

left : (memory : Memory) → WasLeft memory
unfolding WasLeft
left memory = tt

pub returns-then-not-is_in_force-clause-kept : goal.returns-then-not-is_in_force-clause-kept
returns-then-not-is_in_force-clause-kept g c =
    let other : is_stamp c.deref.result.now.stamp c.args.stamp ≡ false = search (rules, c.if-not-is_in_force.true, c.is_in_force.ensures.is) in
    (memory_of c.deref.result.now, memory_of c.deref.result.now, found _, left _, (other, refl))

pub returns-clause-kept : goal.returns-clause-kept
returns-clause-kept g c =
    let same : c.deref_mut.result.now.stamp ≡ c.args.stamp = search rules in
    (memory_of c.deref_mut.result.now, memory_of c.push.new.self, found _, left _, (same, c.in_ok-push.ensures.kept))
