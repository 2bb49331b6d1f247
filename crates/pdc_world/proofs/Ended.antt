-- A stop, as the event that it is and the life that begins behind it.
use Rattle.std.proofs.Common.{◌+◌, ◌<◌, ◌^◌, ◌↔◌, ◌≡◌, ◌≤◌, ap, arith, Bool, cond, Err, false, IsErrOf, List, nat_lt, None, Option, refl, Some, subst, sym, true, ℕ}
use Rattle.pdc_world.proofs.Names.{act_of, Asked, due_in, Ends, Fault, fault_of_stop, FaultsMayNotHappen, given_in, Happened, IsFault, IsStepOf, IsWhy, lead_of, left_by, life_of, ltb-false, ltb-true, mark_of, start_left, StartsUsedUp, StopAt, StopFault, store_of, Stored, waiting_counts, Who, with_due, with_next_start, World}
use Rattle.pdc_history.specs.declared.act.Act.TheVariants as act
use Rattle.pdc_history.specs.declared.act.StopAt.TheVariants as at
use Rattle.pdc_history.specs.declared.act.Storing.TheVariants as storing
use Rattle.pdc_history.specs.Asked as asked
use Rattle.pdc_history.specs.Event as event
use Rattle.pdc_station.specs.declared.fault.StopFault.TheVariants as stop

-- the mark of the life that begins behind the stop
abbrev pub begun_by : World → List Happened → Who → StopAt → Stored
begun_by W H v at = with_next_start (left_by at (lead_of W v) (due_in (life_of H v)) (waiting_counts (given_in W H v) (life_of H v)) (mark_of W H v))

-- what a stop is asked as
abbrev pub asked_to_stop : Who → StopAt → Asked
asked_to_stop v at = asked.Do v (act_of (act.Stop at))

pub stop_step : (W : World) (H : List Happened) (v : Who) (at : StopAt) → (begun_by W H v at).start < 2 ^ 32 → IsStepOf W H (asked_to_stop v at) (Ends v (begun_by W H v at))
stop_step W H v at.Between fits = record { event = event.Do v event.Stop; read = refl; may = fits; made = refl }
stop_step W H v (at.In storing landed) fits = record { event = event.Do v (event.StopDuring (store_of storing) landed); read = refl; may = fits; made = refl }

-- ---- a refused stop

stop_fault : (W : World) (H : List Happened) (v : Who) (at : StopAt) → 2 ^ 32 ≤ (begun_by W H v at).start → IsFault W H (asked_to_stop v at) StartsUsedUp
stop_fault W H v at.Between past = past
stop_fault W H v at past = past

start_by : (b : Bool) (mark other : Stored) → other.start ≡ mark.start → (cond b other mark).start ≡ mark.start
start_by true mark other same = same
start_by false mark other same = refl

start_due : (lead : ℕ) (due : Option ℕ) (mark : Stored) → (with_due lead due mark).start ≡ mark.start
start_due lead None mark = refl
start_due lead (Some instant) mark = start_by (nat_lt mark.floor instant) mark (record mark { floor = instant + lead }) refl

start_is : (at : StopAt) (lead : ℕ) (due : Option ℕ) (waiting : List ℕ) (mark : Stored) → (left_by at lead due waiting mark).start ≡ start_left at mark.start
start_is (at.In storing.Publish landed) lead due waiting mark = start_by landed mark (with_due lead due mark) (start_due lead due mark)
start_is (at.In storing.Tick true) lead due waiting mark = refl
start_is (at.In storing.Start true) lead due waiting mark = refl
start_is at lead due waiting mark = refl

is_left : (n : ℕ) (test : Bool) → nat_lt n 4294967295 ≡ test → (4294967295 ≤ n → ⊥) → n < 4294967295
is_left n true is none = ltb-true n 4294967295 is
is_left n false is none = absurd (none (ltb-false n 4294967295 is))

pub why_stopped : FaultsMayNotHappen → (W : World) (H : List Happened) (v : Who) (at : StopAt) (refusal : StopFault) (told : Fault) (old : Stored) → old ≡ mark_of W H v
    → {T : Type 0} → (IsErrOf {T = T} (Err refusal) stop.StartsUsedUp ↔ (4294967295 ≤ start_left at old.start)) → told ≡ fault_of_stop refusal → IsWhy W H (asked_to_stop v at) told
why_stopped apart W H v at stop.StartsUsedUp told old same used is =
    let left = start_is at (lead_of W v) (due_in (life_of H v)) (waiting_counts (given_in W H v) (life_of H v)) (mark_of W H v) in
    subst (IsWhy W H (asked_to_stop v at)) (sym is) (stop_fault W H v at (omega (arith, used.0 refl, ap (λ (s : Stored). start_left at s.start) same, left)))
why_stopped apart W H v at stop.NoMemory told old same used is =
    let left = start_is at (lead_of W v) (due_in (life_of H v)) (waiting_counts (given_in W H v) (life_of H v)) (mark_of W H v) in
    let few : start_left at old.start < 4294967295 = is_left (start_left at old.start) (nat_lt (start_left at old.start) 4294967295) refl (λ past. let e = used.1 past in cc) in
    let step = stop_step W H v at (omega (arith, few, ap (λ (s : Stored). start_left at s.start) same, left)) in
    subst (IsWhy W H (asked_to_stop v at)) (sym is) (λ cause it. apart W H (asked_to_stop v at) cause step.event it step.read step.may)
