-- What marks store never falls.
use Rattle.std.proofs.Common.{[], ◌+◌, ◌<◌, ◌^◌, ◌∷◌, ◌≡◌, ◌≤◌, arith, Bool, cond, false, le_refl, List, ltb, None, Option, refl, rules, Some, subst, suc, sym, true, zero, ℕ}
use Rattle.pdc_history.proofs.Names.{count_for, Do, Ends, Event, given_in, Happened, happens, IsMade, lead_of, left_in, life_of, mark_of, MayHappen, OfPublish, OfStart, OfTick, pop_answer, raised, raised_to, reserved, RowView, Stop, StopDuring, Store, Stored, waiting_counts, Who, with_next_start, World}

-- the same start, and nothing lower
pub record AtLeast (m n : Stored) : Type 0 where
  pub start : n.start ≡ m.start
  pub floor : m.floor ≤ n.floor
  pub counts : (c : ℕ) → count_for c m.counts ≤ count_for c n.counts

-- a greater start that fits, and nothing lower
pub record IsNext (m n : Stored) : Type 0 where
  pub start : m.start < n.start
  pub fits : n.start < 2 ^ 32
  pub floor : m.floor ≤ n.floor
  pub counts : (c : ℕ) → count_for c m.counts ≤ count_for c n.counts

pub itself : (m : Stored) → AtLeast m m
itself m = record { start = refl; floor = le_refl m.floor; counts = λ c. le_refl (count_for c m.counts) }

-- a publish
reserves : (lead : ℕ) (r : RowView) (mark : Stored) (b : Bool) → ltb mark.floor r.instant ≡ b
    → AtLeast mark (cond b (record mark { floor = r.instant + lead }) mark) × (r.instant ≤ (cond b (record mark { floor = r.instant + lead }) mark).floor)
reserves lead r mark true e =
    let above : mark.floor < r.instant = search rules in
    (record { start = refl; floor = omega arith; counts = λ c. le_refl (count_for c mark.counts) }, omega arith)
reserves lead r mark false e = (itself mark, search rules)

pub reserved_keeps : (lead : ℕ) (row : Option RowView) (mark : Stored) → AtLeast mark (reserved lead row mark)
reserved_keeps lead None mark = itself mark
reserved_keeps lead (Some r) mark = (reserves lead r mark (ltb mark.floor r.instant) refl).0

pub reserved_covers : (lead : ℕ) (r : RowView) (mark : Stored) → r.instant ≤ (reserved lead (Some r) mark).floor
reserved_covers lead r mark = (reserves lead r mark (ltb mark.floor r.instant) refl).1

-- a raise
raised_is : (ns ms : List ℕ) (c : ℕ) → count_for c ns ≤ count_for c (raised_to ns ms)
raised_is [] ms c = omega arith
raised_is (n ∷ ns) [] c = le_refl (count_for c (n ∷ ns))
raised_is (n ∷ ns) (m ∷ ms) zero = omega arith
raised_is (n ∷ ns) (m ∷ ms) (suc c) = raised_is ns ms c

pub raised_keeps : (W : World) (H : List Happened) (who : Who) → AtLeast (mark_of W H who) (raised W H who)
raised_keeps W H who = record {
  start = refl;
  floor = le_refl (mark_of W H who).floor;
  counts = λ c. raised_is (mark_of W H who).counts (waiting_counts (given_in W H who) (life_of H who)) c;
}

-- a start
starts : (m n : Stored) → AtLeast m n → n.start + 1 < 2 ^ 32 → IsNext m (with_next_start n)
starts m n k fits = record { start = omega (arith, k.start); fits = fits; floor = k.floor; counts = k.counts }

-- a stop in a store
starts_after : (W : World) (H : List Happened) (who : Who) (store : Store) (landed : Bool) → (left_in W H who store landed).start + 1 < 2 ^ 32
    → IsNext (mark_of W H who) (with_next_start (left_in W H who store landed))
starts_after W H who OfPublish true fits =
    starts (mark_of W H who) (left_in W H who OfPublish true) (reserved_keeps (lead_of W who) (pop_answer (life_of H who)) (mark_of W H who)) fits
starts_after W H who OfTick true fits = starts (mark_of W H who) (raised W H who) (raised_keeps W H who) fits
starts_after W H who OfStart true fits = record {
  start = omega arith;
  fits = fits;
  floor = le_refl (mark_of W H who).floor;
  counts = λ c. le_refl (count_for c (mark_of W H who).counts);
}
starts_after W H who store false fits = starts (mark_of W H who) (mark_of W H who) (itself (mark_of W H who)) fits

next_here : (W : World) (H : List Happened) (who v : Who) (mark n : Stored) → v ≡ who → mark ≡ n → IsNext (mark_of W H v) n → IsNext (mark_of W H who) mark
next_here W H who v mark n same is k = subst (λ (w : Who). IsNext (mark_of W H w) mark) same (subst (IsNext (mark_of W H v)) (sym is) k)

ends_of : (W : World) (H : List Happened) (who : Who) (mark : Stored) (event : Event) → MayHappen W H event → Ends who mark ≡ happens W H event → IsNext (mark_of W H who) mark
ends_of W H who mark (Do v Stop) may q =
    next_here W H who v mark (with_next_start (mark_of W H v)) (cc) (cc) (starts (mark_of W H v) (mark_of W H v) (itself (mark_of W H v)) may)
ends_of W H who mark (Do v (StopDuring store landed)) may q =
    next_here W H who v mark (with_next_start (left_in W H v store landed)) (cc) (cc) (starts_after W H v store landed may)
ends_of W H who mark event may q = cc

pub ends_is : (W : World) (H : List Happened) (who : Who) (mark : Stored) → IsMade W H (Ends who mark) → IsNext (mark_of W H who) mark
ends_is W H who mark made = ends_of W H who mark made.event made.may made.made
