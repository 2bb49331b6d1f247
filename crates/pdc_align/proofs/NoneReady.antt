-- Where no column is ready, nothing is adopted.
use Rattle.std.proofs.Common.{◌≡◌, ◌&&◌, ℕ, ◌+◌, Bool, true, false, cond, length, not, nat_lt, List, [], ◌∷◌, map, None, ap, arith, refl, sym}
use Rattle.std.proofs.lemmas.Bool.{or_parts}
use Rattle.std.proofs.lemmas.Option.{none-some}
use Rattle.std.specs.List.{list_any}
use Rattle.pdc_table.specs.Steps.{tick_answer}
use Rattle.pdc_align.specs.State.{rule_of}
use Rattle.pdc_align.specs.Align.{ColumnState, State, new_change}
use Rattle.pdc_align.specs.Calls.{after_adopting, after_closing, after_tick_of, cleared_from, has_change_in, is_ready_in, ready_from, told_at, with_adoption}
use Rattle.pdc_align.specs.declared.ticked.Ticked.{Ticked}

pub none_ready : (first : ℕ) (columns : List ColumnState) → list_any is_ready_in columns ≡ false → ready_from first columns ≡ []
none_ready first [] e = refl
none_ready first (column ∷ columns) e =
    let both = or_parts (is_ready_in column) (list_any is_ready_in columns) e in
    rw both.0 (none_ready (first + 1) columns both.1)

pub all_kept : (columns : List ColumnState) → list_any is_ready_in columns ≡ false → map with_adoption columns ≡ columns
all_kept [] e = refl
all_kept (column ∷ columns) e =
    let both = or_parts (is_ready_in column) (list_any is_ready_in columns) e in
    rw both.0 (ap (λ cs. column ∷ cs) (all_kept columns both.1))

-- so none was ready where no change number was told, and what is in force stays
pub kept_unless : (first change : ℕ) (columns : List ColumnState) (ready : List ℕ) → ready ≡ ready_from first columns → new_change change ready ≡ None → map with_adoption columns ≡ columns
kept_unless first change columns [] e told = kept_if first columns (sym e)
  where
    one : (first : ℕ) (column : ColumnState) (columns : List ColumnState) (b : Bool) → is_ready_in column ≡ b
        → cond b (first ∷ ready_from (first + 1) columns) (ready_from (first + 1) columns) ≡ []
        → (ready_from (first + 1) columns ≡ [] → map with_adoption columns ≡ columns)
        → cond b (record column { in_force = column.held }) column ∷ map with_adoption columns ≡ column ∷ columns
    one first column columns true e h k = absurd (omega (arith, ap length h))
    one first column columns false e h k = ap (λ cs. column ∷ cs) (k h)

    kept_if : (first : ℕ) (columns : List ColumnState) → ready_from first columns ≡ [] → map with_adoption columns ≡ columns
    kept_if first [] h = refl
    kept_if first (column ∷ columns) h = one first column columns (is_ready_in column) refl h (kept_if (first + 1) columns)
kept_unless first change columns (d ∷ ds) e told = absurd (none-some (change + 1) (sym told))

-- then a tick tells of none,
pub told_none : (a : State) (now : ℕ) (counts : List ℕ) → list_any is_ready_in (cleared_from 0 counts a.columns) ≡ false
    → told_at a now counts ≡ record { closed = tick_answer a.content (rule_of a.wait_kind a.wait now); change = None; used_up = false }
told_none a now counts e = rw (none_ready 0 (cleared_from 0 counts a.columns) e) (either (has_change_in a) (tick_answer a.content (rule_of a.wait_kind a.wait now)))
  where
    either : (has : Bool) (closed : ℕ) → ◌≡◌ {A = Ticked} (record { closed = closed; change = cond has (new_change a.change []) None; used_up = not has && nat_lt 0 0 }) (record { closed = closed; change = None; used_up = false })
    either true closed = refl
    either false closed = refl

-- and adopts none
pub state_none : (a : State) (now : ℕ) (counts : List ℕ) → list_any is_ready_in (cleared_from 0 counts a.columns) ≡ false → after_tick_of a now counts ≡ after_closing a now counts
state_none a now counts e = rw (none_ready 0 (cleared_from 0 counts a.columns) e) (either (has_change_in a))
  where
    either : (has : Bool) → cond has (after_adopting (after_closing a now counts) []) (after_closing a now counts) ≡ after_closing a now counts
    either true = ap (λ columns. record (after_closing a now counts) { columns = columns }) (all_kept (cleared_from 0 counts a.columns) e)
    either false = refl
