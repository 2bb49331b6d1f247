-- The rows that are popped.
use Rattle.std.specs.Prelude.{◌≡◌, ℕ, ◌+◌, ◌*◌, ◌<◌, Bool, true, false, Option, None, Some}
use Rattle.pdc_row.specs.RowView.{RowView, row_view}
use Rattle.pdc_row.specs.declared.due_row.DueRow.{DueRow}
use Rattle.pdc_frame.specs.declared.tag_limits.TheConstants.{SECONDS}
use Rattle.pdc_life.specs.Given.{Given}
use Rattle.pdc_log.specs.Log.{HasLooked}
use Rattle.pdc_hub.specs.Cut.{Cut}
use Rattle.pdc_hub.specs.declared.pops.Pops.{Pops}

-- how many rows were popped, since the hub was made
abbrev pub popped_by : {N M : Type 0} → Pops N M → ℕ
popped_by pops = pops.count

-- Where there was a row, it is what was popped, and else none was.
abbrev pub IsPop : (is_some : Bool) → DueRow → Option RowView → Type 0
IsPop is_some row popped = (is_some ≡ true → Some (row_view row) ≡ popped) × (is_some ≡ false → None ≡ popped)

-- The row can be tagged at the rate of what is named.
abbrev pub CanBeTagged : Option Given → DueRow → Type 0
CanBeTagged named row = (g : Given) → named ≡ Some g → row.instant < SECONDS * g.output.rate

-- Who pops has all parts of the ledger of ticks and pops, and there are some;
abbrev pub HasAllTurns : {N M : Type 0} → Pops N M → Cut → Type 0
HasAllTurns pops turns = (pops.turns.parts ≡ turns.parts) × (0 < pops.turns.parts)

-- and so of that of the greatest instant.
abbrev pub HasAllTop : {N M : Type 0} → Pops N M → Cut → Type 0
HasAllTop pops top = (pops.top.parts ≡ top.parts) × (0 < pops.top.parts)

-- One row was popped between the one and the other, above all before, and it was counted.
pub record HasPoppedOne {N M : Type 0} (before after : Pops N M) : Type 0 where
  pub above : before.top.amount < after.row.value.instant
  pub top : after.top.amount ≡ after.row.value.instant
  pub counted : popped_by after ≡ popped_by before + 1

-- None was popped between the one and the other.
pub record HasPoppedNone {N M : Type 0} (before after : Pops N M) : Type 0 where
  pub same : after.row ≡ before.row
  pub top : after.top.amount ≡ before.top.amount
  pub counted : popped_by after ≡ popped_by before

-- The shares are as many parts as they were.
abbrev pub HasSameShares : {N M : Type 0} → (before after : Pops N M) → Type 0
HasSameShares before after = (after.top.parts ≡ before.top.parts) × (after.turns.parts ≡ before.turns.parts)

-- Nothing was popped, nor handed on;
abbrev pub PopsNothing : {N M : Type 0} → (before after : Pops N M) → Type 0
PopsNothing before after = HasPoppedNone before after × HasSameShares before after

-- and no tick and no pop came since what was seen: who pops has looked, and no more.
abbrev pub OnlyLooks : {N M : Type 0} → (before after : Pops N M) → Type 0
OnlyLooks before after = HasPoppedNone before after × HasSameShares before after × HasLooked before.front after.front
