-- What is compared with what is recorded is that of the life.
use Rattle.std.proofs.Common.{◌≡◌, ℕ, ◌<◌, ◌*◌, List, OnOk, Option, Result, Some, subst, sym}
use Rattle.std.specs.Borrow.{Bor}
use Rattle.pdc_life.specs.Given.{Given}
use Rattle.pdc_life.specs.Life.{Entry}
use Rattle.pdc_life.specs.Published.{layout_wire}
use Rattle.pdc_row.specs.Layout.{wire_of}
use Rattle.pdc_row.specs.RowView.{RowView}
use Rattle.pdc_row.specs.declared.output.Output.{Output}
use Rattle.pdc_replay.specs.Passed.{IsFrameOf}
use Rattle.pdc_row.specs.pdc_frame.declared.tag_limits.TheConstants.{SECONDS}

-- the core says of itself what the life does
pub frame_of_life : {A B : Type 0} (r : Result A B) (recorded : Option (Bor (List ℕ))) (frame : Bor (List ℕ)) (row : RowView) (written said : Output) →
    recorded ≡ Some frame → written ≡ said → (row.instant < SECONDS * written.rate → OnOk r (frame.now ≡ wire_of written row)) →
    row.instant < SECONDS * said.rate → OnOk r (IsFrameOf recorded (wire_of said row))
frame_of_life r recorded frame row written said is e h =
    subst (λ (it : Option (Bor (List ℕ))). row.instant < SECONDS * said.rate → OnOk r (IsFrameOf it (wire_of said row))) (sym is)
    (subst (λ (o : Output). row.instant < SECONDS * o.rate → OnOk r (frame.now ≡ wire_of o row)) e h)

-- the layout is dated as the recorded one
pub layout_of_life : {A B : Type 0} (r : Result A B) (recorded wire : List ℕ) (g : Given) (E : List Entry) (soc second : ℕ) →
    wire ≡ layout_wire g E soc → soc ≡ second → OnOk r (recorded ≡ wire) → OnOk r (recorded ≡ layout_wire g E second)
layout_of_life r recorded wire g E soc second w s h =
    subst (λ (n : ℕ). OnOk r (recorded ≡ layout_wire g E n)) s (subst (λ (bytes : List ℕ). OnOk r (recorded ≡ bytes)) w h)
