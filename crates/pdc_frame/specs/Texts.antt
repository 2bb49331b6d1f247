-- The text of each fault: its code and its name.
use Rattle.std.specs.Prelude.{ℕ, List, codes}
use Rattle.pdc_frame.specs.declared.fault.FrameFault.{FrameFault}
use Rattle.pdc_frame.specs.declared.fault.FrameFault.TheVariants as frame

-- why bytes are no frame, by its code and name
abbrev pub frame_fault : FrameFault → List ℕ
frame_fault frame.Short = codes "F1 Short"
frame_fault frame.BadSync = codes "F2 BadSync"
frame_fault frame.SizeMismatch = codes "F3 SizeMismatch"
frame_fault frame.BadCheck = codes "F4 BadCheck"
frame_fault frame.BadId = codes "F5 BadId"
