-- What stays of a publisher and its mark.
use Rattle.std.specs.Prelude.{◌≡◌, ℕ, List, Result}
use Rattle.pdc_hub.specs.declared.fault.HubFault.{HubFault}
use Rattle.pdc_mark.specs.declared.mark.Mark.{Ghosts}
use Rattle.pdc_publisher.specs.declared.publisher.Publisher.{Publisher}
use Rattle.pdc_publisher.specs.Publisher.{last_in, lead_in, mark_in, output_in}
use Rattle.pdc_aligner.specs.Device.{HasDevice, standing_of}

-- the counts that its mark stores
abbrev pub counts_in : {M : Type 0} {marks : Ghosts M} → Publisher M marks → List ℕ
counts_in {marks = marks} publisher = (marks.stored (mark_in publisher)).counts

-- the floor that its mark stores
abbrev pub floor_in : {M : Type 0} {marks : Ghosts M} → Publisher M marks → ℕ
floor_in {marks = marks} publisher = (marks.stored (mark_in publisher)).floor

-- What its frames say, and how many instants it reserves ahead, stay;
abbrev pub KeepsOutput : {M : Type 0} {marks : Ghosts M} → (before after : Publisher M marks) → Type 0
KeepsOutput before after = (output_in after ≡ output_in before) × (lead_in after ≡ lead_in before)

-- and nothing else changes but the counts that are stored.
abbrev pub OnlyCountsChange : {M : Type 0} {marks : Ghosts M} → (before after : Publisher M marks) → Type 0
OnlyCountsChange before after = KeepsOutput before after × (last_in after ≡ last_in before) × (floor_in after ≡ floor_in before)

-- A call that had the publisher answers a device fault only where one stood, or the device failed.
abbrev pub HasDeviceOf : {M T : Type 0} {marks : Ghosts M} → (before after : Publisher M marks) → Result T HubFault → Type 0
HasDeviceOf before after result = HasDevice (standing_of before) (standing_of after) result
