use Rattle.std.proofs.Common.{◌≡◌, ◌++◌, ◌∙◌, ap, refl, replicate, subst, sym, List, ℕ}
use Rattle.std.proofs.lemmas.Result.{on_ok_weaker}
use Rattle.pdc_mark.specs.declared.layout.TheConstants.{SLOT_LEN}
use Rattle.pdc_mark.specs.declared.slot.Slot.{Slot}
use Rattle.pdc_mark.specs.Slots.{FitsWidths, HasJust}
use Rattle.pdc_mark.specs.VersionOne.{converted_file}
use Rattle.pdc_mark.proofs.Fresh.{fresh, has_made}
use Rattle.pdc_mark.proofs.version_1.OldMark.write.Goals as goal

abbrev counting : Slot → List ℕ → Slot
counting slot counts = record { id = slot.id; rate = slot.rate; stored = record { start = slot.stored.start; floor = slot.stored.floor; counts = counts } }

pub returns-clause-mark : goal.returns-clause-mark
returns-clause-mark g c =
    let slot = c.args.self.now.slot in
    let zero : slot ≡ fresh slot.id slot.rate slot.stored.start slot.stored.floor = ap (counting slot) c.args.self.now.zero in
    let fits : FitsWidths (fresh slot.id slot.rate slot.stored.start slot.stored.floor) = subst FitsWidths zero c.bytes.ensures.fits in
    let made = has_made slot.id slot.rate slot.stored.start slot.stored.floor fits (replicate SLOT_LEN 0) refl refl in
    let has : HasJust slot (converted_file slot) = subst (λ (mark : Slot). HasJust mark (converted_file mark)) (sym zero) made in
    on_ok_weaker c.write_file.result (λ file. subst (HasJust slot) (sym (file ∙ ap (λ (bytes : List ℕ). bytes ++ replicate SLOT_LEN 0) c.bytes.ensures.value)) has) c.write_file.ensures.bytes
