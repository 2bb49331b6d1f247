-- What passes the test of the merger's settings is of a node, and of rising columns that there are.
use Rattle.std.proofs.Common.{◌≡◌, ◌&&◌, ℕ, ◌+◌, ◌<◌, Bool, true, false, List, [], ◌∷◌, length, map, nat_lt}
use Rattle.std.specs.List.{AllByRecursion}
use Rattle.std.proofs.lemmas.Bool.{false≢true, ltb-true}
use Rattle.pdc_cfg.specs.Section.{SectionFields}
use Rattle.pdc_core.specs.Fits.{are_placed, fits_merger}
use Rattle.pdc_life.specs.Arrival.{Arrival}
use Rattle.pdc_life.specs.Run.{sections_of}
use Rattle.pdc_life.specs.declared.merging.MergerSettings.{MergerSettings}
use Rattle.pdc_row.specs.Rising.{Rises}
use Rattle.pdc_merge.specs.Merger.{IsPlaced}

-- where two tests passed, each did
both : (a b : Bool) → a && b ≡ true → (a ≡ true) × (b ≡ true)
both true b h = (λ i. true, h)
both false b h = absurd (false≢true h)

placed : (columns low : ℕ) (parts : List (ℕ × SectionFields)) → are_placed columns low parts ≡ true
    → Rises low (map (λ (part : ℕ × SectionFields). part.0 + 1) parts) × AllByRecursion (λ (part : ℕ × SectionFields). part.0 < columns) parts
placed columns low [] h = (tt, tt)
placed columns low (part ∷ parts) h =
    let one : (nat_lt low (part.0 + 1) ≡ true) × (nat_lt part.0 columns && are_placed columns (part.0 + 1) parts ≡ true) = both (nat_lt low (part.0 + 1)) (nat_lt part.0 columns && are_placed columns (part.0 + 1) parts) h in
    let two : (nat_lt part.0 columns ≡ true) × (are_placed columns (part.0 + 1) parts ≡ true) = both (nat_lt part.0 columns) (are_placed columns (part.0 + 1) parts) one.1 in
    let rest : Rises (part.0 + 1) (map (λ (p : ℕ × SectionFields). p.0 + 1) parts) × AllByRecursion (λ (p : ℕ × SectionFields). p.0 < columns) parts = placed columns (part.0 + 1) parts two.1 in
    ((ltb-true low (part.0 + 1) one.0, rest.0), (ltb-true part.0 columns two.0, rest.1))

pub passed : (settings : MergerSettings) (s : ℕ) (arrival : Arrival) → fits_merger settings s arrival ≡ true → IsPlaced (length settings.sources.items) s arrival
passed settings s arrival h =
    let two : (nat_lt s 2 ≡ true) × (are_placed (length settings.sources.items) 0 (sections_of arrival) ≡ true) = both (nat_lt s 2) (are_placed (length settings.sources.items) 0 (sections_of arrival)) h in
    let here : Rises 0 (map (λ (part : ℕ × SectionFields). part.0 + 1) (sections_of arrival)) × AllByRecursion (λ (part : ℕ × SectionFields). part.0 < length settings.sources.items) (sections_of arrival) = placed (length settings.sources.items) 0 (sections_of arrival) two.1 in
    record { of_two = ltb-true s 2 two.0; rise = here.0; exist = here.1 }
