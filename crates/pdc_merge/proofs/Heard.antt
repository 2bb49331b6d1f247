-- What is heard as refused is what the bytes say.
use Rattle.std.proofs.Common.{◌≡◌, ◌<◌, ℕ, List, Some, arith, refl, suc, zero}
use Rattle.std.specs.List.{slice_get}
use Rattle.pdc_arrival.specs.Heard.{HearsForMerger, node_of}
use Rattle.pdc_life.specs.Arrival.{BytesRefused}
use Rattle.pdc_life.specs.CoreKind.{OfMerger, Says}
use Rattle.pdc_life.specs.MergerReading.{nodes_of}
use Rattle.pdc_life.specs.declared.merging.MergerSettings.{MergerSettings}
use Rattle.pdc_life.specs.declared.outcome.Refusal.{Refusal}
use Rattle.pdc_life.specs.declared.reading.Reading.TheVariants as heard

-- the node of a stream is listed at its number
listed_at : (settings : MergerSettings) (s : ℕ) → s < 2 → slice_get (nodes_of settings) s ≡ Some (node_of settings s)
listed_at settings zero h = refl
listed_at settings (suc zero) h = refl
listed_at settings (suc (suc s)) h = absurd (omega (arith, h))

pub refused_said : (settings : MergerSettings) (s : ℕ) (bytes : List ℕ) (refusal : Refusal) → s < 2 → HearsForMerger settings s bytes (heard.BytesRefused refusal)
    → Says (OfMerger settings) s bytes (BytesRefused refusal)
refused_said settings s bytes refusal l h = record { sender = node_of settings s; listed = listed_at settings s l; reads = h }
