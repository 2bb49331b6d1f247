-- The nodes of the merger's settings, by the numbers of their streams.
use Rattle.std.proofs.Common.{◌≡◌, ◌<◌, ℕ, List, Some, arith, refl, suc, zero}
use Rattle.std.specs.List.{slice_get}
use Rattle.pdc_life.specs.MergerReading.{nodes_of}
use Rattle.pdc_life.specs.declared.merging.MergerSettings.{MergerSettings}
use Rattle.pdc_life.specs.declared.reading.Reading.{Reading}
use Rattle.pdc_life.specs.declared.reading.Reading.TheVariants as heard
use Rattle.pdc_life.specs.pdc_frame.declared.frame.Frame.{Frame}
use Rattle.pdc_arrival.specs.Heard.{HearsFrom, SaysData, node_of}

-- the node of a stream is listed at its number
pub listed_at : (settings : MergerSettings) (s : ℕ) → s < 2 → slice_get (nodes_of settings) s ≡ Some (node_of settings s)
listed_at settings zero h = refl
listed_at settings (suc zero) h = refl
listed_at settings (suc (suc s)) h = absurd (omega (arith, h))

pub data_said : (settings : MergerSettings) (s : ℕ) (bytes : List ℕ) (h : Reading Frame) → s < 2 → HearsFrom settings (node_of settings s) bytes h → SaysData settings s bytes h
data_said settings s bytes (heard.BytesRefused refusal) l h = tt
data_said settings s bytes (heard.Data instant quality payload) l h = record { sender = node_of settings s; listed = listed_at settings s l; reads = h }
data_said settings s bytes (heard.Configuration frame) l h = tt
