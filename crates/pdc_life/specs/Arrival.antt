-- What arrives at a concentrator, as its bytes say it.
use Rattle.pdc_life.specs.Names.{List, Option, SectionFields, ℕ}
use Rattle.pdc_life.specs.declared.outcome.Refusal.{Refusal}

-- the stamp of a layout: the start number of a life, and the change number in it
pub record Stamp : Type 0 where
  pub start : ℕ
  pub change : ℕ

-- what arrived
pub data Arrival : Type 0 where
  -- bytes that are refused, whatever came before
  BytesRefused : (refusal : Refusal) → Arrival
  -- a data frame of the stream: its instant, its time quality byte and its payload
  Data : (instant quality : ℕ) (payload : List ℕ) → Arrival
  -- a configuration of the stream: each of its sections with its column. A PMU's has one section and no stamp.
  Layout : (stamp : Option Stamp) (sections : List (ℕ × SectionFields)) → Arrival
