-- The rate of what is named.
pub use Rattle.pdc_aligner.specs.Rate.{IsAtRate}
