-- With what the core of a run was opened.
pub use Rattle.pdc_aligner.specs.Opened.{IsOpenedWith}
