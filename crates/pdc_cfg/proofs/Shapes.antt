-- Shapes are equal where their numbers are.
use Rattle.std.proofs.Common.{◌≡◌, ◌≤◌}
use Rattle.std.specs.Coded.{le_prop}
use mathlib.Core.HLevel.{is_prop→PathP}
use Rattle.pdc_cfg.specs.declared.shape.Shape.{Shape}

pub same_shape : (a b : Shape) → a.phasors ≡ b.phasors → a.analogs ≡ b.analogs → a.digitals ≡ b.digitals → a ≡ b
same_shape a b phasors analogs digitals = λ i. record {
  phasors = phasors i;
  analogs = analogs i;
  digitals = digitals i;
  phasors_fit = is_prop→PathP (λ j. phasors j ≤ 32) (λ j. le_prop) a.phasors_fit b.phasors_fit i;
  analogs_fit = is_prop→PathP (λ j. analogs j ≤ 32) (λ j. le_prop) a.analogs_fit b.analogs_fit i;
  digitals_fit = is_prop→PathP (λ j. digitals j ≤ 8) (λ j. le_prop) a.digitals_fit b.digitals_fit i;
}
