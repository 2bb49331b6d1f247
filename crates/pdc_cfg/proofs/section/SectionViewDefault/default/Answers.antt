use Rattle.std.proofs.Common.{ℕ, zero, suc, replicate, refl, sym, arith}
use Rattle.pdc_frame.specs.Bytes.{AreBytes}
use Rattle.pdc_cfg.proofs.section.SectionViewDefault.default.Goals as goal

zeros : (n : ℕ) → AreBytes (replicate n 0)
zeros zero i = omega arith
zeros (suc n) zero = omega arith
zeros (suc n) (suc i) = zeros n i

pub invariant_of-result : goal.invariant_of-result
invariant_of-result c =
    let none = c.default.ensures in
    record {
      whole = record {
        fits = zeros 30;
        size = omega (arith, none.0, none.1, none.2);
        source = refl;
        integers = refl;
        polar = refl;
        phasors = sym none.0;
        analogs = sym none.1;
        digitals = sym none.2;
        count = refl;
      };
    }
