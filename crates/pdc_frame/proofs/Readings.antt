-- Bytes are at most one frame and have at most one fault, and no frame has a fault.
use Rattle.std.proofs.Common.{◌≡◌, ◌++◌, [], ℕ, List, refl, sym, ap, ◌∙◌, arith}
use Rattle.pdc_frame.specs.declared.fault.FrameFault.{FrameFault}
use Rattle.pdc_frame.specs.declared.fault.FrameFault.TheVariants.{Short, BadSync, SizeMismatch, BadCheck, BadId}
use Rattle.pdc_frame.specs.Frame.{Fields, IsFrame, IsFirstFault}
use Rattle.pdc_frame.proofs.Spellings.{found}
use Rattle.pdc_frame.proofs.Wholes.{whole-sized}
use Rattle.pdc_frame.proofs.Streams.{whole-no_cause}

pub same_frame : (bytes : List ℕ) (f g : Fields) → IsFrame bytes f → IsFrame bytes g → f ≡ g
same_frame bytes f g h k = (found f g [] [] h.fits k.fits (ap (λ (xs : List ℕ). xs ++ []) (sym h.spelled ∙ k.spelled))).0

pub one_fault : (bytes : List ℕ) (a b : FrameFault) → IsFirstFault bytes a → IsFirstFault bytes b → a ≡ b
one_fault bytes Short Short h k = refl
one_fault bytes Short BadSync h k = absurd (omega (arith, h, k.0))
one_fault bytes Short SizeMismatch h k = absurd (omega (arith, h, k.0.0))
one_fault bytes Short BadCheck h k = absurd (omega (arith, h, k.0.0.0))
one_fault bytes Short BadId h k = absurd (omega (arith, h, k.0.0.0.0))
one_fault bytes BadSync Short h k = absurd (omega (arith, k, h.0))
one_fault bytes BadSync BadSync h k = refl
one_fault bytes BadSync SizeMismatch h k = absurd (h.1 k.0.1)
one_fault bytes BadSync BadCheck h k = absurd (h.1 k.0.0.1)
one_fault bytes BadSync BadId h k = absurd (h.1 k.0.0.0.1)
one_fault bytes SizeMismatch Short h k = absurd (omega (arith, k, h.0.0))
one_fault bytes SizeMismatch BadSync h k = absurd (k.1 h.0.1)
one_fault bytes SizeMismatch SizeMismatch h k = refl
one_fault bytes SizeMismatch BadCheck h k = absurd (h.1 k.0.1)
one_fault bytes SizeMismatch BadId h k = absurd (h.1 k.0.0.1)
one_fault bytes BadCheck Short h k = absurd (omega (arith, k, h.0.0.0))
one_fault bytes BadCheck BadSync h k = absurd (k.1 h.0.0.1)
one_fault bytes BadCheck SizeMismatch h k = absurd (k.1 h.0.1)
one_fault bytes BadCheck BadCheck h k = refl
one_fault bytes BadCheck BadId h k = absurd (h.1 k.0.1)
one_fault bytes BadId Short h k = absurd (omega (arith, k, h.0.0.0.0))
one_fault bytes BadId BadSync h k = absurd (k.1 h.0.0.0.1)
one_fault bytes BadId SizeMismatch h k = absurd (k.1 h.0.0.1)
one_fault bytes BadId BadCheck h k = absurd (k.1 h.0.1)
one_fault bytes BadId BadId h k = refl

-- no frame has a fault
pub no_frame_fault : (bytes : List ℕ) (f : Fields) (fault : FrameFault) → IsFrame bytes f → IsFirstFault bytes fault → ⊥
no_frame_fault bytes f Short h short = absurd (omega (arith, short, (whole-sized bytes f h).0.0))
no_frame_fault bytes f BadSync h unsynced = unsynced.1 (whole-sized bytes f h).0.1
no_frame_fault bytes f SizeMismatch h unsized = unsized.1 (whole-sized bytes f h).1
no_frame_fault bytes f BadCheck h unchecked = whole-no_cause bytes f BadCheck h unchecked
no_frame_fault bytes f BadId h reserved = whole-no_cause bytes f BadId h reserved
