use Rattle.std.proofs.Common.{List, ℕ, ◌++◌, ap, ◌∙◌}
use Rattle.pdc_frame.proofs.Framed.{framed, length-spelling_of}
use Rattle.pdc_frame.proofs.laws.frames_are_written_in_parts.Goals as goal

pub returns-clause-spelled : goal.returns-clause-spelled
returns-clause-spelled c = λ f old begun joined whole start at begun-is joined-is whole-is.
    framed old _ f.payload joined whole start at (joined-is ∙ ap (λ (xs : List ℕ). xs ++ f.payload) begun-is) whole-is

pub returns-clause-len : goal.returns-clause-len
returns-clause-len c = length-spelling_of
