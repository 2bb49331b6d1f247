-- Rows that can be tagged, and layouts of some life.
use Rattle.std.proofs.Common.{◌≡◌, ℕ, ◌<◌, ◌*◌, ◌++◌, List, [], Option, Some, ap, ◌∙◌, subst}
use Rattle.std.proofs.Math.Logic.{∥∥₁_elim, ∥∥₁_map}
use Rattle.std.proofs.Props.{props}
use Rattle.pdc_life.specs.Answer.{ReadStep, Rules, ToPop}
use Rattle.pdc_life.specs.Given.{Given}
use Rattle.pdc_life.specs.Life.{Entry}
use Rattle.pdc_life.specs.Published.{layout_wire}
use Rattle.pdc_frame.specs.declared.tag_limits.TheConstants.{SECONDS}
use Rattle.pdc_log.specs.Log.{HasTurned, InTheLife, life_of}
use Rattle.pdc_pipe.specs.Layout.{IsOfSomeLayout}
use Rattle.pdc_aligner.specs.Rate.{IsAtRate}

-- what is popped can be tagged at the rate of what is named
pub all_tagged : (rules : Rules) (named : Option Given) (before after : List ReadStep) (number : ℕ) (Told : Given → List Entry → Type 0) (rate instant : ℕ)
    → HasTurned rules named ToPop before after number Told → ((g : Given) → named ≡ Some g → instant < SECONDS * g.output.rate) → IsAtRate named rate → instant < SECONDS * rate
all_tagged rules named before after number Told rate instant turned tagged is =
    ∥∥₁_elim turned.added.told (search props) (λ x. subst (λ (n : ℕ). instant < SECONDS * n) (is.at x.0 x.1) (tagged x.0 x.1))

-- bytes that were appended to none are of some layout
pub of_some : (rules : Rules) (named : Option Given) (seen : List ReadStep) (soc : ℕ) (before after : List ℕ) → before ≡ []
    → InTheLife rules named seen (λ g E. after ≡ before ++ layout_wire g E soc) → IsOfSomeLayout after
of_some rules named seen soc before after e h none = ∥∥₁_elim h (λ a b. absurd a) (λ x. none x.0 (life_of rules x.0 seen) soc (x.2 ∙ ap (λ (l : List ℕ). l ++ layout_wire x.0 (life_of rules x.0 seen) soc) e))

-- and they are the layout's
pub behind_none : (rules : Rules) (named : Option Given) (seen : List ReadStep) (soc : ℕ) (before after : List ℕ) → before ≡ []
    → InTheLife rules named seen (λ g E. after ≡ before ++ layout_wire g E soc) → InTheLife rules named seen (λ g E. after ≡ layout_wire g E soc)
behind_none rules named seen soc before after e h = ∥∥₁_map h (λ x. (x.0, x.1, x.2 ∙ ap (λ (l : List ℕ). l ++ layout_wire x.0 (life_of rules x.0 seen) soc) e))
