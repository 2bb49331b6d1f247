-- Alignments of cores that are alike have the same sizes.
use Rattle.std.proofs.Common.{◌≡◌, ◌∙◌, ap, sym, List, ℕ}
use Rattle.std.proofs.Math.Logic.{∥∥₁_elim}
use Rattle.std.proofs.Props.{props}
use Rattle.pdc_align.specs.Align.{StandsFor, State}
use Rattle.pdc_align.specs.pdc_life.Given.{Given}
use Rattle.pdc_align.specs.pdc_life.Life.{Entry}
use Rattle.pdc_align.specs.pdc_table.Content.{HasSizesOf}
use Rattle.pdc_core.specs.Alike.{AreAlike}

-- A number that what is given to the lives of each of them fixes is one.
same_number : (One Other : Given → List Entry → Type 0) (a b : State) (number : State → ℕ) (fixed : Given → ℕ)
    → ((g : Given) (E : List Entry) (s : State) → StandsFor g E s → number s ≡ fixed g)
    → ((g : Given) (E : List Entry) → One g E → StandsFor g E a) → ((g : Given) (E : List Entry) → Other g E → StandsFor g E b)
    → ∥ AreAlike One Other ∥₁ → number a ≡ number b
same_number One Other a b number fixed is one other alike = ∥∥₁_elim alike (search props)
    (λ x. is x.given x.life a (one x.given x.life x.stands) ∙ sym (is x.given x.other_life b (other x.given x.other_life x.other_stands)))

pub same_sizes : (One Other : Given → List Entry → Type 0) (a b : State)
    → ((g : Given) (E : List Entry) → One g E → StandsFor g E a) → ((g : Given) (E : List Entry) → Other g E → StandsFor g E b)
    → ∥ AreAlike One Other ∥₁ → HasSizesOf b.content a.content
same_sizes One Other a b one other alike = record {
  window = same_number One Other a b (λ s. s.content.window) (λ g. g.window) (λ g E s h. ap (λ (x : State). x.content.window) h.same) one other alike;
  columns = same_number One Other a b (λ s. s.content.columns) (λ g. g.columns) (λ g E s h. ap (λ (x : State). x.content.columns) h.same) one other alike;
  lanes = same_number One Other a b (λ s. s.content.lanes) (λ g. g.lanes) (λ g E s h. ap (λ (x : State). x.content.lanes) h.same) one other alike;
}
