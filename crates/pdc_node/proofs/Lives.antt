-- A node stands for the life with one step more.
use Rattle.std.proofs.Common.{◌≡◌, ℕ, List, [], ◌∷◌, refl, ◌∙◌, subst}
use Rattle.pdc_life.specs.CoreKind.{given_of, IsLifeOf, OfNode, Says}
use Rattle.pdc_life.specs.declared.given.Settings.{Settings}
use Rattle.pdc_life.specs.Arrival.{Arrival}
use Rattle.pdc_life.specs.Given.{Given}
use Rattle.pdc_life.specs.Laws.{LivesAreRuns}
use Rattle.pdc_life.specs.Life.{Arrive, Entry}
use Rattle.pdc_life.specs.Node.{node_answer}
use Rattle.pdc_life.specs.Run.{IsRun}
use Rattle.pdc_align.specs.Align.{HasSizes, KeepsSizes, State}
use Rattle.pdc_align.specs.Align as align
use Rattle.pdc_arrival.specs.declared.counts.Counts.{Counts}
use Rattle.pdc_arrival.specs.Counts.{counts_after}
use Rattle.pdc_node.specs.Node.{NodeView, StandsFor}

-- ---- the start

pub begins : (settings : Settings) (start floor : ℕ) (counts : List ℕ) (opening : ℕ) (g : Given) (a : State) (k : Counts) (m : List ℕ) (last : ℕ)
    → g ≡ given_of (OfNode settings) start floor counts opening → align.StandsFor g [] a → k ≡ counts_after []
    → StandsFor (given_of (OfNode settings) start floor counts opening) [] (record { settings = settings; start = start; opening = counts; state = a; counts = k; memory = m; popped = last })
begins settings start floor counts opening g a k m last e aligned counted = record {
  life = record { given = refl; life = tt };
  same_start = refl;
  same_opening = refl;
  aligned = subst (λ (h : Given). align.StandsFor h [] a) e aligned;
  counted = counted;
}

-- ---- arrivals

module _ (runs : LivesAreRuns) where
  pub life_more : (n : NodeView) (g : Given) (E : List Entry) (s : ℕ) (bytes : List ℕ) (arrival : Arrival) → Says (OfNode n.settings) s bytes arrival → StandsFor g E n
      → IsLifeOf (OfNode n.settings) g (Arrive s bytes arrival (node_answer g E s arrival) ∷ E)
  life_more n g E s bytes arrival reads stands = record { given = stands.life.given; life = (reads, refl, stands.life.life) }

  pub arrives : (n : NodeView) (g : Given) (E : List Entry) (s : ℕ) (bytes : List ℕ) (arrival : Arrival) (b : State) (k : Counts) (m : List ℕ) (last : ℕ)
      → Says (OfNode n.settings) s bytes arrival → StandsFor g E n
      → (IsRun g (Arrive s bytes arrival (node_answer g E s arrival) ∷ E) → align.StandsFor g (Arrive s bytes arrival (node_answer g E s arrival) ∷ E) b)
      → (n.counts ≡ counts_after E → k ≡ counts_after (Arrive s bytes arrival (node_answer g E s arrival) ∷ E))
      → StandsFor g (Arrive s bytes arrival (node_answer g E s arrival) ∷ E) (record n { state = b; counts = k; memory = m; popped = last })
  arrives n g E s bytes arrival b k m last reads stands step counts = record {
    life = life_more n g E s bytes arrival reads stands;
    same_start = stands.same_start;
    same_opening = stands.same_opening;
    aligned = step (runs (OfNode n.settings) g (Arrive s bytes arrival (node_answer g E s arrival) ∷ E) (life_more n g E s bytes arrival reads stands));
    counted = counts stands.counted;
  }

pub same_sizes : (columns lanes : ℕ) (a b : State) → KeepsSizes a b → HasSizes columns lanes a → HasSizes columns lanes b
same_sizes columns lanes a b keeps sizes = record {
  column_count = keeps.columns ∙ sizes.column_count;
  lane_count = keeps.lanes ∙ sizes.lane_count;
  each_column = keeps.each ∙ sizes.each_column;
}
