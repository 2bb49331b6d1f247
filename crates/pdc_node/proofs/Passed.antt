-- What passes the test of a node's settings is of a PMU, and of its own column.
use Rattle.std.proofs.Common.{◌≡◌, ◌&&◌, ℕ, ◌<◌, Bool, true, false, List, [], ◌∷◌, length, nat_lt, sym, ◌∙◌, arith}
use Rattle.std.specs.List.{AllByRecursion, list_all}
use Rattle.std.proofs.lemmas.Bool.{eqb-true, false≢true, ltb-true}
use Rattle.pdc_cfg.specs.Section.{SectionFields}
use Rattle.pdc_core.specs.Fits.{fits_node, is_of}
use Rattle.pdc_life.specs.Arrival.{Arrival}
use Rattle.pdc_life.specs.Run.{sections_of}
use Rattle.pdc_life.specs.declared.given.Settings.{Settings}
use Rattle.pdc_align.specs.Align.{HasSizes}
use Rattle.pdc_node.specs.Node.{IsOwn, IsReady, NodeView}

-- where two tests passed, each did
both : (a b : Bool) → a && b ≡ true → (a ≡ true) × (b ≡ true)
both true b h = (λ i. true, h)
both false b h = absurd (false≢true h)

each : (p : ℕ) (sections : List (ℕ × SectionFields)) → list_all (is_of p) sections ≡ true → AllByRecursion (λ (part : ℕ × SectionFields). part.0 ≡ p) sections
each p [] h = tt
each p (part ∷ sections) h =
    let two : (is_of p part ≡ true) × (list_all (is_of p) sections ≡ true) = both (is_of p part) (list_all (is_of p) sections) h in
    (eqb-true part.0 p two.0, each p sections two.1)

pub passed_own : (settings : Settings) (p : ℕ) (arrival : Arrival) → fits_node settings p arrival ≡ true → IsOwn p arrival
passed_own settings p arrival h = each p (sections_of arrival) (both (nat_lt p (length settings.pmus.items)) (list_all (is_of p) (sections_of arrival)) h).1

pub passed_stream : (settings : Settings) (p : ℕ) (arrival : Arrival) → fits_node settings p arrival ≡ true → p < length settings.pmus.items
passed_stream settings p arrival h = ltb-true p (length settings.pmus.items) (both (nat_lt p (length settings.pmus.items)) (list_all (is_of p) (sections_of arrival)) h).0

-- a stream of the settings has its column
pub ready : (n : NodeView) (p : ℕ) → p < length n.settings.pmus.items → HasSizes (length n.settings.pmus.items) 1 n.state → IsReady n.state p
ready n p h sizes = record {
  each = sizes.each_column ∙ sym sizes.column_count;
  lanes = sizes.lane_count;
  exists = omega (arith, h, sizes.each_column);
}

pub passed_ready : (n : NodeView) (p : ℕ) (arrival : Arrival) → fits_node n.settings p arrival ≡ true → HasSizes (length n.settings.pmus.items) 1 n.state → IsReady n.state p
passed_ready n p arrival h sizes = ready n p (passed_stream n.settings p arrival h) sizes
