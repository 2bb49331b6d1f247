-- What bytes say passes the test.
use Rattle.std.proofs.Common.{◌≡◌, ℕ, ◌+◌, Bool, List, [], ◌∷◌, length, map, true, false, ◌&&◌, nat_lt, Some, None}
use Rattle.std.specs.List.{AllByRecursion, list_all, slice_get}
use Rattle.std.proofs.lemmas.Bool.{eq-eqb, lt-ltb}
use Rattle.std.proofs.lemmas.Option.{slice_get_within}
use Rattle.pdc_align.specs.pdc_cfg.Section.{SectionFields}
use Rattle.pdc_align.specs.pdc_life.Arrival.{Arrival, BytesRefused, Data, Layout}
use Rattle.pdc_align.specs.pdc_life.CoreKind.{OfMerger, OfNode, Says}
use Rattle.pdc_align.specs.pdc_life.MergerReading.{nodes_of}
use Rattle.pdc_align.specs.pdc_life.Run.{sections_of}
use Rattle.pdc_align.specs.pdc_life.declared.given.Settings.{Settings}
use Rattle.pdc_align.specs.pdc_life.declared.merging.MergerSettings.{MergerSettings}
use Rattle.pdc_align.specs.pdc_row.Rising.{Rises}
use Rattle.pdc_core.specs.Fits.{are_placed, fits_merger, fits_node, is_of}

-- two tests that passed
both : (a b : Bool) → a ≡ true → b ≡ true → a && b ≡ true
both true b h k = k
both false b h k = h

-- ---- a node

own : (settings : Settings) (p : ℕ) (bytes : List ℕ) (arrival : Arrival) → Says (OfNode settings) p bytes arrival → list_all (is_of p) (sections_of arrival) ≡ true
own settings p bytes (BytesRefused refusal) reads = λ i. true
own settings p bytes (Data instant quality payload) reads = λ i. true
own settings p bytes (Layout None ((c, section) ∷ [])) reads = both (is_of p (c, section)) true (eq-eqb c p reads.reads.0) (λ i. true)
own settings p bytes (Layout None []) reads = absurd reads.reads
own settings p bytes (Layout None (a ∷ b ∷ parts)) reads = absurd reads.reads
own settings p bytes (Layout (Some stamp) parts) reads = absurd reads.reads

pub said_fits_node : (settings : Settings) (p : ℕ) (bytes : List ℕ) (arrival : Arrival) → Says (OfNode settings) p bytes arrival → fits_node settings p arrival ≡ true
said_fits_node settings p bytes arrival reads =
    both (nat_lt p (length settings.pmus.items)) (list_all (is_of p) (sections_of arrival))
    (lt-ltb p (length settings.pmus.items) (slice_get_within settings.pmus.items p reads.sender reads.listed)) (own settings p bytes arrival reads)

-- ---- the merger

placed : (sources : List ℕ) (low : ℕ) (parts : List (ℕ × SectionFields)) → Rises low (map (λ (part : ℕ × SectionFields). part.0 + 1) parts)
    → AllByRecursion (λ (part : ℕ × SectionFields). slice_get sources part.0 ≡ Some part.1.source) parts → are_placed (length sources) low parts ≡ true
placed sources low [] rise listed = λ i. true
placed sources low (part ∷ parts) rise listed =
    both (nat_lt low (part.0 + 1)) (nat_lt part.0 (length sources) && are_placed (length sources) (part.0 + 1) parts) (lt-ltb low (part.0 + 1) rise.0)
    (both (nat_lt part.0 (length sources)) (are_placed (length sources) (part.0 + 1) parts)
    (lt-ltb part.0 (length sources) (slice_get_within sources part.0 part.1.source listed.0)) (placed sources (part.0 + 1) parts rise.1 listed.1))

of_table : (settings : MergerSettings) (s : ℕ) (bytes : List ℕ) (arrival : Arrival) → Says (OfMerger settings) s bytes arrival → are_placed (length settings.sources.items) 0 (sections_of arrival) ≡ true
of_table settings s bytes (BytesRefused refusal) reads = λ i. true
of_table settings s bytes (Data instant quality payload) reads = λ i. true
of_table settings s bytes (Layout (Some stamp) parts) reads = placed settings.sources.items 0 parts reads.reads.of_table.rise reads.reads.of_table.listed
of_table settings s bytes (Layout None parts) reads = absurd reads.reads

pub said_fits_merger : (settings : MergerSettings) (s : ℕ) (bytes : List ℕ) (arrival : Arrival) → Says (OfMerger settings) s bytes arrival → fits_merger settings s arrival ≡ true
said_fits_merger settings s bytes arrival reads =
    both (nat_lt s 2) (are_placed (length settings.sources.items) 0 (sections_of arrival))
    (lt-ltb s 2 (slice_get_within (nodes_of settings) s reads.sender reads.listed)) (of_table settings s bytes arrival reads)
