-- A ring whose lowest closed row was handed out: what stands at other places stays.
use Rattle.std.proofs.Common.{◌≡◌, ◌∙◌, ℕ, ◌%◌, ◌<◌, List, [], ◌∷◌, ◌++◌, ap, arith, drop, length, refl, replicate, subst, sym, take}
use Rattle.std.proofs.lemmas.List.{drop-map, length-replicate}
use Rattle.pdc_open_row.specs.pdc_columns.Layout.{LayoutView}
use Rattle.pdc_open_row.specs.pdc_columns.Views.{empty_column}
use Rattle.pdc_open_row.specs.Views.{OpenRowView, spent}
use Rattle.pdc_open_row.specs.pdc_row.Rising.{AreNear, Rises}
use Rattle.pdc_table.specs.Content.{Content, HasPlaces, IsContent, held_instants}
use Rattle.pdc_table.specs.RingRows.{changed, closed_row, closed_rows, rows_in}
use Rattle.pdc_table.proofs.RingClosed.{AreApart, changed_closed, ring_held}
use Rattle.pdc_table.proofs.RingRows.{ArePlaced, IsApart, apart_higher, changed-else}

-- its columns are as many
pub places-spent : (s k : ℕ) (row : OpenRowView) → HasPlaces s k row → HasPlaces s k (spent row)
places-spent s k row p = record { taken = p.taken; columns = length-replicate (length row.columns) empty_column ∙ p.columns }

turned : (window i : ℕ) (js : List ℕ) → IsApart window i js → AreApart window js (i ∷ [])
turned window i [] a = tt
turned window i (j ∷ js) a = ((λ e. a.0 (sym e), tt), turned window i js a.1)

from_none : (window : ℕ) (js : List ℕ) → AreApart window js []
from_none window [] = tt
from_none window (j ∷ js) = (tt, from_none window js)

-- the lowest of the held instants has a place of its own
first_apart : (window : ℕ) (cs is : List ℕ) → Rises 0 (cs ++ is) → AreNear window (cs ++ is) → AreApart window (drop 1 cs ++ is) (take 1 cs)
first_apart window [] is r n = from_none window is
first_apart window (c ∷ cs) is r n = turned window c (cs ++ is) (apart_higher window c c (cs ++ is) (omega arith) r.1 n)

in_front : (window : ℕ) (cs is js : List ℕ) → AreApart window (cs ++ is) js → AreApart window cs js
in_front window [] is js a = tt
in_front window (c ∷ cs) is js a = (a.0, in_front window cs is js a.1)

behind : (window : ℕ) (cs is js : List ℕ) → AreApart window (cs ++ is) js → AreApart window is js
behind window [] is js a = a
behind window (c ∷ cs) is js a = behind window cs is js a.1

changed_open : (f : OpenRowView → OpenRowView) (window : ℕ) (js : List ℕ) (places : List OpenRowView) (is : List ℕ) → AreApart window is js → rows_in (changed f window js places) window is ≡ rows_in places window is
changed_open f window js places [] a = refl
changed_open f window js places (i ∷ is) a = rw (changed-else f window i js places a.0, changed_open f window js places is a.1) refl

held_first : (c : Content) (places : List OpenRowView) (layouts : List LayoutView) (cs is : List ℕ) → ArePlaced places c.window cs → ArePlaced places c.window is → IsContent (record c { open_rows = rows_in places c.window is; closed = closed_rows places layouts c.window cs })
    → AreApart c.window (drop 1 cs ++ is) (take 1 cs)
held_first c places layouts cs is q p h =
    let e : cs ++ is ≡ held_instants (record c { open_rows = rows_in places c.window is; closed = closed_rows places layouts c.window cs }) =
    ring_held (record c { open_rows = rows_in places c.window is; closed = closed_rows places layouts c.window cs }) places layouts cs is is refl q p refl refl in
    first_apart c.window cs is (subst (λ ns. Rises 0 ns) (sym e) h.held_rise) (subst (λ ns. AreNear c.window ns) (sym e) h.held_near)

-- the open rows are what they were, and so are the closed ones that are left
pub open_left : (f : OpenRowView → OpenRowView) (c : Content) (places now : List OpenRowView) (layouts : List LayoutView) (cs is : List ℕ) → now ≡ changed f c.window (take 1 cs) places → ArePlaced places c.window cs → ArePlaced places c.window is → IsContent (record c { open_rows = rows_in places c.window is; closed = closed_rows places layouts c.window cs })
    → rows_in now c.window is ≡ rows_in places c.window is
open_left f c places now layouts cs is e q p h =
    ap (λ ps. rows_in ps c.window is) e ∙ changed_open f c.window (take 1 cs) places is (behind c.window (drop 1 cs) is (take 1 cs) (held_first c places layouts cs is q p h))

pub closed_left : (f : OpenRowView → OpenRowView) (c : Content) (places now : List OpenRowView) (layouts : List LayoutView) (cs is rest : List ℕ) → now ≡ changed f c.window (take 1 cs) places → rest ≡ drop 1 cs → ArePlaced places c.window cs → ArePlaced places c.window is → IsContent (record c { open_rows = rows_in places c.window is; closed = closed_rows places layouts c.window cs })
    → closed_rows now layouts c.window rest ≡ drop 1 (closed_rows places layouts c.window cs)
closed_left f c places now layouts cs is rest e r q p h =
    ap (λ ps. closed_rows ps layouts c.window rest) e
    ∙ ap (closed_rows (changed f c.window (take 1 cs) places) layouts c.window) r
    ∙ changed_closed f c.window (take 1 cs) places layouts (drop 1 cs) (in_front c.window (drop 1 cs) is (take 1 cs) (held_first c places layouts cs is q p h))
    ∙ sym (drop-map (closed_row places layouts c.window) 1 cs)
