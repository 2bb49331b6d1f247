-- Rows of closed instants, which stay at their places.
use Rattle.std.proofs.Common.{◌≡◌, ℕ, ◌+◌, ◌%◌, ◌<◌, Bool, true, false, if◌then◌else◌, List, [], ◌∷◌, ◌++◌, length, set, map, take, drop, refl, sym, ◌∙◌, ap, subst, arith, inl, inr, zero, suc, option_map, Some}
use Rattle.std.proofs.Math.Nat.{mod-lt}
use Rattle.std.specs.List.{AllByRecursion, list_all, slice_get}
use Rattle.std.proofs.lemmas.Bool.{cases_eq}
use Rattle.std.proofs.lemmas.Grind.{get_or-set_at}
use Rattle.std.proofs.lemmas.List.{get_or-set_same, get_or-set_other, length-set}
use Rattle.pdc_open_row.specs.pdc_row.Rising.{Rises, AreBelow, AreNear, is_near}
use Rattle.pdc_open_row.specs.pdc_row.RisingLaws.{RisingLaws, AreAllNear}
use Rattle.pdc_open_row.specs.pdc_row.RowView.{RowView, row_instants}
use Rattle.pdc_table.specs.Content.{Content, IsContent, held_instants}
use Rattle.pdc_open_row.specs.pdc_columns.Layout.{LayoutView}
use Rattle.pdc_table.specs.OpenInstants.{instants_of}
use Rattle.pdc_table.specs.RingRows.{changed, closed_rows, laid, layout_in, no_layout, rows_in}
use Rattle.pdc_open_row.specs.Row.{row_of}
use Rattle.pdc_open_row.specs.Views.{OpenRowView}
use Rattle.pdc_table.proofs.RingKept.{placed_rest}
use Rattle.pdc_table.proofs.RingRows.{ArePlaced, IsApart, apart_higher, apart_pair, changed-else, changed-placed, instants_in, placed-drop, placed-take, row_else}

-- the place of each of these is that of none of those
abbrev pub AreApart : ℕ → List ℕ → List ℕ → Type 0
AreApart window cs is = AllByRecursion (λ c. IsApart window c is) cs

-- the closed rows have the instants that are closed
pub closed_instants : (places : List OpenRowView) (layouts : List LayoutView) (window : ℕ) (cs : List ℕ) → ArePlaced places window cs → row_instants (closed_rows places layouts window cs) ≡ cs
closed_instants places layouts window [] p = refl
closed_instants places layouts window (c ∷ cs) p = rw (p.0, closed_instants places layouts window cs p.1) refl

-- the first of them is that of the first row
pub first_instant : (places : List OpenRowView) (layouts : List LayoutView) (window : ℕ) (cs : List ℕ) → ArePlaced places window cs → slice_get cs 0 ≡ option_map (λ (row : RowView). row.instant) (slice_get (closed_rows places layouts window cs) 0)
first_instant places layouts window [] p = refl
first_instant places layouts window (c ∷ cs) p = ap Some (sym p.0)

-- the instants that are held, as the code has them
pub ring_held : (c : Content) (places : List OpenRowView) (layouts : List LayoutView) (cs is seen : List ℕ) → seen ≡ is → ArePlaced places c.window cs → ArePlaced places c.window is → c.closed ≡ closed_rows places layouts c.window cs → c.open_rows ≡ rows_in places c.window is → cs ++ seen ≡ held_instants c
ring_held c places layouts cs is seen e q p d o =
    ap (λ ns. cs ++ ns) (e ∙ sym (instants_in places c.window is p) ∙ ap instants_of (sym o))
    ∙ ap (λ ns. ns ++ instants_of c.open_rows) (sym (closed_instants places layouts c.window cs q) ∙ ap row_instants (sym d))

-- a write at another place, and changes at other places

pub set_closed : (places : List OpenRowView) (layouts : List LayoutView) (window i : ℕ) (row : OpenRowView) (cs : List ℕ) → IsApart window i cs → closed_rows (set places (i % window) row) layouts window cs ≡ closed_rows places layouts window cs
set_closed places layouts window i row [] a = refl
set_closed places layouts window i row (c ∷ cs) a = rw (row_else places window i c row a.0, set_closed places layouts window i row cs a.1) refl

pub written_closed : (places : List OpenRowView) (layouts : List LayoutView) (window i : ℕ) (row : OpenRowView) (cs : List ℕ) (b : Bool) → IsApart window i cs → closed_rows (if b then set places (i % window) row else places) layouts window cs ≡ closed_rows places layouts window cs
written_closed places layouts window i row cs true a = set_closed places layouts window i row cs a
written_closed places layouts window i row cs false a = refl

pub written_placed : (places : List OpenRowView) (window i : ℕ) (row : OpenRowView) (cs : List ℕ) (b : Bool) → IsApart window i cs → ArePlaced places window cs → ArePlaced (if b then set places (i % window) row else places) window cs
written_placed places window i row cs true a p = placed_rest places window i row cs a p
written_placed places window i row cs false a p = p

pub changed_closed : (f : OpenRowView → OpenRowView) (window : ℕ) (is : List ℕ) (places : List OpenRowView) (layouts : List LayoutView) (cs : List ℕ) → AreApart window cs is → closed_rows (changed f window is places) layouts window cs ≡ closed_rows places layouts window cs
changed_closed f window is places layouts [] a = refl
changed_closed f window is places layouts (c ∷ cs) a = rw (changed-else f window c is places a.0, changed_closed f window is places layouts cs a.1) refl

-- a layout at the places of some instants

pub laid-length : (layout : LayoutView) (window : ℕ) (is : List ℕ) (layouts : List LayoutView) → length (laid layout window is layouts) ≡ length layouts
laid-length layout window [] layouts = refl
laid-length layout window (i ∷ is) layouts = laid-length layout window is (set layouts (i % window) layout) ∙ length-set layouts (i % window) layout

laid-else : (layout : LayoutView) (window j : ℕ) (is : List ℕ) (layouts : List LayoutView) → IsApart window j is → layout_in (laid layout window is layouts) window j ≡ layout_in layouts window j
laid-else layout window j [] layouts a = refl
laid-else layout window j (i ∷ is) layouts a =
    laid-else layout window j is (set layouts (i % window) layout) a.1 ∙ get_or-set_other layouts (i % window) (j % window) layout no_layout a.0

laid-stays : (layout : LayoutView) (window j : ℕ) (is : List ℕ) (layouts : List LayoutView) → 0 < window → length layouts ≡ window → layout_in layouts window j ≡ layout → layout_in (laid layout window is layouts) window j ≡ layout
laid-stays layout window j [] layouts h l e = e
laid-stays layout window j (i ∷ is) layouts h l e =
    laid-stays layout window j is (set layouts (i % window) layout) h (length-set layouts (i % window) layout ∙ l) (elim (cases_eq (i % window) (j % window)) [
      | inl m ↦ get_or-set_at layouts (i % window) (j % window) layout no_layout (sym m) (omega (arith, mod-lt i h))
      | inr m ↦ get_or-set_other layouts (i % window) (j % window) layout no_layout (λ q. m (sym q)) ∙ e
    ])

laid-rows : (layout : LayoutView) (window : ℕ) (is : List ℕ) (places : List OpenRowView) (layouts : List LayoutView) → 0 < window → length layouts ≡ window → closed_rows places (laid layout window is layouts) window is ≡ map (row_of layout) (rows_in places window is)
laid-rows layout window [] places layouts h l = refl
laid-rows layout window (i ∷ is) places layouts h l =
    let next : List LayoutView = set layouts (i % window) layout in
    let here : layout_in (laid layout window is next) window i ≡ layout =
    laid-stays layout window i is next h (length-set layouts (i % window) layout ∙ l) (get_or-set_same layouts (i % window) layout no_layout (omega (arith, mod-lt i h))) in
    rw (here, laid-rows layout window is places next h (length-set layouts (i % window) layout ∙ l)) refl

-- the closed rows after those of more instants closed
pub laid_closed : (layout : LayoutView) (window : ℕ) (is : List ℕ) (places : List OpenRowView) (layouts : List LayoutView) (cs : List ℕ) → 0 < window → length layouts ≡ window → AreApart window cs is → closed_rows places (laid layout window is layouts) window (cs ++ is) ≡ closed_rows places layouts window cs ++ map (row_of layout) (rows_in places window is)
laid_closed layout window is places layouts [] h l a = laid-rows layout window is places layouts h l
laid_closed layout window is places layouts (c ∷ cs) h l a = rw (laid-else layout window c is layouts a.0, laid_closed layout window is places layouts cs h l a.1) refl

pub placed-less : (places : List OpenRowView) (window : ℕ) (cs : List ℕ) → ArePlaced places window cs → ArePlaced places window (drop 1 cs)
placed-less places window cs q = placed-drop places window 1 cs q

placed_append : (places : List OpenRowView) (window : ℕ) (cs is : List ℕ) → ArePlaced places window cs → ArePlaced places window is → ArePlaced places window (cs ++ is)
placed_append places window [] is q p = p
placed_append places window (c ∷ cs) is q p = (q.0, placed_append places window cs is q.1 p)

pub placed_more : (places : List OpenRowView) (window n : ℕ) (cs is : List ℕ) → ArePlaced places window cs → ArePlaced places window is → ArePlaced places window (cs ++ take n is)
placed_more places window n cs is q p = placed_append places window cs (take n is) q (placed-take places window n is p)

apart_take : (window c n : ℕ) (is : List ℕ) → IsApart window c is → IsApart window c (take n is)
apart_take window c zero is a = tt
apart_take window c (suc n) [] a = tt
apart_take window c (suc n) (i ∷ is) a = (a.0, apart_take window c n is a.1)

pub are_apart_take : (window n : ℕ) (cs is : List ℕ) → AreApart window cs is → AreApart window cs (take n is)
are_apart_take window n [] is a = tt
are_apart_take window n (c ∷ cs) is a = (apart_take window c n is a.0, are_apart_take window n cs is a.1)

apart_back : (window c : ℕ) (cs is : List ℕ) → IsApart window c (cs ++ is) → IsApart window c is
apart_back window c [] is a = a
apart_back window c (d ∷ cs) is a = apart_back window c cs is a.1

pub changed_stand : (f : OpenRowView → OpenRowView) → ((row : OpenRowView) → (f row).instant ≡ row.instant) → (c : Content) (places now : List OpenRowView) (cs is seen : List ℕ) → seen ≡ is → now ≡ changed f c.window seen places → length places ≡ c.window → ArePlaced places c.window cs → IsContent c → ArePlaced now c.window cs
changed_stand f g c places now cs is seen s e l q h =
    subst (λ ps. ArePlaced ps c.window cs) (sym e) (changed-placed f g c.window seen places (omega (arith, h.window_least)) l cs q)

-- ---- what follows from the laws of rising numbers

module _ (R : RisingLaws) where
  apart_all : (window low : ℕ) (cs is : List ℕ) → Rises low (cs ++ is) → AreNear window (cs ++ is) → AreApart window cs is
  apart_all window low [] is r n = tt
  apart_all window low (c ∷ cs) is r n =
      (apart_back window c cs is (apart_higher window c c (cs ++ is) (omega arith) r.1 n), apart_all window c cs is r.1 (R.near_tail low window c (cs ++ is) r n))

  -- the places of closed instants are not those of open ones
  pub held_apart : (c : Content) (places : List OpenRowView) (layouts : List LayoutView) (cs is : List ℕ) → ArePlaced places c.window cs → ArePlaced places c.window is → IsContent (record c { open_rows = rows_in places c.window is; closed = closed_rows places layouts c.window cs }) → AreApart c.window cs is
  held_apart c places layouts cs is q p h =
      let e : cs ++ is ≡ row_instants (closed_rows places layouts c.window cs) ++ instants_of (rows_in places c.window is) =
      ap (λ ns. cs ++ ns) (sym (instants_in places c.window is p)) ∙ ap (λ ns. ns ++ instants_of (rows_in places c.window is)) (sym (closed_instants places layouts c.window cs q)) in
      apart_all c.window 0 cs is (subst (λ ns. Rises 0 ns) (sym e) h.held_rise) (subst (λ ns. AreNear c.window ns) (sym e) h.held_near)

  -- a change to open rows leaves the closed ones
  pub open_changed : (f : OpenRowView → OpenRowView) (c : Content) (places now : List OpenRowView) (layouts : List LayoutView) (cs is seen : List ℕ) → seen ≡ is → now ≡ changed f c.window seen places → ArePlaced places c.window cs → ArePlaced places c.window is → IsContent (record c { open_rows = rows_in places c.window is; closed = closed_rows places layouts c.window cs }) → closed_rows now layouts c.window cs ≡ closed_rows places layouts c.window cs
  open_changed f c places now layouts cs is seen s e q p h =
      ap (λ ps. closed_rows ps layouts c.window cs) (e ∙ ap (λ js. changed f c.window js places) s)
      ∙ changed_closed f c.window is places layouts cs (held_apart c places layouts cs is q p h)

  apart_front : (window i last : ℕ) (cs js : List ℕ) → last < i → AreBelow (last + 1) cs → AreAllNear window i (cs ++ js) → IsApart window i cs
  apart_front window i last [] js l b h = tt
  apart_front window i last (c ∷ cs) js l b h = (apart_pair R window i c h.0.0 h.0.1 (λ e. omega (arith, b.0)), apart_front window i last cs js l b.1 h.1)

  -- the place of an instant that is near is that of no closed one
  pub near_closed : (c : Content) (places : List OpenRowView) (layouts : List LayoutView) (i : ℕ) (cs js : List ℕ) → c.last < i → ArePlaced places c.window cs → list_all (is_near c.window i) (cs ++ js) ≡ true → IsContent (record c { closed = closed_rows places layouts c.window cs }) → IsApart c.window i cs
  near_closed c places layouts i cs js l q n h =
      apart_front c.window i c.last cs js l (subst (λ ns. AreBelow (c.last + 1) ns) (closed_instants places layouts c.window cs q) h.closed_below) (R.all_near c.window i (cs ++ js) n)
