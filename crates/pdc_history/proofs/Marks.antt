-- Marks bound what was published and adopted, so instants rise.
use Rattle.std.proofs.Common.{[], ◌++◌, ◌<◌, ◌^◌, ◌∙◌, ◌∷◌, ◌≡◌, ◌≤◌, ap, arith, Bool, cond, false, le_refl, List, map, None, Option, refl, Some, subst, sym, true, ℕ}
use Rattle.pdc_history.proofs.Names.{AllByRecursion, append-nil, AreBelow, begun_with, below_append, cleared_count, Comes, count_for, ended, Ends, Entry, first_mark, Given, given_by, given_in, Happened, InstantsRise, is_same, IsHistory, IsMade, IsRun, lead_of, life_of, LifeLaws, map-append, mark_of, MarksBound, opened_with, past_lives, PastLife, Pop, popped, published, published_at, Publishes, raised, reserved, Rises, row_instants, rows_of_lives, rows_of_one, RowView, section_in_force, SectionFields, since, Stored, Ticks, Who, with_counts_of, with_entry, World}
use Rattle.pdc_history.proofs.{Lists.{appended, mapped}, Lives.{of_one_append, popped_run, run_in}, Made.{comes_is, tick_at, ticks_is}, Moments.{same_who}, Rows.{rows_are_of_lives}, Stored.{AtLeast, ends_is, IsNext, itself, raised_keeps, reserved_covers, reserved_keeps}}

-- ---- the bounds

abbrev InForceBelow : List ℕ → ℕ → PastLife → Type 0
InForceBelow counts c past = (s : SectionFields) → section_in_force past.given past.life c ≡ Some s → s.count ≤ count_for c counts

record Bounded (first mark opened : Stored) (g : Given) (E : List Entry) (past : List PastLife) (rows : List RowView) : Type 0 where
  start : mark.start ≡ opened.start
  fits : mark.start < 2 ^ 32
  low : first.floor ≤ opened.floor
  floor_grows : opened.floor ≤ mark.floor
  counts_grow : (c : ℕ) → count_for c opened.counts ≤ count_for c mark.counts
  earlier : AllByRecursion (λ (p : PastLife). p.given.start < mark.start) past
  floor : AllByRecursion (λ (r : RowView). r.instant ≤ mark.floor) rows
  past_floor : AllByRecursion (λ (r : RowView). r.instant ≤ opened.floor) (rows_of_lives past)
  cleared : (c : ℕ) → cleared_count g E c ≤ count_for c mark.counts
  past_in_force : (c : ℕ) → AllByRecursion (InForceBelow opened.counts c) past

abbrev BoundedIn : World → List Happened → Who → Type 0
BoundedIn W H who = Bounded (first_mark W who) (mark_of W H who) (opened_with W H who) (given_in W H who) (life_of H who) (past_lives W H who) (rows_of_one who (published H))

at_begin : (W : World) (who : Who) → (first_mark W who).start < 2 ^ 32 → BoundedIn W [] who
at_begin W who fits = record {
  start = refl;
  fits = fits;
  low = le_refl (first_mark W who).floor;
  floor_grows = le_refl (first_mark W who).floor;
  counts_grow = λ c. le_refl (count_for c (first_mark W who).counts);
  earlier = tt;
  floor = tt;
  past_floor = tt;
  cleared = λ c. le_refl (count_for c (first_mark W who).counts);
  past_in_force = λ c. tt;
}

-- the mark is raised, rows are added that it covers, and an entry that clears no more than it
grown : (first mark next opened : Stored) (g : Given) (E F : List Entry) (past : List PastLife) (rows more : List RowView) → AtLeast mark next
    → ((c : ℕ) → cleared_count g F c ≤ count_for c next.counts) → AllByRecursion (λ (r : RowView). r.instant ≤ next.floor) more
    → Bounded first mark opened g E past rows → Bounded first next opened g F past (rows ++ more)
grown first mark next opened g E F past rows more k clears covered b = record {
  start = k.start ∙ b.start;
  fits = subst (λ n. n < 2 ^ 32) (sym k.start) b.fits;
  low = b.low;
  floor_grows = omega (arith, b.floor_grows, k.floor);
  counts_grow = λ c. omega (arith, b.counts_grow c, k.counts c);
  earlier = subst (λ n. AllByRecursion (λ (p : PastLife). p.given.start < n) past) (sym k.start) b.earlier;
  floor = appended (λ (r : RowView). r.instant ≤ next.floor) rows more (mapped (λ (r : RowView). r.instant ≤ mark.floor) (λ (r : RowView). r.instant ≤ next.floor) rows (λ r h. omega (arith, h, k.floor)) b.floor) covered;
  past_floor = b.past_floor;
  cleared = clears;
  past_in_force = b.past_in_force;
}

-- nothing happened to the core
same_rows : (first mark opened : Stored) (g : Given) (E : List Entry) (past : List PastLife) (rows : List RowView) → Bounded first mark opened g E past rows → Bounded first mark opened g E past (rows ++ [])
same_rows first mark opened g E past rows b = subst (Bounded first mark opened g E past) (sym (append-nil rows)) b

-- an arrival
came : (first mark opened : Stored) (g : Given) (E : List Entry) (past : List PastLife) (rows : List RowView) (o : Bool) (e : Entry) → ((c : ℕ) → cleared_count g (e ∷ E) c ≡ cleared_count g E c)
    → Bounded first mark opened g E past rows → Bounded first mark opened g (with_entry (cond o (Some e) None) E) past (rows ++ [])
came first mark opened g E past rows true e same b =
    grown first mark mark opened g E (e ∷ E) past rows [] (itself mark) (λ c. subst (λ n. n ≤ count_for c mark.counts) (sym (same c)) (b.cleared c)) tt b
came first mark opened g E past rows false e same b = same_rows first mark opened g E past rows b

arrival_clears_none : (W : World) (H : List Happened) (v : Who) (e : Entry) (g : Given) (E : List Entry) (c : ℕ) → IsMade W H (Comes v e) → cleared_count g (e ∷ E) c ≡ cleared_count g E c
arrival_clears_none W H v e g E c made = let come = comes_is W H v e made in ap (λ (x : Entry). cleared_count g (x ∷ E) c) come.is

-- a tick
ticked : (W : World) (H : List Happened) (who v : Who) (e : Entry) (o : Bool) → (o ≡ true → v ≡ who) → IsMade W H (Ticks v e) → BoundedIn W H who
    → Bounded (first_mark W who) (cond o (with_counts_of e (mark_of W H who)) (mark_of W H who)) (opened_with W H who) (given_in W H who) (with_entry (cond o (Some e) None) (life_of H who)) (past_lives W H who) (rows_of_one who (published H) ++ [])
ticked W H who v e true same made b =
    let t = ticks_is W H who e (subst (λ (w : Who). IsMade W H (Ticks w e)) (same refl) made) in
    let k : AtLeast (mark_of W H who) (raised W H who) = raised_keeps W H who in
    subst (λ (x : Entry). Bounded (first_mark W who) (with_counts_of x (mark_of W H who)) (opened_with W H who) (given_in W H who) (x ∷ life_of H who) (past_lives W H who) (rows_of_one who (published H) ++ [])) (sym t.is)
    (grown (first_mark W who) (mark_of W H who) (raised W H who) (opened_with W H who) (given_in W H who) (life_of H who) (tick_at W H who t.now ∷ life_of H who) (past_lives W H who) (rows_of_one who (published H)) [] k
    (λ c. omega (arith, b.cleared c, k.counts c)) tt b)
ticked W H who v e false same made b = same_rows (first_mark W who) (mark_of W H who) (opened_with W H who) (given_in W H who) (life_of H who) (past_lives W H who) (rows_of_one who (published H)) b

-- a publish
covered : (lead : ℕ) (row : Option RowView) (mark : Stored) (who v : Who) (o : Bool) → is_same v who ≡ o → o ≡ true → AllByRecursion (λ (r : RowView). r.instant ≤ (reserved lead row mark).floor) (rows_of_one who (published_at (Publishes v row)))
covered lead None mark who v o e h = tt
covered lead (Some r) mark who v o e h =
    subst (λ (x : Bool). AllByRecursion (λ (s : RowView). s.instant ≤ (reserved lead (Some r) mark).floor) (map (λ (y : Who × RowView). y.1) (cond x ((v, r) ∷ []) []))) (sym (e ∙ h))
    (reserved_covers lead r mark, tt)

no_rows : (row : Option RowView) (who v : Who) → is_same v who ≡ false → rows_of_one who (published_at (Publishes v row)) ≡ []
no_rows None who v e = refl
no_rows (Some r) who v e = ap (λ (x : Bool). map (λ (y : Who × RowView). y.1) (cond x ((v, r) ∷ []) [])) e

publishes : (W : World) (H : List Happened) (who v : Who) (row : Option RowView) (o : Bool) → is_same v who ≡ o → BoundedIn W H who
    → Bounded (first_mark W who) (cond o (reserved (lead_of W who) row (mark_of W H who)) (mark_of W H who)) (opened_with W H who) (given_in W H who) (with_entry (cond o (Some (Pop row)) None) (life_of H who)) (past_lives W H who) (rows_of_one who (published H) ++ rows_of_one who (published_at (Publishes v row)))
publishes W H who v row true e b =
    let k : AtLeast (mark_of W H who) (reserved (lead_of W who) row (mark_of W H who)) = reserved_keeps (lead_of W who) row (mark_of W H who) in
    grown (first_mark W who) (mark_of W H who) (reserved (lead_of W who) row (mark_of W H who)) (opened_with W H who) (given_in W H who) (life_of H who) (Pop row ∷ life_of H who) (past_lives W H who) (rows_of_one who (published H)) (rows_of_one who (published_at (Publishes v row))) k
    (λ c. omega (arith, b.cleared c, k.counts c)) (covered (lead_of W who) row (mark_of W H who) who v true e refl) b
publishes W H who v row false e b =
    subst (λ (rows : List RowView). Bounded (first_mark W who) (mark_of W H who) (opened_with W H who) (given_in W H who) (life_of H who) (past_lives W H who) (rows_of_one who (published H) ++ rows)) (sym (no_rows row who v e))
    (same_rows (first_mark W who) (mark_of W H who) (opened_with W H who) (given_in W H who) (life_of H who) (past_lives W H who) (rows_of_one who (published H)) b)

-- an end
ends : LifeLaws → (W : World) (H : List Happened) (who v : Who) (mark : Stored) (o : Bool) → (o ≡ true → v ≡ who) → IsHistory W H → IsMade W H (Ends v mark) → BoundedIn W H who
    → Bounded (first_mark W who) (begun_with (cond o (Some mark) None) (mark_of W H who)) (begun_with (cond o (Some mark) None) (opened_with W H who)) (given_by W who (begun_with (cond o (Some mark) None) (opened_with W H who)))
    (since (cond o (Some mark) None) (life_of H who)) (ended (cond o (Some mark) None) (record { given = given_in W H who; life = life_of H who }) ++ past_lives W H who) (rows_of_one who (published H) ++ [])
ends L W H who v mark true same is made b =
    let n : IsNext (mark_of W H who) mark = ends_is W H who mark (subst (λ (w : Who). IsMade W H (Ends w mark)) (same refl) made) in
    let this : (opened_with W H who).start < mark.start = omega (arith, b.start, n.start) in
    let all : AllByRecursion (λ (r : RowView). r.instant ≤ mark.floor) (rows_of_one who (published H)) = mapped (λ (r : RowView). r.instant ≤ (mark_of W H who).floor) (λ (r : RowView). r.instant ≤ mark.floor) (rows_of_one who (published H)) (λ r h. omega (arith, h, n.floor)) b.floor in
    record {
      start = refl;
      fits = n.fits;
      low = omega (arith, b.low, b.floor_grows, n.floor);
      floor_grows = le_refl mark.floor;
      counts_grow = λ c. le_refl (count_for c mark.counts);
      earlier = (this, mapped (λ (p : PastLife). p.given.start < (mark_of W H who).start) (λ (p : PastLife). p.given.start < mark.start) (past_lives W H who) (λ p h. omega (arith, h, n.start)) b.earlier);
      floor = appended (λ (r : RowView). r.instant ≤ mark.floor) (rows_of_one who (published H)) [] all tt;
      past_floor = subst (AllByRecursion (λ (r : RowView). r.instant ≤ mark.floor)) (rows_are_of_lives W H who is) all;
      cleared = λ c. le_refl (count_for c mark.counts);
      past_in_force = λ c. (
        λ s h. omega (arith, (L.cleared (given_in W H who) (life_of H who) c s (run_in L W H who is).ticked h).1, b.cleared c, n.counts c),
        mapped (InForceBelow (opened_with W H who).counts c) (InForceBelow mark.counts c) (past_lives W H who)
            (λ p k s h. omega (arith, k s h, b.counts_grow c, n.counts c)) (b.past_in_force c),
      );
    }
ends L W H who v mark false same is made b = same_rows (first_mark W who) (mark_of W H who) (opened_with W H who) (given_in W H who) (life_of H who) (past_lives W H who) (rows_of_one who (published H)) b

one_more : LifeLaws → (W : World) (H : List Happened) (who : Who) (h : Happened) → IsHistory W H → IsMade W H h → BoundedIn W H who
    → Bounded (first_mark W who) (mark_of W (h ∷ H) who) (opened_with W (h ∷ H) who) (given_in W (h ∷ H) who) (life_of (h ∷ H) who) (past_lives W (h ∷ H) who) (rows_of_one who (published H) ++ rows_of_one who (published_at h))
one_more L W H who (Comes v e) is made b =
    came (first_mark W who) (mark_of W H who) (opened_with W H who) (given_in W H who) (life_of H who) (past_lives W H who) (rows_of_one who (published H)) (is_same v who) e
    (λ c. arrival_clears_none W H v e (given_in W H who) (life_of H who) c made) b
one_more L W H who (Ticks v e) is made b = ticked W H who v e (is_same v who) (same_who v who) made b
one_more L W H who (Publishes v row) is made b = publishes W H who v row (is_same v who) refl b
one_more L W H who (Ends v mark) is made b = ends L W H who v mark (is_same v who) (same_who v who) is made b
one_more L W H who h is made b =
    same_rows (first_mark W who) (mark_of W H who) (opened_with W H who) (given_in W H who) (life_of H who) (past_lives W H who) (rows_of_one who (published H)) b

bounded : LifeLaws → (W : World) (H : List Happened) (who : Who) → IsHistory W H → BoundedIn W H who
bounded L W [] who is = at_begin W who (is.starts who)
bounded L W (h ∷ H) who is =
    subst (Bounded (first_mark W who) (mark_of W (h ∷ H) who) (opened_with W (h ∷ H) who) (given_in W (h ∷ H) who) (life_of (h ∷ H) who) (past_lives W (h ∷ H) who)) (sym (of_one_append who (published H) (published_at h)))
    (one_more L W H who h is.1 is.0 (bounded L W H who is.1))

pub marks_bound : LifeLaws → MarksBound
marks_bound L W H who is =
    let b : BoundedIn W H who = bounded L W H who is in
    record {
      start = b.start;
      fits = b.fits;
      earlier = b.earlier;
      floor = b.floor;
      in_force = λ c s h. omega (arith, (L.cleared (given_in W H who) (life_of H who) c s (run_in L W H who is).ticked h).1, b.cleared c);
      past_in_force = b.past_in_force;
    }

-- ---- instants rise

one_above : (low i : ℕ) (ns : List ℕ) → Rises low ns → low < i → AreBelow i ns → Rises low (ns ++ i ∷ [])
one_above low i [] r h k = (h, tt)
one_above low i (n ∷ ns) r h k = (r.0, one_above n i ns r.1 k.0 k.1)

below_floor : (floor top : ℕ) (rows : List RowView) → floor < top → AllByRecursion (λ (r : RowView). r.instant ≤ floor) rows → AreBelow top (row_instants rows)
below_floor floor top [] h a = tt
below_floor floor top (r ∷ rows) h a = (omega (arith, a.0, h), below_floor floor top rows h a.1)

-- the row that is published is above all before it
row_above : LifeLaws → (W : World) (H : List Happened) (who : Who) (r : RowView) → IsHistory W H → IsRun (given_in W H who) (Pop (Some r) ∷ life_of H who)
    → ((opened_with W H who).floor < r.instant) × AreBelow r.instant (row_instants (rows_of_one who (published H)))
row_above L W H who r is run =
    let b : BoundedIn W H who = bounded L W H who is in
    let next = L.next (given_in W H who) (life_of H who) r run in
    let above : (opened_with W H who).floor < r.instant = next.0 in (
      above,
      subst (λ (ns : List ℕ). AreBelow r.instant ns) (sym (ap row_instants (rows_are_of_lives W H who is) ∙ map-append (λ (x : RowView). x.instant) (rows_of_lives (past_lives W H who)) (popped (life_of H who))))
          (below_append r.instant (row_instants (rows_of_lives (past_lives W H who))) (row_instants (popped (life_of H who)))
          (below_floor (opened_with W H who).floor r.instant (rows_of_lives (past_lives W H who)) above b.past_floor) next.1),
    )

abbrev RisesTo : World → Who → List RowView → Type 0
RisesTo W who rows = Rises (first_mark W who).floor (row_instants rows)

still_rises : (W : World) (who : Who) (rows : List RowView) → RisesTo W who rows → RisesTo W who (rows ++ [])
still_rises W who rows r = subst (RisesTo W who) (sym (append-nil rows)) r

rises_by : LifeLaws → (W : World) (H : List Happened) (who v : Who) (row : Option RowView) (o : Bool) → is_same v who ≡ o → (o ≡ true → v ≡ who) → IsHistory W (Publishes v row ∷ H) → RisesTo W who (rows_of_one who (published H))
    → RisesTo W who (rows_of_one who (published H) ++ rows_of_one who (published_at (Publishes v row)))
rises_by L W H who v None o e same is r = still_rises W who (rows_of_one who (published H)) r
rises_by L W H who v (Some row) false e same is r =
    subst (λ (rows : List RowView). RisesTo W who (rows_of_one who (published H) ++ rows)) (sym (no_rows (Some row) who v e)) (still_rises W who (rows_of_one who (published H)) r)
rises_by L W H who v (Some row) true e same is r =
    let here : IsHistory W (Publishes who (Some row) ∷ H) = subst (λ (w : Who). IsHistory W (Publishes w (Some row) ∷ H)) (same refl) is in
    let b : BoundedIn W H who = bounded L W H who is.1 in
    let run : IsRun (given_in W H who) (Pop (Some row) ∷ life_of H who) = popped_run L W H who row is.1 here.0 in
    let above = row_above L W H who row is.1 run in
    subst (λ (x : Bool). RisesTo W who (rows_of_one who (published H) ++ map (λ (y : Who × RowView). y.1) (cond x ((v, row) ∷ []) []))) (sym e)
    (subst (λ (ns : List ℕ). Rises (first_mark W who).floor ns) (sym (map-append (λ (x : RowView). x.instant) (rows_of_one who (published H)) (row ∷ [])))
    (one_above (first_mark W who).floor row.instant (row_instants (rows_of_one who (published H))) r (omega (arith, b.low, above.0)) above.1))

rises_more : LifeLaws → (W : World) (H : List Happened) (who : Who) (h : Happened) → IsHistory W (h ∷ H) → RisesTo W who (rows_of_one who (published H)) → RisesTo W who (rows_of_one who (published H) ++ rows_of_one who (published_at h))
rises_more L W H who (Publishes v row) is r = rises_by L W H who v row (is_same v who) refl (same_who v who) is r
rises_more L W H who h is r = still_rises W who (rows_of_one who (published H)) r

pub instants_rise : LifeLaws → InstantsRise
instants_rise L W [] who is = tt
instants_rise L W (h ∷ H) who is =
    subst (RisesTo W who) (sym (of_one_append who (published H) (published_at h))) (rises_more L W H who h is (instants_rise L W H who is.1))
