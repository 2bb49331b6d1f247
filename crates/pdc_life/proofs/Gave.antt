-- A cell that is there was given, and what was given is there until its column is adopted.
use Rattle.pdc_life.proofs.Names.{[], ◌&&◌, ◌++◌, ◌+◌, ◌<◌, ◌∙◌, ◌∷◌, ◌≡◌, ◌⊎◌, AllByRecursion, Answer, ap, AreSound, arith, Arrive, Bool, cell_in, cell_of, CellView, chosen_of, cond, cond-false, cond_both, cond_some, Contains, Data, Entry, eqb, false, false≢true, find, first_of, Gave, GaveShown, GaveUnderSection, Given, inl, inr, is_adoption_of, is_of_column, is_present, is_take_of, is_taken, IsInTime, IsSound, length, List, map, None, none-some, Option, option_map, present_of, refl, Rises, same_Some, section_in_force, ShallShowCell, slice_index_or, Some, subst, suc, sym, Take, take_at, take_of, Taken, takes, takes_since_adopted, true, zero, ℕ}
use Rattle.pdc_life.proofs.InTime.{taken_is_in_time}
use Rattle.pdc_life.proofs.Lists.{above_first, appended, both, by_cases, each, first_in, found, later_in, none_found, not_same, same_number, same_self}
use Rattle.pdc_life.proofs.Steps.{at_take, run_before}

-- ---- a cell that is there was given

abbrev pub cell_at : Option (ℕ × CellView) → Option CellView
cell_at part = option_map (λ (p : ℕ × CellView). p.1) part

-- the cell of a column is among those given
among : (c : ℕ) (cell : CellView) (parts : List (ℕ × CellView)) → cell_at (find (is_of_column c) parts) ≡ Some cell → Contains parts (c, cell)
among c cell [] h = absurd (none-some cell h)
among c cell (part ∷ parts) h =
    cond_both (eqb part.0 c) (Some part) (find (is_of_column c) parts) (λ (o : Option (ℕ × CellView)). cell_at o ≡ Some cell → Contains (part ∷ parts)
    (c, cell))
    (λ e k. subst (Contains (part ∷ parts)) (λ i. (same_number part.0 c e i, same_Some part.1 cell k i)) (first_in part parts))
    (λ e k. later_in part parts (c, cell) (among c cell parts k)) h

-- a take, and each cell that it gives for the column was given
abbrev GaveAll : List Entry → ℕ → Take → Type 0
GaveAll E c t = (cell : CellView) → cell_in c (Some t) ≡ Some cell → Gave E t.stream c t.instant cell

still_given : (E : List Entry) (e : Entry) (s c i : ℕ) (cell : CellView) → is_adoption_of c e ≡ false → Gave E s c i cell → Gave (e ∷ E) s c i cell
still_given E e s c i cell quiet k = record {
  later = e ∷ k.later;
  earlier = k.earlier;
  bytes = k.bytes;
  quality = k.quality;
  payload = k.payload;
  answer = k.answer;
  stands = ap (λ (es : List Entry). e ∷ es) k.stands;
  taken = k.taken;
  among = k.among;
  kept = (quiet, k.kept);
}

all_given : (E : List Entry) (c : ℕ) → AllByRecursion (GaveAll E c) (takes_since_adopted E c)
all_given [] c = tt
all_given (e ∷ E) c =
    cond_both (is_adoption_of c e) [] (take_at e ++ takes_since_adopted E c) (AllByRecursion (GaveAll (e ∷ E) c)) (λ adopted. tt)
    (λ quiet. appended (GaveAll (e ∷ E) c) (take_at e) (takes_since_adopted E c)
    (at_take (GaveAll (e ∷ E) c) e (λ s bytes i quality payload answer is taken cell h. record {
      later = [];
      earlier = E;
      bytes = bytes;
      quality = quality;
      payload = payload;
      answer = answer;
      stands = ap (λ (x : Entry). x ∷ E) is;
      taken = taken;
      among = among c cell answer.cells h;
      kept = tt;
    }))
    (each (GaveAll E c) (GaveAll (e ∷ E) c) (takes_since_adopted E c) (λ t k cell h. still_given E e t.stream c t.instant cell quiet (k cell h))
    (all_given E c)))

gave_of : (E : List Entry) (s c i : ℕ) (cell : CellView) (o : Option Take) → find (is_take_of s i) (takes_since_adopted E c) ≡ o → cell_in c o ≡ Some cell → Gave E s c i cell
gave_of E s c i cell None e h = absurd (none-some cell h)
gave_of E s c i cell (Some t) e h =
    let f = found (is_take_of s i) (GaveAll E c) (takes_since_adopted E c) t (all_given E c) e in
    let same = both (eqb t.stream s) (eqb t.instant i) f.0 in
    subst (λ n. Gave E n c i cell) (same_number t.stream s same.0) (subst (λ n. Gave E t.stream c n cell) (same_number t.instant i same.1) (f.1 cell h))

pub cell_was_given : (E : List Entry) (s c i : ℕ) (cell : CellView) → cell_of E s c i ≡ Some cell → Gave E s c i cell
cell_was_given E s c i cell h = gave_of E s c i cell (find (is_take_of s i) (takes_since_adopted E c)) refl h

-- no adoption, no other section
still_in_force : (g : Given) (c : ℕ) (later E : List Entry) → AllByRecursion (λ (e : Entry). is_adoption_of c e ≡ false) later → section_in_force g E c ≡ section_in_force g (later ++ E) c
still_in_force g c [] E kept = refl
still_in_force g c (e ∷ later) E kept = still_in_force g c later E kept.1 ∙ sym (cond-false (is_adoption_of c e) _ _ kept.0)

pub gave_under_section : GaveUnderSection
gave_under_section g E s c i cell k =
    let at : Entry = Arrive s k.bytes (Data i k.quality k.payload) k.answer in
    record {
      later = k.later;
      earlier = k.earlier;
      bytes = k.bytes;
      quality = k.quality;
      payload = k.payload;
      answer = k.answer;
      stands = k.stands;
      taken = k.taken;
      among = k.among;
      in_force = still_in_force g c k.later (at ∷ k.earlier) k.kept ∙ ap (λ (es : List Entry). section_in_force g es c) (sym k.stands);
    }

-- ---- what was given is there

-- the columns of cells rise, so the first that is found in a column is the one that is there
only_one : (n c : ℕ) (cell : CellView) (parts : List (ℕ × CellView)) (k : ℕ) → Rises n (map (λ (part : ℕ × CellView). part.0 + 1) parts) → k < length parts → slice_index_or parts k (c, cell) ≡ (c, cell)
    → cell_at (find (is_of_column c) parts) ≡ Some cell
only_one n c cell [] k r l e = absurd (omega (arith, l))
only_one n c cell (part ∷ parts) zero r l e =
    let here : eqb part.0 c ≡ true = ap (λ (x : ℕ × CellView). eqb x.0 c) e ∙ same_self c in
    ap (λ (b : Bool). cell_at (cond b (Some part) (find (is_of_column c) parts))) here ∙ ap (λ (x : ℕ × CellView). Some x.1) e
only_one n c cell (part ∷ parts) (suc k) r l e =
    let m : part.0 + 1 < c + 1 = above_first (part.0 + 1) c cell parts k r.1 (omega (arith, l)) e in
    let other : eqb part.0 c ≡ false = not_same part.0 c (omega (arith, m)) in
    ap (λ (b : Bool). cell_at (cond b (Some part) (find (is_of_column c) parts))) other ∙ only_one (part.0 + 1) c cell parts k r.1 (omega (arith, l)) e

none_or : (f : Take → Bool) (xs ys : List Take) → find f xs ≡ None → find f (xs ++ ys) ≡ find f ys
none_or f [] ys h = refl
none_or f (x ∷ xs) ys h =
    by_cases (λ (b : Bool). cond b (Some x) (find f xs) ≡ None → cond b (Some x) (find f (xs ++ ys)) ≡ find f ys) (f x)
    (λ e k. absurd (none-some x (sym k))) (λ e k. none_or f xs ys k) h

-- what is taken is the first for its stream and instant
fresh : (g : Given) (E : List Entry) (e : Entry) (s i : ℕ) (t : Take) → AreSound g (e ∷ E) → take_of g E s i ≡ Some t → find (is_take_of s i) (take_at e) ≡ None
fresh g E e s i t sound h =
    none_found (is_take_of s i) (take_at e) (at_take (λ (u : Take). is_take_of s i u ≡ false) e (λ r bytes j quality payload answer is taken.
    by_cases (λ (b : Bool). b ≡ false) ((eqb r s) && (eqb j i)) (λ same.
    let at : IsSound g E r (Data j quality payload) answer = (subst (λ (x : Entry). AreSound g (x ∷ E)) is sound).0 in
    let k : IsInTime g E r (Data j quality payload) answer = at.taken taken in
    let parts = both (eqb r s) (eqb j i) same in
    let moment : k.instant ≡ j = cc in
    let stream : r ≡ s = same_number r s parts.0 in
    let instant : k.instant ≡ i = moment ∙ same_number j i parts.1 in
    let first : take_of g E r k.instant ≡ None =
    ((taken_is_in_time g E r k.instant answer.cells).0 (sym (ap (λ (a : Answer). a.outcome) k.in_time) ∙ taken)).first in
    absurd (none-some t (sym first ∙ (λ n. take_of g E (stream n) (instant n)) ∙ h))) (λ other. refl)))

found_now : (s i : ℕ) (t : Take) (b : Bool) (rest : List Take) → b ≡ true → is_take_of s i t ≡ true → find (is_take_of s i) (cond b (t ∷ []) [] ++ rest) ≡ Some t
found_now s i t true rest e k = ap (λ (b : Bool). cond b (Some t) (find (is_take_of s i) rest)) k
found_now s i t false rest e k = absurd (false≢true e)

own_take : (s i : ℕ) (cells : List (ℕ × CellView)) → is_take_of s i (record { stream = s; instant = i; cells = cells }) ≡ true
own_take s i cells = ap (λ (b : Bool). b && eqb i i) (same_self s) ∙ same_self i

module _ (g : Given) (s i quality : ℕ) (bytes payload : List ℕ) (answer : Answer) (earlier : List Entry) (taken : answer.outcome ≡ Taken) where
  abbrev from : List Entry → List Entry
  from later = later ++ Arrive s bytes (Data i quality payload) answer ∷ earlier

  abbrev took : Take
  took = record { stream = s; instant = i; cells = answer.cells }

  sound_at : (later : List Entry) → AreSound g (from later) → AreSound g (from [])
  sound_at [] sound = sound
  sound_at (e ∷ later) sound = sound_at later (run_before g e (from later) sound)

  -- with two lanes it stays taken
  stays : eqb g.lanes 1 ≡ false → (later : List Entry) → AreSound g (from later) → find (is_take_of s i) (takes (from later)) ≡ Some took
  stays two [] sound = found_now s i took (is_taken answer.outcome) (takes earlier) (ap is_taken taken) (own_take s i answer.cells)
  stays two (e ∷ later) sound =
      let rest : find (is_take_of s i) (takes (from later)) ≡ Some took = stays two later (run_before g e (from later) sound) in
      let still : take_of g (from later) s i ≡ Some took = ap (λ (b : Bool). find (is_take_of s i) (cond b (takes_since_adopted (from later) s) (takes (from later)))) two ∙ rest in
      none_or (is_take_of s i) (take_at e) (takes (from later)) (fresh g (from later) e s i took sound still) ∙ rest

  abbrev Since : (c : ℕ) → List Entry → Type 0
  Since c later = find (is_take_of s i) (takes_since_adopted (from later) c) ≡ Some took

  -- with one lane, in its own column, and with two in any, it is there while the column is not adopted
  in_column : (c : ℕ) (b : Bool) → eqb g.lanes 1 ≡ b → (b ≡ true → c ≡ s) → (later : List Entry) → AreSound g (from later) → AllByRecursion (λ (e : Entry). is_adoption_of c e ≡ false) later → Since c later
  in_column c b lanes own [] sound kept = found_now s i took (is_taken answer.outcome) (takes_since_adopted earlier c) (ap is_taken taken) (own_take s i answer.cells)
  in_column c b lanes own (e ∷ later) sound kept =
      let before : AreSound g (from later) = run_before g e (from later) sound in
      let rest : Since c later = in_column c b lanes own later before kept.1 in
      ap (λ (a : Bool). find (is_take_of s i) (cond a [] (take_at e ++ takes_since_adopted (from later) c))) kept.0
      ∙ none_or (is_take_of s i) (take_at e) (takes_since_adopted (from later) c) (fresh g (from later) e s i took sound (still b lanes own later before rest)) ∙ rest
    where
      still : (a : Bool) → eqb g.lanes 1 ≡ a → (a ≡ true → c ≡ s) → (more : List Entry) → AreSound g (from more) → Since c more → take_of g (from more) s i ≡ Some took
      still true one same more k there =
          ap (λ (a : Bool). find (is_take_of s i) (cond a (takes_since_adopted (from more) s) (takes (from more)))) one
          ∙ subst (λ (d : ℕ). find (is_take_of s i) (takes_since_adopted (from more) d) ≡ Some took) (same refl) there
      still false two same more k there = ap (λ (a : Bool). find (is_take_of s i) (cond a (takes_since_adopted (from more) s) (takes (from more)))) two ∙ stays two more k

  there : (c : ℕ) (cell : CellView) (later : List Entry) → AreSound g (from later) → Since c later → Contains answer.cells (c, cell) → cell_of (from later) s c i ≡ Some cell
  there c cell later sound since in_cells =
      ap (cell_in c) since ∙ only_one 0 c cell answer.cells in_cells.0 ((sound_at later sound).0.taken taken).columns.rise in_cells.1 in_cells.2

pub given_is_there : (g : Given) (E : List Entry) (s c i : ℕ) (cell : CellView) (b : Bool) → AreSound g E → eqb g.lanes 1 ≡ b → (b ≡ true → c ≡ s) → Gave E s c i cell → cell_of E s c i ≡ Some cell
given_is_there g E s c i cell b sound lanes own gave =
    let at : AreSound g (from g s i gave.quality gave.bytes gave.payload gave.answer gave.earlier gave.taken gave.later) = subst (AreSound g) gave.stands sound in
    ap (λ (es : List Entry). cell_of es s c i) gave.stands
    ∙ there g s i gave.quality gave.bytes gave.payload gave.answer gave.earlier gave.taken c cell gave.later at
    (in_column g s i gave.quality gave.bytes gave.payload gave.answer gave.earlier gave.taken c b lanes own gave.later at gave.kept) gave.among

-- ---- a block that is present

pub present_is : (o : Option CellView) (cell : CellView) → present_of o ≡ Some cell → (o ≡ Some cell) × (is_present cell.block ≡ true)
present_is None cell h = absurd (none-some cell h)
present_is (Some other) cell h =
    let k = cond_some (is_present other.block) other cell h in
    (ap Some k.1, ap (λ (x : CellView). is_present x.block) (sym k.1) ∙ k.0)

pub is_present_one : (o : Option CellView) (cell : CellView) → o ≡ Some cell → is_present cell.block ≡ true → present_of o ≡ Some cell
is_present_one o cell e h = ap present_of e ∙ ap (λ (b : Bool). cond b (Some cell) None) h

-- ---- the chosen cell is what the row shall show

pub first_is : (a b : Option CellView) (cell : CellView) → first_of a b ≡ Some cell → (a ≡ Some cell) ⊎ ((a ≡ None) × (b ≡ Some cell))
first_is None b cell h = inr (refl, h)
first_is (Some x) b cell h = inl h

is_none : (o : Option CellView) → ((cell : CellView) → o ≡ Some cell → ⊥) → o ≡ None
is_none None h = refl
is_none (Some cell) h = absurd (h cell refl)

pub of_lanes : (g : Given) (E : List Entry) (c i : ℕ) (lane : Bool) → eqb g.lanes 1 ≡ lane
    → chosen_of g E c i ≡ first_of (present_of (cell_of E (cond lane c 0) c i)) (present_of (cond lane None (cell_of E 1 c i)))
of_lanes g E c i lane lanes = ap (λ (b : Bool). first_of (present_of (cell_of E (cond b c 0) c i)) (present_of (cond b None (cell_of E 1 c i)))) lanes

module _ (g : Given) (E : List Entry) (c i : ℕ) (sound : AreSound g E) where
  -- what is there and present was given, and what was given and is present is there
  gave_shown : (s : ℕ) (cell : CellView) → present_of (cell_of E s c i) ≡ Some cell → GaveShown E s c i cell
  gave_shown s cell h = let k = present_is (cell_of E s c i) cell h in record { gave = cell_was_given E s c i cell k.0; present = k.1 }

  there_shown : (s : ℕ) (cell : CellView) (lane : Bool) → eqb g.lanes 1 ≡ lane → (lane ≡ true → c ≡ s) → GaveShown E s c i cell → present_of (cell_of E s c i) ≡ Some cell
  there_shown s cell lane lanes own k = is_present_one (cell_of E s c i) cell (given_is_there g E s c i cell lane sound lanes own k.gave) k.present

  there_of_two : (s : ℕ) (cell : CellView) → eqb g.lanes 1 ≡ false → GaveShown E s c i cell → present_of (cell_of E s c i) ≡ Some cell
  there_of_two s cell two k = there_shown s cell false two (λ one. absurd (false≢true one)) k

  pub chosen_cell : (lane : Bool) → eqb g.lanes 1 ≡ lane → (cell : CellView) → chosen_of g E c i ≡ Some cell → ShallShowCell lane E c i cell
  chosen_cell true one cell h = elim (first_is (present_of (cell_of E c c i)) None cell (sym (of_lanes g E c i true one) ∙ h)) [
    | inl e ↦ gave_shown c cell e
    | inr e ↦ absurd (none-some cell e.1)
  ]
  chosen_cell false two cell h = elim (first_is (present_of (cell_of E 0 c i)) (present_of (cell_of E 1 c i)) cell (sym (of_lanes g E c i false two) ∙ h)) [
    | inl e ↦ inl (gave_shown 0 cell e)
    | inr e ↦ inr (gave_shown 1 cell e.1, (λ other k. none-some other (sym e.0 ∙ there_of_two 0 other two k)))
  ]

  pub shown_cell : (lane : Bool) → eqb g.lanes 1 ≡ lane → (cell : CellView) → ShallShowCell lane E c i cell → chosen_of g E c i ≡ Some cell
  shown_cell true one cell k = of_lanes g E c i true one ∙ ap (λ (x : Option CellView). first_of x None) (there_shown c cell true one (λ t. refl) k)
  shown_cell false two cell (inl k) =
      of_lanes g E c i false two ∙ ap (λ (x : Option CellView). first_of x (present_of (cell_of E 1 c i))) (there_of_two 0 cell two k)
  shown_cell false two cell (inr k) =
      of_lanes g E c i false two
      ∙ ap (λ (x : Option CellView). first_of x (present_of (cell_of E 1 c i)))
      (is_none (present_of (cell_of E 0 c i)) (λ other e. k.1 other (gave_shown 0 other e)))
      ∙ there_of_two 1 cell two k.0
