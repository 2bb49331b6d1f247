-- What closes at a tick.
use Rattle.pdc_life.proofs.Names.{[], ◌||◌, ◌∷◌, ◌≡◌, ◌≤◌, AllByRecursion, ap, arith, Bool, closed, closing, Contains, Entry, false, false≢true, Given, is_due, IsRowOfTick, List, list_all, map, nat_le, NoneOvertakes, not, open_instants, refl, row_of, RowsAreOfTheirTicks, RowView, rules, subst, suc, sym, Tick, TickAnswer, true, ℕ}
use Rattle.pdc_life.proofs.Lists.{appended, both, by_each, each, filtered}
use Rattle.pdc_life.proofs.Steps.{ticked_before}

or_second : (a b : Bool) → (not a || b) ≡ true → a ≡ true → b ≡ true
or_second true b h k = h
or_second false b h k = absurd (false≢true k)

all_due : (g : Given) (E : List Entry) (now i : ℕ) (js : List ℕ) → list_all (λ j. not (nat_le j i) || is_due g E now j) js ≡ true → AllByRecursion (λ j. j ≤ i → is_due g E now j ≡ true) js
all_due g E now i [] h = tt
all_due g E now i (j ∷ js) h =
    let b : ((not (nat_le j i) || is_due g E now j) ≡ true) × (list_all (λ k. not (nat_le k i) || is_due g E now k) js ≡ true) =
    both (not (nat_le j i) || is_due g E now j) (list_all (λ k. not (nat_le k i) || is_due g E now k) js) h in
    ((λ l. or_second (nat_le j i) (is_due g E now j) b.0 (search rules)), all_due g E now i js b.1)

pub none_overtakes : NoneOvertakes
none_overtakes g E now =
    filtered (λ i. list_all (λ j. not (nat_le j i) || is_due g E now j) (open_instants g E)) (λ i. Unit {0})
    (λ i. AllByRecursion (λ j. j ≤ i → is_due g E now j ≡ true) (open_instants g E)) (open_instants g E)
    (λ i h one. all_due g E now i (open_instants g E) h) (by_each _ (open_instants g E) (λ i k. tt))

-- ---- each closed row is the row of its instant before the tick

row_before : (g : Given) (E : List Entry) (e : Entry) (row : RowView) → IsRowOfTick g E row → IsRowOfTick g (e ∷ E) row
row_before g E e row t = record {
  later = e ∷ t.later;
  before = t.before;
  now = t.now;
  counts = t.counts;
  answer = t.answer;
  stands = ap (λ (es : List Entry). e ∷ es) t.stands;
  among = t.among;
  closes = t.closes;
  same = t.same;
}

rows_before : (g : Given) (E : List Entry) (e : Entry) (rows : List RowView) → AllByRecursion (IsRowOfTick g E) rows
    → AllByRecursion (IsRowOfTick g (e ∷ E)) rows
rows_before g E e rows a = each (IsRowOfTick g E) (IsRowOfTick g (e ∷ E)) rows (row_before g E e) a

at_tick : (g : Given) (E : List Entry) (now : ℕ) (counts : List ℕ) (answer : TickAnswer) (is : List ℕ) → ((r : RowView) → Contains (map (row_of g E) is) r → Contains answer.rows r)
    → ((i : ℕ) → Contains is i → Contains (closing g E now) i) → AllByRecursion (IsRowOfTick g (Tick now counts answer ∷ E)) (map (row_of g E) is)
at_tick g E now counts answer [] rows among = tt
at_tick g E now counts answer (i ∷ is) rows among = (
  record {
    later = [];
    before = E;
    now = now;
    counts = counts;
    answer = answer;
    stands = refl;
    among = rows (row_of g E i) (0, omega arith, refl);
    closes = among i (0, omega arith, refl);
    same = refl;
  },
  at_tick g E now counts answer is (λ r c. rows r (suc c.0, omega (arith, c.1), c.2)) (λ j c. among j (suc c.0, omega (arith, c.1), c.2)),
)

pub rows_are_of_their_ticks : RowsAreOfTheirTicks
rows_are_of_their_ticks g [] run = tt
rows_are_of_their_ticks g (Tick now counts answer ∷ E) run =
    appended (IsRowOfTick g (Tick now counts answer ∷ E)) (closed E) answer.rows
    (rows_before g E (Tick now counts answer) (closed E) (rows_are_of_their_ticks g E run.1))
    (let e : answer.rows ≡ map (row_of g E) (closing g E now) = ap (λ (a : TickAnswer). a.rows) run.0 in
    subst (λ (rows : List RowView). AllByRecursion (IsRowOfTick g (Tick now counts answer ∷ E)) rows) (sym e)
    (at_tick g E now counts answer (closing g E now) (λ r c. subst (λ (rows : List RowView). Contains rows r) (sym e) c) (λ i c. c)))
rows_are_of_their_ticks g (e ∷ E) run = rows_before g E e (closed E) (rows_are_of_their_ticks g E (ticked_before g e E run))
