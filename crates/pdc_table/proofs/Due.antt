-- Which rows close, told by the calls.
use Rattle.std.proofs.Common.{◌≡◌, ℕ, ◌+◌, ◌<◌, Bool, true, false, cond, not, ◌||◌, if◌then◌else◌, leb, List, [], ◌∷◌, length, get_or, set, map, filter, refl, sym, ◌∙◌, ap, subst, arith, inl, inr, Option, Some, None, zero, suc}
use Rattle.std.specs.List.{AllByRecursion, list_all, range_with_len}
use Rattle.std.proofs.lemmas.Bool.{cases_eq, eq-eqb, ne_eqb}
use Rattle.std.proofs.lemmas.Grind.{get_or-set_at}
use Rattle.std.proofs.lemmas.List.{get_or-replicate, get_or-set_other, length-replicate, length-set}
use Rattle.pdc_open_row.specs.pdc_row.Rising.{Rises}
use Rattle.pdc_open_row.specs.pdc_row.RowView.{row_instants}
use Rattle.pdc_open_row.specs.pdc_row.RisingLaws.{RisingLaws}
use Rattle.pdc_table.specs.Calls.{AreAllowed, Call, Put, Require, Tick, DropStream, DropColumn, Pop, after_all}
use Rattle.pdc_table.specs.Closing.{aged, closes, counter}
use Rattle.pdc_open_row.specs.Due.{all_taken, is_due}
use Rattle.pdc_table.specs.Content.{Content, new_content, streams_of}
use Rattle.pdc_open_row.specs.Streams.{stream_count}
use Rattle.pdc_table.specs.Histories.{closing_after, is_awaited, is_due_after, is_taken_since, open_row_after, ticks_since_take}
use Rattle.pdc_open_row.specs.pdc_columns.Layout.{LayoutView}
use Rattle.pdc_table.specs.OpenInstants.{instants_of}
use Rattle.pdc_table.specs.Placing.{row_at}
use Rattle.pdc_table.specs.Steps.{after_take, closed_by, closing_of, put_answer}
use Rattle.pdc_open_row.specs.Taking.{is_taken}
use Rattle.pdc_open_row.specs.Views.{OpenRowView}
use Rattle.pdc_open_row.specs.declared.wait_rule.WaitRule.{WaitRule}
use Rattle.pdc_table.proofs.CallLaws.{IsAbove, above_all}
use Rattle.pdc_table.proofs.Follows.{follows, streams_same}
use Rattle.pdc_table.proofs.Keeps.{instants-row_of}
use Rattle.pdc_table.proofs.RowAt.{beyond, here, row_instant}
use Rattle.pdc_table.proofs.Told.{Follows, IsTold, sizes_all}

-- the streams that are waited for are those that the calls told
pub record AreAwaited (c d : Content) (calls : List Call) : Type 0 where
  pub each : length d.required ≡ streams_of c
  pub told : (s : ℕ) → s < streams_of c → get_or d.required s false ≡ is_awaited calls s

awaited_chosen : (b : Bool) (c d e : Content) (calls : List Call) → AreAwaited c d calls → AreAwaited c e calls → AreAwaited c (if b then d else e) calls
awaited_chosen true c d e calls h k = h
awaited_chosen false c d e calls h k = k

awaited_require : (c d : Content) (calls : List Call) (stream : ℕ) (is_required : Bool) → stream < streams_of c → AreAwaited c d calls → (s : ℕ) → s < streams_of c → get_or (set d.required stream is_required) s false ≡ is_awaited (Require stream is_required ∷ calls) s
awaited_require c d calls stream is_required l h s m = elim (cases_eq stream s) [
  | inl e ↦ get_or-set_at d.required stream s is_required false (sym e) (omega (arith, h.each)) ∙ ap (λ b. if b then is_required else is_awaited calls s) (sym (eq-eqb stream s e))
  | inr n ↦ get_or-set_other d.required stream s is_required false (λ e. n (sym e)) ∙ h.told s m ∙ ap (λ b. if b then is_required else is_awaited calls s) (sym (ne_eqb stream s n))
]

awaited : (c : Content) (calls : List Call) → AreAwaited c c [] → AreAllowed c calls → AreAwaited c (after_all c calls) calls
awaited c [] b h = b
awaited c (Put stream instant cells ∷ calls) b h =
    let k : AreAwaited c (after_all c calls) calls = awaited c calls b h.1 in
    awaited_chosen (is_taken (put_answer (after_all c calls) stream instant cells)) c (after_take (after_all c calls) stream instant cells) (after_all c calls) (Put stream instant cells ∷ calls)
    (record { each = k.each; told = k.told }) (record { each = k.each; told = k.told })
awaited c (Require stream is_required ∷ calls) b h =
    let k : AreAwaited c (after_all c calls) calls = awaited c calls b h.1 in
    let l : stream < streams_of c = omega (arith, streams_same c (after_all c calls) (sizes_all c calls), h.0) in
    record {
      each = length-set (after_all c calls).required stream is_required ∙ k.each;
      told = λ s m. awaited_require c (after_all c calls) calls stream is_required l k s m;
    }
awaited c (Tick rule layout ∷ calls) b h = let k : AreAwaited c (after_all c calls) calls = awaited c calls b h.1 in record { each = k.each; told = k.told }
awaited c (DropStream stream ∷ calls) b h = let k : AreAwaited c (after_all c calls) calls = awaited c calls b h.1 in record { each = k.each; told = k.told }
awaited c (DropColumn column ∷ calls) b h = let k : AreAwaited c (after_all c calls) calls = awaited c calls b h.1 in record { each = k.each; told = k.told }
awaited c (Pop ∷ calls) b h = let k : AreAwaited c (after_all c calls) calls = awaited c calls b h.1 in record { each = k.each; told = k.told }

-- two lists side by side, as a range of places
sides : (rs ts : List Bool) (n a : ℕ) (p : ℕ → Bool) → length rs ≡ n → length ts ≡ n → ((s : ℕ) → s < n → (not (get_or rs s false) || get_or ts s false) ≡ p (a + s)) → all_taken rs ts ≡ list_all p (range_with_len a n)
sides [] ts zero a p e f h = refl
sides [] ts (suc n) a p e f h = absurd (omega arith)
sides (r ∷ rs) [] zero a p e f h = absurd (omega arith)
sides (r ∷ rs) [] (suc n) a p e f h = absurd (omega arith)
sides (r ∷ rs) (t ∷ ts) zero a p e f h = absurd (omega arith)
sides (r ∷ rs) (t ∷ ts) (suc n) a p e f h =
    let first : (not r || t) ≡ p a = h 0 (omega arith) ∙ ap p (omega arith) in
    let rest : all_taken rs ts ≡ list_all p (range_with_len (a + 1) n) = sides rs ts n (a + 1) p (omega arith) (omega arith) (λ s l. h (suc s) (omega arith) ∙ ap p (omega arith)) in
    rw (first, rest) refl

older : (age ticks : ℕ) → age ≡ counter ticks → counter (age + 1) ≡ counter (ticks + 1)
older age ticks e = omega arith

due_told : (c : Content) (calls : List Call) (rule : WaitRule) (i : ℕ) (row : OpenRowView) → row.instant ≡ i → AreAwaited c (after_all c calls) calls → IsTold c calls i row → is_due (after_all c calls).required rule (aged row) ≡ is_due_after c calls rule i
due_told c calls rule i row e w h =
    let taken : all_taken (after_all c calls).required row.taken ≡ list_all (λ s. not (is_awaited calls s) || is_taken_since c calls s i) (range_with_len 0 (streams_of c)) =
    sides (after_all c calls).required row.taken (streams_of c) 0 (λ s. not (is_awaited calls s) || is_taken_since c calls s i) w.each h.places.taken
    (λ s l. ap (λ b. not b || get_or row.taken s false) (w.told s l) ∙ ap (λ b. not (is_awaited calls s) || b) (h.streams s l)
    ∙ ap (λ n. not (is_awaited calls n) || is_taken_since c calls n i) (omega arith)) in
    rw (taken, older row.age (ticks_since_take c calls i) h.age, e) refl

-- what holds at each instant that has a row holds of each row
each_row : (low : ℕ) (rows : List OpenRowView) (P : OpenRowView → Type 0) → Rises low (instants_of rows) → ((i : ℕ) (row : OpenRowView) → low < i → row_at i rows ≡ Some row → P row) → AllByRecursion P rows
each_row low [] P r h = tt
each_row low (x ∷ xs) P r h =
    (h x.instant x r.0 (here x.instant x xs refl), each_row x.instant xs P r.1 (λ i row l e. h i row (omega (arith, r.0)) (beyond i x xs (λ q. omega arith) ∙ e)))

told_row : (c : Content) (calls : List Call) (i : ℕ) (row : OpenRowView) (o : Option OpenRowView) → o ≡ Some row → Follows c calls i o → IsTold c calls i row
told_row c calls i row None e f = cc
told_row c calls i row (Some r) e f = let s : r ≡ row = cc in subst (λ x. IsTold c calls i x) s f.1

closes_same : (due : ℕ → Bool) (required : List Bool) (rule : WaitRule) (i : ℕ) (rows : List OpenRowView) → AllByRecursion (λ (r : OpenRowView). is_due required rule (aged r) ≡ due r.instant) rows → list_all (λ (r : OpenRowView). not (leb r.instant i) || is_due required rule r) (map aged rows) ≡ list_all (λ j. not (leb j i) || due j) (instants_of rows)
closes_same due required rule i [] h = refl
closes_same due required rule i (x ∷ xs) h = rw (h.0, closes_same due required rule i xs h.1) refl

kept_instants : (b : Bool) (x : OpenRowView) (xs : List OpenRowView) → instants_of (cond b (aged x ∷ xs) xs) ≡ cond b (x.instant ∷ instants_of xs) (instants_of xs)
kept_instants true x xs = refl
kept_instants false x xs = refl

filter_same : (p : OpenRowView → Bool) (q : ℕ → Bool) → ((r : OpenRowView) → p (aged r) ≡ q r.instant) → (rows : List OpenRowView) → instants_of (filter p (map aged rows)) ≡ filter q (instants_of rows)
filter_same p q h [] = refl
filter_same p q h (x ∷ xs) =
    kept_instants (p (aged x)) x (filter p (map aged xs)) ∙ ap (λ b. cond b (x.instant ∷ instants_of (filter p (map aged xs))) (instants_of (filter p (map aged xs)))) (h x)
    ∙ ap (λ ns. cond (q x.instant) (x.instant ∷ ns) ns) (filter_same p q h xs)

pub new_awaited : (window columns lanes floor : ℕ) → AreAwaited (new_content window columns lanes floor) (new_content window columns lanes floor) []
new_awaited window columns lanes floor = record {
  each = length-replicate (stream_count columns lanes) false;
  told = λ s l. get_or-replicate (stream_count columns lanes) s false false l;
}

-- ---- what follows from the laws of rising numbers

module _ (R : RisingLaws) where
  pub close_where_due : (c : Content) (calls : List Call) (rule : WaitRule) (layout : LayoutView) → c.open_rows ≡ [] → IsAbove c → AreAwaited c c [] → AreAllowed c calls → row_instants (closed_by (after_all c calls) rule layout) ≡ closing_after c calls rule (instants_of (after_all c calls).open_rows)
  close_where_due c calls rule layout e a b h =
      let d : Content = after_all c calls in
      let w : AreAwaited c d calls = awaited c calls b h in
      let all : AllByRecursion (λ (r : OpenRowView). is_due d.required rule (aged r) ≡ is_due_after c calls rule r.instant) d.open_rows =
      each_row d.last d.open_rows (λ (r : OpenRowView). is_due d.required rule (aged r) ≡ is_due_after c calls rule r.instant) (above_all R c calls a)
      (λ i row l k. due_told c calls rule i row (row_instant i d.open_rows row k) w (told_row c calls i row (open_row_after c calls i) k (follows R c calls i e a h l))
      ∙ ap (is_due_after c calls rule) (sym (row_instant i d.open_rows row k))) in
      instants-row_of layout (closing_of d rule)
      ∙ filter_same (closes d.required rule (map aged d.open_rows)) (λ i. list_all (λ j. not (leb j i) || is_due_after c calls rule j) (instants_of d.open_rows))
      (λ r. closes_same (is_due_after c calls rule) d.required rule r.instant d.open_rows all) d.open_rows
