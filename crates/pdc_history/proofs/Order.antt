-- Of two moments of one history, the later is in the same life, or in a later one.
use Rattle.std.proofs.Common.{[], ◌++◌, ◌<◌, ◌∙◌, ◌∷◌, ◌≡◌, ◌≤◌, ap, arith, Bool, cond, false, inl, inr, List, None, Option, refl, Some, subst, sym, true, ℕ}
use Rattle.pdc_history.proofs.Names.{◌⊎◌, AdoptedCountsNeverFall, begins_at, begun_with, count_for, Ends, Entry, entry_at, Given, given_by, given_in, Happened, is_same, IsHistory, IsMade, IsRun, lead_of, life_of, LifeLaws, mark_of, MarkBounds, none-some, opened_with, Publishes, reserved, RowView, same_Some, section_in_force, SectionFields, since, Stored, Ticks, Who, with_counts_of, with_entry, World}
use Rattle.pdc_history.proofs.{Lives.{run_in}, Made.{cond_none, ticks_is}, Marks.{marks_bound}, Moments.{before, none_begun, same_who}, Stored.{ends_is, IsNext, raised_keeps, reserved_keeps}}

-- a life begins with a mark above the stored one
pub begins_next : (W : World) (H : List Happened) (who : Who) (h : Happened) (mark : Stored) → IsMade W H h → begins_at who h ≡ Some mark → IsNext (mark_of W H who) mark
begins_next W H who (Ends v m) mark made q =
    let r = cond_none (is_same v who) m mark q in
    let is : Ends v m ≡ Ends who mark = λ i. Ends (same_who v who r.0 i) (r.1 i) in
    ends_is W H who mark (subst (IsMade W H) is made)
begins_next W H who h mark made q = absurd (none-some mark q)

-- counts of marks never fall
abbrev pub Grows : Stored → Stored → Type 0
Grows m n = (c : ℕ) → count_for c m.counts ≤ count_for c n.counts

stays : (m : Stored) → Grows m m
stays m c = omega arith

by_tick : (W : World) (H : List Happened) (who v : Who) (e : Entry) (o : Bool) → (o ≡ true → v ≡ who) → IsMade W H (Ticks v e) → Grows (mark_of W H who) (cond o (with_counts_of e (mark_of W H who)) (mark_of W H who))
by_tick W H who v e true same made =
    let t = ticks_is W H who e (subst (λ (w : Who). IsMade W H (Ticks w e)) (same refl) made) in
    subst (λ (x : Entry). Grows (mark_of W H who) (with_counts_of x (mark_of W H who))) (sym t.is) (raised_keeps W H who).counts
by_tick W H who v e false same made = stays (mark_of W H who)

by_publish : (W : World) (H : List Happened) (who : Who) (row : Option RowView) (o : Bool) → Grows (mark_of W H who) (cond o (reserved (lead_of W who) row (mark_of W H who)) (mark_of W H who))
by_publish W H who row true = (reserved_keeps (lead_of W who) row (mark_of W H who)).counts
by_publish W H who row false = stays (mark_of W H who)

by_end : (W : World) (H : List Happened) (who v : Who) (mark : Stored) (o : Bool) → (o ≡ true → v ≡ who) → IsMade W H (Ends v mark) → Grows (mark_of W H who) (begun_with (cond o (Some mark) None) (mark_of W H who))
by_end W H who v mark true same made = (ends_is W H who mark (subst (λ (w : Who). IsMade W H (Ends w mark)) (same refl) made)).counts
by_end W H who v mark false same made = stays (mark_of W H who)

one_grows : (W : World) (H : List Happened) (who : Who) (h : Happened) → IsMade W H h → Grows (mark_of W H who) (mark_of W (h ∷ H) who)
one_grows W H who (Ticks v e) made = by_tick W H who v e (is_same v who) (same_who v who) made
one_grows W H who (Publishes v row) made = by_publish W H who row (is_same v who)
one_grows W H who (Ends v mark) made = by_end W H who v mark (is_same v who) (same_who v who) made
one_grows W H who h made = stays (mark_of W H who)

pub marks_grow : (W : World) (later H : List Happened) (who : Who) → IsHistory W (later ++ H) → Grows (mark_of W H who) (mark_of W (later ++ H) who)
marks_grow W [] H who is = stays (mark_of W H who)
marks_grow W (h ∷ later) H who is = λ c. omega (arith, marks_grow W later H who is.1 c, one_grows W (later ++ H) who h is.0 c)

-- ---- the same life, or a later one

pub record SameLife (W : World) (later H : List Happened) (who : Who) : Type 0 where
  pub opened : opened_with W (later ++ H) who ≡ opened_with W H who
  pub more : List Entry
  pub life : life_of (later ++ H) who ≡ more ++ life_of H who

pub record NextLife (W : World) (later H : List Happened) (who : Who) : Type 0 where
  pub start : (opened_with W H who).start < (opened_with W (later ++ H) who).start
  pub counts : Grows (mark_of W H who) (opened_with W (later ++ H) who)

with_more : (o : Option Entry) (more E : List Entry) → with_entry o (more ++ E) ≡ with_entry o more ++ E
with_more None more E = refl
with_more (Some e) more E = refl

none_since : (b : Option Stored) (E : List Entry) → b ≡ None → since b E ≡ E
none_since b E q = ap (λ (o : Option Stored). since o E) q

same_on : (W : World) (h : Happened) (later H : List Happened) (who : Who) → begins_at who h ≡ None → SameLife W later H who → SameLife W (h ∷ later) H who
same_on W h later H who q s = record {
  opened = sym (none_begun (begins_at who h) (opened_with W (later ++ H) who) q) ∙ s.opened;
  more = with_entry (entry_at who h) s.more;
  life = none_since (begins_at who h) (with_entry (entry_at who h) (life_of (later ++ H) who)) q ∙ ap (with_entry (entry_at who h)) s.life ∙ with_more (entry_at who h) s.more (life_of H who);
}

next_on : (W : World) (h : Happened) (later H : List Happened) (who : Who) → begins_at who h ≡ None → NextLife W later H who → NextLife W (h ∷ later) H who
next_on W h later H who q n =
    let same : opened_with W (later ++ H) who ≡ begun_with (begins_at who h) (opened_with W (later ++ H) who) = none_begun (begins_at who h) (opened_with W (later ++ H) who) q in
    record {
      start = subst (λ (m : Stored). (opened_with W H who).start < m.start) same n.start;
      counts = subst (λ (m : Stored). Grows (mark_of W H who) m) same n.counts;
    }

begins_on : LifeLaws → (W : World) (h : Happened) (later H : List Happened) (who : Who) (mark : Stored) → IsHistory W (h ∷ later ++ H) → begins_at who h ≡ Some mark
    → (opened_with W H who).start ≤ (opened_with W (later ++ H) who).start → NextLife W (h ∷ later) H who
begins_on L W h later H who mark is q low =
    let n : IsNext (mark_of W (later ++ H) who) mark = begins_next W (later ++ H) who h mark is.0 q in
    let b : MarkBounds W (later ++ H) who = marks_bound L W (later ++ H) who is.1 in
    let up : Grows (mark_of W H who) (mark_of W (later ++ H) who) = marks_grow W later H who is.1 in
    subst (λ (o : Option Stored). ((opened_with W H who).start < (begun_with o (opened_with W (later ++ H) who)).start) × Grows (mark_of W H who) (begun_with o (opened_with W (later ++ H) who)) → NextLife W (h ∷ later) H who) q
    (λ p. record { start = p.0; counts = p.1 })
    (omega (arith, low, b.start, n.start), λ c. omega (arith, up c, n.counts c))

lows : (W : World) (later H : List Happened) (who : Who) → SameLife W later H who ⊎ NextLife W later H who → (opened_with W H who).start ≤ (opened_with W (later ++ H) who).start
lows W later H who (inl s) = omega (arith, ap (λ (m : Stored). m.start) s.opened)
lows W later H who (inr n) = omega (arith, n.start)

after_one : LifeLaws → (W : World) (h : Happened) (later H : List Happened) (who : Who) (b : Option Stored) → begins_at who h ≡ b → IsHistory W (h ∷ later ++ H)
    → SameLife W later H who ⊎ NextLife W later H who → SameLife W (h ∷ later) H who ⊎ NextLife W (h ∷ later) H who
after_one L W h later H who None q is (inl s) = inl (same_on W h later H who q s)
after_one L W h later H who None q is (inr n) = inr (next_on W h later H who q n)
after_one L W h later H who (Some mark) q is k = inr (begins_on L W h later H who mark is q (lows W later H who k))

pub after : LifeLaws → (W : World) (later H : List Happened) (who : Who) → IsHistory W (later ++ H) → SameLife W later H who ⊎ NextLife W later H who
after L W [] H who is = inl (record { opened = refl; more = []; life = refl })
after L W (h ∷ later) H who is = after_one L W h later H who (begins_at who h) refl is (after L W later H who is.1)

pub same_given : (W : World) (later H : List Happened) (who : Who) → SameLife W later H who → given_in W (later ++ H) who ≡ given_in W H who
same_given W later H who s = ap (given_by W who) s.opened

-- ---- counts never fall

in_same_life : LifeLaws → (W : World) (later H : List Happened) (who : Who) (c : ℕ) (s t : SectionFields) → IsHistory W (later ++ H) → section_in_force (given_in W H who) (life_of H who) c ≡ Some s
    → section_in_force (given_in W (later ++ H) who) (life_of (later ++ H) who) c ≡ Some t → SameLife W later H who → s.count ≤ t.count
in_same_life L W later H who c s t is was now same =
    let g : given_in W (later ++ H) who ≡ given_in W H who = same_given W later H who same in
    let run : IsRun (given_in W H who) (same.more ++ life_of H who) =
    subst (λ (x : Given). IsRun x (same.more ++ life_of H who)) g (subst (IsRun (given_in W (later ++ H) who)) same.life (run_in L W (later ++ H) who is)) in
    let k = L.never_fall (given_in W H who) (life_of H who) same.more c s run.ticked was in
    let e : section_in_force (given_in W H who) (same.more ++ life_of H who) c ≡ Some t =
    subst (λ (x : Given). section_in_force x (same.more ++ life_of H who) c ≡ Some t) g (subst (λ (E : List Entry). section_in_force (given_in W (later ++ H) who) E c ≡ Some t) same.life now) in
    let one : k.section ≡ t = same_Some k.section t (sym k.in_force ∙ e) in
    subst (λ (x : SectionFields). s.count ≤ x.count) one k.not_lower

in_next_life : LifeLaws → (W : World) (later H : List Happened) (who : Who) (c : ℕ) (s t : SectionFields) → IsHistory W (later ++ H) → section_in_force (given_in W H who) (life_of H who) c ≡ Some s
    → section_in_force (given_in W (later ++ H) who) (life_of (later ++ H) who) c ≡ Some t → NextLife W later H who → s.count ≤ t.count
in_next_life L W later H who c s t is was now next =
    let b : MarkBounds W H who = marks_bound L W H who (before W later H is) in
    let opened : count_for c (opened_with W (later ++ H) who).counts ≤ t.count =
    (L.cleared (given_in W (later ++ H) who) (life_of (later ++ H) who) c t (run_in L W (later ++ H) who is).ticked now).0 in
    omega (arith, b.in_force c s was, next.counts c, opened)

pub adopted_counts_never_fall : LifeLaws → AdoptedCountsNeverFall
adopted_counts_never_fall L W H later who c s t is was now = elim (after L W later H who is) [
  | inl same ↦ in_same_life L W later H who c s t is was now same
  | inr next ↦ in_next_life L W later H who c s t is was now next
]
