-- Under a stamp there is one layout, that of each life and moment with this stamp.
use Rattle.std.proofs.Common.{[], ◌++◌, ◌<◌, ◌^◌, ◌∙◌, ◌∷◌, ◌≡◌, ap, arith, Bool, cond, false, filter, inl, inr, length, List, None, Option, refl, Some, subst, sym, true, ℕ}
use Rattle.pdc_history.proofs.Names.{◌⊎◌, append-nil, append_assoc, Cfg2, changes, columns_of, ConfigFields, Contains, DataFrame, Entry, entry_at, false≢true, Fields, filter_map, FrameLaws, Given, given_by, given_in, Happened, Hz50, Hz60, is_adoption, IsConfig, IsFrame, IsHistory, IsLayoutSent, IsLayoutUnder, IsMade, IsOwn, IsRun, kind_of, layout_payload_of, layout_wire, LayoutsAreOne, life_of, LifeLaws, Nominal, opened_with, Output, output_of, own_bytes, row_fields, RowView, SectionFields, sections_in_force, seen_in, Stamp, Stored, Tick, Ticks, Who, with_entry, World}
use Rattle.pdc_history.proofs.{Lists.{head_of, tail_of}, Made.{tick_ticks}, Moments.{before, given_then, is_itself, Moment, moment, sent_now, stays_sent, then}, Order.{after, same_given}, Senders.{AsLayout, AsRow, few_columns, layout_fields, owned, start_fits, tick_run}}

-- ---- two moments of a history

pub data Earlier (X Y : List Happened) : Type 0 where
  Second : (more : List Happened) → X ≡ more ++ Y → Earlier X Y
  First : (more : List Happened) → Y ≡ more ++ X → Earlier X Y

pub compared : (a b X Y : List Happened) → a ++ X ≡ b ++ Y → Earlier X Y
compared [] b X Y q = Second b q
compared (x ∷ a) [] X Y q = First (x ∷ a) (sym q)
compared (x ∷ a) (y ∷ b) X Y q = compared a b X Y (tail_of q)

-- ---- while a stamp stands, the sections do

abbrev pub sections_at : World → List Happened → Who → List SectionFields
sections_at W H who = sections_in_force (given_in W H who) (life_of H who)

pub same_in_life : LifeLaws → (g : Given) (F E : List Entry) → changes (F ++ E) ≡ changes E → sections_in_force g (F ++ E) ≡ sections_in_force g E
same_in_life L g F E q = ap (λ (f : ℕ → Option SectionFields). filter_map f (columns_of g)) (λ i c. L.same_sections g E F q c i)

later_sections : LifeLaws → (W : World) (later H : List Happened) (who : Who) → IsHistory W (later ++ H) → (given_in W (later ++ H) who).start ≡ (given_in W H who).start
    → changes (life_of (later ++ H) who) ≡ changes (life_of H who) → sections_at W (later ++ H) who ≡ sections_at W H who
later_sections L W later H who is starts same_changes = elim (after L W later H who is) [
  | inl s ↦
      ap (λ (g : Given). sections_in_force g (life_of (later ++ H) who)) (same_given W later H who s)
      ∙ ap (λ (E : List Entry). sections_in_force (given_in W H who) E) s.life
      ∙ same_in_life L (given_in W H who) s.more (life_of H who) (sym (ap changes s.life) ∙ same_changes)
  | inr n ↦ absurd (omega (arith, n.start, starts))
]

at_either : LifeLaws → (W : World) (H X Y a : List Happened) (who : Who) → IsHistory W H → H ≡ a ++ X → (given_in W X who).start ≡ (given_in W Y who).start
    → changes (life_of X who) ≡ changes (life_of Y who) → (more : List Happened) → X ≡ more ++ Y → sections_at W X who ≡ sections_at W Y who
at_either L W H X Y a who is stands starts same_changes more q =
    ap (λ (Z : List Happened). sections_at W Z who) q
    ∙ later_sections L W more Y who (subst (IsHistory W) q (before W a X (subst (IsHistory W) stands is)))
    (subst (λ (Z : List Happened). (given_in W Z who).start ≡ (given_in W Y who).start) q starts)
    (subst (λ (Z : List Happened). changes (life_of Z who) ≡ changes (life_of Y who)) q same_changes)

pub same_stamp : LifeLaws → (W : World) (H X Y a b : List Happened) (who : Who) → IsHistory W H → H ≡ a ++ X → H ≡ b ++ Y → (given_in W X who).start ≡ (given_in W Y who).start
    → changes (life_of X who) ≡ changes (life_of Y who) → sections_at W X who ≡ sections_at W Y who
same_stamp L W H X Y a b who is x y starts same_changes = elim (compared a b X Y (sym x ∙ y)) [
  | Second more q ↦ at_either L W H X Y a who is x starts same_changes more q
  | First more q ↦ sym (at_either L W H Y X b who is y (sym starts) (sym same_changes) more q)
]

-- ---- the layout of a tick that adopted

pub life_after_tick : (H : List Happened) (who : Who) (e : Entry) → life_of (Ticks who e ∷ H) who ≡ e ∷ life_of H who
life_after_tick H who e = ap (λ (b : Bool). with_entry (cond b (Some e) None) (life_of H who)) (is_itself who)

-- the sections that a layout frame of the owner bears are those of the tick that sent it
pub record IsOfTick (W : World) (H : List Happened) (who : Who) (stamp : Stamp) (sections : List SectionFields) : Type 0 where
  pub later : List Happened
  pub earlier : List Happened
  pub e : Entry
  pub stands : H ≡ later ++ Ticks who e ∷ earlier
  pub adopts : is_adoption e ≡ true
  pub start : stamp.start ≡ (given_in W earlier who).start
  pub change : stamp.change ≡ changes (e ∷ life_of earlier who)
  pub same : sections ≡ sections_in_force (given_in W earlier who) (e ∷ life_of earlier who)

own_stamp : FrameLaws → (id : ℕ) (output : Output) (bytes : List ℕ) (stamp : Stamp) (start change : ℕ) → start < 2 ^ 32 → change < 2 ^ 32 → IsOwn id bytes stamp
    → bytes ≡ own_bytes output.id.value output.nominal start change → (stamp.start ≡ start) × (stamp.change ≡ change)
own_stamp F id output bytes stamp start change s c own q = elim own.spelled [
  | inl h ↦ F.stamps id output.id.value Hz50 output.nominal stamp.start stamp.change start change own.start_fits own.change_fits s c (sym h ∙ q)
  | inr h ↦ F.stamps id output.id.value Hz60 output.nominal stamp.start stamp.change start change own.start_fits own.change_fits s c (sym h ∙ q)
]

from_layout : LifeLaws → FrameLaws → (W : World) (H later earlier : List Happened) (who : Who) (e : Entry) (stamp : Stamp) (sections : List SectionFields) → IsHistory W H → (k : IsLayoutSent (seen_in W H) who stamp sections)
    → H ≡ later ++ Ticks who e ∷ earlier → is_adoption e ≡ true → IsFrame k.bytes (layout_fields (given_in W earlier who) (e ∷ life_of earlier who)) → IsOfTick W H who stamp sections
from_layout L F W H later earlier who e stamp sections is k stands adopts frame =
    let then : IsHistory W (Ticks who e ∷ earlier) = before W later (Ticks who e ∷ earlier) (subst (IsHistory W) stands is) in
    let g : Given = given_in W earlier who in
    let E : List Entry = e ∷ life_of earlier who in
    let run : IsRun g E = tick_run L W earlier who e then.1 then.0 in
    let layout = (F.layouts g E 0 run (few_columns (kind_of W who)) (omega arith)).1 in
    let one : k.has.fields ≡ layout_fields g E = F.one_frame k.bytes k.has.fields (layout_fields g E) k.has.of_stream.frame frame in
    let config : k.config ≡ layout.config =
    F.one_config (layout_payload_of g.output g.start (changes E) (sections_in_force g E)) k.config layout.config (subst (λ (p : List ℕ). IsConfig p k.config) (ap (λ (f : Fields). f.payload) one) k.has.config) layout.spelled in
    let parts : k.own ∷ sections ≡ layout.own ∷ sections_in_force g E = sym k.all ∙ ap (λ (c : ConfigFields). c.sections) config ∙ layout.sections in
    let own : k.own ≡ layout.own = head_of parts in
    let stamps = own_stamp F (output_of W who).id.value g.output k.own.bytes stamp g.start (changes E) (start_fits L W earlier who then.1) (L.changes_fit g E run.ticked) k.itself
    (ap (λ (s : SectionFields). s.bytes) own ∙ layout.itself) in
    record {
      later = later;
      earlier = earlier;
      e = e;
      stands = stands;
      adopts = adopts;
      start = stamps.0;
      change = stamps.1;
      same = tail_of parts;
    }

-- data is no layout
not_data : (f : Fields) (output : Output) (row : RowView) → f.kind ≡ Cfg2 → f ≡ row_fields output row → ⊥
not_data f output row k q = let e : Cfg2 ≡ DataFrame = sym k ∙ ap (λ (x : Fields). x.kind) q in cc

pub layout_is_of_tick : LifeLaws → FrameLaws → (W : World) (H : List Happened) (who : Who) (stamp : Stamp) (sections : List SectionFields) → IsHistory W H → IsLayoutSent (seen_in W H) who stamp sections → IsOfTick W H who stamp sections
layout_is_of_tick L F W H who stamp sections is k = elim (owned L F W H who k.bytes k.has.fields is k.among k.has.of_stream.frame k.has.of_stream.id) [
  | AsLayout later earlier e stands adopts spelled frame ↦ from_layout L F W H later earlier who e stamp sections is k stands adopts frame
  | AsRow later earlier row stands spelled frame ↦
      absurd (not_data k.has.fields (output_of W who) row k.has.kind (F.one_frame k.bytes k.has.fields (row_fields (output_of W who) row) k.has.of_stream.frame frame))
]

-- the history at the tick
abbrev at_tick : (W : World) (H : List Happened) (who : Who) (stamp : Stamp) (sections : List SectionFields) → IsOfTick W H who stamp sections → List Happened
at_tick W H who stamp sections t = Ticks who t.e ∷ t.earlier

pub given_at_tick : (W : World) (H : List Happened) (who : Who) (e : Entry) → given_in W (Ticks who e ∷ H) who ≡ given_in W H who
given_at_tick W H who e = refl

pub at_sections : (W : World) (H : List Happened) (who : Who) (stamp : Stamp) (sections : List SectionFields) (t : IsOfTick W H who stamp sections) → sections ≡ sections_at W (Ticks who t.e ∷ t.earlier) who
at_sections W H who stamp sections t = t.same ∙ ap (sections_in_force (given_in W t.earlier who)) (sym (life_after_tick t.earlier who t.e))

both_of_ticks : LifeLaws → (W : World) (H : List Happened) (who : Who) (stamp : Stamp) (sections others : List SectionFields) → IsHistory W H → IsOfTick W H who stamp sections → IsOfTick W H who stamp others → sections ≡ others
both_of_ticks L W H who stamp sections others is s t =
    at_sections W H who stamp sections s
    ∙ same_stamp L W H (Ticks who s.e ∷ s.earlier) (Ticks who t.e ∷ t.earlier) s.later t.later who is s.stands t.stands (sym s.start ∙ t.start)
    (ap changes (life_after_tick s.earlier who s.e) ∙ sym s.change ∙ t.change ∙ sym (ap changes (life_after_tick t.earlier who t.e)))
    ∙ sym (at_sections W H who stamp others t)

-- a layout frame never bears change 0
one_counted : (e : Entry) (E : List Entry) → is_adoption e ≡ true → changes (e ∷ E) ≡ 0 → ⊥
one_counted e E a q = some (is_adoption e) (filter is_adoption E) a q
  where
    some : (b : Bool) (es : List Entry) → b ≡ true → length (cond b (e ∷ es) es) ≡ 0 → ⊥
    some true es a q = omega (arith, q)
    some false es a q = false≢true a

never_zero : (W : World) (H : List Happened) (who : Who) (stamp : Stamp) (sections : List SectionFields) → IsOfTick W H who stamp sections → stamp.change ≡ 0 → ⊥
never_zero W H who stamp sections t q = one_counted t.e (life_of t.earlier who) t.adopts (sym t.change ∙ q)

pub layouts_are_one : LifeLaws → FrameLaws → LayoutsAreOne
layouts_are_one L F W H who stamp sections others is (inl a) (inl b) = a.1 ∙ sym b.1
layouts_are_one L F W H who stamp sections others is (inl a) (inr b) = absurd (never_zero W H who stamp others (layout_is_of_tick L F W H who stamp others is b) a.0)
layouts_are_one L F W H who stamp sections others is (inr a) (inl b) = absurd (never_zero W H who stamp sections (layout_is_of_tick L F W H who stamp sections is a) b.0)
layouts_are_one L F W H who stamp sections others is (inr a) (inr b) =
    both_of_ticks L W H who stamp sections others is (layout_is_of_tick L F W H who stamp sections is a) (layout_is_of_tick L F W H who stamp others is b)

-- ---- each moment's layout was sent

-- the last adoption of a life
record LastAdoption (E : List Entry) : Type 0 where
  later : List Entry
  e : Entry
  earlier : List Entry
  stands : E ≡ later ++ e ∷ earlier
  adopts : is_adoption e ≡ true
  same : changes (later ++ e ∷ earlier) ≡ changes (e ∷ earlier)

on_adoption : (e : Entry) (E : List Entry) (b : Bool) → is_adoption e ≡ b → (changes E ≡ 0) ⊎ LastAdoption E → (changes (e ∷ E) ≡ 0) ⊎ LastAdoption (e ∷ E)
on_adoption e E true q k = inr (record { later = []; e = e; earlier = E; stands = refl; adopts = q; same = refl })
on_adoption e E false q (inl none) = inl (ap (λ (b : Bool). length (cond b (e ∷ filter is_adoption E) (filter is_adoption E))) q ∙ none)
on_adoption e E false q (inr l) = inr (record {
  later = e ∷ l.later;
  e = l.e;
  earlier = l.earlier;
  stands = ap (λ (es : List Entry). e ∷ es) l.stands;
  adopts = l.adopts;
  same = ap (λ (b : Bool). length (cond b (e ∷ filter is_adoption (l.later ++ l.e ∷ l.earlier)) (filter is_adoption (l.later ++ l.e ∷ l.earlier)))) q ∙ l.same;
})

last_adoption : (E : List Entry) → (changes E ≡ 0) ⊎ LastAdoption E
last_adoption [] = inl refl
last_adoption (e ∷ E) = on_adoption e E (is_adoption e) refl (last_adoption E)

-- nothing is in force before the first
abbrev no_section : ℕ → Option SectionFields
no_section c = None

none_in : (columns : List ℕ) → filter_map no_section columns ≡ []
none_in [] = refl
none_in (c ∷ columns) = none_in columns

none_in_force : LifeLaws → (g : Given) (E : List Entry) → changes E ≡ 0 → sections_in_force g E ≡ []
none_in_force L g E q =
    sym (ap (sections_in_force g) (append-nil E)) ∙ same_in_life L g E [] (ap changes (append-nil E) ∙ q) ∙ none_in (columns_of g)

-- an adoption is a tick
adoption_ticks : (W : World) (H : List Happened) (h : Happened) (who : Who) (e : Entry) → IsMade W H h → entry_at who h ≡ Some e → is_adoption e ≡ true → h ≡ Ticks who e
adoption_ticks W H h who (Tick now counts answer) made q a = tick_ticks W H h who now counts answer made q
adoption_ticks W H h who e made q a = absurd (false≢true a)

own_of : (W : World) (who : Who) (mark : Stored) (bytes : List ℕ) (start change : ℕ) → start < 2 ^ 32 → change < 2 ^ 32
    → bytes ≡ own_bytes (given_by W who mark).output.id.value (given_by W who mark).output.nominal start change → IsOwn (output_of W who).id.value bytes (record { start = start; change = change })
own_of W who mark bytes start change s c q = record {
  start_fits = s;
  change_fits = c;
  spelled = either (output_of W who).nominal q;
}
  where
    either : (n : Nominal) → bytes ≡ own_bytes (output_of W who).id.value n start change → (bytes ≡ own_bytes (output_of W who).id.value Hz50 start change) ⊎ (bytes ≡ own_bytes (output_of W who).id.value Hz60 start change)
    either Hz50 q = inl q
    either Hz60 q = inr q

in_cond : (b : Bool) (x : List ℕ) → b ≡ true → Contains (cond b (x ∷ []) []) x
in_cond true x q = (0, omega arith, refl)
in_cond false x q = absurd (false≢true q)

-- the layout of a tick that adopted is among what was sent
layout_sent : LifeLaws → FrameLaws → (W : World) (later H : List Happened) (who : Who) (e : Entry) → IsHistory W (later ++ Ticks who e ∷ H) → is_adoption e ≡ true
    → IsLayoutSent (seen_in W (later ++ Ticks who e ∷ H)) who (record { start = (given_in W H who).start; change = changes (e ∷ life_of H who) }) (sections_in_force (given_in W H who) (e ∷ life_of H who))
layout_sent L F W later H who e is adopts =
    let then : IsHistory W (Ticks who e ∷ H) = before W later (Ticks who e ∷ H) is in
    let g : Given = given_in W H who in
    let E : List Entry = e ∷ life_of H who in
    let run : IsRun g E = tick_run L W H who e then.1 then.0 in
    let both = F.layouts g E 0 run (few_columns (kind_of W who)) (omega arith) in
    record {
      bytes = layout_wire g E 0;
      among = stays_sent W later (Ticks who e ∷ H) (layout_wire g E 0) (sent_now W H (Ticks who e) (layout_wire g E 0) (in_cond (is_adoption e) (layout_wire g E 0) adopts));
      config = both.1.config;
      has = record {
        fields = layout_fields g E;
        of_stream = record { frame = both.0; id = refl };
        kind = refl;
        config = both.1.spelled;
      };
      own = both.1.own;
      all = both.1.sections;
      itself = own_of W who (opened_with W H who) both.1.own.bytes g.start (changes E) (start_fits L W H who then.1) (L.changes_fit g E run.ticked) both.1.itself;
    }

abbrev pub stamp_at : World → List Happened → Who → Stamp
stamp_at W H who = record { start = (given_in W H who).start; change = changes (life_of H who) }

from_adoption : LifeLaws → FrameLaws → (W : World) (later H : List Happened) (who : Who) → IsHistory W (later ++ H) → LastAdoption (life_of H who)
    → IsLayoutSent (seen_in W (later ++ H)) who (stamp_at W H who) (sections_at W H who)
from_adoption L F W later H who is l =
    let now : IsHistory W H = before W later H is in
    let m : Moment W H who l.e l.earlier = moment W H who l.later l.e l.earlier l.stands in
    let made : IsMade W m.earlier m.h = (then W H who l.e l.earlier now m).0 in
    let ticked : m.h ≡ Ticks who l.e = adoption_ticks W m.earlier m.h who l.e made m.entry l.adopts in
    let whole : H ≡ m.later ++ Ticks who l.e ∷ m.earlier = m.stands ∙ ap (λ (x : Happened). m.later ++ x ∷ m.earlier) ticked in
    let all : later ++ H ≡ (later ++ m.later) ++ Ticks who l.e ∷ m.earlier = ap (λ (xs : List Happened). later ++ xs) whole ∙ sym (append_assoc later m.later (Ticks who l.e ∷ m.earlier)) in
    let g : given_in W m.earlier who ≡ given_in W H who = given_then W H who l.e l.earlier m in
    let one : changes (life_of H who) ≡ changes (l.e ∷ l.earlier) = ap changes l.stands ∙ l.same in
    let was = layout_sent L F W (later ++ m.later) m.earlier who l.e (subst (IsHistory W) all is) l.adopts in
    let there : IsLayoutSent (seen_in W (later ++ H)) who (record { start = (given_in W m.earlier who).start; change = changes (l.e ∷ life_of m.earlier who) }) (sections_in_force (given_in W m.earlier who) (l.e ∷ life_of m.earlier who)) =
    subst (λ (X : List Happened). IsLayoutSent (seen_in W X) who (record { start = (given_in W m.earlier who).start; change = changes (l.e ∷ life_of m.earlier who) }) (sections_in_force (given_in W m.earlier who) (l.e ∷ life_of m.earlier who))) (sym all) was in
    let given : IsLayoutSent (seen_in W (later ++ H)) who (record { start = (given_in W H who).start; change = changes (l.e ∷ life_of m.earlier who) }) (sections_in_force (given_in W H who) (l.e ∷ life_of m.earlier who)) =
    subst (λ (x : Given). IsLayoutSent (seen_in W (later ++ H)) who (record { start = x.start; change = changes (l.e ∷ life_of m.earlier who) }) (sections_in_force x (l.e ∷ life_of m.earlier who))) g there in
    let lived : IsLayoutSent (seen_in W (later ++ H)) who (record { start = (given_in W H who).start; change = changes (l.e ∷ l.earlier) }) (sections_in_force (given_in W H who) (l.e ∷ l.earlier)) =
    subst (λ (E : List Entry). IsLayoutSent (seen_in W (later ++ H)) who (record { start = (given_in W H who).start; change = changes (l.e ∷ E) }) (sections_in_force (given_in W H who) (l.e ∷ E))) m.life given in
    let sections : sections_in_force (given_in W H who) (l.e ∷ l.earlier) ≡ sections_at W H who =
    sym (ap (sections_in_force (given_in W H who)) l.stands ∙ same_in_life L (given_in W H who) l.later (l.e ∷ l.earlier) l.same) in
    subst (λ (n : ℕ). IsLayoutSent (seen_in W (later ++ H)) who (record { start = (given_in W H who).start; change = n }) (sections_at W H who)) (sym one)
    (subst (λ (s : List SectionFields). IsLayoutSent (seen_in W (later ++ H)) who (record { start = (given_in W H who).start; change = changes (l.e ∷ l.earlier) }) s) sections lived)

pub layout_at : LifeLaws → FrameLaws → (W : World) (later H : List Happened) (who : Who) → IsHistory W (later ++ H) → IsLayoutUnder (seen_in W (later ++ H)) who (stamp_at W H who) (sections_at W H who)
layout_at L F W later H who is = elim (last_adoption (life_of H who)) [
  | inl none ↦ inl (none, none_in_force L (given_in W H who) (life_of H who) none)
  | inr l ↦ inr (from_adoption L F W later H who is l)
]
