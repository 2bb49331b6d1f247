-- The blocks of frames that were sent are genuine, where the sections and blocks of the owner's lives are.
use Rattle.std.proofs.Common.{[], ◌++◌, ◌<◌, ◌^◌, ◌∙◌, ◌∷◌, ◌≡◌, ap, inl, inr, List, map, None, Option, option_map, refl, Some, subst, sym, ℕ}
use Rattle.pdc_history.proofs.Names.{AllByRecursion, append_assoc, AreGenuine, AreGenuineBlocks, BlockView, changes, columns_in_force, columns_of, cons_option, Entry, filter_map, FrameLaws, Given, given_in, Happened, HasBrought, IsCut, IsCutUnder, IsFramedRow, IsGenuine, IsGenuineBlock, IsGenuineRow, IsHistory, IsLayoutUnder, IsRowOfTick, life_of, LifeLaws, own_block, row_payload, RowView, section_in_force, SectionFields, SectionWasSent, seen_in, shapes_in_force, Stamp, Tick, Ticks, WasSent, Who, words_of_row, World}
use Rattle.pdc_history.proofs.{Layouts.{at_sections, IsOfTick, layout_is_of_tick, sections_at, stamp_at}, Lists.{mapped}, Lives.{run_in}, Moments.{before, given_then, Moment, moment, stays_sent}}

-- ---- what was sent stays sent

pub section_stays : (W : World) (later H : List Happened) (s : SectionFields) → SectionWasSent (seen_in W H) s → SectionWasSent (seen_in W (later ++ H)) s
section_stays W later H s k = record {
  p = k.p;
  pmu = k.pmu;
  listed = k.listed;
  bytes = k.bytes;
  among = stays_sent W later H k.bytes k.among;
  valid = k.valid;
}

pub words_stay : (W : World) (later H : List Happened) (i : ℕ) (s : SectionFields) (words : List ℕ) → WasSent (seen_in W H) i s words → WasSent (seen_in W (later ++ H)) i s words
words_stay W later H i s words k = record {
  p = k.p;
  pmu = k.pmu;
  listed = k.listed;
  source = k.source;
  bytes = k.bytes;
  quality = k.quality;
  payload = k.payload;
  among = stays_sent W later H k.bytes k.among;
  is_data = k.is_data;
  body = k.body;
}

pub block_stays : (W : World) (later H : List Happened) (i : ℕ) (s : SectionFields) (words : List ℕ) → IsGenuineBlock (seen_in W H) i s words → IsGenuineBlock (seen_in W (later ++ H)) i s words
block_stays W later H i s words (inl a) = inl a
block_stays W later H i s words (inr k) = inr (words_stay W later H i s words k)

pub blocks_stay : (W : World) (later H : List Happened) (i : ℕ) (sections : List SectionFields) (blocks : List (List ℕ)) → AreGenuineBlocks (seen_in W H) i sections blocks → AreGenuineBlocks (seen_in W (later ++ H)) i sections blocks
blocks_stay W later H i [] [] k = tt
blocks_stay W later H i (s ∷ sections) (words ∷ blocks) k = (block_stays W later H i s words k.0, blocks_stay W later H i sections blocks k.1)
blocks_stay W later H i sections blocks k = k

-- ---- where the sections and blocks of an owner's lives come from

pub record IsSourced (W : World) (who : Who) : Type 0 where
  pub columns : (H : List Happened) (c : ℕ) (s : SectionFields) → IsHistory W H → section_in_force (given_in W H who) (life_of H who) c ≡ Some s → SectionWasSent (seen_in W H) s
  pub blocks :
      (H : List Happened) (c i : ℕ) (s : SectionFields) (b : BlockView) → IsHistory W H → HasBrought (given_in W H who) (life_of H who) c i s b → IsGenuineBlock (seen_in W H) i s b.words

-- ---- sections

from_columns : (P : SectionFields → Type 0) (f : ℕ → Option SectionFields) (c : ℕ) (o : Option SectionFields) (rest : List SectionFields) → f c ≡ o → ((s : SectionFields) → f c ≡ Some s → P s) → AllByRecursion P rest → AllByRecursion P (cons_option o rest)
from_columns P f c None rest q k a = a
from_columns P f c (Some s) rest q k a = (k s q, a)

all_columns : (P : SectionFields → Type 0) (f : ℕ → Option SectionFields) (cs : List ℕ) → ((c : ℕ) (s : SectionFields) → f c ≡ Some s → P s) → AllByRecursion P (filter_map f cs)
all_columns P f [] k = tt
all_columns P f (c ∷ cs) k = from_columns P f c (f c) (filter_map f cs) refl (k c) (all_columns P f cs k)

pub sections_were_sent : (W : World) (H : List Happened) (who : Who) → IsSourced W who → IsHistory W H → AllByRecursion (SectionWasSent (seen_in W H)) (sections_at W H who)
sections_were_sent W H who S is =
    all_columns (SectionWasSent (seen_in W H)) (section_in_force (given_in W H who) (life_of H who)) (columns_of (given_in W H who)) (λ c s q. S.columns H c s is q)

pub under_were_sent : LifeLaws → FrameLaws → (W : World) (H : List Happened) (who : Who) (stamp : Stamp) (sections : List SectionFields) → IsSourced W who → IsHistory W H → IsLayoutUnder (seen_in W H) who stamp sections → AllByRecursion (SectionWasSent (seen_in W H)) sections
under_were_sent L F W H who stamp sections S is (inl a) = subst (AllByRecursion (SectionWasSent (seen_in W H))) (sym a.1) tt
under_were_sent L F W H who stamp sections S is (inr k) =
    let t : IsOfTick W H who stamp sections = layout_is_of_tick L F W H who stamp sections is k in
    let X : List Happened = Ticks who t.e ∷ t.earlier in
    let then : IsHistory W X = before W t.later X (subst (IsHistory W) t.stands is) in
    subst (AllByRecursion (SectionWasSent (seen_in W H))) (sym (at_sections W H who stamp sections t))
    (subst (λ (Y : List Happened). AllByRecursion (SectionWasSent (seen_in W Y)) (sections_at W X who)) (sym t.stands)
    (mapped (SectionWasSent (seen_in W X)) (SectionWasSent (seen_in W (t.later ++ X))) (sections_at W X who) (section_stays W t.later X) (sections_were_sent W X who S then)))

-- ---- the history in which a row closed

pub record ClosedAt (W : World) (H : List Happened) (who : Who) (t : List Entry) : Type 0 where
  pub later : List Happened
  pub then : List Happened
  pub stands : H ≡ later ++ then
  pub life : life_of then who ≡ t
  pub given : given_in W then who ≡ given_in W H who

pub closed_at : (W : World) (H : List Happened) (who : Who) (row : RowView) → (t : IsRowOfTick (given_in W H who) (life_of H who) row) → ClosedAt W H who t.before
closed_at W H who row t =
    let m : Moment W H who (Tick t.now t.counts t.answer) t.before = moment W H who t.later (Tick t.now t.counts t.answer) t.before t.stands in
    record {
      later = m.later ++ m.h ∷ [];
      then = m.earlier;
      stands = m.stands ∙ sym (append_assoc m.later (m.h ∷ []) m.earlier);
      life = m.life;
      given = given_then W H who (Tick t.now t.counts t.answer) t.before m;
    }

-- ---- its blocks

one_genuine : (W : World) (H : List Happened) (who : Who) (c i : ℕ) (s : SectionFields) (b : BlockView) → IsSourced W who → IsHistory W H → IsGenuine (given_in W H who) (life_of H who) c i s b → IsGenuineBlock (seen_in W H) i s b.words
one_genuine W H who c i s b S is (inl a) = inl (ap (λ (x : BlockView). x.words) a)
one_genuine W H who c i s b S is (inr k) = S.blocks H c i s b is k

abbrev parts_of : (f : ℕ → Option SectionFields) → ℕ → Option (ℕ × SectionFields)
parts_of f c = option_map (λ (s : SectionFields). (c, s)) (f c)

-- the sections of columns, each with its column or without
without_column : (c : ℕ) (o : Option SectionFields) (parts : List (ℕ × SectionFields)) (rest : List SectionFields) → map (λ (p : ℕ × SectionFields). p.1) parts ≡ rest
    → map (λ (p : ℕ × SectionFields). p.1) (cons_option (option_map (λ (s : SectionFields). (c, s)) o) parts) ≡ cons_option o rest
without_column c None parts rest q = q
without_column c (Some s) parts rest q = ap (λ (ss : List SectionFields). s ∷ ss) q

without_columns : (f : ℕ → Option SectionFields) (cs : List ℕ) → map (λ (p : ℕ × SectionFields). p.1) (filter_map (parts_of f) cs) ≡ filter_map f cs
without_columns f [] = refl
without_columns f (c ∷ cs) = without_column c (f c) (filter_map (parts_of f) cs) (filter_map f cs) (without_columns f cs)

all_genuine : (W : World) (H : List Happened) (who : Who) (i : ℕ) (parts : List (ℕ × SectionFields)) (blocks : List BlockView) → IsSourced W who → IsHistory W H → AreGenuine (given_in W H who) (life_of H who) i parts blocks
    → AreGenuineBlocks (seen_in W H) i (map (λ (p : ℕ × SectionFields). p.1) parts) (map (λ (b : BlockView). b.words) blocks)
all_genuine W H who i [] [] S is k = tt
all_genuine W H who i (p ∷ parts) (b ∷ blocks) S is k = (one_genuine W H who p.0 i p.1 b S is k.0, all_genuine W H who i parts blocks S is k.1)
all_genuine W H who i parts blocks S is k = absurd k

-- a row that was published at the end of this history, cut under the sections of one earlier moment
pub record IsGenuineAt (W : World) (H : List Happened) (who : Who) (row : RowView) : Type 0 where
  pub later : List Happened
  pub then : List Happened
  pub stands : H ≡ later ++ then
  pub cut : IsCutUnder (stamp_at W then who) (sections_at W then who) (row_payload row) (words_of_row row)
  pub blocks : AreGenuineBlocks (seen_in W H) row.instant (sections_at W then who) (words_of_row row)

pub cut_then : LifeLaws → FrameLaws → (W : World) (H : List Happened) (who : Who) (row : RowView) (f : IsFramedRow (given_in W H who) (life_of H who) row) (k : ClosedAt W H who f.of_tick.before) → IsHistory W k.then
    → (given_in W k.then who).start < 2 ^ 32 → IsCutUnder (stamp_at W k.then who) (sections_at W k.then who) (row_payload row) (words_of_row row)
cut_then L F W H who row f k is fits = record {
  start_fits = fits;
  change_fits = L.changes_fit (given_in W k.then who) (life_of k.then who) (run_in L W k.then who is).ticked;
  cut = λ own a b c.
      subst (λ (g : Given). IsCut (own ∷ shapes_in_force g (life_of k.then who)) (row_payload row) (own_block g.start (changes (life_of k.then who)) ∷ words_of_row row)) (sym k.given)
      (subst (λ (E : List Entry). IsCut (own ∷ shapes_in_force (given_in W H who) E) (row_payload row) (own_block (given_in W H who).start (changes E) ∷ words_of_row row)) (sym k.life) (f.cut own a b c));
}

-- the row's change number is that of the life before its tick
pub change_of : (W : World) (H : List Happened) (who : Who) (row : RowView) (t : IsRowOfTick (given_in W H who) (life_of H who) row) (k : ClosedAt W H who t.before) → changes (life_of k.then who) ≡ row.change
change_of W H who row t k = ap changes k.life ∙ sym (ap (λ (r : RowView). r.change) t.same)

pub genuine_then : (W : World) (H : List Happened) (who : Who) (row : RowView) (f : IsGenuineRow (given_in W H who) (life_of H who) row) (k : ClosedAt W H who f.of_tick.before) → IsSourced W who → IsHistory W k.then
    → AreGenuineBlocks (seen_in W k.then) row.instant (sections_at W k.then who) (words_of_row row)
genuine_then W H who row f k S is =
    subst (λ (ss : List SectionFields). AreGenuineBlocks (seen_in W k.then) row.instant ss (words_of_row row)) (without_columns (section_in_force (given_in W k.then who) (life_of k.then who)) (columns_of (given_in W k.then who)))
    (all_genuine W k.then who row.instant (columns_in_force (given_in W k.then who) (life_of k.then who)) row.blocks S is
    (subst (λ (g : Given). AreGenuine g (life_of k.then who) row.instant (columns_in_force g (life_of k.then who)) row.blocks) (sym k.given)
    (subst (λ (E : List Entry). AreGenuine (given_in W H who) E row.instant (columns_in_force (given_in W H who) E) row.blocks) (sym k.life) f.blocks)))
