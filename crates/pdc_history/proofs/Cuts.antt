-- Data of an owner that was sent is cut under the layout of its stamp into genuine blocks, and in no other way.
use Rattle.std.proofs.Common.{[], ◌%◌, ◌*◌, ◌++◌, ◌+◌, ◌/◌, ◌<◌, ◌^◌, ◌∙◌, ◌∷◌, ◌≡◌, ap, arith, get_or, length, List, map, refl, Some, subst, suc, sym, ℕ}
use Rattle.pdc_history.proofs.Names.{AllByRecursion, append_assoc, AreGenuineBlocks, AreWords, BlockLaws, bytes_of_blocks, bytes_of_words, Cfg2, closed, Contains, DataFrame, Entry, Fields, FrameLaws, Given, given_in, Happened, HasGenuineFrames, IsCut, IsCutOf, IsCutUnder, IsData, IsFrame, IsFramedRow, IsGenuineData, IsGenuineRow, IsHistory, IsInstant, IsLayoutUnder, IsMade, IsPublishedData, life_of, LifeLaws, output_of, own_block, published, published_at, PublishedWereSent, Publishes, row_fields, row_payload, RowView, SectionFields, seen_in, sent, Shape, Stamp, stream_from, to_be_bytes, w16, Who, wire_of, words_in, words_of_row, World}
use Rattle.pdc_history.proofs.{Blocks.{blocks_stay, change_of, closed_at, ClosedAt, cut_then, genuine_then, IsGenuineAt, IsSourced, under_were_sent}, Layouts.{layout_at, layouts_are_one, same_stamp, sections_at, stamp_at}, Lists.{appended, element, head_of, mapped, tail_of}, Lives.{run_in}, Moments.{before, sent_now, stays_sent}, Senders.{AsLayout, AsRow, framed_row, layout_fields, owned, published_closed, row_frame, start_fits}}

-- ---- the own block tells the stamp

-- the words that the bytes of words write
first_of_two : (w : ℕ) → w < 2 ^ 16 → 256 * (w / 256 % 256) + w % 256 ≡ w
first_of_two w h = omega (arith, h)

pub words_come_back : (ws rest : List ℕ) → AreWords ws → words_in (bytes_of_words ws ++ rest) ≡ ws ++ words_in rest
words_come_back [] rest fits = refl
words_come_back (w ∷ ws) rest fits =
    let one : words_in (to_be_bytes w16 w ++ (bytes_of_words ws ++ rest)) ≡ w ∷ words_in (bytes_of_words ws ++ rest) = ap (λ (x : ℕ). x ∷ words_in (bytes_of_words ws ++ rest)) (omega (arith, fits 0)) in
    ap words_in (append_assoc (to_be_bytes w16 w) (bytes_of_words ws) rest) ∙ one ∙ ap (λ (xs : List ℕ). w ∷ xs) (words_come_back ws rest (λ i. fits (suc i)))

same_front : (xs ys more others : List ℕ) → length xs ≡ length ys → xs ++ more ≡ ys ++ others → xs ≡ ys
same_front [] [] more others l q = refl
same_front [] (y ∷ ys) more others l q = absurd (omega (arith, l))
same_front (x ∷ xs) [] more others l q = absurd (omega (arith, l))
same_front (x ∷ xs) (y ∷ ys) more others l q =
    let h : x ≡ y = head_of q in
    let t : xs ≡ ys = same_front xs ys more others (omega (arith, l)) (tail_of q) in
    λ i. h i ∷ t i

abbrev pub own_shape : Shape
own_shape = record { phasors = 0; analogs = 0; digitals = 4; phasors_fit = omega arith; analogs_fit = omega arith; digitals_fit = omega arith }

pub same_own : (shapes others : List Shape) (payload own other : List ℕ) (blocks more : List (List ℕ)) → IsCut (own_shape ∷ shapes) payload (own ∷ blocks) → IsCut (own_shape ∷ others) payload (other ∷ more) → own ≡ other
same_own shapes others payload own other blocks more a b =
    same_front own other (words_in (bytes_of_blocks blocks)) (words_in (bytes_of_blocks more)) (a.shaped.0 ∙ sym b.shaped.0)
    (sym (words_come_back own (bytes_of_blocks blocks) a.shaped.1) ∙ ap words_in (sym a.parts ∙ b.parts) ∙ words_come_back other (bytes_of_blocks more) b.shaped.1)

from_halves : (a b : ℕ) → a / 2 ^ 16 ≡ b / 2 ^ 16 → a % 2 ^ 16 ≡ b % 2 ^ 16 → a ≡ b
from_halves a b h k = omega (arith, h, k)

pub stamps_of_words : (a b c d : ℕ) (xs ys : List ℕ) → a / 2 ^ 16 ∷ a % 2 ^ 16 ∷ b / 2 ^ 16 ∷ b % 2 ^ 16 ∷ xs ≡ c / 2 ^ 16 ∷ c % 2 ^ 16 ∷ d / 2 ^ 16 ∷ d % 2 ^ 16 ∷ ys → (a ≡ c) × (b ≡ d)
stamps_of_words a b c d xs ys q = (
  from_halves a c (ap (λ (ws : List ℕ). get_or ws 0 0) q) (ap (λ (ws : List ℕ). get_or ws 1 0) q),
  from_halves b d (ap (λ (ws : List ℕ). get_or ws 2 0) q) (ap (λ (ws : List ℕ). get_or ws 3 0) q),
)

pub same_stamp_in : (s t : Stamp) (sections others : List SectionFields) (payload : List ℕ) (blocks more : List (List ℕ)) → IsCutUnder s sections payload blocks → IsCutUnder t others payload more → s ≡ t
same_stamp_in s t sections others payload blocks more a b =
    let own : own_block s.start s.change ≡ own_block t.start t.change =
    same_own (map (λ (x : SectionFields). x.shape) sections) (map (λ (x : SectionFields). x.shape) others) payload (own_block s.start s.change) (own_block t.start t.change) blocks more
    (a.cut own_shape refl refl refl) (b.cut own_shape refl refl refl) in
    let both = stamps_of_words s.start s.change t.start t.change [] [] (ap (drop_three) own) in
    λ i. record { start = both.0 i; change = both.1 i }
  where
    drop_three : List ℕ → List ℕ
    drop_three (a ∷ b ∷ c ∷ ws) = ws
    drop_three ws = ws

-- ---- a row that was published is genuine

pub is_genuine_at : LifeLaws → FrameLaws → BlockLaws → (W : World) (H : List Happened) (who : Who) (row : RowView) → IsSourced W who → IsHistory W H → IsMade W H (Publishes who (Some row)) → IsGenuineAt W H who row
is_genuine_at L F B W H who row S is made =
    let f : IsFramedRow (given_in W H who) (life_of H who) row = framed_row L F W H who row is made in
    let n : IsGenuineRow (given_in W H who) (life_of H who) row =
    element (IsGenuineRow (given_in W H who) (life_of H who)) (closed (life_of H who)) row (B.rows (given_in W H who) (life_of H who) (run_in L W H who is).ticked).0 (published_closed L W H who row is made) in
    let k : ClosedAt W H who f.of_tick.before = closed_at W H who row f.of_tick in
    let l : ClosedAt W H who n.of_tick.before = closed_at W H who row n.of_tick in
    let first : IsHistory W k.then = before W k.later k.then (subst (IsHistory W) k.stands is) in
    let second : IsHistory W l.then = before W l.later l.then (subst (IsHistory W) l.stands is) in
    let same : sections_at W k.then who ≡ sections_at W l.then who =
    same_stamp L W H k.then l.then k.later l.later who is k.stands l.stands (ap (λ (g : Given). g.start) k.given ∙ sym (ap (λ (g : Given). g.start) l.given))
    (change_of W H who row f.of_tick k ∙ sym (change_of W H who row n.of_tick l)) in
    let blocks : AreGenuineBlocks (seen_in W (l.later ++ l.then)) row.instant (sections_at W l.then who) (words_of_row row) =
    blocks_stay W l.later l.then row.instant (sections_at W l.then who) (words_of_row row) (genuine_then W H who row n l S second) in
    record {
      later = k.later;
      then = k.then;
      stands = k.stands;
      cut = cut_then L F W H who row f k first (start_fits L W k.then who first);
      blocks = subst (λ (ss : List SectionFields). AreGenuineBlocks (seen_in W H) row.instant ss (words_of_row row)) (sym same)
          (subst (λ (X : List Happened). AreGenuineBlocks (seen_in W X) row.instant (sections_at W l.then who) (words_of_row row)) (sym l.stands) blocks);
    }

-- the frame of a row has the row's instant
pub row_instant : FrameLaws → (W : World) (who : Who) (row : RowView) → IsInstant (row_fields (output_of W who) row).soc (row_fields (output_of W who) row).frac (output_of W who).time_base (output_of W who).rate row.instant
row_instant F W who row =
    (F.instant (row_fields (output_of W who) row).soc (row_fields (output_of W who) row).frac (output_of W who).time_base (output_of W who).rate row.instant).0
    (F.tag row.instant (output_of W who).time_base (output_of W who).rate (output_of W who).rate_low (output_of W who).time_base_low)

abbrev GenuineFrom : World → List Happened → Who → RowView → Type 0
GenuineFrom W H who row = IsGenuineData (seen_in W H) who row.instant (row_payload row)

of_row : LifeLaws → FrameLaws → BlockLaws → (W : World) (H later earlier : List Happened) (who : Who) (row : RowView) → IsSourced W who → IsHistory W H → H ≡ later ++ Publishes who (Some row) ∷ earlier → GenuineFrom W H who row
of_row L F B W H later earlier who row S is stands =
    let here : IsHistory W (Publishes who (Some row) ∷ earlier) = before W later (Publishes who (Some row) ∷ earlier) (subst (IsHistory W) stands is) in
    let n : IsGenuineAt W earlier who row = is_genuine_at L F B W earlier who row S here.1 here.0 in
    let pre : List Happened = later ++ Publishes who (Some row) ∷ [] in
    let at_earlier : H ≡ pre ++ earlier = stands ∙ sym (append_assoc later (Publishes who (Some row) ∷ []) earlier) in
    let at_then : H ≡ (pre ++ n.later) ++ n.then = at_earlier ∙ ap (λ (X : List Happened). pre ++ X) n.stands ∙ sym (append_assoc pre n.later n.then) in
    let under : IsLayoutUnder (seen_in W ((pre ++ n.later) ++ n.then)) who (stamp_at W n.then who) (sections_at W n.then who) = layout_at L F W (pre ++ n.later) n.then who (subst (IsHistory W) at_then is) in
    record {
      stamp = stamp_at W n.then who;
      sections = sections_at W n.then who;
      blocks = words_of_row row;
      is_cut = record { under = subst (λ (X : List Happened). IsLayoutUnder (seen_in W X) who (stamp_at W n.then who) (sections_at W n.then who)) (sym at_then) under; cut = n.cut };
      genuine = subst (λ (X : List Happened). AreGenuineBlocks (seen_in W X) row.instant (sections_at W n.then who) (words_of_row row)) (sym at_earlier) (blocks_stay W pre earlier row.instant (sections_at W n.then who) (words_of_row row) n.blocks);
    }

-- a layout is no data
not_layout : (f : Fields) (g : Given) (E : List Entry) → f.kind ≡ DataFrame → f ≡ layout_fields g E → ⊥
not_layout f g E k q = let e : DataFrame ≡ Cfg2 = sym k ∙ ap (λ (x : Fields). x.kind) q in cc

from_row : LifeLaws → FrameLaws → BlockLaws → (W : World) (H later earlier : List Happened) (who : Who) (bytes : List ℕ) (i quality : ℕ) (payload : List ℕ) (row : RowView) → IsSourced W who → IsHistory W H
    → IsData (stream_from W who) bytes i quality payload → H ≡ later ++ Publishes who (Some row) ∷ earlier → IsFrame bytes (row_fields (output_of W who) row) → IsGenuineData (seen_in W H) who i payload
from_row L F B W H later earlier who bytes i quality payload row S is d stands frame =
    let one : d.fields ≡ row_fields (output_of W who) row = F.one_frame bytes d.fields (row_fields (output_of W who) row) d.of_stream.frame frame in
    let instant : i ≡ row.instant =
    F.one_instant (row_fields (output_of W who) row).soc (row_fields (output_of W who) row).frac (output_of W who).time_base (output_of W who).rate i row.instant
    (subst (λ (f : Fields). IsInstant f.soc f.frac (output_of W who).time_base (output_of W who).rate i) one d.tag) (row_instant F W who row) in
    let same : payload ≡ row_payload row = sym d.same_payload ∙ ap (λ (f : Fields). f.payload) one in
    subst (λ (p : List ℕ). IsGenuineData (seen_in W H) who i p) (sym same) (subst (λ (n : ℕ). IsGenuineData (seen_in W H) who n (row_payload row)) (sym instant) (of_row L F B W H later earlier who row S is stands))

every_frame : LifeLaws → FrameLaws → BlockLaws → (W : World) (H : List Happened) (who : Who) (bytes : List ℕ) (i quality : ℕ) (payload : List ℕ) → IsSourced W who → IsHistory W H
    → Contains (sent W H) bytes → IsData (stream_from W who) bytes i quality payload → IsGenuineData (seen_in W H) who i payload
every_frame L F B W H who bytes i quality payload S is k d = elim (owned L F W H who bytes d.fields is k d.of_stream.frame d.of_stream.id) [
  | AsLayout later earlier e stands adopts spelled frame ↦
      absurd (not_layout d.fields (given_in W earlier who) (e ∷ life_of earlier who) d.kind (F.one_frame bytes d.fields (layout_fields (given_in W earlier who) (e ∷ life_of earlier who)) d.of_stream.frame frame))
  | AsRow later earlier row stands spelled frame ↦ from_row L F B W H later earlier who bytes i quality payload row S is d stands frame
]

-- ---- there is no other cut

-- two cuts of one payload, under layouts of its stamps, are one
pub record IsOneCut (s t : Stamp) (sections others : List SectionFields) (blocks more : List (List ℕ)) : Type 0 where
  pub one_stamp : s ≡ t
  pub one_layout : sections ≡ others
  pub one_split : blocks ≡ more

pub one_cut : LifeLaws → FrameLaws → (W : World) (H : List Happened) (who : Who) (payload : List ℕ) (s t : Stamp) (sections others : List SectionFields) (blocks more : List (List ℕ)) → IsHistory W H
    → IsCutOf (seen_in W H) who payload s sections blocks → IsCutOf (seen_in W H) who payload t others more → IsOneCut s t sections others blocks more
one_cut L F W H who payload s t sections others blocks more is a b =
    let stamp : s ≡ t = same_stamp_in s t sections others payload blocks more a.cut b.cut in
    let layout : sections ≡ others = layouts_are_one L F W H who t sections others is (subst (λ (x : Stamp). IsLayoutUnder (seen_in W H) who x sections) stamp a.under) b.under in
    let first : IsCut (own_shape ∷ map (λ (x : SectionFields). x.shape) others) payload (own_block s.start s.change ∷ blocks) =
    subst (λ (ss : List SectionFields). IsCut (own_shape ∷ map (λ (x : SectionFields). x.shape) ss) payload (own_block s.start s.change ∷ blocks)) layout (a.cut.cut own_shape refl refl refl) in
    record {
      one_stamp = stamp;
      one_layout = layout;
      one_split = tail_of
          (F.one_cut (own_shape ∷ map (λ (x : SectionFields). x.shape) others) payload (own_block s.start s.change ∷ blocks) (own_block t.start t.change ∷ more)
          first (b.cut.cut own_shape refl refl refl));
    }

pub of_one_cut : LifeLaws → FrameLaws → (W : World) (H : List Happened) (who : Who) (i : ℕ) (payload : List ℕ) (t : Stamp) (others : List SectionFields) (more : List (List ℕ)) → IsHistory W H
    → IsGenuineData (seen_in W H) who i payload → IsCutOf (seen_in W H) who payload t others more → AreGenuineBlocks (seen_in W H) i others more
of_one_cut L F W H who i payload t others more is n b =
    let one : IsOneCut n.stamp t n.sections others n.blocks more = one_cut L F W H who payload n.stamp t n.sections others n.blocks more is n.is_cut b in
    subst (λ (ss : List SectionFields). AreGenuineBlocks (seen_in W H) i ss more) one.one_layout (subst (AreGenuineBlocks (seen_in W H) i n.sections) one.one_split n.genuine)

pub genuine_frames : LifeLaws → FrameLaws → BlockLaws → (W : World) (H : List Happened) (who : Who) → IsSourced W who → IsHistory W H → HasGenuineFrames (seen_in W H) who
genuine_frames L F B W H who S is = record {
  sections = λ stamp sections under. under_were_sent L F W H who stamp sections S is under;
  every_frame = λ bytes i quality payload k d. every_frame L F B W H who bytes i quality payload S is k d;
  every_cut = λ bytes i quality payload stamp sections blocks k d c.
      of_one_cut L F W H who i payload stamp sections blocks is (every_frame L F B W H who bytes i quality payload S is k d) c;
}

-- ---- what was published was sent

still_published : (W : World) (H : List Happened) (h : Happened) (r : Who × RowView) → IsPublishedData W H r → IsPublishedData W (h ∷ H) r
still_published W H h r k = record { among = stays_sent W (h ∷ []) H (wire_of (output_of W r.0) r.1) k.among; is_data = k.is_data }

published_now : LifeLaws → FrameLaws → (W : World) (H : List Happened) (v : Who) (row : RowView) → IsHistory W (Publishes v (Some row) ∷ H) → IsPublishedData W (Publishes v (Some row) ∷ H) (v, row)
published_now L F W H v row is = record {
  among = sent_now W H (Publishes v (Some row)) (wire_of (output_of W v) row) (0, omega arith, refl);
  is_data = record {
    fields = row_fields (output_of W v) row;
    of_stream = record { frame = row_frame L F W H v row is.1 is.0; id = refl };
    kind = refl;
    same_quality = refl;
    same_payload = refl;
    tag = row_instant F W v row;
  };
}

all_published : LifeLaws → FrameLaws → (W : World) (H : List Happened) (h : Happened) → IsHistory W (h ∷ H) → AllByRecursion (IsPublishedData W (h ∷ H)) (published_at h)
all_published L F W H (Publishes v (Some row)) is = (published_now L F W H v row is, tt)
all_published L F W H h is = tt

pub published_were_sent : LifeLaws → FrameLaws → PublishedWereSent
published_were_sent L F W [] is = tt
published_were_sent L F W (h ∷ H) is =
    appended (IsPublishedData W (h ∷ H)) (published H) (published_at h)
    (mapped (IsPublishedData W H) (IsPublishedData W (h ∷ H)) (published H) (still_published W H h) (published_were_sent L F W H is.1)) (all_published L F W H h is)
