-- What gives a cell is data: at a node that of its own PMU, at the merger that of a node, cut under the layout that was held of it.
use Rattle.pdc_life.proofs.Names.{[], ◌*◌, ◌++◌, ◌+◌, ◌∙◌, ◌∷◌, ◌≡◌, AllByRecursion, Answer, ap, AreBytes, AreOfShapes, AreWords, arith, Arrive, bytes_of_blocks, bytes_of_words, cell_under, CellView, Contains, CoreKind, Data, data_answer, drop, Entry, Given, held_layout, HeldLayout, is_in_force, IsBody, IsLife, IsLifeOf, length, List, map, merged_answer, merged_cells, OfMerger, OfNode, Option, own_words, payload_len, refl, rules, rules_of, same_Some, Says, section_in_force, SectionFields, Shape, slice_get, Some, stamp_words, stream_from, stream_of, subst, suc, sym, take, take-append-drop, Taken, to_be_bytes, true, w16, word_count_of, words_in, WordsOfBytes, ℕ}
use Rattle.std.proofs.lemmas.Grind.{flat_map-append}
use Rattle.pdc_life.specs.CellData.{AreOfPayload, CellsAreData, IsCutUnder}
use Rattle.pdc_life.proofs.InTime.{merger_gives, MergerGives, node_cells, node_gives, node_words, NodeGives, taken_cells}
use Rattle.pdc_life.proofs.Lists.{contains_at, each, of_each}
use Rattle.pdc_life.proofs.MergerRuns.{all_same, drop_count, drop_words, IsSame, lives_are_runs, one_or_none, OneConfig, Parts, take_count, take_words, total, twice_total}
use Rattle.pdc_life.proofs.NodeRuns.{data_is_bytes}
use Rattle.pdc_life.proofs.Steps.{earlier, life_before}

-- ---- the words of a payload, block by block

-- the words of the blocks of these sections
abbrev pub split : Parts → List ℕ → List (List ℕ)
split [] words = []
split (part ∷ parts) words = take (word_count_of part.1.shape) words ∷ split parts (drop (word_count_of part.1.shape) words)

abbrev shapes_in : Parts → List Shape
shapes_in parts = map (λ (part : ℕ × SectionFields). part.1.shape) parts

split_shaped : (parts : Parts) (words : List ℕ) → length words ≡ total parts → AreWords words → AreOfShapes (shapes_in parts) (split parts words)
split_shaped [] words size fits = tt
split_shaped (part ∷ parts) words size fits = (
  take_count (word_count_of part.1.shape) words (omega (arith, size)),
  take_words (word_count_of part.1.shape) words fits,
  split_shaped parts (drop (word_count_of part.1.shape) words) (drop_count (word_count_of part.1.shape) (total parts) words size) (drop_words (word_count_of part.1.shape) words fits),
)

none_left : (words : List ℕ) → length words ≡ 0 → [] ≡ bytes_of_words words
none_left [] h = refl
none_left (w ∷ words) h = absurd (omega (arith, h))

two_parts : (n : ℕ) (words : List ℕ) → bytes_of_words (take n words) ++ bytes_of_words (drop n words) ≡ bytes_of_words words
two_parts n words = sym (flat_map-append (to_be_bytes w16) (take n words) (drop n words)) ∙ ap bytes_of_words (take-append-drop n words)

split_bytes : (parts : Parts) (words : List ℕ) → length words ≡ total parts → bytes_of_blocks (split parts words) ≡ bytes_of_words words
split_bytes [] words size = none_left words size
split_bytes (part ∷ parts) words size =
    let n : ℕ = word_count_of part.1.shape in
    ap (λ (bytes : List ℕ). bytes_of_words (take n words) ++ bytes) (split_bytes parts (drop n words) (drop_count n (total parts) words size)) ∙ two_parts n words

-- ---- the cells, and the blocks that they are

-- the cell is the block of a section with the count in force
record IsBlock (g : Given) (E : List Entry) (quality : ℕ) (parts : Parts) (blocks : List (List ℕ)) (cell : ℕ × CellView) : Type 0 where
  place : ℕ
  section : SectionFields
  listed : slice_get parts place ≡ Some (cell.0, section)
  block : slice_get blocks place ≡ Some cell.1.block.words
  shape : cell.1.block.shape ≡ section.shape
  same_quality : cell.1.quality ≡ quality
  in_force : is_in_force section (section_in_force g E cell.0) ≡ true

one_later : (g : Given) (E : List Entry) (quality : ℕ) (part : ℕ × SectionFields) (parts : Parts) (block : List ℕ) (blocks : List (List ℕ)) (cell : ℕ × CellView) → IsBlock g E quality parts blocks cell
    → IsBlock g E quality (part ∷ parts) (block ∷ blocks) cell
one_later g E quality part parts block blocks cell h = record {
  place = suc h.place;
  section = h.section;
  listed = h.listed;
  block = h.block;
  shape = h.shape;
  same_quality = h.same_quality;
  in_force = h.in_force;
}

cells_are_blocks : (g : Given) (E : List Entry) (quality : ℕ) (parts : Parts) (words : List ℕ) → AllByRecursion (IsBlock g E quality parts (split parts words)) (merged_cells g E quality parts words)
cells_are_blocks g E quality [] words = tt
cells_are_blocks g E quality (part ∷ parts) words =
    let n : ℕ = word_count_of part.1.shape in
    one_or_none (IsBlock g E quality (part ∷ parts) (split (part ∷ parts) words)) (is_in_force part.1 (section_in_force g E part.0)) (part.0, cell_under part.1 quality (take n words))
    (merged_cells g E quality parts (drop n words))
    (λ h. record { place = 0; section = part.1; listed = refl; block = refl; shape = refl; same_quality = refl; in_force = h })
    (each (IsBlock g E quality parts (split parts (drop n words))) (IsBlock g E quality (part ∷ parts) (split (part ∷ parts) words)) (merged_cells g E quality parts (drop n words))
    (one_later g E quality part parts (take n words) (split parts (drop n words))) (cells_are_blocks g E quality parts (drop n words)))

-- ---- what was taken

module _ (W : WordsOfBytes) where
  pub cut_under : (layout : HeldLayout) (payload : List ℕ) → AreBytes payload → own_words payload ≡ stamp_words layout.stamp.start layout.stamp.change → length payload ≡ payload_len layout.sections
      → IsCutUnder layout payload (take 7 (words_in payload)) (split layout.sections (drop 7 (words_in payload)))
  cut_under layout payload bytes stamp size =
      let words : List ℕ = words_in payload in
      let twice : length payload ≡ 2 * (7 + total layout.sections) = omega (arith, size, twice_total layout.sections) in
      let count : length words ≡ 7 + total layout.sections = W.count payload (7 + total layout.sections) twice in
      let fits : AreWords words = W.fit payload bytes in
      let left : length (drop 7 words) ≡ total layout.sections = drop_count 7 (total layout.sections) words count in
      record {
        cut = λ shape p a d. record {
          shaped = (
            take_count 7 words (omega (arith, count)) ∙ omega (arith, p, a, d),
            take_words 7 words fits,
            split_shaped layout.sections (drop 7 words) left (drop_words 7 words fits),
          );
          parts = W.spell payload (7 + total layout.sections) bytes twice ∙ sym (two_parts 7 words)
              ∙ ap (λ (blocks : List ℕ). bytes_of_words (take 7 words) ++ blocks) (sym (split_bytes layout.sections (drop 7 words) left));
        };
        stamp = stamp;
      }

-- what the cell is in the data that gave it
record IsOfData (kind : CoreKind) (before : List Entry) (s c quality : ℕ) (payload : List ℕ) (f : SectionFields) (cell : CellView) : Type 0 where
  same_quality : cell.quality ≡ quality
  shape : cell.block.shape ≡ f.shape
  words : AreOfPayload kind before s c f payload cell.block.words

-- what `bodies_are_their_words` says of bytes
abbrev pub BytesAreBodies : Type 0
BytesAreBodies = (shape : Shape) (bytes : List ℕ) → AreBytes bytes → length bytes ≡ 2 * word_count_of shape → IsBody shape bytes (words_in bytes)

module _ (once : OneConfig) (bodies : BytesAreBodies) (W : WordsOfBytes) where
  is_of : (kind : CoreKind) (g : Given) (E : List Entry) (s c i quality : ℕ) (bytes payload : List ℕ) (answer : Answer) (f : SectionFields) (cell : CellView)
      → IsLifeOf kind g (Arrive s bytes (Data i quality payload) answer ∷ E)
      → answer.outcome ≡ Taken → Contains answer.cells (c, cell) → section_in_force g E c ≡ Some f → IsOfData kind E s c quality payload f cell
  is_of (OfNode settings) g E s c i quality raw payload answer f cell life taken among force =
      let answered : answer ≡ data_answer g E s i quality payload (section_in_force g E s) = life.life.1 in
      let gives : NodeGives g E s i quality payload answer =
      subst (NodeGives g E s i quality payload) (sym answered)
      (node_gives g E s i quality payload (section_in_force g E s) refl (sym (ap (λ (a : Answer). a.outcome) answered) ∙ taken)) in
      let mine : ℕ × CellView = (s, cell_under gives.section quality (words_in payload)) in
      let same : mine ≡ (c, cell) =
      of_each (λ (part : ℕ × CellView). mine ≡ part) (mine ∷ []) (c, cell) (refl, tt)
      (subst (λ (cells : List (ℕ × CellView)). Contains cells (c, cell))
      (taken_cells g E s i (node_cells s quality payload gives.section) answer gives.is taken) among) in
      let column : s ≡ c = ap (λ (part : ℕ × CellView). part.0) same in
      let is : cell ≡ cell_under gives.section quality (words_in payload) = sym (ap (λ (part : ℕ × CellView). part.1) same) in
      let section : gives.section ≡ f = same_Some gives.section f (sym gives.in_force ∙ ap (section_in_force g E) column ∙ force) in
      let reads = life.life.0 in
      let bytes : AreBytes payload = data_is_bytes (stream_of settings reads.sender) raw i quality payload reads.reads in
      let size : length payload ≡ 2 * word_count_of f.shape = gives.size ∙ ap (λ (t : SectionFields). 2 * word_count_of t.shape) section in
      record {
        same_quality = ap (λ (x : CellView). x.quality) is;
        shape = ap (λ (x : CellView). x.block.shape) is ∙ ap (λ (t : SectionFields). t.shape) section;
        words = (column, subst (λ (words : List ℕ). IsBody f.shape payload words) (sym (ap (λ (x : CellView). x.block.words) is)) (bodies f.shape payload bytes size));
      }
  is_of (OfMerger settings) g E s c i quality raw payload answer f cell life taken among force =
      let before : IsLifeOf (OfMerger settings) g E = record { given = life.given; life = life.life.2 } in
      let reads = life.life.0 in
      let answered : answer ≡ merged_answer g E s (Data i quality payload) = life.life.1 in
      let gives : MergerGives g E s i quality payload answer =
      subst (MergerGives g E s i quality payload) (sym answered)
      (merger_gives g E s i quality payload (held_layout E s) refl (sym (ap (λ (a : Answer). a.outcome) answered) ∙ taken)) in
      let layout : HeldLayout = gives.layout in
      let words : List ℕ = node_words payload in
      let bytes : AreBytes payload = data_is_bytes (stream_from settings reads.sender) raw i quality payload reads.reads in
      let are_same : AllByRecursion (IsSame g E) layout.sections =
      all_same once settings g E s layout before (lives_are_runs once W (OfMerger settings) g E before).sound gives.held in
      let cells : answer.cells ≡ merged_cells g E quality layout.sections words = taken_cells g E s i (merged_cells g E quality layout.sections words) answer gives.is taken in
      let is : IsBlock g E quality layout.sections (split layout.sections words) (c, cell) =
      of_each (IsBlock g E quality layout.sections (split layout.sections words)) (merged_cells g E quality layout.sections words) (c, cell)
      (cells_are_blocks g E quality layout.sections words) (subst (λ (cs : List (ℕ × CellView)). Contains cs (c, cell)) cells among) in
      let here_in_force : is_in_force is.section (Some f) ≡ true =
      subst (λ (o : Option SectionFields). is_in_force is.section o ≡ true) force is.in_force in
      let count : is.section.count ≡ f.count = search (rules, here_in_force) in
      let same : is.section ≡ f =
      of_each (IsSame g E) layout.sections (c, is.section) are_same (contains_at layout.sections is.place (c, is.section) is.listed) f force count in
      record {
        same_quality = is.same_quality;
        shape = subst (λ (t : SectionFields). cell.block.shape ≡ t.shape) {x = is.section} same is.shape;
        words = record {
          layout = layout;
          held = gives.held;
          own = take 7 (words_in payload);
          blocks = split layout.sections words;
          cut = cut_under W layout payload bytes gives.stamp gives.size;
          place = is.place;
          section = subst (λ (t : SectionFields). slice_get layout.sections is.place ≡ Some (c, t)) {x = is.section} same is.listed;
          block = is.block;
        };
      }

  pub cells_are_data : CellsAreData
  cells_are_data kind g E s c i f cell life in_force given =
      let here : IsLife (rules_of kind) (Says kind) g (Arrive s given.bytes (Data i given.quality given.payload) given.answer ∷ given.earlier) =
      earlier (IsLife (rules_of kind) (Says kind) g) (life_before (rules_of kind) (Says kind) g) given.later
      (Arrive s given.bytes (Data i given.quality given.payload) given.answer ∷ given.earlier)
      (subst (λ (F : List Entry). IsLife (rules_of kind) (Says kind) g F) given.stands life.life) in
      let is : IsOfData kind given.earlier s c given.quality given.payload f cell =
      is_of kind g given.earlier s c i given.quality given.bytes given.payload given.answer f cell (record { given = life.given; life = here })
      given.taken given.among (given.in_force ∙ in_force) in
      record {
        later = given.later;
        earlier = given.earlier;
        bytes = given.bytes;
        quality = given.quality;
        payload = given.payload;
        answer = given.answer;
        stands = given.stands;
        taken = given.taken;
        reads = here.0;
        same_quality = is.same_quality;
        shape = is.shape;
        words = is.words;
      }
