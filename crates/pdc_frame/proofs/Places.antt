-- A frame by the places of its fields: what stands there is the spelling, and a spelling has the fields there.
use Rattle.std.proofs.Common.{◌≡◌, ◌⊎◌, ℕ, suc, ◌+◌, ◌-◌, ◌*◌, ◌/◌, ◌%◌, ◌^◌, ◌<◌, ◌≤◌, List, [], ◌∷◌, ◌++◌, length, take, drop, get_or, refl, sym, ap, subst, ◌∙◌, arith, length-append, length-drop}
use Rattle.std.proofs.Math.Seq.{take-append_seam, take-append-add, get_or-append_seam}
use Rattle.std.proofs.lemmas.List.{take-append-drop, drop_all, length-take, get_or-append-add}
use Rattle.std.specs.Int.{w16, w32, to_be_bytes}
use Rattle.pdc_frame.specs.declared.frame.Kind.{Kind}
use Rattle.pdc_words.specs.Bytes.{AreBytes, word_at, long_at}
use Rattle.pdc_words.specs.CheckWord.{check_word_of}
use Rattle.pdc_frame.specs.Frame.{Fields, fields_in, number_of, before_check, spelling_of, IsFrame, IsChecked, check_in}
use Rattle.pdc_words.proofs.Polynomials.{IsCheckWord-check_word_of}
use Rattle.pdc_words.proofs.Cells.{cells_from, drop-cells_from, word_cells, long_cells, AreBytes-take, AreBytes-drop}

-- the fields stand in their places
pub record ArePlaces (bytes : List ℕ) (f : Fields) : Type 0 where
  pub long : 16 ≤ length bytes
  pub first : get_or bytes 0 0 ≡ 170
  pub second : get_or bytes 1 0 ≡ 16 * number_of f.kind + f.version
  pub size : word_at bytes 2 ≡ length bytes
  pub id : f.id ≡ word_at bytes 4
  pub soc : f.soc ≡ long_at bytes 6
  pub fracsec : f.quality * 2 ^ 24 + f.frac ≡ long_at bytes 10
  pub payload : f.payload ≡ take (length bytes - 16) (drop 14 bytes)
  pub check : check_in bytes ≡ check_word_of (take (length bytes - 2) bytes)

-- fourteen cells that are those of the fields, and the payload
before-cells : (f : Fields) (b0 b1 b2 b3 b4 b5 b6 b7 b8 b9 b10 b11 b12 b13 : ℕ) (payload : List ℕ) → b2 < 256 → b3 < 256 → b4 < 256 → b5 < 256
    → b6 < 256 → b7 < 256 → b8 < 256 → b9 < 256 → b10 < 256 → b11 < 256 → b12 < 256 → b13 < 256
    → b0 ≡ 170 → b1 ≡ 16 * number_of f.kind + f.version → length f.payload + 16 ≡ 256 * b2 + b3 → f.id ≡ 256 * b4 + b5 → f.soc ≡ 65536 * (256 * b6 + b7) + (256 * b8 + b9)
    → f.quality * 2 ^ 24 + f.frac ≡ 65536 * (256 * b10 + b11) + (256 * b12 + b13) → f.payload ≡ payload
    → b0 ∷ b1 ∷ b2 ∷ b3 ∷ b4 ∷ b5 ∷ b6 ∷ b7 ∷ b8 ∷ b9 ∷ b10 ∷ b11 ∷ b12 ∷ b13 ∷ payload ≡ before_check f
before-cells f b0 b1 b2 b3 b4 b5 b6 b7 b8 b9 b10 b11 b12 b13 payload h2 h3 h4 h5 h6 h7 h8 h9 h10 h11 h12 h13 first second size id soc fracsec same =
    let sizes : to_be_bytes w16 (length f.payload + 16) ≡ b2 ∷ b3 ∷ [] = word_cells (length f.payload + 16) b2 b3 h2 h3 size in
    let ids : to_be_bytes w16 f.id ≡ b4 ∷ b5 ∷ [] = word_cells f.id b4 b5 h4 h5 id in
    let socs : to_be_bytes w32 f.soc ≡ b6 ∷ b7 ∷ b8 ∷ b9 ∷ [] = long_cells f.soc b6 b7 b8 b9 h6 h7 h8 h9 soc in
    let fracsecs : to_be_bytes w32 (f.quality * 2 ^ 24 + f.frac) ≡ b10 ∷ b11 ∷ b12 ∷ b13 ∷ [] = long_cells (f.quality * 2 ^ 24 + f.frac) b10 b11 b12 b13 h10 h11 h12 h13 fracsec in
    cc

-- everything before CHK
pub before-places : (bytes : List ℕ) (f : Fields) → AreBytes bytes → ArePlaces bytes f → take (length bytes - 2) bytes ≡ before_check f
before-places bytes f fits h =
    let whole : bytes ≡ cells_from bytes 0 14 ++ drop 14 bytes = drop-cells_from bytes 0 14 (omega (arith, h.long)) in
    let m : ℕ = length bytes - 16 in
    let len : length bytes - 2 ≡ 14 + m = omega (arith, h.long) in
    let cut : take (length bytes - 2) bytes ≡ cells_from bytes 0 14 ++ take m (drop 14 bytes) = ap (λ (k : ℕ). take k bytes) len ∙ ap (λ (xs : List ℕ). take (14 + m) xs) whole ∙ take-append-add (cells_from bytes 0 14) (drop 14 bytes) m in
    let payload_len : length f.payload + 16 ≡ length bytes = omega (arith, h.long, ap length h.payload, length-take m (drop 14 bytes), length-drop 14 bytes) in
    cut ∙ before-cells f _ _ _ _ _ _ _ _ _ _ _ _ _ _ (take m (drop 14 bytes)) (fits 2) (fits 3) (fits 4) (fits 5) (fits 6) (fits 7) (fits 8) (fits 9) (fits 10) (fits 11) (fits 12) (fits 13)
    h.first h.second (payload_len ∙ sym h.size) h.id h.soc h.fracsec h.payload

pub spelled-places : (bytes : List ℕ) (f : Fields) → AreBytes bytes → ArePlaces bytes f → bytes ≡ spelling_of f
spelled-places bytes f fits h =
    let before : take (length bytes - 2) bytes ≡ before_check f = before-places bytes f fits h in
    let past : drop (length bytes - 2 + 2) bytes ≡ [] = drop_all (length bytes - 2 + 2) bytes (omega arith) in
    let tail : drop (length bytes - 2) bytes ≡ cells_from bytes (length bytes - 2) 2 = drop-cells_from bytes (length bytes - 2) 2 (omega (arith, h.long)) ∙ ap (λ (xs : List ℕ). cells_from bytes (length bytes - 2) 2 ++ xs) past in
    let next : get_or bytes (length bytes - 2 + 1) 0 ≡ get_or bytes (suc (length bytes - 2)) 0 = (let e : length bytes - 2 + 1 ≡ suc (length bytes - 2) = omega arith in ap (λ (k : ℕ). get_or bytes k 0) e) in
    let check : check_word_of (before_check f) ≡ 256 * get_or bytes (length bytes - 2) 0 + get_or bytes (suc (length bytes - 2)) 0 = ap check_word_of (sym before) ∙ sym h.check ∙ ap (λ (b : ℕ). 256 * get_or bytes (length bytes - 2) 0 + b) next in
    let cells : to_be_bytes w16 (check_word_of (before_check f)) ≡ cells_from bytes (length bytes - 2) 2 = word_cells (check_word_of (before_check f)) _ _ (fits (length bytes - 2)) (fits (suc (length bytes - 2))) check in
    sym (take-append-drop (length bytes - 2) bytes) ∙ ap (λ (xs : List ℕ). xs ++ drop (length bytes - 2) bytes) before ∙ ap (λ (xs : List ℕ). before_check f ++ xs) (tail ∙ sym cells)

-- what stands before CHK, and CHK itself
ends-with : (before : List ℕ) (bytes : List ℕ) → AreBytes bytes → bytes ≡ before ++ to_be_bytes w16 (check_word_of before) → check_in bytes ≡ check_word_of (take (length bytes - 2) bytes)
ends-with before bytes fits e =
    let tail : List ℕ = to_be_bytes w16 (check_word_of before) in
    let len : length bytes - 2 ≡ length before = omega (arith, ap length e, length-append before tail) in
    let front : take (length bytes - 2) bytes ≡ before = ap (λ (k : ℕ). take k bytes) len ∙ ap (take (length before)) e ∙ take-append_seam before tail in
    let small : check_word_of before < 2 ^ 16 = (IsCheckWord-check_word_of before (subst AreBytes front (AreBytes-take (length bytes - 2) bytes fits))).small in
    let high : get_or bytes (length bytes - 2) 0 ≡ check_word_of before / 256 % 256 =
    ap (λ (k : ℕ). get_or bytes k 0) len ∙ ap (λ (xs : List ℕ). get_or xs (length before) 0) e ∙ get_or-append_seam before (check_word_of before / 256 % 256) (check_word_of before % 256 ∷ []) 0 in
    let low : get_or bytes (length bytes - 2 + 1) 0 ≡ check_word_of before % 256 =
    ap (λ (k : ℕ). get_or bytes (k + 1) 0) len ∙ ap (λ (xs : List ℕ). get_or xs (length before + 1) 0) e ∙ get_or-append-add before tail 1 0 in
    let whole : check_in bytes ≡ check_word_of before = omega (arith, small, high, low) in
    whole ∙ ap check_word_of (sym front)

pub check-spelled : (bytes : List ℕ) (f : Fields) → AreBytes bytes → bytes ≡ spelling_of f → check_in bytes ≡ check_word_of (take (length bytes - 2) bytes)
check-spelled bytes f fits e = ends-with (before_check f) bytes fits e

-- fields that stand in their places and are in range are the frame's
pub IsFrame-places : (bytes : List ℕ) (f : Fields) → AreBytes bytes → ArePlaces bytes f → (f.version ≡ 1) ⊎ (f.version ≡ 2) → 0 < f.id → f.id < 65535 → f.frac < 2 ^ 24 → IsFrame bytes f
IsFrame-places bytes f fits h version low high frac =
    let rest : List ℕ = drop 14 bytes in
    let m : ℕ = length bytes - 16 in
    record {
      fits = record {
        version = version;
        id_low = low;
        id_high = high;
        soc = omega (arith, h.soc, fits 6, fits 7, fits 8, fits 9);
        quality = omega (arith, h.fracsec, fits 10, fits 11, fits 12, fits 13);
        frac = frac;
        size = omega (arith, h.long, h.size, ap length h.payload, length-take m rest, length-drop 14 bytes, fits 2, fits 3);
        bytes = subst AreBytes (sym h.payload) (AreBytes-take m rest (AreBytes-drop 14 bytes fits));
      };
      spelled = spelled-places bytes f fits h;
    }

-- what stands in the places of bytes that pass every test is the frame's
pub IsFrame-checked : (bytes : List ℕ) (kind : Kind) (version : ℕ) → AreBytes bytes → IsChecked bytes → get_or bytes 1 0 ≡ 16 * number_of kind + version → (version ≡ 1) ⊎ (version ≡ 2)
    → 0 < word_at bytes 4 → word_at bytes 4 < 65535 → IsFrame bytes (fields_in kind version bytes)
IsFrame-checked bytes kind version fits h second known low high =
    IsFrame-places bytes (fields_in kind version bytes) fits (record {
      long = h.0.0.0;
      first = h.0.0.1.first_byte;
      second = second;
      size = h.0.1;
      id = refl;
      soc = refl;
      fracsec = omega arith;
      payload = refl;
      check = h.1;
    }) known low high (omega arith)
