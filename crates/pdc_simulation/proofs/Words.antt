-- A section under another source and count is a section.
use Rattle.std.proofs.Common.{◌≡◌, ◌≢◌, ℕ, ◌+◌, ◌-◌, ◌/◌, ◌%◌, ◌<◌, ◌≤◌, List, length, get_or, set, ap, ◌∙◌, arith, inl, inr}
use Rattle.std.proofs.lemmas.Bool.{cases_lt}
use Rattle.std.proofs.lemmas.List.{get_or-set_other, get_or-set_same, length-set}
use Rattle.pdc_frame.specs.Bytes.{AreBytes, word_at}
use Rattle.pdc_cfg.specs.Section.{IsSection, SectionFields}
use Rattle.pdc_simulation.specs.Renamed.{renamed, with_word}

byte-other : (bytes : List ℕ) (place word j : ℕ) → j ≢ place → j ≢ place + 1 → get_or (with_word place word bytes) j 0 ≡ get_or bytes j 0
byte-other bytes place word j h k =
    get_or-set_other (set bytes place (word / 256)) (place + 1) j (word % 256) 0 k ∙ get_or-set_other bytes place j (word / 256) 0 h

word-below : (bytes : List ℕ) (place word j : ℕ) → j + 2 ≤ place → word_at (with_word place word bytes) j ≡ word_at bytes j
word-below bytes place word j h =
    let a : get_or (with_word place word bytes) j 0 ≡ get_or bytes j 0 = byte-other bytes place word j (λ e. absurd (omega (arith, h, e))) (λ e. absurd (omega (arith, h, e))) in
    let b : get_or (with_word place word bytes) (j + 1) 0 ≡ get_or bytes (j + 1) 0 = byte-other bytes place word (j + 1) (λ e. absurd (omega (arith, h, e))) (λ e. absurd (omega (arith, h, e))) in
    omega (arith, a, b)

word-above : (bytes : List ℕ) (place word j : ℕ) → place + 2 ≤ j → word_at (with_word place word bytes) j ≡ word_at bytes j
word-above bytes place word j h =
    let a : get_or (with_word place word bytes) j 0 ≡ get_or bytes j 0 = byte-other bytes place word j (λ e. absurd (omega (arith, h, e))) (λ e. absurd (omega (arith, h, e))) in
    let b : get_or (with_word place word bytes) (j + 1) 0 ≡ get_or bytes (j + 1) 0 = byte-other bytes place word (j + 1) (λ e. absurd (omega (arith, h, e))) (λ e. absurd (omega (arith, h, e))) in
    omega (arith, a, b)

word-at : (bytes : List ℕ) (place word : ℕ) → place + 2 ≤ length bytes → word_at (with_word place word bytes) place ≡ word
word-at bytes place word h =
    let a : get_or (with_word place word bytes) place 0 ≡ word / 256 =
    get_or-set_other (set bytes place (word / 256)) (place + 1) place (word % 256) 0 (λ e. absurd (omega (arith, e))) ∙ get_or-set_same bytes place (word / 256) 0 (omega (arith, h)) in
    let b : get_or (with_word place word bytes) (place + 1) 0 ≡ word % 256 =
    get_or-set_same (set bytes place (word / 256)) (place + 1) (word % 256) 0 (omega (arith, h, length-set bytes place (word / 256))) in
    omega (arith, a, b)

length-word : (bytes : List ℕ) (place word : ℕ) → length (with_word place word bytes) ≡ length bytes
length-word bytes place word = length-set (set bytes place (word / 256)) (place + 1) (word % 256) ∙ length-set bytes place (word / 256)

set-bytes : (bytes : List ℕ) (place byte : ℕ) → place < length bytes → byte < 256 → AreBytes bytes → AreBytes (set bytes place byte)
set-bytes bytes place byte within h fits j = elim (cases_lt j place) [
  | inl l ↦ (let e : get_or (set bytes place byte) j 0 ≡ get_or bytes j 0 = get_or-set_other bytes place j byte 0 (λ k. absurd (omega (arith, l, k))) in omega (arith, e, fits j))
  | inr m ↦ elim (cases_lt place j) [
    | inl l ↦ (let e : get_or (set bytes place byte) j 0 ≡ get_or bytes j 0 = get_or-set_other bytes place j byte 0 (λ k. absurd (omega (arith, l, k))) in omega (arith, e, fits j))
    | inr n ↦ (let k : j ≡ place = omega (arith, m, n) in
        let e : get_or (set bytes place byte) j 0 ≡ byte = ap (λ i. get_or (set bytes place byte) i 0) k ∙ get_or-set_same bytes place byte 0 within in omega (arith, e, h))
  ]
]

word-bytes : (bytes : List ℕ) (place word : ℕ) → place + 2 ≤ length bytes → word < 65536 → AreBytes bytes → AreBytes (with_word place word bytes)
word-bytes bytes place word h k fits =
    set-bytes (set bytes place (word / 256)) (place + 1) (word % 256) (omega (arith, h, length-set bytes place (word / 256))) (omega arith)
    (set-bytes bytes place (word / 256) (omega (arith, h)) (omega (arith, k)) fits)

pub renamed_is_section : (source count : ℕ) (s : SectionFields) → source < 65536 → count < 65536 → IsSection s → IsSection (renamed source count s)
renamed_is_section source count s h k section =
    let one : List ℕ = with_word 16 source s.bytes in
    let long : 30 ≤ length s.bytes = omega (arith, section.size) in
    let same : length one ≡ length s.bytes = length-word s.bytes 16 source in
    let low : (j : ℕ) → 18 ≤ j → j + 2 ≤ length s.bytes - 2 → word_at (with_word (length s.bytes - 2) count one) j ≡ word_at s.bytes j =
    (λ j a b. word-below one (length s.bytes - 2) count j b ∙ word-above s.bytes 16 source j a) in
    record {
      fits = word-bytes one (length s.bytes - 2) count (omega (arith, long, same)) k (word-bytes s.bytes 16 source (omega (arith, long)) h section.fits);
      size = length-word one (length s.bytes - 2) count ∙ same ∙ section.size;
      source = word-below one (length s.bytes - 2) count 16 (omega (arith, long)) ∙ word-at s.bytes 16 source (omega (arith, long));
      integers = ap (λ n. n / 2 % 8) (low 18 (omega arith) (omega (arith, long))) ∙ section.integers;
      polar = ap (λ n. n % 2) (low 18 (omega arith) (omega (arith, long))) ∙ section.polar;
      phasors = low 20 (omega arith) (omega (arith, long)) ∙ section.phasors;
      analogs = low 22 (omega arith) (omega (arith, long)) ∙ section.analogs;
      digitals = low 24 (omega arith) (omega (arith, long)) ∙ section.digitals;
      count = ap (λ n. word_at (with_word (length s.bytes - 2) count one) (n - 2)) (length-word one (length s.bytes - 2) count ∙ same) ∙ word-at one (length s.bytes - 2) count (omega (arith, long, same));
    }
