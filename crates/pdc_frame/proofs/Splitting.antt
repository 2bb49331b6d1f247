-- Every stream has a split: each byte more makes of bytes that go on such bytes, a frame or a fault.
use Rattle.std.proofs.Common.{◌≡◌, ◌≢◌, ◌⊎◌, inl, inr, ℕ, zero, suc, ◌+◌, ◌-◌, ◌/◌, ◌%◌, ◌<◌, ◌≤◌, List, [], ◌∷◌, ◌++◌, length, take, Option, Some, None, refl, sym, ap, subst, ◌∙◌, arith, append_assoc, length-append}
use Rattle.std.specs.Prelude.{flat_map, slice_index}
use Rattle.std.proofs.Math.Seq.{take-append_seam, drop-append_seam}
use Rattle.std.proofs.lemmas.List.{append-nil, length-take, get_or-take}
use Rattle.std.proofs.lemmas.List.Elements.{All-cons}
use Rattle.std.proofs.lemmas.Bool.{cases_lt}
use Rattle.pdc_frame.specs.declared.frame.Kind.{Kind}
use Rattle.pdc_frame.specs.declared.frame.Kind.TheVariants.{DataFrame, HeaderFrame, Cfg1, Cfg2, CommandFrame, Cfg3}
use Rattle.pdc_frame.specs.declared.fault.FrameFault.{FrameFault}
use Rattle.pdc_frame.specs.declared.fault.FrameFault.TheVariants.{Short, BadSync, BadCheck, BadId}
use Rattle.pdc_frame.specs.declared.step.Step.{Step}
use Rattle.pdc_frame.specs.declared.step.Step.TheVariants.{More, Whole, Bad}
use Rattle.pdc_words.specs.Bytes.{AreBytes, word_at}
use Rattle.pdc_words.specs.CheckWord.{check_word_of}
use Rattle.pdc_frame.specs.Frame.{fields_in, number_of, IsSync, IsSized, IsChecked, check_in}
use Rattle.pdc_frame.specs.Stream.{IsGoing, IsWhole, IsAt, Splits}
use Rattle.pdc_words.proofs.Cells.{word_at-take, AreBytes-take, AreBytes-drop}
use Rattle.pdc_frame.proofs.Places.{IsFrame-checked}
use Rattle.pdc_frame.proofs.Streams.{going-nil}

-- ---- each test has an answer

same_or_not : (a b : ℕ) → (a ≡ b) ⊎ (a ≢ b)
same_or_not a b =
    elim (cases_lt a b) [ inl lt ↦ inr (λ e. omega arith) | inr le ↦ elim (cases_lt b a) [ inl lt ↦ inr (λ e. omega arith) | inr ge ↦ inl (omega arith) ] ]

known_version : (n : ℕ) → ((n ≡ 1) ⊎ (n ≡ 2)) ⊎ ((n ≡ 1) ⊎ (n ≡ 2) → ⊥)
known_version n = elim (same_or_not n 1) [
  | inl e ↦ inl (inl e)
  | inr not_one ↦ elim (same_or_not n 2) [ inl e ↦ inl (inr e) | inr not_two ↦ inr (λ either. elim either [ inl e ↦ not_one e | inr e ↦ not_two e ]) ]
]

sync_or_not : (first second : ℕ) → IsSync first second ⊎ (IsSync first second → ⊥)
sync_or_not first second = elim (same_or_not first 170) [
  | inl first-is ↦ elim (cases_lt (second / 16) 6) [
    | inl kind ↦ elim (known_version (second % 16)) [
      | inl version ↦ inl (record { first_byte = first-is; kind = kind; version = version })
      | inr none ↦ inr (λ sync. none sync.version)
    ]
    | inr le ↦ inr (λ sync. omega (arith, sync.kind))
  ]
  | inr other ↦ inr (λ sync. other sync.first_byte)
]

known_kind : (n : ℕ) → n < 6 → (kind : Kind) × (number_of kind ≡ n)
known_kind zero lt = (DataFrame, refl)
known_kind (suc zero) lt = (HeaderFrame, refl)
known_kind (suc (suc zero)) lt = (Cfg1, refl)
known_kind (suc (suc (suc zero))) lt = (Cfg2, refl)
known_kind (suc (suc (suc (suc zero)))) lt = (CommandFrame, refl)
known_kind (suc (suc (suc (suc (suc zero))))) lt = (Cfg3, refl)
known_kind (suc (suc (suc (suc (suc (suc n)))))) lt = absurd (omega arith)

-- ---- one byte more

-- what is known of bytes when those before the last go on
record Begun (bytes : List ℕ) : Type 0 where
  first : 2 ≤ length bytes → slice_index bytes 0 ≡ 170
  sync : 3 ≤ length bytes → IsSync (slice_index bytes 0) (slice_index bytes 1)
  size : 5 ≤ length bytes → 16 ≤ word_at bytes 2
  more : 5 ≤ length bytes → length bytes ≤ word_at bytes 2

begun : (bytes : List ℕ) → IsGoing (take (length bytes - 1) bytes) → Begun bytes
begun bytes h =
    let m : ℕ = length bytes - 1 in
    let len : length (take m bytes) ≡ m = omega (arith, length-take m bytes) in
    let cell : (i : ℕ) → i < m → slice_index (take m bytes) i ≡ slice_index bytes i = λ i lt. get_or-take m bytes i 0 lt in
    record {
      first = λ le. sym (cell 0 (omega arith)) ∙ h.first (omega arith);
      sync = λ le. subst (λ (n : ℕ). IsSync (slice_index bytes 0) n) (cell 1 (omega arith)) (subst (λ (n : ℕ). IsSync n (slice_index (take m bytes) 1)) (cell 0 (omega arith)) (h.sync (omega arith)));
      size = λ le. omega (arith, word_at-take m bytes 2 (omega arith), h.size (omega arith));
      more = λ le. omega (arith, word_at-take m bytes 2 (omega arith), h.more (omega arith));
    }

abbrev Next : List ℕ → Type 0
Next bytes = (step : Step) × IsAt bytes step

-- the last byte of a frame
last_byte : (bytes : List ℕ) → AreBytes bytes → IsGoing (take (length bytes - 1) bytes) → IsSized bytes → Next bytes
last_byte bytes fits before sized =
    elim (same_or_not (check_in bytes) (check_word_of (take (length bytes - 2) bytes))) [
      | inl check ↦ let checked : IsChecked bytes = (sized, check) in
          elim (same_or_not (word_at bytes 4) 0) [
            | inl none ↦ (Bad BadId, record { before = before; cause = (checked, inl none) })
            | inr some ↦ elim (same_or_not (word_at bytes 4) 65535) [
              | inl all ↦ (Bad BadId, record { before = before; cause = (checked, inr all) })
              | inr free ↦
                  let kind : (kind : Kind) × (number_of kind ≡ slice_index bytes 1 / 16) = known_kind (slice_index bytes 1 / 16) sized.0.1.kind in
                  let high : word_at bytes 4 < 65535 = omega (arith, free, fits 4, fits 5) in (
                    Whole,
                    (
                      fields_in kind.0 (slice_index bytes 1 % 16) bytes,
                      IsFrame-checked bytes kind.0 (slice_index bytes 1 % 16) fits checked (omega (arith, kind.1)) sized.0.1.version (omega (arith, some)) high,
                    ),
                  )
            ]
          ]
      | inr other ↦ (Bad BadCheck, record { before = before; cause = (sized, other) })
    ]

-- a byte behind the header
body_byte : (bytes : List ℕ) → AreBytes bytes → IsGoing (take (length bytes - 1) bytes) → 5 ≤ length bytes → Next bytes
body_byte bytes fits before le =
    let h : Begun bytes = begun bytes before in
    elim (cases_lt (length bytes) (word_at bytes 2)) [
      | inl lt ↦ (More, record { first = λ _. h.first (omega arith); sync = λ _. h.sync (omega arith); size = λ _. h.size le; more = λ _. lt })
      | inr ge ↦ last_byte bytes fits before ((omega (arith, h.size le), h.sync (omega arith)), omega (arith, h.more le))
    ]

-- the last byte of FRAMESIZE
size_byte : (bytes : List ℕ) → IsGoing (take (length bytes - 1) bytes) → length bytes ≡ 4 → Next bytes
size_byte bytes before len =
    let h : Begun bytes = begun bytes before in
    elim (cases_lt (word_at bytes 2) 16) [
      | inl lt ↦ (Bad Short, record { before = before; cause = (len, lt) })
      | inr le ↦ (More, record { first = λ _. h.first (omega arith); sync = λ _. h.sync (omega arith); size = λ _. le; more = λ _. omega (arith, len, le) })
    ]

-- the bytes of SYNC
sync_byte : (bytes : List ℕ) → IsGoing (take (length bytes - 1) bytes) → length bytes ≡ 2 → Next bytes
sync_byte bytes before len =
    let h : Begun bytes = begun bytes before in
    elim (sync_or_not (slice_index bytes 0) (slice_index bytes 1)) [
      | inl sync ↦ (More, record { first = λ _. h.first (omega arith); sync = λ _. sync; size = λ le. absurd (omega arith); more = λ le. absurd (omega arith) })
      | inr none ↦ (Bad BadSync, record { before = before; cause = inr (len, none) })
    ]

first_byte : (bytes : List ℕ) → IsGoing (take (length bytes - 1) bytes) → length bytes ≡ 1 → Next bytes
first_byte bytes before len = elim (same_or_not (slice_index bytes 0) 170) [
  | inl first ↦ (More, record { first = λ _. first; sync = λ le. absurd (omega arith); size = λ le. absurd (omega arith); more = λ le. absurd (omega arith) })
  | inr other ↦ (Bad BadSync, record { before = before; cause = inl (len, other) })
]

third_byte : (bytes : List ℕ) → IsGoing (take (length bytes - 1) bytes) → length bytes ≡ 3 → Next bytes
third_byte bytes before len =
    let h : Begun bytes = begun bytes before in
    (More, record { first = λ _. h.first (omega arith); sync = λ _. h.sync (omega arith); size = λ le. absurd (omega arith); more = λ le. absurd (omega arith) })

next_step : (bytes : List ℕ) → AreBytes bytes → IsGoing (take (length bytes - 1) bytes) → 0 < length bytes → Next bytes
next_step bytes fits before some =
    elim (cases_lt (length bytes) 2) [
      | inl one ↦ first_byte bytes before (omega arith)
      | inr two ↦ elim (cases_lt (length bytes) 3) [
        | inl less ↦ sync_byte bytes before (omega arith)
        | inr three ↦ elim (cases_lt (length bytes) 4) [
          | inl less ↦ third_byte bytes before (omega arith)
          | inr four ↦ elim (cases_lt (length bytes) 5) [ inl less ↦ size_byte bytes before (omega arith) | inr more ↦ body_byte bytes fits before more ]
        ]
      ]
    ]

-- ---- byte by byte

record Split (stream : List ℕ) : Type 0 where
  frames : List (List ℕ)
  rest : List ℕ
  fault : Option FrameFault
  splits : Splits stream frames rest fault

with_frame : (frame stream : List ℕ) → IsWhole frame → Split stream → Split (frame ++ stream)
with_frame frame stream whole h = record {
  frames = frame ∷ h.frames;
  rest = h.rest;
  fault = h.fault;
  splits = record {
    whole = ap (λ (xs : List ℕ). frame ++ xs) h.splits.whole ∙ sym (append_assoc frame (flat_map (λ f. f) h.frames) h.rest);
    each = All-cons IsWhole frame h.frames whole h.splits.each;
    end = h.splits.end;
  };
}

-- what the last byte showed, and then the rest
after : (bytes rest : List ℕ) → Next bytes → (IsGoing bytes → Split (bytes ++ rest)) → Split rest → Split (bytes ++ rest)
after bytes rest (More, at) on next = on at
after bytes rest (Whole, at) on next = with_frame bytes rest at next
after bytes rest (Bad fault, at) on next = record { frames = []; rest = bytes ++ rest; fault = Some fault; splits = record { whole = refl; each = λ k d lt. absurd (omega arith); end = (bytes, rest, refl, at) } }

go_on : (held rest : List ℕ) → IsGoing held → AreBytes (held ++ rest) → Split (held ++ rest)
go_on held [] going fits = record { frames = []; rest = held ++ []; fault = None; splits = record { whole = refl; each = λ k d lt. absurd (omega arith); end = subst IsGoing (sym (append-nil held)) going } }
go_on held (byte ∷ rest) going fits =
    let bytes : List ℕ = held ++ byte ∷ [] in
    let len : length bytes ≡ length held + 1 = length-append held (byte ∷ []) in
    let whole : bytes ++ rest ≡ held ++ byte ∷ rest = append_assoc held (byte ∷ []) rest in
    let before : take (length bytes - 1) bytes ≡ held = (let e : length bytes - 1 ≡ length held = omega arith in ap (λ (n : ℕ). take n bytes) e ∙ take-append_seam held (byte ∷ [])) in
    let front_fits : AreBytes bytes = subst AreBytes (take-append_seam bytes rest) (AreBytes-take (length bytes) (bytes ++ rest) (subst AreBytes (sym whole) fits)) in
    let rest_fits : AreBytes rest = subst AreBytes (drop-append_seam bytes rest) (AreBytes-drop (length bytes) (bytes ++ rest) (subst AreBytes (sym whole) fits)) in
    subst Split whole
    (after bytes rest (next_step bytes front_fits (subst IsGoing (sym before) going) (omega arith)) (λ more. go_on bytes rest more (subst AreBytes (sym whole) fits)) (go_on [] rest going-nil rest_fits))

pub every_split : (stream : List ℕ) → AreBytes stream → (frames : List (List ℕ)) × (rest : List ℕ) × (fault : Option FrameFault) × Splits stream frames rest fault
every_split stream fits = let found : Split stream = go_on [] stream going-nil fits in (found.frames, found.rest, found.fault, found.splits)
