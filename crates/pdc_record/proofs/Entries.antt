-- What bytes begin with is told by them.
use Rattle.std.proofs.Common.{◌≡◌, inl, inr, ℕ, ◌+◌, ◌-◌, ◌/◌, ◌%◌, ◌^◌, ◌<◌, ◌≤◌, List, ◌∷◌, ◌++◌, length, slice_index, take, drop, refl, sym, ap, subst, ◌∙◌, append_assoc, arith, length-append}
use Rattle.std.proofs.Math.Seq.{take-append_seam, drop-append_seam}
use Rattle.std.proofs.lemmas.List.{append_cancel_left, get_or-drop, take-append-drop}
use Rattle.std.specs.Int.{w16, w32, w64, to_be_bytes}
use Rattle.pdc_frame.specs.Bytes.{word_at, long_at}
use Rattle.pdc_frame.specs.CheckWord.{check_word_of}
use Rattle.pdc_record.specs.declared.reading.Unread.{Unread}
use Rattle.pdc_record.specs.declared.reading.Unread.TheVariants.{Cut, NoEntry, BadCheck}
use Rattle.pdc_record.specs.Told.{Fields}
use Rattle.pdc_record.specs.Bodies.{body_of, fixed_of, kind_number, rest_of}
use Rattle.pdc_record.specs.Entries.{Begins, Fits, IsFirstCause, IsSaid, IsSizeCause, IsWhole, before_check, head_of, spelling_of, unchecked_of}
use Rattle.pdc_record.proofs.Numbers.{same_word, same_long, same_wide, same_byte}
use Rattle.pdc_record.proofs.Sayings.{same_told, length-body}

length-before : (f : Fields) → length (before_check f) ≡ 21 + length (body_of f.told)
length-before f = omega arith

pub length-spelling : (f : Fields) → length (spelling_of f) ≡ 23 + length (body_of f.told)
length-spelling f = omega (arith, length-append (before_check f) (to_be_bytes w16 (check_word_of (before_check f))), length-before f)

sized : (f : Fields) → Fits f → length (body_of f.told) + 23 ≤ 1048664
sized f h = omega (arith, length-body f.told h.widths, h.rest)

same_fields : (f g : Fields) → f.step ≡ g.step → f.time ≡ g.time → f.told ≡ g.told → f ≡ g
same_fields f g step time told =
    let whole : ◌≡◌ {A = Fields} (record { step = f.step; time = f.time; told = f.told }) g = rw (step, time, told) refl in
    whole

same_fronts : (xs ys r s : List ℕ) → length xs ≡ length ys → xs ++ r ≡ ys ++ s → xs ≡ ys
same_fronts xs ys r s len e = sym (take-append_seam xs r) ∙ ap (take (length xs)) e ∙ ap (λ (n : ℕ). take n (ys ++ s)) len ∙ take-append_seam ys s

-- entries that begin the same bytes are one
pub same_entry : (f g : Fields) (r s : List ℕ) → Fits f → Fits g → spelling_of f ++ r ≡ spelling_of g ++ s → (f ≡ g) × (r ≡ s)
same_entry f g r s h k e =
    let len = same_long (length (body_of f.told) + 23) (length (body_of g.told) + 23) _ _ (omega (arith, sized f h)) (omega (arith, sized g k)) e in
    let kind = same_byte (kind_number f.told) (kind_number g.told) _ _ len.1 in
    let step = same_wide f.step g.step _ _ h.step k.step kind.1 in
    let time = same_wide f.time g.time ((body_of f.told ++ to_be_bytes w16 (check_word_of (before_check f))) ++ r) ((body_of g.told ++ to_be_bytes w16 (check_word_of (before_check g))) ++ s) h.time k.time step.1 in
    let behind : body_of f.told ++ (to_be_bytes w16 (check_word_of (before_check f)) ++ r) ≡ body_of g.told ++ (to_be_bytes w16 (check_word_of (before_check g)) ++ s) =
    sym (append_assoc (body_of f.told) (to_be_bytes w16 (check_word_of (before_check f))) r) ∙ time.1 ∙ append_assoc (body_of g.told) (to_be_bytes w16 (check_word_of (before_check g))) s in
    let body : body_of f.told ≡ body_of g.told = same_fronts _ _ _ _ (omega (arith, len.0)) behind in
    let same : f ≡ g = same_fields f g step.0 time.0 (same_told f.told g.told h.widths k.widths kind.0 body) in
    (same, append_cancel_left (spelling_of g) r s (ap (λ (x : Fields). spelling_of x ++ r) (sym same) ∙ e))

long_front : (n : ℕ) (r : List ℕ) → n < 2 ^ 32 → long_at (to_be_bytes w32 n ++ r) 0 ≡ n
long_front n r fits = omega (arith, fits)

len_front : (f : Fields) (more : List ℕ) → length (body_of f.told) + 23 < 2 ^ 32 → long_at (spelling_of f ++ more) 0 ≡ length (body_of f.told) + 23
len_front f more fits =
    let check : List ℕ = to_be_bytes w16 (check_word_of (before_check f)) in
    long_front (length (body_of f.told) + 23) (kind_number f.told ∷ (to_be_bytes w64 f.step ++ (to_be_bytes w64 f.time ++ ((body_of f.told ++ check) ++ more)))) fits

module _ (bytes : List ℕ) (f : Fields) (h : Begins bytes f) where
  pub begins-len : long_at bytes 0 ≡ length (body_of f.told) + 23
  begins-len = ap (λ (xs : List ℕ). long_at xs 0) h.spelled ∙ len_front f h.more (omega (arith, sized f h.fits))

  length-bytes : length bytes ≡ 23 + length (body_of f.told) + length h.more
  length-bytes = ap length h.spelled ∙ length-append (spelling_of f) h.more ∙ omega (arith, length-spelling f)

  pub begins-whole : IsWhole bytes
  begins-whole = record {
    sized = record { room = omega (arith, length-bytes); least = omega (arith, begins-len); most = omega (arith, begins-len, sized f h.fits) };
    enough = omega (arith, begins-len, length-bytes);
  }

  apart : bytes ≡ before_check f ++ (to_be_bytes w16 (check_word_of (before_check f)) ++ h.more)
  apart = h.spelled ∙ append_assoc (before_check f) (to_be_bytes w16 (check_word_of (before_check f))) h.more

  place : long_at bytes 0 - 2 ≡ length (before_check f)
  place = omega (arith, begins-len, length-before f)

  pub begins-said : unchecked_of bytes ≡ before_check f
  begins-said = ap (λ (n : ℕ). take n bytes) place ∙ ap (take (length (before_check f))) apart ∙ take-append_seam (before_check f) (to_be_bytes w16 (check_word_of (before_check f)) ++ h.more)

  pub no_size_cause : (cause : Unread) → IsSizeCause bytes cause → ⊥
  no_size_cause Cut (inl short) = absurd (omega (arith, short, length-bytes))
  no_size_cause Cut (inr cut) = absurd (omega (arith, cut.1, begins-whole.enough))
  no_size_cause NoEntry unsized = unsized.1 begins-whole.sized
  no_size_cause BadCheck none = none

  -- and CHK behind them
  pub begins-behind : drop (long_at bytes 0 - 2) bytes ≡ to_be_bytes w16 (check_word_of (before_check f)) ++ h.more
  begins-behind = ap (λ (n : ℕ). drop n bytes) place ∙ ap (drop (length (before_check f))) apart ∙ drop-append_seam (before_check f) (to_be_bytes w16 (check_word_of (before_check f)) ++ h.more)

  -- which is its check word
  pub begins-check : (check : ℕ) (rest : List ℕ) → check < 2 ^ 16 → check_word_of (unchecked_of bytes) < 2 ^ 16 → drop (long_at bytes 0 - 2) bytes ≡ to_be_bytes w16 check ++ rest → check ≡ check_word_of (unchecked_of bytes)
  begins-check check rest fits word_fits e =
      let same : check_word_of (unchecked_of bytes) ≡ check_word_of (before_check f) = ap check_word_of begins-said in
      let behind : to_be_bytes w16 (check_word_of (before_check f)) ++ h.more ≡ to_be_bytes w16 check ++ rest = sym begins-behind ∙ e in
      sym (same ∙ (same_word (check_word_of (before_check f)) check h.more rest (omega (arith, same, word_fits)) fits behind).0)

-- what says something, under its check word, is an entry
pub begins : (bytes : List ℕ) (f : Fields) (check : ℕ) (rest : List ℕ) → IsWhole bytes → IsSaid (unchecked_of bytes) f → drop (long_at bytes 0 - 2) bytes ≡ to_be_bytes w16 check ++ rest → check ≡ check_word_of (unchecked_of bytes)
    → Begins bytes f
begins bytes f check rest whole said behind check-is = record {
  fits = said.fits;
  more = rest;
  spelled = sym (take-append-drop (long_at bytes 0 - 2) bytes) ∙ ap (λ (xs : List ℕ). xs ++ drop (long_at bytes 0 - 2) bytes) said.spelled
      ∙ ap (λ (xs : List ℕ). before_check f ++ xs) (behind ∙ ap (λ (n : ℕ). to_be_bytes w16 n ++ rest) (check-is ∙ ap check_word_of said.spelled))
      ∙ sym (append_assoc (before_check f) (to_be_bytes w16 (check_word_of (before_check f))) rest);
}

-- the number behind so many bytes
pub word_behind : (n : ℕ) (bytes rest : List ℕ) (check : ℕ) → check < 2 ^ 16 → drop n bytes ≡ to_be_bytes w16 check ++ rest → word_at bytes n ≡ check
word_behind n bytes rest check fits e =
    let start : n + 0 ≡ n = omega arith in
    let high : slice_index bytes n ≡ check / 256 % 256 = sym (ap (slice_index bytes) start) ∙ sym (get_or-drop n bytes 0 0) ∙ ap (λ (xs : List ℕ). slice_index xs 0) e in
    let low : slice_index bytes (n + 1) ≡ check % 256 = sym (get_or-drop n bytes 1 0) ∙ ap (λ (xs : List ℕ). slice_index xs 1) e in
    omega (arith, high, low, fits)

-- where bytes begin with an entry, there is no cause why not
pub no_cause : (bytes : List ℕ) (f : Fields) (h : Begins bytes f) → check_word_of (unchecked_of bytes) < 2 ^ 16 → (cause : Unread) → IsFirstCause bytes cause → ⊥
no_cause bytes f h fits Cut cut = no_size_cause bytes f h Cut cut
no_cause bytes f h fits NoEntry (room, inl unsized) = unsized (begins-whole bytes f h).sized
no_cause bytes f h fits NoEntry (room, inr (whole, none)) = none f (record { fits = h.fits; spelled = begins-said bytes f h })
no_cause bytes f h fits BadCheck (whole, said, other) =
    let same : check_word_of (unchecked_of bytes) ≡ check_word_of (before_check f) = ap check_word_of (begins-said bytes f h) in
    other (word_behind (long_at bytes 0 - 2) bytes h.more (check_word_of (before_check f)) (omega (arith, same, fits)) (begins-behind bytes f h) ∙ sym same)

cut_or_whole : (bytes : List ℕ) → IsFirstCause bytes Cut → IsWhole bytes → ⊥
cut_or_whole bytes (inl short) whole = absurd (omega (arith, short, whole.sized.room))
cut_or_whole bytes (inr cut) whole = absurd (omega (arith, cut.1, whole.enough))

cut_or_not : (bytes : List ℕ) → IsFirstCause bytes Cut → IsFirstCause bytes NoEntry → ⊥
cut_or_not bytes (inl short) k = absurd (omega (arith, short, k.0))
cut_or_not bytes (inr cut) (room, inl unsized) = unsized cut.0
cut_or_not bytes (inr cut) (room, inr (whole, none)) = absurd (omega (arith, cut.1, whole.enough))

none_or_said : (bytes : List ℕ) → IsFirstCause bytes NoEntry → IsWhole bytes → ((f : Fields) × IsSaid (unchecked_of bytes) f) → ⊥
none_or_said bytes (room, inl unsized) whole said = unsized whole.sized
none_or_said bytes (room, inr (all, none)) whole said = none said.0 said.1

-- and there is one cause at most
pub one_cause : (bytes : List ℕ) (a b : Unread) → IsFirstCause bytes a → IsFirstCause bytes b → a ≡ b
one_cause bytes Cut Cut h k = refl
one_cause bytes NoEntry NoEntry h k = refl
one_cause bytes BadCheck BadCheck h k = refl
one_cause bytes Cut NoEntry h k = absurd (cut_or_not bytes h k)
one_cause bytes NoEntry Cut h k = absurd (cut_or_not bytes k h)
one_cause bytes Cut BadCheck h k = absurd (cut_or_whole bytes h k.0)
one_cause bytes BadCheck Cut h k = absurd (cut_or_whole bytes k h.0)
one_cause bytes NoEntry BadCheck h k = absurd (none_or_said bytes h k.0 k.1)
one_cause bytes BadCheck NoEntry h k = absurd (none_or_said bytes k h.0 h.1)

-- the size tells a cause
pub size_cause : (bytes : List ℕ) (cause : Unread) → IsSizeCause bytes cause → IsFirstCause bytes cause
size_cause bytes Cut h = h
size_cause bytes NoEntry h = (h.0, inl h.1)
size_cause bytes BadCheck h = absurd h

-- the reader's exits and its end, by the bytes before CHK and those behind them
module _ (bytes unchecked : List ℕ) (len : ℕ) (whole : IsWhole bytes) (len-is : len ≡ long_at bytes 0) (front : unchecked ≡ take (len - 2) bytes) where
  said-is : unchecked_of bytes ≡ unchecked
  said-is = ap (λ (n : ℕ). take (n - 2) bytes) (sym len-is) ∙ sym front

  pub unsaid_cause : ((f : Fields) → IsSaid unchecked f → ⊥) → IsFirstCause bytes NoEntry
  unsaid_cause none = (whole.sized.room, inr (whole, λ f said. none f (subst (λ (xs : List ℕ). IsSaid xs f) said-is said)))

  pub unsaid : ((f : Fields) → IsSaid unchecked f → ⊥) → (g : Fields) → Begins bytes g → ⊥
  unsaid none g h = none g (record { fits = h.fits; spelled = sym said-is ∙ begins-said bytes g h })

  module _ (behind rest : List ℕ) (check word : ℕ) (back : behind ≡ drop (len - 2) bytes) (cells : behind ≡ to_be_bytes w16 check ++ rest) (fits : check < 2 ^ 16) (word_fits : word < 2 ^ 16)
      (word-is : word ≡ check_word_of unchecked) where
    cells-are : drop (long_at bytes 0 - 2) bytes ≡ to_be_bytes w16 check ++ rest
    cells-are = ap (λ (n : ℕ). drop (n - 2) bytes) (sym len-is) ∙ sym back ∙ cells

    word-said : word ≡ check_word_of (unchecked_of bytes)
    word-said = word-is ∙ ap check_word_of (sym said-is)

    pub check_cause : (f : Fields) → IsSaid unchecked f → (check ≡ word → ⊥) → IsFirstCause bytes BadCheck
    check_cause f said other = (
      whole,
      (f, subst (λ (xs : List ℕ). IsSaid xs f) (sym said-is) said),
      λ same.
          other (sym (word_behind (long_at bytes 0 - 2) bytes rest check fits cells-are) ∙ same ∙ sym word-said),
    )

    pub misread : (check ≡ word → ⊥) → (g : Fields) → Begins bytes g → ⊥
    misread other g h = other (begins-check bytes g h check rest fits (omega (arith, word-said, word_fits)) cells-are ∙ sym word-said)

    pub read_found : (f : Fields) → IsSaid unchecked f → check ≡ word → Begins bytes f
    read_found f said same = begins bytes f check rest whole (subst (λ (xs : List ℕ). IsSaid xs f) (sym said-is) said) cells-are (same ∙ word-said)

    pub read_len : (f : Fields) → Begins bytes f → len ≡ length (spelling_of f)
    read_len f h = omega (arith, len-is, begins-len bytes f h, length-spelling f)

    pub read_only : (f g : Fields) → IsSaid unchecked f → check ≡ word → Begins bytes g → f ≡ g
    read_only f g said same h = let found = read_found f said same in (same_entry f g found.more h.more found.fits h.fits (sym found.spelled ∙ h.spelled)).0

-- an entry written in parts
pub written : (f : Fields) (old begun fixed joined whole : List ℕ) (start : ℕ) → start ≡ length old → begun ≡ old ++ head_of f (length (body_of f.told) + 23) → fixed ≡ begun ++ fixed_of f.told
    → joined ≡ fixed ++ rest_of f.told → whole ≡ joined ++ to_be_bytes w16 (check_word_of (drop start joined)) → whole ≡ old ++ spelling_of f
written f old begun fixed joined whole start at e1 e2 e3 e4 =
    let head : List ℕ = head_of f (length (body_of f.told) + 23) in
    let behind : joined ≡ old ++ before_check f =
    e3 ∙ ap (λ (xs : List ℕ). xs ++ rest_of f.told) (e2 ∙ ap (λ (xs : List ℕ). xs ++ fixed_of f.told) e1 ∙ append_assoc old head (fixed_of f.told))
    ∙ append_assoc old (head ++ fixed_of f.told) (rest_of f.told) ∙ ap (λ (xs : List ℕ). old ++ xs) (append_assoc head (fixed_of f.told) (rest_of f.told)) in
    let checked : drop start joined ≡ before_check f = ap (λ (n : ℕ). drop n joined) at ∙ ap (drop (length old)) behind ∙ drop-append_seam old (before_check f) in
    e4 ∙ ap (λ (xs : List ℕ). joined ++ to_be_bytes w16 (check_word_of xs)) checked ∙ ap (λ (xs : List ℕ). xs ++ to_be_bytes w16 (check_word_of (before_check f))) behind
    ∙ append_assoc old (before_check f) (to_be_bytes w16 (check_word_of (before_check f)))
