-- The spellings of two frames at the front of the same bytes are one, and so are their fields.
use Rattle.std.proofs.Common.{◌≡◌, ◌⊎◌, inl, inr, ℕ, ◌+◌, ◌*◌, ◌^◌, List, ◌++◌, length, take, refl, sym, ap, ◌∙◌, arith, append_assoc}
use Rattle.std.proofs.Math.Seq.{take-append_seam}
use Rattle.std.proofs.lemmas.List.{append_cancel_left}
use Rattle.std.specs.Int.{w16, w32, to_be_bytes}
use Rattle.pdc_frame.specs.declared.frame.Kind.{Kind}
use Rattle.pdc_frame.specs.declared.frame.Kind.TheVariants.{DataFrame, HeaderFrame, Cfg1, Cfg2, CommandFrame, Cfg3}
use Rattle.pdc_words.specs.CheckWord.{check_word_of}
use Rattle.pdc_frame.specs.Frame.{Fields, Fits, number_of, before_check, spelling_of}
use Rattle.pdc_words.proofs.Cells.{word_value, long_value}

-- a kind is known by its number
number_of-injective : (k l : Kind) → number_of k ≡ number_of l → k ≡ l
number_of-injective DataFrame DataFrame e = refl
number_of-injective HeaderFrame HeaderFrame e = refl
number_of-injective Cfg1 Cfg1 e = refl
number_of-injective Cfg2 Cfg2 e = refl
number_of-injective CommandFrame CommandFrame e = refl
number_of-injective Cfg3 Cfg3 e = refl
number_of-injective k l e = absurd (omega arith)

-- SYNC's second byte has the kind and the version
two_versions : (k l v w : ℕ) → (v ≡ 1) ⊎ (v ≡ 2) → (w ≡ 1) ⊎ (w ≡ 2) → 16 * k + v ≡ 16 * l + w → (k ≡ l) × (v ≡ w)
two_versions k l v w (inl a) (inl b) e = (omega arith, omega arith)
two_versions k l v w (inl a) (inr b) e = absurd (omega arith)
two_versions k l v w (inr a) (inl b) e = absurd (omega arith)
two_versions k l v w (inr a) (inr b) e = (omega arith, omega arith)

-- two lists of one length at the front of the same bytes
same_fronts : (xs ys rest other : List ℕ) → length xs ≡ length ys → xs ++ rest ≡ ys ++ other → xs ≡ ys
same_fronts xs ys rest other len e =
    sym (take-append_seam xs rest) ∙ ap (take (length xs)) e ∙ ap (λ (n : ℕ). take n (ys ++ other)) len ∙ take-append_seam ys other

same_fields : (f g : Fields) → f.kind ≡ g.kind → f.version ≡ g.version → f.id ≡ g.id → f.soc ≡ g.soc → f.quality ≡ g.quality → f.frac ≡ g.frac → f.payload ≡ g.payload → f ≡ g
same_fields f g kind version id soc quality frac payload =
    let whole : ◌≡◌ {A = Fields} (record { kind = f.kind; version = f.version; id = f.id; soc = f.soc; quality = f.quality; frac = f.frac; payload = f.payload }) g =
    rw (kind, version, id, soc, quality, frac, payload) refl in
    whole

pub found : (f g : Fields) (rest other : List ℕ) → Fits f → Fits g → spelling_of f ++ rest ≡ spelling_of g ++ other → (f ≡ g) × (rest ≡ other)
found f g rest other hf hg e =
    let second : 16 * number_of f.kind + f.version ≡ 16 * number_of g.kind + g.version = cc in
    let size : to_be_bytes w16 (length f.payload + 16) ≡ to_be_bytes w16 (length g.payload + 16) = cc in
    let id : to_be_bytes w16 f.id ≡ to_be_bytes w16 g.id = cc in
    let soc : to_be_bytes w32 f.soc ≡ to_be_bytes w32 g.soc = cc in
    let fracsec : to_be_bytes w32 (f.quality * 2 ^ 24 + f.frac) ≡ to_be_bytes w32 (g.quality * 2 ^ 24 + g.frac) = cc in
    let tail : (f.payload ++ to_be_bytes w16 (check_word_of (before_check f))) ++ rest ≡ (g.payload ++ to_be_bytes w16 (check_word_of (before_check g))) ++ other = cc in
    let sync : (number_of f.kind ≡ number_of g.kind) × (f.version ≡ g.version) = two_versions _ _ _ _ hf.version hg.version second in
    let sizes : length f.payload + 16 ≡ length g.payload + 16 = word_value _ _ hf.size hg.size size in
    let numbers : f.quality * 2 ^ 24 + f.frac ≡ g.quality * 2 ^ 24 + g.frac = long_value _ _ (omega (arith, hf.quality, hf.frac)) (omega (arith, hg.quality, hg.frac)) fracsec in
    let behind : f.payload ++ (to_be_bytes w16 (check_word_of (before_check f)) ++ rest) ≡ g.payload ++ (to_be_bytes w16 (check_word_of (before_check g)) ++ other) =
    sym (append_assoc f.payload (to_be_bytes w16 (check_word_of (before_check f))) rest) ∙ tail ∙ append_assoc g.payload (to_be_bytes w16 (check_word_of (before_check g))) other in
    let payload : f.payload ≡ g.payload = same_fronts _ _ _ _ (omega arith) behind in
    let same : f ≡ g = same_fields f g (number_of-injective _ _ sync.0) sync.1 (word_value _ _ (omega (arith, hf.id_high)) (omega (arith, hg.id_high)) id) (long_value _ _ hf.soc hg.soc soc)
    (omega (arith, hf.frac, hg.frac, numbers)) (omega (arith, hf.frac, hg.frac, numbers)) payload in
    (same, append_cancel_left (spelling_of g) rest other (ap (λ (h : Fields). spelling_of h ++ rest) (sym same) ∙ e))
