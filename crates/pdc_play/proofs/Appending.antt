-- What is written, and more behind it.
use Rattle.std.proofs.Common.{◌≡◌, ℕ, ◌+◌, ◌/◌, ◌%◌, ◌<◌, List, [], ◌∷◌, ◌++◌, length, take, get_or, Option, Some, None, refl, sym, ap, subst, ◌∙◌, append_assoc}
use Rattle.std.proofs.lemmas.List.{append-nil, take_more}
use Rattle.std.specs.Prelude.{slice_index}
use Rattle.std.specs.Io.KnownBytes.{Appends, Keeps}
use Rattle.hex.specs.Hex.{encode_upper, encode_with, upper_digits}

pub appends_more : (start mid last : Option (List ℕ)) (first second : List ℕ) → Appends start mid first → Appends mid last second → Appends start last (first ++ second)
appends_more None mid last first second h k = tt
appends_more (Some xs) None last first second h k = absurd h
appends_more (Some xs) (Some ys) None first second h k = absurd k
appends_more (Some xs) (Some ys) (Some zs) first second h k = k ∙ ap (λ (bs : List ℕ). bs ++ second) h ∙ append_assoc xs first second

pub appends_none : (start : Option (List ℕ)) → Appends start start []
appends_none None = tt
appends_none (Some xs) = sym (append-nil xs)

pub appends_kept : (start mid last : Option (List ℕ)) (bytes : List ℕ) → Appends start mid bytes → Keeps mid last → Appends start last bytes
appends_kept None mid last bytes h k = tt
appends_kept (Some xs) None last bytes h k = absurd h
appends_kept (Some xs) (Some ys) None bytes h k = absurd k
appends_kept (Some xs) (Some ys) (Some zs) bytes h k = k ∙ h

-- ---- bytes in hexadecimal

encode_more : (t xs : List ℕ) (b : ℕ) → encode_with t (xs ++ b ∷ []) ≡ encode_with t xs ++ slice_index t (b / 16) ∷ slice_index t (b % 16) ∷ []
unfolding encode_with
encode_more t [] b = refl
encode_more t (x ∷ xs) b = ap (λ (bs : List ℕ). slice_index t (x / 16) ∷ slice_index t (x % 16) ∷ bs) (encode_more t xs b)

-- the digits of a byte
abbrev pub digits_of : ℕ → List ℕ
digits_of b = slice_index upper_digits (b / 16) ∷ slice_index upper_digits (b % 16) ∷ []

-- one byte more
pub byte_more : (start mid last : Option (List ℕ)) (bytes : List ℕ) (i : ℕ) → i < length bytes → Appends start mid (encode_upper (take i bytes)) → Appends mid last (digits_of (get_or bytes i 0))
    → Appends start last (encode_upper (take (i + 1) bytes))
byte_more start mid last bytes i h before more =
    subst (Appends start last) (sym (ap encode_upper (take_more bytes i 0 h) ∙ encode_more upper_digits (take i bytes) (get_or bytes i 0)))
    (appends_more start mid last (encode_upper (take i bytes)) (digits_of (get_or bytes i 0)) before more)

-- none yet
pub no_byte : (start : Option (List ℕ)) (bytes : List ℕ) → Appends start start (encode_upper (take 0 bytes))
unfolding encode_with
no_byte start bytes = appends_none start
