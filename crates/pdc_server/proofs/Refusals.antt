-- Why frames were not given: a request for memory was refused, since they have no more bytes than a `usize` can tell.
use Rattle.std.proofs.Common.{◌≡◌, ◌⊎◌, ℕ, suc, ◌+◌, ◌*◌, ◌<◌, ◌≤◌, List, [], ◌∷◌, length, ap, ◌∙◌, arith, length-append}
use Rattle.std.specs.Prelude.{Result, Ok, Err, OnErr, Bool, true, false, cond, nat_lt}
use mathlib.Core.Logic.{inl, inr}
use Rattle.std.proofs.Math.Logic.{∥∥₁_elim, ∥∥₁_prop}
use Rattle.pdc_frame.proofs.Framed.{length-spelling_of}
use Rattle.pdc_session.specs.pdc_memory.Asking.{ForSome}
use Rattle.pdc_session.specs.Recent.{Kept, above, bytes_of}
use Rattle.pdc_server.specs.Stream.{AreData, IsData, Stream}
use Rattle.pdc_server.specs.declared.stamp.Stamp.{Stamp}

frame_len : (stream : Stream) (stamp : Stamp) (frame : Kept) → IsData stream stamp frame.instant frame.bytes → length frame.bytes ≤ 65535
frame_len stream stamp frame d =
    let len : length frame.bytes ≡ length d.fields.payload + 16 = ap (λ (xs : List ℕ). length xs) d.frame.spelled ∙ length-spelling_of d.fields in
    omega (arith, d.frame.fits.size)

total_len : (stream : Stream) (stamp : Stamp) (instant : ℕ) (frames : List Kept) → AreData stream stamp frames → length (bytes_of (above instant frames)) ≤ 65535 * length frames
total_len stream stamp instant [] all = omega arith
total_len stream stamp instant (f ∷ fs) all =
    let rest = total_len stream stamp instant fs all.1 in
    let first = frame_len stream stamp f all.0 in
    let len : length (bytes_of (f ∷ above instant fs)) ≡ length f.bytes + length (bytes_of (above instant fs)) = length-append f.bytes (bytes_of (above instant fs)) in
    let both : (b : Bool) → length (bytes_of (cond b (f ∷ above instant fs) (above instant fs))) ≤ 65535 * suc (length fs) =
    λ b. elim b as (λ (b : Bool). length (bytes_of (cond b (f ∷ above instant fs) (above instant fs))) ≤ 65535 * suc (length fs)) [ true ↦ omega (arith, rest, first, len) | false ↦ omega (arith, rest) ] in
    both (nat_lt instant f.instant)

pub given_refused : (Refused : ℕ → Type 0) (most room : ℕ) (stream : Stream) (stamp : Stamp) (instant : ℕ) (frames : List Kept) → ∥ AreData stream stamp frames ∥₁ → length frames ≤ 256
    → Refused (length (bytes_of (above instant frames))) ⊎ ((most < length (bytes_of (above instant frames))) × (Refused most ⊎ (most ≤ room))) → 65535 * 256 ≤ most → ForSome Refused
given_refused Refused most room stream stamp instant frames all few (inl refused) large = ∣ (length (bytes_of (above instant frames)), refused) ∣₁
given_refused Refused most room stream stamp instant frames all few (inr over) large =
    ∥∥₁_elim all ∥∥₁_prop (λ (a : AreData stream stamp frames). let total = total_len stream stamp instant frames a in let no : ⊥ = omega (arith, total, over.0) in absurd no)

-- what holds anyway holds where the answer is an error
pub on_err : {U E P : Type 0} (answer : Result U E) → P → OnErr answer P
on_err (Ok u) p = tt
on_err (Err e) p = p
