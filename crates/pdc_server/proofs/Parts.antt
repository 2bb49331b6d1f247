-- What is written part by part.
use Rattle.std.proofs.Common.{◌≡◌, ℕ, ◌+◌, ◌-◌, ◌≤◌, List, ◌++◌, take, drop, Option, None, subst, sym, ap, ◌∙◌, append_assoc, arith}
use Rattle.std.specs.Prelude.{Some}
use Rattle.std.specs.Io.KnownBytes.{Appends}
use Rattle.std.proofs.lemmas.List.{drop-take, take-append-drop, take-take}

-- bytes and more bytes, one behind the other
appends_more : (before between after : Option (List ℕ)) (first second : List ℕ) → Appends before between first → Appends between after second → Appends before after (first ++ second)
appends_more None between after first second e f = tt
appends_more (Some xs) None after first second e f = absurd e
appends_more (Some xs) (Some ys) None first second e f = absurd f
appends_more (Some xs) (Some ys) (Some zs) first second e f = f ∙ ap (λ (b : List ℕ). b ++ second) e ∙ append_assoc xs first second

pub one_part_more : (before between after : Option (List ℕ)) (at end : ℕ) (bytes part : List ℕ) → at ≤ end → part ≡ take (end - at) (drop at bytes)
    → Appends before between (take at bytes) → Appends between after part → Appends before after (take end bytes)
one_part_more before between after at end bytes part le is e f =
    let n = end - at in
    let sum : at + n ≡ end = omega (arith, le) in
    let front : take at (take (at + n) bytes) ≡ take at bytes = take-take at (at + n) bytes (omega arith) in
    let joined : take at bytes ++ part ≡ take end bytes =
    ap (λ (b : List ℕ). take at bytes ++ b) (is ∙ sym (drop-take at n bytes))
    ∙ ap (λ (b : List ℕ). b ++ drop at (take (at + n) bytes)) (sym front)
    ∙ take-append-drop at (take (at + n) bytes)
    ∙ ap (λ (k : ℕ). take k bytes) sum in
    subst (Appends before after) joined (appends_more before between after (take at bytes) part e f)
