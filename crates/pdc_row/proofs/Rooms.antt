-- What stands in the memory of a frame behind its front.
use Rattle.std.proofs.Common.{◌≡◌, ◌∙◌, ◌+◌, ◌-◌, ◌≤◌, ℕ, zero, suc, List, [], ◌∷◌, ◌++◌, ap, ap₂, arith, drop, drop-drop, length, length-append, refl, sym, take, take-add}
use Rattle.std.proofs.lemmas.List.{append_assoc, drop_at, length-drop, length-take-le, take_at}
use Rattle.pdc_row.specs.KeptBlocks.{room_in}

-- bytes put behind n and some more stand so far behind what stands behind n
behind : (n s : ℕ) (bytes more : List ℕ) → n ≤ length bytes → drop n (take (n + s) bytes ++ more) ≡ take s (drop n bytes) ++ more
behind zero s bytes more h = let all : 0 + s ≡ s = omega arith in ap (λ k. take k bytes ++ more) all
behind (suc n) s [] more h = absurd (omega (arith, h))
behind (suc n) s (b ∷ bytes) more h = let next : suc n + s ≡ suc (n + s) = omega arith in ap (λ k. drop (suc n) (take k (b ∷ bytes) ++ more)) next ∙ behind n s bytes more (omega (arith, h))

-- how long it is
pub long_room : (bytes room : List ℕ) → length bytes ≡ 3454 → room_in bytes ≡ room → length room ≡ 3426
long_room bytes room size e = omega (arith, ap length e, length-drop 28 bytes, size)

-- a part of it
pub part_of : (start end : ℕ) (bytes room : List ℕ) → start ≤ end → room_in bytes ≡ room → take (28 + end - (28 + start)) (drop (28 + start) bytes) ≡ take (end - start) (drop start room)
part_of start end bytes room h e =
    let size : 28 + end - (28 + start) ≡ end - start = omega arith in
    ap (λ k. take k (drop (28 + start) bytes)) size ∙ ap (take (end - start)) (sym (drop-drop start 28 bytes) ∙ ap (drop start) e)

-- another part put in its place
pub written_in : (start end : ℕ) (bytes room more : List ℕ) → 28 ≤ length bytes → room_in bytes ≡ room
    → room_in (take (28 + start) bytes ++ (more ++ drop (28 + end - (28 + start)) (drop (28 + start) bytes))) ≡ take start room ++ (more ++ drop (end - start) (drop start room))
written_in start end bytes room more h e =
    let size : 28 + end - (28 + start) ≡ end - start = omega arith in
    behind 28 start bytes (more ++ drop (28 + end - (28 + start)) (drop (28 + start) bytes)) h
    ∙ ap₂ (λ (front back : List ℕ). take start front ++ (more ++ back)) e
    (ap (λ k. drop k (drop (28 + start) bytes)) size ∙ ap (drop (end - start)) (sym (drop-drop start 28 bytes) ∙ ap (drop start) e))

-- and the first of it
pub written_first : (n : ℕ) (bytes room more : List ℕ) → 28 ≤ length bytes → room_in bytes ≡ room → room_in (take 28 bytes ++ (more ++ drop (28 + n - 28) (drop 28 bytes))) ≡ more ++ drop n room
written_first n bytes room more h e =
    let size : 28 + n - 28 ≡ n = omega arith in
    behind 28 0 bytes (more ++ drop (28 + n - 28) (drop 28 bytes)) h ∙ ap₂ (λ k (rest : List ℕ). more ++ drop k rest) size e

take_front : (n : ℕ) (front back : List ℕ) → n ≤ length front → take n (front ++ back) ≡ take n front
take_front zero front back h = refl
take_front (suc n) [] back h = absurd (omega (arith, h))
take_front (suc n) (x ∷ front) back h = ap (λ (t : List ℕ). x ∷ t) (take_front n front back (omega (arith, h)))

-- what was written before it changes nothing of it
pub front_written : (bytes room front : List ℕ) → length front ≡ 28 → room_in bytes ≡ room → room_in (front ++ drop 28 bytes) ≡ room
front_written bytes room front size e = drop_at front (drop 28 bytes) 28 size ∙ e

-- ends that are written before and behind so many bytes
pub ends_framed : (n : ℕ) (bytes front check : List ℕ) → n + 28 ≤ length bytes → length front ≡ 28 → length check ≡ 2
    → take (28 + n + 2) (take (28 + n) (front ++ drop 28 bytes) ++ (check ++ drop (28 + n + 2 - (28 + n)) (drop (28 + n) (front ++ drop 28 bytes)))) ≡ front ++ (take n (room_in bytes) ++ check)
ends_framed n bytes front check long size two =
    let written : List ℕ = front ++ drop 28 bytes in
    let rest : List ℕ = drop (28 + n + 2 - (28 + n)) (drop (28 + n) written) in
    let begun : take (28 + n) written ≡ front ++ take n (room_in bytes) =
    take-add 28 n written ∙ ap₂ (λ (a b : List ℕ). a ++ take n b) (take_at front (drop 28 bytes) 28 size) (drop_at front (drop 28 bytes) 28 size) in
    let first : List ℕ = front ++ take n (room_in bytes) in
    let few : length (first ++ check) ≡ 28 + n + 2 = omega (arith, length-append first check, length-append front (take n (room_in bytes)), size, two, length-take-le n (drop 28 bytes) (omega (arith, long, length-drop 28 bytes))) in
    ap (λ (a : List ℕ). take (28 + n + 2) (a ++ (check ++ rest))) begun
    ∙ ap (take (28 + n + 2)) (sym (append_assoc first check rest))
    ∙ take_at (first ++ check) rest (28 + n + 2) few
    ∙ append_assoc front (take n (room_in bytes)) check

-- leave those as they were
pub ends_leave : (n : ℕ) (bytes front check : List ℕ) → n + 28 ≤ length bytes → length front ≡ 28
    → take n (room_in (take (28 + n) (front ++ drop 28 bytes) ++ (check ++ drop (28 + n + 2 - (28 + n)) (drop (28 + n) (front ++ drop 28 bytes))))) ≡ take n (room_in bytes)
ends_leave n bytes front check long size =
    let written : List ℕ = front ++ drop 28 bytes in
    let rest : List ℕ = check ++ drop (28 + n + 2 - (28 + n)) (drop (28 + n) written) in
    ap (take n) (behind 28 n written rest (omega (arith, length-append front (drop 28 bytes), size))
    ∙ ap (λ (a : List ℕ). take n a ++ rest) (drop_at front (drop 28 bytes) 28 size))
    ∙ take_at (take n (drop 28 bytes)) rest n (length-take-le n (drop 28 bytes) (omega (arith, long, length-drop 28 bytes)))

-- an own block that is written before it
own_put : (bytes own : List ℕ) → 28 ≤ length bytes → drop 14 (take 14 bytes ++ (own ++ drop 14 (drop 14 bytes))) ≡ own ++ drop 28 bytes
own_put bytes own h = drop_at (take 14 bytes) (own ++ drop 14 (drop 14 bytes)) 14 (length-take-le 14 bytes (omega (arith, h))) ∙ ap (λ (t : List ℕ). own ++ t) (drop-drop 14 14 bytes)

pub own_leaves : (bytes room own : List ℕ) → 28 ≤ length bytes → length own ≡ 14 → room_in bytes ≡ room → room_in (take 14 bytes ++ (own ++ drop 14 (drop 14 bytes))) ≡ room
own_leaves bytes room own h size e =
    let put : List ℕ = take 14 bytes ++ (own ++ drop 14 (drop 14 bytes)) in
    sym (drop-drop 14 14 put) ∙ ap (drop 14) (own_put bytes own h) ∙ drop_at own (drop 28 bytes) 14 size ∙ e

pub own_before : (n : ℕ) (bytes room own : List ℕ) → 28 ≤ length bytes → length own ≡ 14 → room_in bytes ≡ room
    → take (28 + n - 14) (drop 14 (take 14 bytes ++ (own ++ drop 14 (drop 14 bytes)))) ≡ own ++ take n room
own_before n bytes room own h size e =
    let long : 28 + n - 14 ≡ 14 + n = omega arith in
    ap₂ (λ k (t : List ℕ). take k t) long (own_put bytes own h)
    ∙ take-add 14 n (own ++ drop 28 bytes)
    ∙ ap₂ (λ (a b : List ℕ). a ++ take n b) (take_at own (drop 28 bytes) 14 size) (drop_at own (drop 28 bytes) 14 size ∙ e)

-- it stays as long
pub same_room : (start end : ℕ) (room more : List ℕ) → start ≤ end → end ≤ length room → length more ≡ end - start → length (take start room ++ (more ++ drop (end - start) (drop start room))) ≡ length room
same_room start end room more h k size =
    omega (
      arith,
      h,
      k,
      size,
      length-append (take start room) (more ++ drop (end - start) (drop start room)),
      length-append more (drop (end - start) (drop start room)),
      length-take-le start room (omega (arith, h, k)),
      length-drop (end - start) (drop start room),
      length-drop start room,
    )

pub first_long : (bytes room : List ℕ) → length bytes ≤ length room → length (bytes ++ drop (length bytes) room) ≡ length room
first_long bytes room h = omega (arith, h, length-append bytes (drop (length bytes) room), length-drop (length bytes) room)
