-- What is held of all columns, written once.
use Rattle.std.proofs.Common.{◌≡◌, ◌∙◌, ℕ, Bool, true, false, List, ◌∷◌, ap, append-nil, arith, cond, length, map, refl, replicate, suc, sym, zero}
use Rattle.std.specs.List.{refill}
use Rattle.std.proofs.lemmas.Bool.{false≢true}
use Rattle.std.proofs.Common.{true≢false}
use Rattle.std.proofs.lemmas.List.{drop_all, length-replicate, take_all}
use Rattle.pdc_columns.specs.declared.column.Held.{Held}

-- what is seen of it, where it is written once, and where it is not
pub seen_once : (is_one : Bool) (one : Held) (each seen : List Held) → is_one ≡ true → cond is_one (replicate (length each) one) each ≡ seen → seen ≡ replicate (length each) one
seen_once true one each seen e k = sym k
seen_once false one each seen e k = absurd (false≢true e)

pub seen_each : (is_one : Bool) (one : Held) (each seen : List Held) → is_one ≡ false → cond is_one (replicate (length each) one) each ≡ seen → seen ≡ each
seen_each true one each seen e k = absurd (true≢false e)
seen_each false one each seen e k = sym k

-- how many there are
pub seen_count : (is_one : Bool) (one : Held) (each seen : List Held) → cond is_one (replicate (length each) one) each ≡ seen → length seen ≡ length each
seen_count true one each seen k = ap length (sym k) ∙ length-replicate (length each) one
seen_count false one each seen k = ap length (sym k)

pub map_replicated : (f : Held → Held) (n : ℕ) (x : Held) → map f (replicate n x) ≡ replicate n (f x)
map_replicated f zero x = refl
map_replicated f (suc n) x = ap (λ xs. f x ∷ xs) (map_replicated f n x)

-- as many again, in place of those that were there
pub rewritten : {X : Type 0} → (hs ws : List X) → length ws ≡ length hs → refill (length hs) hs ws ≡ ws
rewritten hs ws k = rw (drop_all (length ws) hs (omega arith), append-nil ws) (take_all (length hs) ws (omega arith))
