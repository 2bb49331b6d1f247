-- What the lowest lane holds, where the bytes of a frame are known to be those of it.
use Rattle.std.proofs.lemmas.Bool.{false≢true}
use Rattle.std.proofs.Common.{◌≡◌, ℕ, Bool, true, false, cond, List, [], ◌∷◌, Option, None, Some, ◌∙◌, ap, arith, length, refl, replicate, subst, suc, sym, zero}
use Rattle.pdc_row.specs.CellView.{BlockView}
use Rattle.pdc_row.specs.KeptBlocks.{blocks_in, shapes_of}
use Rattle.pdc_columns.specs.ColumnParts.{block_of_second, columns_of}
use Rattle.pdc_columns.specs.Twin.{IsTwin, firsts, lowest, or_others, seconds, twin_of, with_block}
use Rattle.pdc_columns.specs.Views.{ColumnView, empty_column, kept}
use Rattle.pdc_columns.specs.declared.column.Held.{Held}

-- where lane 0 holds a block of each column, these are they
firsts_of : (n : ℕ) (h : Held) (fs ss : List BlockView) → h.first ≡ true → length fs ≡ n → length ss ≡ n → firsts (columns_of (replicate n h) fs ss) ≡ fs
firsts_of zero h [] ss e a b = refl
firsts_of zero h (f ∷ fs) ss e a b = absurd (omega (arith, a))
firsts_of (suc n) h [] ss e a b = absurd (omega (arith, a))
firsts_of (suc n) h (f ∷ fs) [] e a b = absurd (omega (arith, b))
firsts_of (suc n) h (f ∷ fs) (s ∷ ss) e a b =
    ap (λ (is : Bool). with_block (kept is (record { block = f; quality = h.first_quality })) (firsts (columns_of (replicate n h) fs ss))) e
    ∙ ap (λ (bs : List BlockView). f ∷ bs) (firsts_of n h fs ss e (omega (arith, a)) (omega (arith, b)))

firsts_first : (n : ℕ) (h : Held) (fs ss others : List BlockView) → h.first ≡ true → length fs ≡ n → length ss ≡ n → (n ≡ 0 → others ≡ []) → or_others (firsts (columns_of (replicate n h) fs ss)) others ≡ fs
firsts_first zero h [] ss others e a b none = none refl
firsts_first zero h (f ∷ fs) ss others e a b none = absurd (omega (arith, a))
firsts_first (suc n) h [] ss others e a b none = absurd (omega (arith, a))
firsts_first (suc n) h (f ∷ fs) ss others e a b none = ap (λ bs. or_others bs others) (firsts_of (suc n) h (f ∷ fs) ss e a b)

seconds_none : (n : ℕ) (h : Held) (fs ss : List BlockView) → n ≡ 0 → seconds (columns_of (replicate n h) fs ss) ≡ []
seconds_none zero h fs ss e = refl
seconds_none (suc n) h fs ss e = absurd (omega (arith, e))

pub firsts_held : (hs : List Held) (h : Held) (fs ss : List BlockView) (now : List ColumnView) → columns_of hs fs ss ≡ now → hs ≡ replicate (length hs) h → length fs ≡ length hs → length ss ≡ length hs → h.first ≡ true → fs ≡ lowest now
firsts_held hs h fs ss now seen one a b e =
    sym (firsts_first (length hs) h fs ss (seconds (columns_of (replicate (length hs) h) fs ss)) e a b (seconds_none (length hs) h fs ss)) ∙ ap (λ (xs : List Held). lowest (columns_of xs fs ss)) (sym one) ∙ ap lowest seen

-- where it holds none, and those of lane 1 stand in it, those are they
firsts_none : (n : ℕ) (h : Held) (fs ss : List BlockView) → h.first ≡ false → length fs ≡ n → length ss ≡ n → firsts (columns_of (replicate n h) fs ss) ≡ []
firsts_none zero h fs ss e a b = refl
firsts_none (suc n) h [] ss e a b = absurd (omega (arith, a))
firsts_none (suc n) h (f ∷ fs) [] e a b = absurd (omega (arith, b))
firsts_none (suc n) h (f ∷ fs) (s ∷ ss) e a b =
    ap (λ (is : Bool). with_block (kept is (record { block = f; quality = h.first_quality })) (firsts (columns_of (replicate n h) fs ss))) e
    ∙ firsts_none n h fs ss e (omega (arith, a)) (omega (arith, b))

seconds_of : (n : ℕ) (h : Held) (fs ss : List BlockView) → h.second ≡ true → h.alike ≡ true → length fs ≡ n → length ss ≡ n → seconds (columns_of (replicate n h) fs ss) ≡ fs
seconds_of zero h [] ss e k a b = refl
seconds_of zero h (f ∷ fs) ss e k a b = absurd (omega (arith, a))
seconds_of (suc n) h [] ss e k a b = absurd (omega (arith, a))
seconds_of (suc n) h (f ∷ fs) [] e k a b = absurd (omega (arith, b))
seconds_of (suc n) h (f ∷ fs) (s ∷ ss) e k a b =
    ap (λ (is : Bool). with_block (kept is (record { block = block_of_second h f s; quality = h.second_quality })) (seconds (columns_of (replicate n h) fs ss))) e
    ∙ ap (λ (is : Bool). cond is f s ∷ seconds (columns_of (replicate n h) fs ss)) k
    ∙ ap (λ (bs : List BlockView). f ∷ bs) (seconds_of n h fs ss e k (omega (arith, a)) (omega (arith, b)))

pub seconds_held : (hs : List Held) (h : Held) (fs ss : List BlockView) (now : List ColumnView) → columns_of hs fs ss ≡ now → hs ≡ replicate (length hs) h → length fs ≡ length hs → length ss ≡ length hs → h.first ≡ false → h.second ≡ true → h.alike ≡ true → fs ≡ lowest now
seconds_held hs h fs ss now seen one a b e k l =
    let cs : List ColumnView = columns_of (replicate (length hs) h) fs ss in
    sym (ap (λ (bs : List BlockView). or_others bs (seconds cs)) (firsts_none (length hs) h fs ss e a b) ∙ seconds_of (length hs) h fs ss k l a b)
    ∙ ap (λ (xs : List Held). lowest (columns_of xs fs ss)) (sym one) ∙ ap lowest seen

-- so what is known of the bytes is so of these blocks
pub known_of : (is_twin : Bool) (bytes : List ℕ) (fs : List BlockView) (now : List ColumnView) → is_twin ≡ true → IsTwin (twin_of is_twin bytes) now → fs ≡ lowest now → blocks_in (shapes_of fs) bytes ≡ fs
known_of false bytes fs now e t is = absurd (false≢true e)
known_of true bytes fs now e t is = subst (λ (bs : List BlockView). blocks_in (shapes_of bs) bytes ≡ bs) (sym is) t

-- in a row in which nothing was taken there is nothing to be known
lowest_blank : (n : ℕ) → lowest (replicate n empty_column) ≡ []
lowest_blank zero = refl
lowest_blank (suc n) = lowest_blank n

pub twin_blank : (twin : Option (List ℕ)) (n : ℕ) → IsTwin twin (replicate n empty_column)
twin_blank None n = tt
twin_blank (Some bytes) n = subst (λ (bs : List BlockView). blocks_in (shapes_of bs) bytes ≡ bs) (sym (lowest_blank n)) refl
