-- What is kept stays data frames.
use Rattle.std.proofs.Common.{◌≡◌, ◌∙◌, refl, sym, ap, ap₂, subst, ℕ, suc, zero, List, [], ◌∷◌, ◌++◌, drop, length, ◌-◌}
use Rattle.std.specs.Prelude.{Result, Ok, Err, IfOk, OnErr, OnOk, Bool, true, false}
use Rattle.std.proofs.Math.Logic.{∥∥₁_elim, ∥∥₁_map, ∥∥₁_prop}
use Rattle.pdc_session.specs.Recent.{Kept, RecentView, is_old, pushed}
use Rattle.pdc_server.specs.Stream.{AreData, IsData, Stream}
use Rattle.pdc_server.specs.declared.stamp.Stamp.{Stamp}

one_more : (stream : Stream) (stamp : Stamp) (frames : List Kept) (frame : Kept) → AreData stream stamp frames → IsData stream stamp frame.instant frame.bytes → AreData stream stamp (frames ++ frame ∷ [])
one_more stream stamp [] frame all one = (one, tt)
one_more stream stamp (f ∷ fs) frame all one = (all.0, one_more stream stamp fs frame all.1 one)

fewer : (stream : Stream) (stamp : Stamp) (n : ℕ) (frames : List Kept) → AreData stream stamp frames → AreData stream stamp (drop n frames)
fewer stream stamp zero frames all = all
fewer stream stamp (suc n) [] all = tt
fewer stream stamp (suc n) (f ∷ fs) all = fewer stream stamp n fs all.1

pushed_are_data : (stream : Stream) (stamp : Stamp) (old : RecentView) (instant : ℕ) (bytes : List ℕ) → AreData stream stamp old.frames → IsData stream stamp instant bytes → AreData stream stamp (pushed old instant bytes).frames
pushed_are_data stream stamp old instant bytes all one =
    let frame : Kept = record { instant = instant; bytes = bytes } in
    fewer stream stamp (length (old.frames ++ frame ∷ []) - 256) (old.frames ++ frame ∷ []) (one_more stream stamp old.frames frame all one)

-- whatever a push is answered
pub kept_are_data : {U E : Type 0} (answer : Result U E) (stream : Stream) (stamp : Stamp) (old new : RecentView) (instant : ℕ) (bytes : List ℕ) → ∥ AreData stream stamp old.frames ∥₁ → ∥ IsData stream stamp instant bytes ∥₁
    → (is_old old.greatest instant ≡ false → OnOk answer (new ≡ pushed old instant bytes)) → (is_old old.greatest instant ≡ true → OnOk answer (new ≡ old))
    → OnErr answer (new ≡ old) → ∥ AreData stream stamp new.frames ∥₁
kept_are_data (Ok u) stream stamp old new instant bytes all one later same err =
    let later_data : new ≡ pushed old instant bytes → ∥ AreData stream stamp new.frames ∥₁ = λ is.
    ∥∥₁_elim one ∥∥₁_prop (λ (d : IsData stream stamp instant bytes). ∥∥₁_map all (λ (a : AreData stream stamp old.frames).
    subst (λ (v : RecentView). AreData stream stamp v.frames) (sym is) (pushed_are_data stream stamp old instant bytes a d))) in
    let same_data : new ≡ old → ∥ AreData stream stamp new.frames ∥₁ = λ is. subst (λ (v : RecentView). ∥ AreData stream stamp v.frames ∥₁) (sym is) all in
    let both : (b : Bool) → (b ≡ false → new ≡ pushed old instant bytes) → (b ≡ true → new ≡ old) → ∥ AreData stream stamp new.frames ∥₁ =
    λ b. elim b as (λ (b : Bool). (b ≡ false → new ≡ pushed old instant bytes) → (b ≡ true → new ≡ old) → ∥ AreData stream stamp new.frames ∥₁)
    [ true ↦ λ l s. same_data (s refl) | false ↦ λ l s. later_data (l refl) ] in
    both (is_old old.greatest instant) later same
kept_are_data (Err e) stream stamp old new instant bytes all one later same err = subst (λ (v : RecentView). ∥ AreData stream stamp v.frames ∥₁) (sym err) all

-- what is made of a value and of three facts is the same where the value is
pub made_alike : {A X Q R : Type 0} {P : A → Type 0} (make : (a : A) → ∥ P a ∥₁ → ∥ Q ∥₁ → ∥ R ∥₁ → X) (a b : A) (p : ∥ P a ∥₁) (q : ∥ P b ∥₁) (s t : ∥ Q ∥₁) (u v : ∥ R ∥₁) → a ≡ b → make a p s u ≡ make b q t v
made_alike {P = P} make a b p q s t u v is =
    let at_a : (r : ∥ P a ∥₁) → make a p s u ≡ make a r t v = λ r. ap (make a p s) (∥∥₁_prop u v) ∙ ap₂ (λ x y. make a x y v) (∥∥₁_prop p r) (∥∥₁_prop s t) in
    subst (λ (x : _). (r : ∥ P x ∥₁) → make a p s u ≡ make x r t v) is at_a q

pub where_err : {U E P Q : Type 0} (answer : Result U E) → (P → Q) → OnErr answer P → OnErr answer Q
where_err (Ok u) f p = tt
where_err (Err e) f p = f p

pub where_ok : {U E P Q : Type 0} (answer : Result U E) → (P → Q) → OnOk answer P → OnOk answer Q
where_ok (Ok u) f p = f p
where_ok (Err e) f p = tt

pub if_both : {U E Q : Type 0} {P R : U → Type 0} (answer : Result U E) → ((u : U) → P u → Q → R u) → IfOk answer P → OnOk answer Q → IfOk answer R
if_both (Ok u) f p q = f u p q
if_both (Err e) f p q = tt
