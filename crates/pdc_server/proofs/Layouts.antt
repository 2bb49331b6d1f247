-- What is spelled as a layout frame is read as one.
use Rattle.std.proofs.Common.{◌≡◌, ◌<◌, ◌∙◌, ℕ, List, [], ◌∷◌, ◌++◌, sym, ap, subst, refl, length, get_or, drop, Option, None}
use Rattle.std.specs.Prelude.{Result, Ok, Err, IsOk, IsOkAnd, IfSome, Some, map}
use Rattle.std.proofs.Math.Seq.{drop-cons}
use Rattle.pdc_frame.specs.Frame.{Fields}
use Rattle.pdc_cfg.specs.Config.{ConfigFields, IsConfig, IsConfigKind}
use Rattle.pdc_server.specs.Stream.{IsLayout, IsLayoutWith, Stream}
use Rattle.pdc_server.specs.declared.stamp.Stamp.{Stamp}

pub is_ok : {T E : Type 0} (P : T → Type 0) (answer : Result T E) → IsOkAnd answer P → IsOk answer
is_ok P (Ok x) p = refl
is_ok P (Err e) p = absurd p

pub of_ok : {T E : Type 0} (P : T → Type 0) (answer : Result T E) (x : T) → answer ≡ Ok x → IsOkAnd answer P → P x
of_ok P answer x is p = subst (λ (r : Result _ _). IsOkAnd r P) is p

pub config_kind : (stream : Stream) (stamp : Stamp) (bytes : List ℕ) (config : ConfigFields) (l : IsLayoutWith stream stamp bytes config) (f : Fields) → f ≡ l.fields → IsConfigKind f.kind
config_kind stream stamp bytes config l f is = subst IsConfigKind (sym (ap (λ (x : Fields). x.kind) is ∙ l.kind)) tt

pub config_spelled : (stream : Stream) (stamp : Stamp) (bytes : List ℕ) (config : ConfigFields) (l : IsLayoutWith stream stamp bytes config) (f : Fields) → f ≡ l.fields → IsConfig f.payload config
config_spelled stream stamp bytes config l f is = subst (λ (x : Fields). IsConfig x.payload config) (sym is) l.spelled

-- a layout frame that was appended to nothing
pub layout_alone : (stream : Stream) (stamp : Stamp) (cleared items now : List ℕ) → (frame : List ℕ) × ∥ IsLayout stream stamp frame ∥₁ × (items ≡ cleared ++ frame) → cleared ≡ [] → now ≡ items → ∥ IsLayout stream stamp now ∥₁
layout_alone stream stamp cleared items now h none is =
    subst (λ (bytes : List ℕ). ∥ IsLayout stream stamp bytes ∥₁) (sym (is ∙ h.2 ∙ ap (λ (c : List ℕ). c ++ h.0) none)) h.1

-- a list that has an element begins with it
pub first_of_map : {A B : Type 0} (f : A → B) (items : List A) (first : A) → 0 < length items → first ≡ get_or items 0 first → map f items ≡ f first ∷ map f (drop 1 items)
first_of_map {A} f items first some is = ap (map f) (drop-cons items 0 first some ∙ ap (λ (x : A). x ∷ drop 1 items) (sym is))

pub where_some : {A : Type 0} {P Q : A → Type 0} (answer : Option A) → ((x : A) → P x → Q x) → IfSome answer P → IfSome answer Q
where_some None f h = tt
where_some (Some x) f h = f x h
