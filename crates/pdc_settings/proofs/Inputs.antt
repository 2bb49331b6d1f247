-- Lists of values that each say something, as those of the streams' tables.
use Rattle.std.proofs.Common.{◌≡◌, ℕ, ◌+◌, ◌<◌, ◌≤◌, List, [], ◌∷◌, ◌++◌, length, map, take, drop, get_or, sym, ap, ◌∙◌, subst, suc, inl, inr, None, Some, Result, Ok, Err, IfErr}
use Rattle.std.proofs.lemmas.List.{map-append, map_push, take-append-drop, take_more, take_all}
use Rattle.std.proofs.Math.Seq.{drop-cons}
use Rattle.std.specs.Prelude.{IsSomeAnd}
use Rattle.toml.specs.Data.{Data, Items, no_items, item, Members}
use Rattle.toml.specs.Parse.{parse_document}
use Rattle.toml.specs.View.{items_of, items_view, view}
use Rattle.toml.specs.declared.value.Value.{Value}
use Rattle.pdc_settings.specs.Inputs.{EachSays, IsNoInput, IsOneOf, commands_of, streams_in, tcp_of}
use Rattle.pdc_keys.specs.Places.{IsUnread}
use Rattle.pdc_settings.specs.Network.{IsNetworkFault, fault_at}
use Rattle.pdc_settings.specs.Settings.{IsFaultOf}
use Rattle.pdc_settings.specs.declared.fault.SettingsFault.{SettingsFault}
use Rattle.pdc_settings.specs.declared.fault.SettingsFault.TheVariants.{Toml, Range, DoubledId, NoMemory}
use Rattle.pdc_keys.specs.declared.unread.Unread.{Unread}
use Rattle.pdc_keys.specs.declared.wanted.Wanted.TheVariants as Lacks

-- each says one, and so does one more value
says-push : {A : Type 0} (Says : Data → A → Type 0) (values : List Data) (all : List A) (value : Data) (a : A) → EachSays Says (items_of values) all → Says value a → EachSays Says (items_of (values ++ value ∷ [])) (all ++ a ∷ [])
says-push Says [] [] value a h k = (k, tt)
says-push Says [] (x ∷ all) value a h k = absurd h
says-push Says (v ∷ values) [] value a h k = absurd h
says-push Says (v ∷ values) (x ∷ all) value a h k = (h.0, says-push Says values all value a h.1 k)

-- the same of values that are taken one after the other
pub says-taken : {A : Type 0} (Says : Data → A → Type 0) (values : List Value) (i : ℕ) (all : List A) (value : Value) (a : A) → i < length values → value ≡ get_or values i value → EachSays Says (items_view (take i values)) all → Says (view value) a
    → EachSays Says (items_view (take (i + 1) values)) (all ++ a ∷ [])
says-taken Says values i all value a below here h k =
    let more : take (i + 1) values ≡ take i values ++ value ∷ [] = take_more values i value below ∙ ap (λ v. take i values ++ v ∷ []) (sym here) in
    subst (λ vs. EachSays Says vs (all ++ a ∷ [])) (sym (ap items_view more ∙ ap items_of (map_push view (take i values) value)))
    (says-push Says (map view (take i values)) all (view value) a h k)

pub says-all : {A : Type 0} (Says : Data → A → Type 0) (values : List Value) (i : ℕ) (all : List A) → length values ≤ i → EachSays Says (items_view (take i values)) all → EachSays Says (items_view values) all
says-all Says values i all above h = subst (λ vs. EachSays Says (items_view vs) all) (take_all i values above) h

one-at : (P : Data → Type 0) (values : List Data) (value : Data) (more : List Data) → P value → IsOneOf P (items_of (values ++ value ∷ more))
one-at P [] value more p = inl p
one-at P (v ∷ values) value more p = inr (one-at P values value more p)

-- one of the values is such, where the one at a place is
pub one-taken : (P : Data → Type 0) (values : List Value) (i : ℕ) (value : Value) → i < length values → value ≡ get_or values i value → P (view value) → IsOneOf P (items_view values)
one-taken P values i value below here p =
    let apart : values ≡ take i values ++ value ∷ drop (suc i) values =
    sym (take-append-drop i values) ∙ ap (λ vs. take i values ++ vs) (drop-cons values i value below ∙ ap (λ v. v ∷ drop (suc i) values) (sym here)) in
    subst (IsOneOf P) (sym (ap items_view apart ∙ ap items_of (map-append view (take i values) (value ∷ drop (suc i) values))))
    (one-at P (map view (take i values)) (view value) (map view (drop (suc i) values)) p)

-- a table of which a text was not read says nothing
pub tcp-fault : (value : Data) (unread : Unread) → IsUnread (tcp_of value ≡ None) unread → IsNoInput (fault_at Lacks.Tcp unread) value
tcp-fault value Unread.NoPlace h = h
tcp-fault value Unread.NoMemory h = tt

pub commands-fault : (value : Data) (unread : Unread) → IsUnread (commands_of value ≡ None) unread → IsNoInput (fault_at Lacks.Commands unread) value
commands-fault value Unread.NoPlace h = h
commands-fault value Unread.NoMemory h = tt

-- no table says a fault that is of no key
none-toml : (values : Items) → IsOneOf (IsNoInput Toml) values → ⊥
none-toml no_items h = h
none-toml (item value values) (inl h) = h
none-toml (item value values) (inr h) = none-toml values h

-- a fault of a document is one of the text that it was read from
pub text-fault : (text : List ℕ) (members : Members) (fault : SettingsFault) → parse_document text ≡ Some members → IsNetworkFault members fault → IsFaultOf IsNetworkFault text fault
text-fault text _ Toml h (inl e) = absurd e
text-fault text members Toml h (inr o) = absurd (none-toml (streams_in members) o)
text-fault text _ (Range wanted) h f = subst (λ found. IsSomeAnd found (λ members. IsNetworkFault members (Range wanted))) (sym h) f
text-fault text _ DoubledId h f = subst (λ found. IsSomeAnd found (λ members. IsNetworkFault members DoubledId)) (sym h) f
text-fault text _ NoMemory h f = tt

-- what holds of each fault holds of the fault of an answer
pub err-map : {A B : Type 0} (r : Result A B) (P Q : B → Type 0) → ((b : B) → P b → Q b) → IfErr r P → IfErr r Q
err-map (Ok a) P Q f h = tt
err-map (Err b) P Q f h = f b h
