-- What bytes tell of a PMU is what is read of them.
use Rattle.std.proofs.Common.{◌≡◌, ℕ, List, [], ◌∷◌, refl, ap, subst, ◌∙◌, Some, None}
use Rattle.std.proofs.lemmas.Option.{none-some, same_Some}
use Rattle.pdc_life.specs.declared.given.Settings.{Settings}
use Rattle.pdc_life.specs.declared.pmu.Pmu.{Pmu}
use Rattle.pdc_life.specs.Arrival.{Arrival, BytesRefused, Data, Layout}
use Rattle.pdc_life.specs.CoreKind.{OfNode}
use Rattle.pdc_life.specs.NodeReading.{Reads}
use Rattle.pdc_life.specs.OneLife.{ReadsOnce}
use Rattle.pdc_history.specs.declared.key.Key.{Key}
use Rattle.pdc_history.specs.declared.key.Key.TheVariants.{Count, Instant}
use Rattle.pdc_history.specs.Told.{Tells, ToldView, told_in}

-- what is told under a key
abbrev pub view : Key → List ℕ → ToldView
view key x = record { key = key; content = x }

pub told_is_read : ReadsOnce → (settings : Settings) (pmu : Pmu) (bytes : List ℕ) (a : Arrival) (key : Key) (x : List ℕ) → Reads settings 0 pmu bytes a → Tells settings pmu bytes key x → told_in a ≡ Some (view key x)
told_is_read once settings pmu bytes a (Instant i) x reads tells =
    ap told_in (once (OfNode settings) 0 pmu bytes a (Data i tells.quality x) reads tells.is_data)
told_is_read once settings pmu bytes a (Count n) x reads tells =
    ap told_in (once (OfNode settings) 0 pmu bytes a (Layout None ((0, tells.section) ∷ [])) reads (refl, tells.valid))
    ∙ ap (λ (m : ℕ). Some (view (Count m) tells.section.bytes)) tells.same_count ∙ ap (λ (y : List ℕ). Some (view (Count n) y)) tells.same_bytes

as_told : (settings : Settings) (pmu : Pmu) (bytes : List ℕ) (t : ToldView) (key : Key) (x : List ℕ) → Some t ≡ Some (view key x) → Tells settings pmu bytes t.key t.content → Tells settings pmu bytes key x
as_told settings pmu bytes t key x e is = subst (λ (v : ToldView). Tells settings pmu bytes v.key v.content) (same_Some t (view key x) e) is

pub read_is_told : (settings : Settings) (pmu : Pmu) (bytes : List ℕ) (a : Arrival) (key : Key) (x : List ℕ) → Reads settings 0 pmu bytes a → told_in a ≡ Some (view key x) → Tells settings pmu bytes key x
read_is_told settings pmu bytes (BytesRefused refusal) key x reads e = absurd (none-some (view key x) e)
read_is_told settings pmu bytes (Data i q payload) key x reads e =
    as_told settings pmu bytes (view (Instant i) payload) key x e (record { quality = q; is_data = reads })
read_is_told settings pmu bytes (Layout None []) key x reads e = absurd reads
read_is_told settings pmu bytes (Layout None ((c, s) ∷ [])) key x reads e =
    as_told settings pmu bytes (view (Count s.count) s.bytes) key x e (record { section = s; valid = reads.1; same_count = refl; same_bytes = refl })
read_is_told settings pmu bytes (Layout None ((c, s) ∷ t ∷ rest)) key x reads e = absurd reads
read_is_told settings pmu bytes (Layout (Some stamp) sections) key x reads e = absurd reads
