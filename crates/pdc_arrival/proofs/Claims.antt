-- What bytes say, where it is known of them which fields they have if their check word is right.
use Rattle.std.proofs.Common.{◌≡◌, ◌<◌, Bool, ℕ, List, None, Option, Some, false, refl, true}
use Rattle.std.specs.Prelude.{IfSome, if◌then◌else◌}
use Rattle.pdc_life.specs.CoreKind.{OfMerger, Says}
use Rattle.pdc_life.specs.Arrival.{BytesRefused, Data}
use Rattle.pdc_life.specs.MergerReading.{ReadsFrom}
use Rattle.pdc_life.specs.declared.merging.MergedNode.{MergedNode}
use Rattle.pdc_life.specs.declared.merging.MergerSettings.{MergerSettings}
use Rattle.pdc_life.specs.declared.outcome.Refusal.TheVariants.{NoFrame}
use Rattle.pdc_life.specs.pdc_frame.Claim.{Claims, is_right}
use Rattle.pdc_life.specs.pdc_frame.Frame.{Fields}
use Rattle.pdc_life.specs.pdc_frame.Instant.{IsInstant}
use Rattle.pdc_life.specs.pdc_frame.declared.claim.Claim.{Claim}
use Rattle.pdc_life.specs.pdc_frame.declared.fault.FrameFault.TheVariants.{BadCheck}
use Rattle.pdc_life.specs.pdc_frame.declared.frame.Kind.TheVariants.{DataFrame}
use Rattle.pdc_arrival.specs.Claimed.{claimed_data, claimed_view}
use Rattle.pdc_arrival.specs.Heard.{node_of}
use Rattle.pdc_arrival.specs.declared.claimed.ClaimedData.{ClaimedData}
use Rattle.pdc_arrival.proofs.Listed.{listed_at}

by_right : (settings : MergerSettings) (node : MergedNode) (bytes : List ℕ) (f : Fields) (claim : Claim) (instant : ℕ) (b : Bool) → is_right claim f.payload ≡ b → Claims bytes f claim
    → f.id ≡ node.id.value → f.kind ≡ DataFrame → IsInstant f.soc f.frac node.time_base settings.output.rate instant
    → ReadsFrom settings node bytes (if b then Data instant f.quality f.payload else BytesRefused (NoFrame BadCheck))
by_right settings node bytes f claim instant true e claims id kind tag = record {
  fields = f;
  of_stream = record { frame = claims.right e; id = id };
  kind = kind;
  same_quality = refl;
  same_payload = refl;
  tag = tag;
}
by_right settings node bytes f claim instant false e claims id kind tag = claims.wrong e

pub claimed_reads : (settings : MergerSettings) (node : MergedNode) (bytes : List ℕ) (f : Fields) (claim : Claim) (instant : ℕ) → Claims bytes f claim → f.id ≡ node.id.value → f.kind ≡ DataFrame
    → IsInstant f.soc f.frac node.time_base settings.output.rate instant → ReadsFrom settings node bytes (claimed_data instant f.quality f.payload claim)
claimed_reads settings node bytes f claim instant claims id kind tag = by_right settings node bytes f claim instant (is_right claim f.payload) refl claims id kind tag

pub claimed_said : (settings : MergerSettings) (s : ℕ) (bytes : List ℕ) (c : Option ClaimedData) → s < 2 → IfSome c (λ (x : ClaimedData). ReadsFrom settings (node_of settings s) bytes (claimed_view x))
    → IfSome c (λ (x : ClaimedData). Says (OfMerger settings) s bytes (claimed_view x))
claimed_said settings s bytes None l h = tt
claimed_said settings s bytes (Some c) l h = record { sender = node_of settings s; listed = listed_at settings s l; reads = h }
