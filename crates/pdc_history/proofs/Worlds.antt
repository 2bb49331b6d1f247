-- What may be sent after these frames may happen in each history that has them, and a refusal has the cause of a fault there.
use Rattle.std.proofs.Common.{ℕ, List, refl, sym, subst, ◌∙◌, ◌++◌, ap₂, append-nil}
use Rattle.pdc_life.specs.declared.given.Settings.{Settings}
use Rattle.pdc_life.specs.declared.pmu.Pmu.{Pmu}
use Rattle.pdc_history.specs.Asked as asked
use Rattle.pdc_history.specs.History as history
use Rattle.pdc_history.specs.Pmus.{PmusSendTheirOwn}
use Rattle.pdc_history.specs.World.{Happened, World, sent}
use Rattle.pdc_history.specs.declared.send_fault.SendFault.{SendFault}
use Rattle.pdc_history.specs.declared.send_fault.SendFault.TheVariants.{Foreign, NoMemory, OtherBody, OtherSection}
use Rattle.pdc_history.specs.declared.key.Key.TheVariants.{Count, Instant}
use Rattle.pdc_history.specs.Histories.{HasCause, IsSentIn, MayBeSent, NoneIsAdded, OneIsAdded, OthersSendNone}
use Rattle.pdc_history.specs.Sent.{HasOther, IsOfPmu, IsOfNone, IsSendFault, MaySendAfter, SentView}

-- what holds of the frames and the settings holds of those of the world
in_world : (P : Settings → List (List ℕ) → Type 0) (W : World) (H : List Happened) (v : SentView) → IsSentIn W H v → P v.settings v.frames → P W.a.settings (sent W H)
in_world P W H v is h = subst (λ (s : Settings). P s (sent W H)) (sym is.settings) (subst (λ (F : List (List ℕ)). P v.settings F) (sym is.frames) h)

of_pmu : (W : World) (p : ℕ) (pmu : Pmu) (bytes : List ℕ) → IsOfPmu W.a.settings p pmu bytes → history.IsOfPmu W p pmu bytes
of_pmu W p pmu bytes is = record { listed = is.listed; fields = is.fields; of_stream = is.of_stream }

may_send : (W : World) (H : List Happened) (bytes : List ℕ) → MaySendAfter W.a.settings (sent W H) bytes → history.MaySend W H bytes
may_send W H bytes may = record {
  p = may.p;
  pmu = may.pmu;
  of_pmu = of_pmu W may.p may.pmu bytes may.of_pmu;
  one_body = λ other i q r payload body among a b.
      may.one other (Instant i) payload body among (record { quality = q; is_data = a }) (record { quality = r; is_data = b });
  one_section = λ other s t among a b same.
      may.one other (Count t.count) s.bytes t.bytes among (record { section = s; valid = a; same_count = same; same_bytes = refl })
      (record { section = t; valid = b; same_count = refl; same_bytes = refl });
}

pub may_be_sent : (v : SentView) (bytes : List ℕ) → MaySendAfter v.settings v.frames bytes → MayBeSent v bytes
may_be_sent v bytes may = λ W H is. may_send W H bytes (in_world (λ s F. MaySendAfter s F bytes) W H v is may)

other_body : (W : World) (H : List Happened) (bytes : List ℕ) (i : ℕ) → HasOther W.a.settings (sent W H) bytes (Instant i) → asked.HasOtherBody W H bytes
other_body W H bytes i has = record {
  p = has.p;
  pmu = has.pmu;
  of_pmu = of_pmu W has.p has.pmu bytes has.of_pmu;
  instant = i;
  quality = has.tells.quality;
  payload = has.content;
  is_data = has.tells.is_data;
  other = has.other;
  among = has.among;
  its_quality = has.was.quality;
  its_payload = has.its_content;
  was = has.was.is_data;
  differs = has.differs;
}

other_section : (W : World) (H : List Happened) (bytes : List ℕ) (n : ℕ) → HasOther W.a.settings (sent W H) bytes (Count n) → asked.HasOtherSection W H bytes
other_section W H bytes n has = record {
  p = has.p;
  pmu = has.pmu;
  of_pmu = of_pmu W has.p has.pmu bytes has.of_pmu;
  section = has.tells.section;
  valid = has.tells.valid;
  other = has.other;
  among = has.among;
  its_section = has.was.section;
  was = has.was.valid;
  count = has.tells.same_count ∙ sym has.was.same_count;
  differs = λ e. has.differs (sym has.tells.same_bytes ∙ e ∙ has.was.same_bytes);
}

foreign : (W : World) (bytes : List ℕ) → IsOfNone W.a.settings bytes → (p : ℕ) (pmu : Pmu) → history.IsOfPmu W p pmu bytes → ⊥
foreign W bytes none p pmu is = none p pmu (record { listed = is.listed; fields = is.fields; of_stream = is.of_stream })

pub has_cause : (v : SentView) (bytes : List ℕ) (fault : SendFault) → IsSendFault v bytes fault → HasCause v bytes fault
has_cause v bytes Foreign none = λ W H is. foreign W bytes (in_world (λ s F. IsOfNone s bytes) W H v is none)
has_cause v bytes OtherBody (i, has) = λ W H is. other_body W H bytes i (in_world (λ s F. HasOther s F bytes (Instant i)) W H v is has)
has_cause v bytes OtherSection (n, has) = λ W H is. other_section W H bytes n (in_world (λ s F. HasOther s F bytes (Count n)) W H v is has)
has_cause v bytes NoMemory e = e

-- ---- what others send, and what the next thing adds

pub others_send_none : PmusSendTheirOwn → OthersSendNone
others_send_none own W H h v bytes is has among apart = λ p pmu of.
    let its : IsOfPmu W.a.settings p pmu bytes = subst (λ (s : Settings). IsOfPmu s p pmu bytes) (sym has.settings) of in
    apart (own W H h p pmu bytes its.fields is its.listed among its.of_stream)

pub one_is_added : OneIsAdded
one_is_added W H h v bytes has sends = record {
  frames = ap₂ (λ (F G : List (List ℕ)). F ++ G) has.frames sends;
  settings = has.settings;
}

pub none_is_added : NoneIsAdded
none_is_added W H h v has sends = record {
  frames = ap₂ (λ (F G : List (List ℕ)). F ++ G) has.frames sends ∙ append-nil v.frames;
  settings = has.settings;
}
