use Rattle.std.proofs.Common.{inr, ℕ, ◌+◌, ◌^◌, ◌<◌, ◌≤◌, List, ◌++◌, length, ap, ◌∙◌, refl, arith}
use Rattle.std.proofs.lemmas.Bool.{false≢true}
use Rattle.pdc_frame.specs.Frame.{Fields, IsFrame, header_of, spelling_of}
use Rattle.pdc_frame.specs.Parts.{WordsAreTheirBytes, PartsKeepTheirWords}
use Rattle.pdc_frame.specs.declared.frame.Kind.{Kind}
use Rattle.pdc_cfg.specs.declared.config.ConfigView.{ConfigView}
use Rattle.pdc_cfg.specs.Config.{config_fields_of, config_frame_of, payload_of}
use Rattle.pdc_cfg.proofs.Parts.{payload_bytes, whole_sections}
use Rattle.pdc_cfg.proofs.writing.write_config.Goals as goal

-- what is written is a frame
is_frame : (words : WordsAreTheirBytes) (keep : PartsKeepTheirWords) (kind : Kind) (id soc : ℕ) (config : ConfigView) → 0 < id → id ≤ 65534 → soc < 2 ^ 32
    → length (payload_of (config_fields_of config)) ≤ 57638 → IsFrame (spelling_of (config_frame_of kind id soc (config_fields_of config))) (config_frame_of kind id soc (config_fields_of config))
is_frame words keep kind id soc config low high soc_fits size = record {
  fits = record {
    version = inr refl;
    id_low = low;
    id_high = omega (arith, high);
    soc = soc_fits;
    quality = omega arith;
    frac = omega arith;
    size = omega (arith, size);
    bytes = payload_bytes words keep (config_fields_of config) (whole_sections config.sections.items);
  };
  spelled = refl;
}

pub returns-clause-ok : goal.returns-clause-ok
returns-clause-ok g c =
    let f : Fields = config_frame_of c.args.kind c.args.id.value c.args.soc (config_fields_of c.args.config.now) in
    let old : List ℕ = g.B.Buffer.content c.args.out.now in
    let begun = c.in_ok-begin_frame.ensures.ok ∙ ap (λ (n : ℕ). old ++ header_of f (n + 16)) c.payload_len.ensures.value in
    c.frames_are_written_in_parts.ensures.spelled f old _ _ _ _ (ap length c.content-start.ensures) begun c.append_payload.ensures.content c.end_frame.ensures.items

pub returns-clause-frame : goal.returns-clause-frame
returns-clause-frame g c =
    is_frame c.words_are_their_bytes.ensures c.parts_keep_their_words.ensures c.args.kind c.args.id.value c.args.soc c.args.config.now c.args.id.low c.args.id.high c.in_ok-begin_frame.ensures.soc (omega (arith, c.payload_len.ensures.value, c.payload_len.ensures.most))

pub returns-in_err-begin_frame-clause-frame : goal.returns-in_err-begin_frame-clause-frame
returns-in_err-begin_frame-clause-frame g c =
    is_frame c.words_are_their_bytes.ensures c.parts_keep_their_words.ensures c.args.kind c.args.id.value c.args.soc c.args.config.now c.args.id.low c.args.id.high c.in_err-begin_frame.ensures.soc (omega (arith, c.payload_len.ensures.value, c.payload_len.ensures.most))

pub returns-in_err-begin_frame-clause-room : goal.returns-in_err-begin_frame-clause-room
returns-in_err-begin_frame-clause-room g c =
    let f : Fields = config_frame_of c.args.kind c.args.id.value c.args.soc (config_fields_of c.args.config.now) in
    λ room. absurd (false≢true (c.in_err-begin_frame.ensures.room (omega (arith, room, c.payload_len.ensures.value, c.frames_are_written_in_parts.ensures.len f))))

pub returns-clause-in_place : goal.returns-clause-in_place
returns-clause-in_place g c =
    let f : Fields = config_frame_of c.args.kind c.args.id.value c.args.soc (config_fields_of c.args.config.now) in
    λ room. c.end_frame.ensures.in_place ∙ c.append_payload.ensures.in_place ∙ c.in_ok-begin_frame.ensures.in_place (omega (arith, room, c.payload_len.ensures.value, c.frames_are_written_in_parts.ensures.len f))
