use Rattle.std.proofs.Common.{◌≡◌, ℕ, [], ◌∷◌, ◌++◌, ◌∙◌, length, ap, refl, arith, rules}
use Rattle.std.specs.Int.{w16, to_be_bytes}
use Rattle.pdc_record.proofs.Beginnings.{length-began, start_found}
use Rattle.pdc_record.proofs.Numbers.{three_words}
use Rattle.pdc_record.proofs.starts.read_begun.Goals as goal

pub returns-then-body-lt-BEGUN_LEN : goal.returns-then-body-lt-BEGUN_LEN
returns-then-body-lt-BEGUN_LEN c = λ s told. absurd (omega (arith, c.if-body-lt-BEGUN_LEN.true, ap length told.spelled, length-began s told.fits))

pub returns : goal.returns
returns c =
    let version : c.split_word-version.result.0 ≡ 1 = omega (arith, c.if-version-ne-VERSION.false) in
    start_found c.args.body.now c.split_word-version.result.1.now c.split_byte-role.result.1.now c.split_word-id.result.1.now c.split_word-rate.result.1.now c.split_long-start.result.1.now
    c.split_wide-floor.result.1.now c.split_counts.result.1.now c.split_wide-now.result.1.now c.split_word-major.result.1.now c.split_word-minor.result.1.now
    (record {
      role = c.in_ok-role.role;
      id = c.split_word-id.result.0;
      rate = c.split_word-rate.result.0;
      start = c.split_long-start.result.0;
      floor = c.split_wide-floor.result.0;
      counts = c.split_counts.result.0;
      now = c.split_wide-now.result.0;
      program = c.split_word-major.result.0 ∷ c.split_word-minor.result.0 ∷ c.split_word-patch.result.0 ∷ [];
      settings = c.split_word-patch.result.1.now;
    })
    c.split_byte-role.result.0 c.split_word-major.result.0 c.split_word-minor.result.0 c.split_word-patch.result.0
    (record {
      id = search rules;
      rate = search rules;
      start = search rules;
      floor = search rules;
      counts = c.split_counts.ensures.fits;
      now = search rules;
      program = three_words c.split_word-major.result.0 c.split_word-minor.result.0 c.split_word-patch.result.0 (search rules) (search rules) (search rules);
    })
    refl (c.split_word-version.ensures.joined ∙ ap (λ (n : ℕ). to_be_bytes w16 n ++ c.split_word-version.result.1.now) version) c.split_byte-role.ensures.joined c.in_ok-role.ensures c.split_word-id.ensures.joined c.split_word-rate.ensures.joined
    c.split_long-start.ensures.joined c.split_wide-floor.ensures.joined c.split_counts.ensures.joined c.split_wide-now.ensures.joined c.split_word-major.ensures.joined c.split_word-minor.ensures.joined
    c.split_word-patch.ensures.joined
