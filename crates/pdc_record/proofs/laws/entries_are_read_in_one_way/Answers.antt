use Rattle.std.proofs.Common.{◌-◌, ◌∙◌, refl, sym}
use Rattle.pdc_frame.specs.Bytes.{long_at}
use Rattle.pdc_record.specs.Entries.{unchecked_of}
use Rattle.pdc_record.proofs.Entries.{no_cause, one_cause, same_entry}
use Rattle.pdc_record.proofs.laws.entries_are_read_in_one_way.Goals as goal

pub returns-clause-written : goal.returns-clause-written
returns-clause-written c = λ f rest fits. record { fits = fits; more = rest; spelled = refl }

pub returns-clause-same : goal.returns-clause-same
returns-clause-same c = same_entry

pub returns-clause-one : goal.returns-clause-one
returns-clause-one c = λ bytes f g h k. (same_entry f g h.more k.more h.fits k.fits (sym h.spelled ∙ k.spelled)).0

pub returns-clause-cause : goal.returns-clause-cause
returns-clause-cause c = one_cause

pub returns-clause-apart : goal.returns-clause-apart
returns-clause-apart c = λ bytes f cause fits h.
    no_cause bytes f h (c.check_word_is_the_remainder.ensures.found (unchecked_of bytes) (c.parts_keep_their_words.ensures.bytes_in_take (long_at bytes 0 - 2) bytes fits)).small cause
