use Rattle.std.proofs.Common.{◌≡◌, ℕ, List, length, arith, sym, ◌∙◌, subst}
use Rattle.std.specs.Prelude.{slice_index}
use Rattle.pdc_words.specs.Bytes.{AreBytes, word_at}
use Rattle.pdc_frame.specs.Frame.{IsFrame, IsSync, IsChecked}
use Rattle.pdc_frame.proofs.Places.{check-spelled, IsFrame-checked}
use Rattle.pdc_frame.proofs.Wholes.{sync_of}
use Rattle.pdc_frame.proofs.reading.read_frame.Goals as goal

pub returns-then-read_word-check-clause-only : goal.returns-then-read_word-check-clause-only
returns-then-read_word-check-clause-only c = λ f h.
    let fits : AreBytes c.args.bytes.now = λ i. omega (arith, c.type_inv.bytes i) in
    c.if-read_word-check.true (c.read_word-2.ensures ∙ check-spelled c.args.bytes.now f fits h.spelled ∙ sym c.check_word-check.ensures.value)

pub returns-clause-found : goal.returns-clause-found
returns-clause-found c =
    let bytes : List ℕ = c.args.bytes.now in
    let id = c.read_word-id.ensures in
    let sync : IsSync (slice_index bytes 0) (slice_index bytes 1) =
    sync_of _ _ c.in-Some.kind c.in-Some.version c.in-Some.ensures.1 c.in-Some.ensures.0 c.in-Some.ensures.2 in
    let size : word_at bytes 2 ≡ length bytes = sym c.read_word.ensures ∙ sym c.from.ensures ∙ c.if-from-bytes.false in
    let checked : IsChecked bytes = (((omega arith, sync), size), sym c.read_word-2.ensures ∙ c.if-read_word-check.false ∙ c.check_word-check.ensures.value) in
    subst (IsFrame bytes) (sym c.fields_in_places.ensures)
    (IsFrame-checked bytes c.in-Some.kind c.in-Some.version (λ i. omega (arith, c.type_inv.bytes i)) checked c.in-Some.ensures.0 c.in-Some.ensures.2 (omega arith) (omega (arith, c.read_word-id.type_inv)))
