use Rattle.std.proofs.Common.{List, arith, subst, sym, ℕ, ◌∙◌, ◌-◌, ◌≡◌, length}
use Rattle.std.specs.Prelude.{slice_index}
use Rattle.pdc_words.specs.Bytes.{word_at}
use Rattle.pdc_frame.specs.Claim.{Claims}
use Rattle.pdc_frame.specs.Frame.{Fields, IsSync, check_in}
use Rattle.pdc_frame.proofs.Claims.{claims_of, word_in_front}
use Rattle.pdc_frame.proofs.Wholes.{sync_of}
use Rattle.pdc_frame.proofs.claim.read_claimed.Goals as goal

pub returns-clause-claims : goal.returns-clause-claims
returns-clause-claims c =
    let bytes : List ℕ = c.args.bytes.now in
    let id = c.read_word-id.ensures in
    let sync : IsSync (slice_index bytes 0) (slice_index bytes 1) =
    sync_of _ _ c.in_ok-kind.kind c.in_ok-kind.version c.in_ok-kind.ensures.1 c.in_ok-kind.ensures.0 c.in_ok-kind.ensures.2 in
    let size : word_at bytes 2 ≡ length bytes = sym c.read_word.ensures ∙ sym c.from.ensures ∙ c.if-from-bytes.false in
    let last : word_at c.in_ok-check.check.now 0 ≡ check_in bytes = word_in_front c.in_ok-check.check.now bytes (length bytes - 2) c.in_ok-check.ensures.cases.1.same in
    subst (λ (f : Fields). Claims bytes f (record { header = c.in_ok-header.header.now; check = word_at c.in_ok-check.check.now 0 })) (sym c.fields_in_places-frame.ensures)
    (claims_of bytes c.in_ok-kind.kind c.in_ok-kind.version c.in_ok-header.header.now (word_at c.in_ok-check.check.now 0) (λ i. omega (arith, c.type_inv.bytes i)) ((omega arith, sync), size)
    c.in_ok-kind.ensures.0 c.in_ok-kind.ensures.2 (omega arith) (omega (arith, c.read_word-id.type_inv)) c.in_ok-header.ensures.cases.same last)
