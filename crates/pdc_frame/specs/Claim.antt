-- A frame whose check word was not computed: what stands before its payload, and in the place of CHK.
use Rattle.std.specs.Prelude.{◌≡◌, ◌==◌, ◌++◌, ℕ, Bool, List, false, true}
use Rattle.pdc_words.specs.CheckWord.{check_word_of}
use Rattle.pdc_frame.specs.Frame.{Fields, IsFirstFault, IsFrame}
use Rattle.pdc_words.specs.Bytes.{word_at}
use Rattle.pdc_frame.specs.declared.claim.Claim.{Claim}
use Rattle.pdc_frame.specs.declared.claim.LentClaim.{LentClaim}
use Rattle.pdc_frame.specs.declared.fault.FrameFault.TheVariants.{BadCheck}

-- the word in the place of CHK is the check word of what stands before it, with this payload
abbrev pub is_right : Claim → List ℕ → Bool
is_right claim payload = check_word_of (claim.header ++ payload) == claim.check

-- the same, of bytes that are lent
abbrev pub claim_of : LentClaim → Claim
claim_of lent = record { header = lent.header.now; check = word_at lent.check.now 0 }

-- The bytes are a frame with these fields where that is so, and else the check word is the first cause why they are none.
pub record Claims (bytes : List ℕ) (f : Fields) (claim : Claim) : Type 0 where
  pub right : is_right claim f.payload ≡ true → IsFrame bytes f
  pub wrong : is_right claim f.payload ≡ false → IsFirstFault bytes BadCheck
