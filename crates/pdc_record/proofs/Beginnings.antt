-- The body of an entry that begins a record: what it says is told by its bytes.
use Rattle.std.proofs.Common.{◌≡◌, ℕ, ◌+◌, ◌^◌, ◌<◌, List, [], ◌∷◌, ◌++◌, length, refl, sym, ap, ◌∙◌, append_assoc, arith, length-append}
use Rattle.std.specs.Int.{w16, w32, w64, to_be_bytes}
use Rattle.pdc_record.specs.declared.begun.Role.{Role}
use Rattle.pdc_record.specs.declared.begun.Role.TheVariants.{Node, Merger}
use Rattle.pdc_life.specs.pdc_row.declared.limits.TheConstants.{MAX_PMUS}
use Rattle.pdc_record.specs.Told.{Start, Began}
use Rattle.pdc_record.specs.Bodies.{FitsStart, IsTold, back_of, body_of, front_of, role_number, words_of}
use Rattle.pdc_record.proofs.Numbers.{same_word, same_long, same_wide, same_byte, same_words, length-words_of}

-- the fields one behind another
spelled : ℕ → ℕ → ℕ → ℕ → ℕ → ℕ → List ℕ → ℕ → List ℕ → List ℕ → List ℕ
spelled version role id rate start floor counts now program settings =
    to_be_bytes w16 version ++ (role ∷ (to_be_bytes w16 id ++ (to_be_bytes w16 rate ++ (to_be_bytes w32 start ++ (to_be_bytes w64 floor ++ (
    words_of counts ++ (to_be_bytes w64 now ++ (words_of program ++ settings))))))))

chain : (s : Start) → body_of (Began s) ≡ spelled 1 (role_number s.role) s.id s.rate s.start s.floor s.counts s.now s.program s.settings
unfolding spelled
chain s = ap (λ (xs : List ℕ). front_of s ++ xs) (append_assoc (words_of s.counts) (back_of s) s.settings ∙ ap (λ (xs : List ℕ). words_of s.counts ++ (to_be_bytes w64 s.now ++ xs)) refl)

role_known : (role other : Role) → role_number role ≡ role_number other → role ≡ other
role_known Node Node e = refl
role_known Node Merger e = absurd (omega (arith, e))
role_known Merger Node e = absurd (omega (arith, e))
role_known Merger Merger e = refl

role_below : (role : Role) → role_number role < 2
role_below Node = omega arith
role_below Merger = omega arith

pub length-began : (s : Start) → FitsStart s → length (body_of (Began s)) ≡ 65 + length s.settings
unfolding spelled
length-began s h =
    let counts : length (words_of s.counts) ≡ 32 = omega (arith, length-words_of s.counts, h.counts.size) in
    let program : length (words_of s.program) ≡ 6 = omega (arith, length-words_of s.program, h.program.size) in
    let last : List ℕ = to_be_bytes w64 s.now ++ (words_of s.program ++ s.settings) in
    let behind : length last ≡ 14 + length s.settings = omega (arith, length-append (words_of s.program) s.settings, program) in
    ap length (chain s) ∙ omega (arith, length-append (words_of s.counts) last, counts, behind)

same_fields : (s t : Start) → s.role ≡ t.role → s.id ≡ t.id → s.rate ≡ t.rate → s.start ≡ t.start → s.floor ≡ t.floor → s.counts ≡ t.counts → s.now ≡ t.now → s.program ≡ t.program → s.settings ≡ t.settings → s ≡ t
same_fields s t role id rate start floor counts now program settings =
    let whole : ◌≡◌ {A = Start} (record { role = s.role; id = s.id; rate = s.rate; start = s.start; floor = s.floor; counts = s.counts; now = s.now; program = s.program; settings = s.settings }) t =
    rw (role, id, rate, start, floor, counts, now, program, settings) refl in
    whole

-- one body, one start
pub same_start : (s t : Start) → FitsStart s → FitsStart t → body_of (Began s) ≡ body_of (Began t) → s ≡ t
unfolding spelled
same_start s t h k e =
    let version = same_word 1 1 _ _ (omega arith) (omega arith) (sym (chain s) ∙ e ∙ chain t) in
    let role = same_byte (role_number s.role) (role_number t.role) _ _ version.1 in
    let id = same_word s.id t.id _ _ h.id k.id role.1 in
    let rate = same_word s.rate t.rate _ _ h.rate k.rate id.1 in
    let start = same_long s.start t.start _ _ h.start k.start rate.1 in
    let floor = same_wide s.floor t.floor _ _ h.floor k.floor start.1 in
    let counts = same_words MAX_PMUS s.counts t.counts _ _ h.counts k.counts floor.1 in
    let now = same_wide s.now t.now _ _ h.now k.now counts.1 in
    let program = same_words 3 s.program t.program _ _ h.program k.program now.1 in
    same_fields s t (role_known s.role t.role role.0) id.0 rate.0 start.0 floor.0 counts.0 now.0 program.0 program.1

-- a body that begins otherwise is that of no start
pub other_start : (body behind rest : List ℕ) (version role : ℕ) (s : Start) → version < 2 ^ 16 → body ≡ to_be_bytes w16 version ++ behind → behind ≡ role ∷ rest → IsTold 0 body (Began s)
    → (version ≡ 1) × (role ≡ role_number s.role)
unfolding spelled
other_start body behind rest version role s fits front next h =
    let first = same_word version 1 behind _ fits (omega arith) (sym front ∙ h.spelled ∙ chain s) in
    let second = same_byte role (role_number s.role) rest _ (sym next ∙ first.1) in
    (first.0, second.0)

-- what is read is spelled so
pub start_found : (body b1 b2 b3 b4 b5 b6 b7 b8 b9 b10 : List ℕ) (s : Start) (role major minor patch : ℕ) → FitsStart s → s.program ≡ major ∷ minor ∷ patch ∷ []
    → body ≡ to_be_bytes w16 1 ++ b1 → b1 ≡ role ∷ b2 → role_number s.role ≡ role → b2 ≡ to_be_bytes w16 s.id ++ b3 → b3 ≡ to_be_bytes w16 s.rate ++ b4
    → b4 ≡ to_be_bytes w32 s.start ++ b5 → b5 ≡ to_be_bytes w64 s.floor ++ b6 → b6 ≡ words_of s.counts ++ b7 → b7 ≡ to_be_bytes w64 s.now ++ b8
    → b8 ≡ to_be_bytes w16 major ++ b9 → b9 ≡ to_be_bytes w16 minor ++ b10 → b10 ≡ to_be_bytes w16 patch ++ s.settings → IsTold 0 body (Began s)
unfolding spelled
start_found body b1 b2 b3 b4 b5 b6 b7 b8 b9 b10 s role major minor patch fits program e1 e2 known e3 e4 e5 e6 e7 e8 e9 e10 e11 =
    let words : b8 ≡ words_of s.program ++ s.settings =
    e9 ∙ ap (λ (xs : List ℕ). to_be_bytes w16 major ++ xs) (e10 ∙ ap (λ (xs : List ℕ). to_be_bytes w16 minor ++ xs) e11) ∙ ap (λ (xs : List ℕ). words_of xs ++ s.settings) (sym program) in
    let tail : b6 ≡ words_of s.counts ++ (to_be_bytes w64 s.now ++ (words_of s.program ++ s.settings)) =
    e7 ∙ ap (λ (xs : List ℕ). words_of s.counts ++ xs) (e8 ∙ ap (λ (xs : List ℕ). to_be_bytes w64 s.now ++ xs) words) in
    let middle : b2 ≡ to_be_bytes w16 s.id ++ (to_be_bytes w16 s.rate ++ (to_be_bytes w32 s.start ++ (to_be_bytes w64 s.floor ++ b6))) =
    e3 ∙ ap (λ (xs : List ℕ). to_be_bytes w16 s.id ++ xs) (e4 ∙ ap (λ (xs : List ℕ). to_be_bytes w16 s.rate ++ xs) (e5 ∙ ap (λ (xs : List ℕ). to_be_bytes w32 s.start ++ xs) e6)) in
    let front : b1 ≡ role_number s.role ∷ (to_be_bytes w16 s.id ++ (to_be_bytes w16 s.rate ++ (to_be_bytes w32 s.start ++ (to_be_bytes w64 s.floor ++ b6)))) =
    e2 ∙ ap (λ (xs : List ℕ). role ∷ xs) middle ∙ ap (λ (n : ℕ). n ∷ (to_be_bytes w16 s.id ++ (to_be_bytes w16 s.rate ++ (to_be_bytes w32 s.start ++ (to_be_bytes w64 s.floor ++ b6))))) (sym known) in
    record {
      kind_is = refl;
      spelled = e1 ∙ ap (λ (xs : List ℕ). to_be_bytes w16 1 ++ xs) (front
          ∙ ap (λ (xs : List ℕ). role_number s.role ∷ (to_be_bytes w16 s.id ++ (to_be_bytes w16 s.rate ++ (to_be_bytes w32 s.start ++ (to_be_bytes w64 s.floor ++ xs))))) tail) ∙ sym (chain s);
      fits = fits;
    }
