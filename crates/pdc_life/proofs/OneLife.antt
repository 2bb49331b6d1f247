-- Two answers to one step cannot both hold, so steps have one life.
use Rattle.pdc_life.proofs.Names.{[], ◌++◌, ◌∙◌, ◌∷◌, ◌≡◌, Answer, ap, arith, Arrival, Arrive, CoreKind, Entry, Given, IsLife, length, length-append, List, Pop, ReadsAs, ReadsOnce, refl, Rules, rules_of, same_Some, Says, SenderOf, Step, step_of, steps_of, subst, sym, Tick, tick_answer, ℕ}
use Rattle.pdc_life.specs.OneLife.{AnswersAreOne, StepsHaveOneLife}
use Rattle.pdc_life.proofs.Steps.{life_before}

-- what arrives for a stream says one thing
pub says_once : ReadsOnce → (kind : CoreKind) (s : ℕ) (bytes : List ℕ) (a b : Arrival) → Says kind s bytes a → Says kind s bytes b → a ≡ b
says_once once kind s bytes a b h k =
    let sender : h.sender ≡ k.sender = same_Some h.sender k.sender (sym h.listed ∙ k.listed) in
    once kind s k.sender bytes a b (subst (λ (q : SenderOf kind). ReadsAs kind s q bytes a) sender h.reads) k.reads

module _ (rules : Rules) (Says : ℕ → List ℕ → Arrival → Type 0) (once : (s : ℕ) (bytes : List ℕ) (a b : Arrival) → Says s bytes a → Says s bytes b → a ≡ b) where
  same_answers : (g : Given) (E : List Entry) (s : ℕ) (bytes : List ℕ) (r t : Arrival) (a b : Answer) → IsLife rules Says g (Arrive s bytes r a ∷ E) → IsLife rules Says g (Arrive s bytes t b ∷ E) → (r ≡ t) × (a ≡ b)
  same_answers g E s bytes r t a b h k =
      let said : r ≡ t = once s bytes r t h.0 k.0 in
      (said, h.1 ∙ ap (rules g E s) said ∙ sym k.1)

  same_arrive : (g : Given) (E : List Entry) (p q : ℕ) (bytes others : List ℕ) (r s : Arrival) (a b : Answer) → p ≡ q → bytes ≡ others → IsLife rules Says g (Arrive p bytes r a ∷ E) → IsLife rules Says g (Arrive q others s b ∷ E) → Arrive p bytes r a ≡ Arrive q others s b
  same_arrive g E p q bytes others r s a b number same h k =
      let moved : IsLife rules Says g (Arrive q others r a ∷ E) =
      subst (λ (n : ℕ). IsLife rules Says g (Arrive n others r a ∷ E)) number (subst (λ (t : List ℕ). IsLife rules Says g (Arrive p t r a ∷ E)) same h) in
      let one : (r ≡ s) × (a ≡ b) = same_answers g E q others r s a b moved k in
      λ i. Arrive (number i) (same i) (one.0 i) (one.1 i)

  same_entry : (g : Given) (E : List Entry) (d e : Entry) → step_of d ≡ step_of e → IsLife rules Says g (d ∷ E) → IsLife rules Says g (e ∷ E) → d ≡ e
  same_entry g E (Arrive p bytes r a) (Arrive q others s b) same h k =
      let number : p ≡ q = cc in
      let text : bytes ≡ others = cc in
      same_arrive g E p q bytes others r s a b number text h k
  same_entry g E (Tick now counts answer) (Tick later others other) same h k =
      let moment : now ≡ later = cc in
      let cleared : counts ≡ others = cc in
      let one : answer ≡ other = h.0 ∙ (λ i. tick_answer g E (moment i) (cleared i)) ∙ sym k.0 in
      λ i. Tick (moment i) (cleared i) (one i)
  same_entry g E (Pop row) (Pop other) same h k = ap Pop (h.0 ∙ sym k.0)
  same_entry g E d e same h k = cc

  -- two lists that are the same have the same last element, and the same before it
  same_last : (ss ts : List Step) (s t : Step) → ss ++ s ∷ [] ≡ ts ++ t ∷ [] → (ss ≡ ts) × (s ≡ t)
  same_last [] [] s t e = (refl, cc)
  same_last [] (u ∷ ts) s t e = absurd (omega (arith, ap length e, length-append ts (t ∷ [])))
  same_last (r ∷ ss) [] s t e = absurd (omega (arith, ap length e, length-append ss (s ∷ [])))
  same_last (r ∷ ss) (u ∷ ts) s t e =
      let front : r ≡ u = cc in
      let back : ss ++ s ∷ [] ≡ ts ++ t ∷ [] = cc in
      let one = same_last ss ts s t back in
      (λ i. front i ∷ one.0 i, one.1)

  same_lives : (g : Given) (E F : List Entry) → steps_of E ≡ steps_of F → IsLife rules Says g E → IsLife rules Says g F → E ≡ F
  same_lives g [] [] same h k = refl
  same_lives g [] (e ∷ F) same h k = absurd (omega (arith, ap length same, length-append (steps_of F) (step_of e ∷ [])))
  same_lives g (d ∷ E) [] same h k = absurd (omega (arith, ap length same, length-append (steps_of E) (step_of d ∷ [])))
  same_lives g (d ∷ E) (e ∷ F) same h k =
      let parts = same_last (steps_of E) (steps_of F) (step_of d) (step_of e) same in
      let earlier : E ≡ F = same_lives g E F parts.0 (life_before rules Says g d E h) (life_before rules Says g e F k) in
      let last : d ≡ e = same_entry g F d e parts.1 (subst (λ (D : List Entry). IsLife rules Says g (d ∷ D)) earlier h) k in
      λ i. last i ∷ earlier i

module _ (once : ReadsOnce) where
  pub answers_are_one : AnswersAreOne
  answers_are_one kind g E s bytes r t a b h k = same_answers (rules_of kind) (Says kind) (says_once once kind) g E s bytes r t a b h.life k.life

  pub steps_have_one_life : StepsHaveOneLife
  steps_have_one_life kind g steps E F h k = same_lives (rules_of kind) (Says kind) (says_once once kind) g E F (h.same_steps ∙ sym k.same_steps) h.life k.life
