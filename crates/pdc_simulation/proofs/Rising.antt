-- What a PMU sends rises.
use Rattle.std.proofs.Common.{◌≡◌, ℕ, ◌+◌, ◌<◌, ◌≤◌, true, List, [], ◌∷◌, ltb, sym, ap, ◌∙◌, subst, arith, rules, Option, None, Some, refl}
use Rattle.pdc_simulation.specs.Pmu.{PmuView, is_later, new_pmu}
use Rattle.pdc_simulation.specs.PmuSent.{AreBelow, AreFalling, CountsRise, HasSent, InstantsRise, Sent, HeaderSent, ConfigSent, DataSent, config_count, instants_of}

-- none of the instants is above the last one, and they fall
abbrev IsLast : Option ℕ → List ℕ → Type 0
IsLast None [] = Unit {0}
IsLast None (n ∷ ns) = ⊥
IsLast (Some last) ns = AreBelow (last + 1) ns

below-higher : (m n : ℕ) (ns : List ℕ) → m ≤ n → AreBelow m ns → AreBelow n ns
below-higher m n [] h b = tt
below-higher m n (k ∷ ns) h b = (omega (arith, h, b.0), below-higher m n ns h b.1)

is-above : (last instant : ℕ) → ltb last instant ≡ true → last < instant
is-above last instant h = search rules

below-later : (last : Option ℕ) (instant : ℕ) (ns : List ℕ) → is_later last instant ≡ true → IsLast last ns → AreBelow instant ns
below-later None instant [] h l = tt
below-later None instant (n ∷ ns) h l = absurd l
below-later (Some last) instant ns h l = below-higher (last + 1) instant ns (omega (arith, is-above last instant h)) l

rising : (p : PmuView) (frames : List Sent) (q : PmuView) → p.last ≡ None → HasSent p frames q → IsLast q.last (instants_of frames) × AreFalling (instants_of frames)
rising p [] q h s = (subst (λ last. IsLast last []) (sym h ∙ ap (λ (r : PmuView). r.last) s) tt, tt)
rising p (HeaderSent soc text ∷ frames) q h s = let e = rising p frames s.0 h s.1 in
    (subst (λ (r : PmuView). IsLast r.last (instants_of frames)) (sym s.2.left) e.0, e.1)
rising p (ConfigSent soc section ∷ frames) q h s = let e = rising p frames s.0 h s.1 in
    (subst (λ (r : PmuView). IsLast r.last (instants_of frames)) (sym s.2.left) e.0, e.1)
rising p (DataSent instant words ∷ frames) q h s =
    let e = rising p frames s.0 h s.1 in
    let below : AreBelow instant (instants_of frames) = below-later s.0.last instant (instants_of frames) s.2.allowed e.0 in
    (subst (λ (r : PmuView). IsLast r.last (instant ∷ instants_of frames)) (sym s.2.left) (omega arith, below-higher instant (instant + 1) (instants_of frames) (omega arith) below), (below, e.1))

pub instants_rise : InstantsRise
instants_rise id rate time_base frames pmu s = (rising (new_pmu id rate time_base) frames pmu refl s).1

counted : (p : PmuView) (frames : List Sent) (q : PmuView) → p.count ≡ 0 → HasSent p frames q → q.count ≡ config_count frames
counted p [] q h s = ap (λ (r : PmuView). r.count) (sym s) ∙ h
counted p (HeaderSent soc text ∷ frames) q h s = ap (λ (r : PmuView). r.count) s.2.left ∙ counted p frames s.0 h s.1
counted p (ConfigSent soc section ∷ frames) q h s = ap (λ (r : PmuView). r.count) s.2.left ∙ ap (λ n. n + 1) (counted p frames s.0 h s.1)
counted p (DataSent instant words ∷ frames) q h s = ap (λ (r : PmuView). r.count) s.2.left ∙ counted p frames s.0 h s.1

pub counts_rise : CountsRise
counts_rise id rate time_base frames pmu s = counted (new_pmu id rate time_base) frames pmu refl s
