use Rattle.std.proofs.Common.{◌≡◌, ◌<◌, ℕ, ◌^◌, List, [], ◌∷◌, ◌++◌, replicate, subst, sym, arith}
use Rattle.pdc_block.specs.Block.{AreWords}
use Rattle.pdc_block.proofs.AbsentWords.{words-append, words-replicate}
use Rattle.pdc_block.proofs.absent_block.absent.Goals as goal

no-words : AreWords []
no-words i = omega arith

-- the words with more behind them
after_push : (xs ys : List ℕ) (w : ℕ) → AreWords xs → w < 2 ^ 16 → ys ≡ xs ++ w ∷ [] → AreWords ys
after_push xs ys w h fits e = subst AreWords (sym e) (words-append xs (w ∷ []) h (words-replicate 1 w fits))

after_times : (xs ys : List ℕ) (n w : ℕ) → AreWords xs → w < 2 ^ 16 → ys ≡ xs ++ replicate n w → AreWords ys
after_times xs ys n w h fits e = subst AreWords (sym e) (words-append xs (replicate n w) h (words-replicate n w fits))

pub invariant_of-result-clause-words_fit : goal.invariant_of-result-clause-words_fit
invariant_of-result-clause-words_fit c =
    let start : AreWords c.new-words.result.items = subst AreWords (sym c.new-words.ensures) no-words in
    let stat : AreWords c.push.new.self.items = after_push c.new-words.result.items _ _ start (omega arith) c.push.ensures.items in
    let phasors : AreWords c.push_times.new.words.items = after_times c.push.new.self.items _ _ _ stat (omega arith) c.push_times.ensures.items in
    let freq : AreWords c.push-2.new.self.items = after_push c.push_times.new.words.items _ _ phasors (omega arith) c.push-2.ensures.items in
    let dfreq : AreWords c.push-3.new.self.items = after_push c.push-2.new.self.items _ _ freq (omega arith) c.push-3.ensures.items in
    let analogs : AreWords c.push_times-2.new.words.items = after_times c.push-3.new.self.items _ _ _ dfreq (omega arith) c.push_times-2.ensures.items in
    after_times c.push_times-2.new.words.items _ _ _ analogs (omega arith) c.push_times-3.ensures.items
