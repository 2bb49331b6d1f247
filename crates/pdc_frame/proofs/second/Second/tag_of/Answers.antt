use Rattle.std.proofs.Common.{rules, ◌<◌, ◌-◌, ◌≤◌, ◌≡◌, ℕ, ◌∙◌, ap, arith, subst, sym}
use Rattle.pdc_frame.specs.Tag.{tag_of}
use Rattle.pdc_frame.proofs.Seconds.{tag_of-in}
use Rattle.pdc_frame.proofs.TagLemmas.{IsTag-tag_of, count_below}
use Rattle.pdc_frame.proofs.second.Second.tag_of.Goals as goal

pub returns-clause-value : goal.returns-clause-value
returns-clause-value c =
    let self = c.if-not-has.self in
    let i = c.args.instant in
    let first : self.first ≤ i = search (rules, c.if-not-has.branch) in
    let last : i - self.first < self.rate = search (rules, c.if-not-has.branch) in
    let rate : self.rate ≡ c.args.rate = search (rules, c.if-not-has.branch) in
    let base : self.time_base ≡ c.args.time_base = search (rules, c.if-not-has.branch) in
    ap (λ n. (self.soc, n)) c.count.ensures
    ∙ tag_of-in i self.time_base self.rate self.soc self.first self.place first last
    ∙ ap (λ b. tag_of i b self.rate) base
    ∙ ap (λ r. tag_of i c.args.time_base r) rate

pub returns-clause-count : goal.returns-clause-count
returns-clause-count c =
    let i = c.args.instant in
    let base = c.args.time_base in
    let rate = c.args.rate in
    let tag = tag_of i base rate in
    subst (λ (t : ℕ × ℕ). t.1 < base) (sym (returns-clause-value c))
    (count_below i base rate tag.0 tag.1 c.requires.time_base (IsTag-tag_of i base rate (omega (arith, c.requires.rate))))
