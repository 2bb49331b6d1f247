use Rattle.std.proofs.Common.{◌≡◌, ℕ, refl}
use Rattle.std.proofs.lemmas.Option.{none-some}
use Rattle.std.proofs.lemmas.Result.{on_ok_weaker}
use Rattle.pdc_history.specs.Index.{Fits, bucket_under}
use Rattle.pdc_history.specs.Sent.{HasToldAtMost, HasToldOther, IsOfPmu, IsRefused, fault_of}
use Rattle.pdc_history.specs.Told.{Tells, ToldView, told_view}
use Rattle.pdc_history.proofs.Keeping.{fits_silent, fits_told, may_silent, may_told, refused}
use Rattle.pdc_history.proofs.Lookups.{both_err, both_ok}
use Rattle.pdc_history.proofs.Tellings.{view}
use Rattle.pdc_history.proofs.judging.bucket_for.Goals as goal

pub returns-in-Some-told_by-clause-may : goal.returns-in-Some-told_by-clause-may
returns-in-Some-told_by-clause-may c =
    let p : ℕ = c.in-Some.ensures.pmu.0 in
    let is : IsOfPmu c.args.settings.now p c.in-Some.pmu.now c.args.bytes.now = c.in-Some.ensures.pmu.1 in
    let t : ToldView = told_view c.in-Some-told_by.told in
    on_ok_weaker c.bucket_of_told.result
    (may_told c.args.settings.now c.args.frames.now.frames p c.in-Some.pmu.now c.args.bytes.now t is c.in-Some-told_by.ensures.only)
    (c.bucket_of_told.ensures.same p is.listed)

pub returns-in-Some-told_by-clause-fits : goal.returns-in-Some-told_by-clause-fits
returns-in-Some-told_by-clause-fits c =
    let p : ℕ = c.in-Some.ensures.pmu.0 in
    let is : IsOfPmu c.args.settings.now p c.in-Some.pmu.now c.args.bytes.now = c.in-Some.ensures.pmu.1 in
    let t : ToldView = told_view c.in-Some-told_by.told in
    both_ok c.bucket_of_told.result (HasToldAtMost c.args.settings.now c.args.frames.now.frames c.in-Some.pmu.now t.key t.content)
    (λ bucket. bucket ≡ bucket_under c.in-Some.pmu.now.stream.value t.key) (Fits c.args.settings.now c.args.frames.now.frames c.args.bytes.now)
    (λ bucket most at. fits_told c.frames_are_read_in_one_way.ensures.same c.args.settings.now c.args.frames.now.frames p c.in-Some.pmu.now c.args.bytes.now bucket t is c.in-Some-told_by.ensures.only most at)
    (c.bucket_of_told.ensures.same p is.listed) c.bucket_of_told.ensures.bucket

pub returns-in-Some-told_by-clause-fault : goal.returns-in-Some-told_by-clause-fault
returns-in-Some-told_by-clause-fault c =
    let p : ℕ = c.in-Some.ensures.pmu.0 in
    let is : IsOfPmu c.args.settings.now p c.in-Some.pmu.now c.args.bytes.now = c.in-Some.ensures.pmu.1 in
    let t : ToldView = told_view c.in-Some-told_by.told in
    let tells : Tells c.args.settings.now c.in-Some.pmu.now c.args.bytes.now t.key t.content = c.in-Some-told_by.ensures.found t.key t.content refl in
    both_err c.bucket_of_told.result (HasToldOther c.args.settings.now c.args.frames.now.frames c.in-Some.pmu.now t.key t.content)
    (λ fault. fault ≡ fault_of t.key) (IsRefused c.args.settings.now c.args.frames.now.frames c.args.bytes.now)
    (λ fault other e. refused c.args.settings.now c.args.frames.now.frames p c.in-Some.pmu.now c.args.bytes.now t.key t.content fault is tells other e)
    (c.bucket_of_told.ensures.other p is.listed) c.bucket_of_told.ensures.fault

pub returns-in-None-clause-may : goal.returns-in-None-clause-may
returns-in-None-clause-may c =
    may_silent c.args.settings.now c.args.frames.now.frames c.in-Some.ensures.pmu.0 c.in-Some.pmu.now c.args.bytes.now c.in-Some.ensures.pmu.1
    (λ key x tells. none-some (view key x) (c.in-None.ensures.only key x tells))

pub returns-in-None-clause-fits : goal.returns-in-None-clause-fits
returns-in-None-clause-fits c =
    fits_silent c.frames_are_read_in_one_way.ensures.same c.args.settings.now c.args.frames.now.frames c.in-Some.ensures.pmu.0 c.in-Some.pmu.now c.args.bytes.now 65536 c.in-Some.ensures.pmu.1
    (λ key x tells. none-some (view key x) (c.in-None.ensures.only key x tells))
