use Rattle.std.proofs.Common.{◌≤◌, length, subst}
use Rattle.pdc_session.specs.Recent.{AreRising, RecentView}
use Rattle.pdc_session.specs.declared.recent.TheConstants.{KEPT_FRAMES}
use Rattle.pdc_session.proofs.Kept.{above_rises}
use Rattle.pdc_session.proofs.recent.Frames.after.Goals as goal

pub returns-in_err-make_room-clause-rising : goal.returns-in_err-make_room-clause-rising
returns-in_err-make_room-clause-rising g c = above_rises c.args.instant c.args.self.now.frames (subst (λ (v : RecentView). AreRising v.frames) c.self.view_is c.self.invariant.rising)

pub returns-in_err-make_room-clause-few : goal.returns-in_err-make_room-clause-few
returns-in_err-make_room-clause-few g c = subst (λ (v : RecentView). length v.frames ≤ KEPT_FRAMES) c.self.view_is c.self.invariant.few

pub returns-in_default-clause-rising : goal.returns-in_default-clause-rising
returns-in_default-clause-rising g c = above_rises c.args.instant c.args.self.now.frames (subst (λ (v : RecentView). AreRising v.frames) c.self.view_is c.self.invariant.rising)

pub returns-in_default-clause-few : goal.returns-in_default-clause-few
returns-in_default-clause-few g c = subst (λ (v : RecentView). length v.frames ≤ KEPT_FRAMES) c.self.view_is c.self.invariant.few

pub returns-in_err-make_room-2-clause-rising : goal.returns-in_err-make_room-2-clause-rising
returns-in_err-make_room-2-clause-rising g c = above_rises c.args.instant c.args.self.now.frames (subst (λ (v : RecentView). AreRising v.frames) c.self.view_is c.self.invariant.rising)

pub returns-in_err-make_room-2-clause-few : goal.returns-in_err-make_room-2-clause-few
returns-in_err-make_room-2-clause-few g c = subst (λ (v : RecentView). length v.frames ≤ KEPT_FRAMES) c.self.view_is c.self.invariant.few

pub returns-clause-rising : goal.returns-clause-rising
returns-clause-rising g c = above_rises c.args.instant c.args.self.now.frames (subst (λ (v : RecentView). AreRising v.frames) c.self.view_is c.self.invariant.rising)

pub returns-clause-few : goal.returns-clause-few
returns-clause-few g c = subst (λ (v : RecentView). length v.frames ≤ KEPT_FRAMES) c.self.view_is c.self.invariant.few
