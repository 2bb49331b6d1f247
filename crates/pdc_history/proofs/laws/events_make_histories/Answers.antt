-- What is asked of a world determines its history.
use Rattle.std.proofs.Common.{[], ◌∙◌, ◌∷◌, ◌≡◌, ap, subst, sym}
use Rattle.pdc_history.proofs.Names.{FrameLaws, Happened, happens, IsHistory, IsPlayOf, PlaysAreHistories, PlaysAreOne, ReadsOnce, StepsAreOne}
use Rattle.pdc_history.proofs.{Asked.{asked_is_read_once}, Moments.{events_make_histories}}
use Rattle.pdc_history.proofs.laws.events_make_histories.Goals as goal

steps_are_one : FrameLaws → ReadsOnce → StepsAreOne
steps_are_one F N W H asked a b x y = x.made ∙ ap (happens W H) (asked_is_read_once F N W H asked x.event y.event x.read y.read) ∙ sym y.made

plays_are_one : FrameLaws → ReadsOnce → PlaysAreOne
plays_are_one F N W H [] a b x y = x ∙ sym y
plays_are_one F N W H (asked ∷ more) a b x y =
    let same : x.0 ≡ y.0 = steps_are_one F N W H asked x.0 y.0 x.1 y.1 in
    plays_are_one F N W (y.0 ∷ H) more a b (subst (λ (h : Happened). IsPlayOf W (h ∷ H) more a) same x.2) y.2

plays_are_histories : PlaysAreHistories
plays_are_histories W H [] after is x = subst (IsHistory W) (sym x) is
plays_are_histories W H (asked ∷ more) after is x =
    plays_are_histories W (x.0 ∷ H) more after (record { event = x.1.event; may = x.1.may; made = x.1.made }, is) x.2

pub returns-clause-events : goal.returns-clause-events
returns-clause-events c W H events is may = events_make_histories W H events is may

pub returns-clause-asked : goal.returns-clause-asked
returns-clause-asked c W H asked after is x = plays_are_histories W H asked after is x

pub returns-clause-one_step : goal.returns-clause-one_step
returns-clause-one_step c W H asked a b x y =
    steps_are_one c.frames_are_known.ensures c.bytes_are_read_in_one_way.ensures W H asked a b x y

pub returns-clause-one_history : goal.returns-clause-one_history
returns-clause-one_history c W H asked a b x y =
    plays_are_one c.frames_are_known.ensures c.bytes_are_read_in_one_way.ensures W H asked a b x y
