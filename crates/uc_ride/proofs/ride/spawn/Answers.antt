use Rattle.std.proofs.Common.{sym, ◌∙◌}
use Rattle.uc_ride.proofs.Children.{none_born, one_born, child_keeps}
use Rattle.uc_ride.proofs.ride.spawn.Goals as goal

pub returns-in-None-clause-born : goal.returns-in-None-clause-born
returns-in-None-clause-born c = λ source s low h. none_born c.args.code.now source s c.args.request.now (sym c.spawned.ensures ∙ c.in-None.is)

pub returns-in_ok-child-in-Some-main_of-clause-born : goal.returns-in_ok-child-in-Some-main_of-clause-born
returns-in_ok-child-in-Some-main_of-clause-born c =
    λ source s low h.
    one_born c.args.code.now source s c.args.work.now c.in_ok-child-in-Some-main_of.child c.args.request.now c.in-Some.object c.in-Some-main_of.main (sym c.spawned.ensures ∙ c.in-Some.is) (sym c.main_of.ensures ∙ c.in-Some-main_of.is) c.in_ok-child-in-Some-main_of.ensures low h

pub returns-in_ok-child-in-Some-main_of-clause-kept : goal.returns-in_ok-child-in-Some-main_of-clause-kept
returns-in_ok-child-in-Some-main_of-clause-kept c = child_keeps c.args.code.now c.in_ok-child-in-Some-main_of.child c.in-Some.object c.in-Some-main_of.main c.in_ok-child-in-Some-main_of.ensures
