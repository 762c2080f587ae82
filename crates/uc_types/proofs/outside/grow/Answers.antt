use Rattle.uc_types.proofs.Grouped.{none_at, set_at}
use Rattle.uc_types.proofs.outside.grow.Goals as goal

pub returns-in_ok-push-in-Some : goal.returns-in_ok-push-in-Some
returns-in_ok-push-in-Some c = set_at c.args.groups.now.items c.args.place c.args.routine.now c.in-Some.group.now c.push.new.self c.in-Some.ensures.item.3.0 c.in-Some.ensures.value c.in_ok-push-in-Some.ensures

pub returns-in-None : goal.returns-in-None
returns-in-None c = none_at c.args.groups.now.items c.args.place c.args.routine.now c.in-None.ensures.item.3
