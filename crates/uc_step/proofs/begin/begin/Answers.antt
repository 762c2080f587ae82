use Rattle.uc_step.proofs.StartsLemmas.{starts_some, starts_none}
use Rattle.uc_step.proofs.begin.begin.Goals as goal

pub returns-in_ok-work-in-Some-clause-source : goal.returns-in_ok-work-in-Some-clause-source
returns-in_ok-work-in-Some-clause-source c =
    starts_some c.args.code.now c.args.main c.args.own c.in_ok-work-in-Some.work c.in-Some.routine (cc) c.in_ok-work-in-Some.ensures

pub returns-in-None-clause-source : goal.returns-in-None-clause-source
returns-in-None-clause-source c = starts_none c.args.code.now c.args.main (cc)
