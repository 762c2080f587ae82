use Rattle.uc_judge.proofs.Beginnings.{begins_with, begins_not, begins_none}
use Rattle.uc_judge.proofs.judging.options_in.Goals as goal

pub returns-in-Some-clause-begins : goal.returns-in-Some-clause-begins
returns-in-Some-clause-begins c =
    begins_with c.args.lines c.options_of.result c.args.journal.now c.in-Some.e.now c.in-Some.ensures.value c.options_of.ensures.begins

pub returns-in-Some-clause-none : goal.returns-in-Some-clause-none
returns-in-Some-clause-none c =
    begins_not c.args.lines c.options_of.result c.args.journal.now c.in-Some.e.now c.in-Some.ensures.value c.options_of.ensures.none

pub returns-in-None-clause-none : goal.returns-in-None-clause-none
returns-in-None-clause-none c = begins_none c.args.lines c.args.journal.now c.in-None.ensures.value
