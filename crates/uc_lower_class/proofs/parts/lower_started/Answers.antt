use Rattle.uc_lower_class.proofs.Fielding.{started_nothing, started_some}
use Rattle.uc_lower_class.proofs.parts.lower_started.Goals as goal

pub returns-in_ok-put_started-in-Some : goal.returns-in_ok-put_started-in-Some
returns-in_ok-put_started-in-Some c = started_some c.args.names.now c.args.field c.args.args.now c.in-Some.value.now c.args.out.now c.put_started.new.out c.in-Some.ensures.value c.in_ok-put_started-in-Some.ensures

pub returns-in-None : goal.returns-in-None
returns-in-None c = started_nothing c.args.names.now c.args.field c.args.args.now c.args.out.now c.in-None.ensures.value
