use Rattle.uc_lower_class.proofs.Assembling.{plain_none}
use Rattle.uc_lower_class.proofs.builder.lower_unwritten_body.Goals as goal

pub returns-in-Plain : goal.returns-in-Plain
returns-in-Plain c = plain_none c.args.names.now c.args.role c.args.class c.args.out.now c.in-Plain.is
