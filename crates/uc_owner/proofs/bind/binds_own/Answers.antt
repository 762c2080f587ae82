use Rattle.uc_owner.proofs.Lone.{not_lone}
use Rattle.uc_owner.proofs.bind.binds_own.Goals as goal

pub returns-else-args-eq1 : goal.returns-else-args-eq1
returns-else-args-eq1 c = not_lone c.args.built.now.tables.now c.args.built.now.class c.args.built.now.routine.now c.args.args.now c.if-args-eq1.false
