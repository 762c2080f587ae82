use Rattle.std.proofs.Common.{sym, ◌∙◌, subst}
use Rattle.uc_rules.specs.Breaks.{breaks_of}
use Rattle.uc_classes.specs.Apart.{IsOwnerFault}
use Rattle.uc_classes.proofs.First.{first_is}
use Rattle.uc_classes.proofs.apart.check_owner.Goals as goal

pub returns-in-Ok-Some-clause-owner : goal.returns-in-Ok-Some-clause-owner
returns-in-Ok-Some-clause-owner c =
    let bs = breaks_of c.args.program.now in
    let first = c.in-Ok-Some.first in
    λ keeps. subst IsOwnerFault (sym c.fault_of.ensures) (keeps first (first_is bs first (sym c.in-Ok-Some.ensures ∙ c.in-Ok-Some.field-0-is)).is_break)
