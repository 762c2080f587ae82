use Rattle.std.proofs.Common.{ap, sym, ◌∙◌}
use Rattle.uc_rules.specs.Breaks.{breaks_of}
use Rattle.uc_rules.specs.Firsts.{is_owner_number}
use Rattle.uc_classes.proofs.First.{first_is, all_owners}
use Rattle.uc_classes.proofs.apart.check_classes.Goals as goal

pub returns-then-is_owner_number-clause-kept : goal.returns-then-is_owner_number-clause-kept
returns-then-is_owner_number-clause-kept c =
    let bs = breaks_of c.args.program.now in
    let first = c.in-Ok-Some.first in
    all_owners bs first (first_is bs first (sym c.in-Ok-Some.ensures ∙ c.in-Ok-Some.field-0-is)) (sym (c.is_owner_number.ensures ∙ ap is_owner_number c.number.ensures) ∙ c.if-is_owner_number.true)
