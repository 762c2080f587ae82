use Rattle.std.proofs.Common.{◌≡◌, None, IfOk, subst}
use Rattle.uc_rules.specs.Breaks.{breaks_of}
use Rattle.uc_rules.specs.Firsts.{after}
use Rattle.uc_classes.proofs.check.first_break.Goals as goal

pub returns : goal.returns
returns c =
    subst (λ p. IfOk c.first_break_by-first.result (λ first. first ≡ after None (breaks_of p))) c.in_ok-tables.ensures c.first_break_by-first.ensures
