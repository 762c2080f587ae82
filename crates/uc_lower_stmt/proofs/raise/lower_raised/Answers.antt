use Rattle.std.proofs.Common.{ap, subst, sym, arith}
use Rattle.std.specs.Prelude.{Option}
use Rattle.uc_tree.specs.Statements.{Raised}
use Rattle.uc_tree.specs.StatementSizes.{maybe_raised_size}
use Rattle.uc_lower_stmt.specs.Raising.{LowersRaised}
use Rattle.uc_lower_stmt.proofs.RaisingLemmas.{arm_again}
use Rattle.uc_lower_stmt.proofs.raise.lower_raised.Goals as goal

pub put_again-requires : goal.put_again-requires
put_again-requires c =
    let n = ap maybe_raised_size c.in-None.is in
    omega (arith, n, c.requires)

pub lower_new-requires : goal.lower_new-requires
lower_new-requires c =
    let n = ap maybe_raised_size c.in-Some.is in
    omega (arith, n, c.requires)

pub returns-in_ok-put_again-in-None : goal.returns-in_ok-put_again-in-None
returns-in_ok-put_again-in-None c = arm_again c.args.names.now c.args.line c.args.raised.now c.handled.result c.args.out.now c.put_again.new.out c.in-None.is c.handled.ensures c.in_ok-put_again-in-None.ensures

pub returns-in_ok-lower_new-in-Some : goal.returns-in_ok-lower_new-in-Some
returns-in_ok-lower_new-in-Some c =
    subst (λ (r : Option Raised). LowersRaised c.args.names.now c.args.line r c.args.out.now c.lower_new.new.out) (sym c.in-Some.is) c.in_ok-lower_new-in-Some.ensures
