use Rattle.std.proofs.Common.{rules}
use Rattle.uc_lower_expr.proofs.Arms.{item_fixed, item_routine}
use Rattle.uc_lower_expr.proofs.MembersLemmas.{fixed_named}
use Rattle.uc_lower_expr.proofs.members.lower_item_name.Goals as goal

pub returns-in_ok-put-in-Some-clause-code : goal.returns-in_ok-put-in-Some-clause-code
returns-in_ok-put-in-Some-clause-code c = item_fixed c.args.out.now.marks c.args.names.now c.args.line c.args.name.now c.in-Some.fixed _ _ _ c.in-Some.ensures (search rules) c.in_ok-put-in-Some.ensures

pub returns-in_ok-put-in-None-clause-code : goal.returns-in_ok-put-in-None-clause-code
returns-in_ok-put-in-None-clause-code c = item_routine c.args.out.now.marks c.args.names.now c.args.line c.args.name.now _ _ c.in-None.ensures c.in_ok-put-in-None.ensures

pub returns-in_ok-put-in-Some-clause-tells : goal.returns-in_ok-put-in-Some-clause-tells
returns-in_ok-put-in-Some-clause-tells c = fixed_named c.args.names.now c.args.name.now c.in-Some.fixed c.in-Some.ensures
