use Rattle.uc_lower_expr.proofs.Arms.{name_known, name_told}
use Rattle.uc_lower_expr.proofs.members.lower_name.Goals as goal

pub returns-in_ok-put-in-Some-clause-code : goal.returns-in_ok-put-in-Some-clause-code
returns-in_ok-put-in-Some-clause-code c = name_known c.args.out.now.marks c.args.names.now c.args.out.now.place.class c.args.line c.args.out.now.names c.args.name.now _ _ _ _ c.in-Some.ensures c.place_op.ensures c.in_ok-put-in-Some.ensures

pub returns-in_ok-put-in-Some-clause-tells : goal.returns-in_ok-put-in-Some-clause-tells
returns-in_ok-put-in-Some-clause-tells c = name_told c.args.names.now c.args.out.now.place.class c.args.out.now.names c.args.name.now c.in-Some.variable c.in-Some.ensures
