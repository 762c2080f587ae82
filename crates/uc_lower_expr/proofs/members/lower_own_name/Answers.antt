use Rattle.std.proofs.Common.{rules}
use Rattle.uc_lower_expr.proofs.MembersLemmas.{own_code, own_told, own_condition_code, own_condition_told}
use Rattle.uc_lower_expr.proofs.members.lower_own_name.Goals as goal

pub returns-in_ok-put-in-None-condition-clause-code : goal.returns-in_ok-put-in-None-condition-clause-code
returns-in_ok-put-in-None-condition-clause-code c = own_code c.args.out.now.marks c.args.line c.args.names.now c.args.class c.args.name.now c.in-Some.field _ _ _ _ c.in-Some.ensures c.in-None-condition.is c.is_held.ensures c.own_place_op.ensures c.in_ok-put-in-None-condition.ensures

pub returns-in_ok-put-in-None-condition-clause-tells : goal.returns-in_ok-put-in-None-condition-clause-tells
returns-in_ok-put-in-None-condition-clause-tells c = own_told c.args.names.now c.args.class c.args.name.now c.in-Some.field _ _ c.in-Some.ensures c.in-None-condition.is c.own_standing-standing.ensures c.standing_as-in-None-condition.ensures

pub returns-in_ok-put-in-Some-condition-clause-code : goal.returns-in_ok-put-in-Some-condition-clause-code
returns-in_ok-put-in-Some-condition-clause-code c = own_condition_code c.args.out.now.marks c.args.line c.args.names.now c.args.class c.in-Some-condition.number _ c.args.name.now c.in-Some.field _ _ c.in-Some.ensures c.in-Some-condition.is (search rules) c.in_ok-put-in-Some-condition.ensures

pub returns-in_ok-put-in-Some-condition-clause-tells : goal.returns-in_ok-put-in-Some-condition-clause-tells
returns-in_ok-put-in-Some-condition-clause-tells c = own_condition_told c.args.names.now c.args.class c.in-Some-condition.number c.args.name.now c.in-Some.field _ c.in-Some.ensures c.in-Some-condition.is c.standing_as.ensures
