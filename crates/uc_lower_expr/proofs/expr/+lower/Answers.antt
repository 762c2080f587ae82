use Rattle.std.proofs.Common.{◌+◌, ◌*◌, ◌-◌, pos, length, take, refl, ap, sym, subst, ◌∙◌, rules, arith}
use Rattle.std.proofs.lemmas.Option.{slice_get_read}
use Rattle.std.proofs.lemmas.Result.{on_ok_weaker}
use Rattle.uc_code.specs.Drafts.{Draft}
use Rattle.uc_tree.specs.declared.limits.TheConstants.{OPS_FOR_SIZE}
use Rattle.uc_tree.specs.ExpressionSizes.{expr_size, exprs_size, link_size}
use Rattle.uc_resolve.specs.Resolve.{Context, args_by, meant, value_of}
use Rattle.uc_code.specs.declared.op.Op.TheVariants as op
use Rattle.uc_lower_expr.specs.declared.ops.BinaryCode.TheVariants as joining
use Rattle.uc_lower_expr.specs.Contexts.{context_in}
use Rattle.uc_lower_expr.proofs.Adding.{adds_settled, rest_behind, rest_then, live_in, wait_in, mutex_in, risk_in, adds_more, adds_both, adds_fork}
use Rattle.uc_lower_expr.proofs.Growing.{grows_settled}
use Rattle.uc_lower_expr.proofs.Settled.{expr_stable, value_truth_stable}
use Rattle.uc_code.proofs.Stable.{one_stable}
use Rattle.uc_lower_expr.specs.declared.meaning.ConditionCall.TheVariants as calls
use Rattle.uc_lower_expr.specs.declared.meaning.Standing.TheVariants as standing
use Rattle.uc_tree.specs.declared.ops.UnaryOp.{UnaryOp}
use Rattle.uc_tree.specs.declared.ops.StepOp.TheVariants as step
use Rattle.uc_tree.specs.Expressions.{exprs_of}
use Rattle.uc_resolve.specs.Resolve.{Standing, args_meant, call_by, stored_by, unary_meant}
use Rattle.uc_lower_expr.proofs.Walks.{stored_fit, stored_first, stored_none, arm_condition_element, arm_condition_called, called_one, called_wait, tree_is, value_in, arm_number, arm_character, arm_truth, arm_cin, arm_minus, arm_not, arm_value, arm_argument, arm_bumped, told_bumped, arm_assigned, told_assigned, arm_to_variable, arm_to_place, arm_set, arm_set_by, arm_keep, arm_keep_by, variable_in_cut, args_in_cut, arm_link, right_as, links_fit, links_step, links_end, part_is, arm_called, arm_routine, arm_member_called, arm_live_called, arm_mutex_called, field_not_called, grown_in, not_called, called_part, stepped_part, args_begin, args_step, args_skip, args_fit, parts_fit, parts_step, arm_no_element, arm_element, some_size, arm_postfix, told_postfix, arm_chain, told_chain, postfix_size, chain_size}
use Rattle.uc_lower_expr.specs.DraftGrowth.{Adds, ArgumentsCode}
use Rattle.uc_lower_expr.proofs.expr.+lower.Goals.{lower_args-then-place-params+in_ok-lower_arg, lower_args-else-place-params}
use Rattle.uc_lower_expr.proofs.expr.+lower.Goals as goal

pub lower_expr-lower_parts-requires : goal.lower_expr-lower_parts-requires
lower_expr-lower_parts-requires t c =
    let z = postfix_size c.args.e.now _ c.deref.result.now _ _ c.deref-in-Postfix.result.now (tree_is _ _ _ _ c.in-Postfix.is c.e.view_is) c.deref.ensures c.deref-in-Postfix.ensures.value in
    let r = c.in_ok-told-in-Postfix.ensures.code.room in
    let l = c.in_ok-told-in-Postfix.ensures.code.kept.longer in
    let w = adds_settled c.in_ok-told-in-Postfix.ensures.code in
    let h = c.here-start.ensures.settled in
    (search rules, (omega (arith, w, h), (omega (arith, l), omega (arith, z, r))))

pub lower_expr-returns-in_ok-put-in-Number-clause-code : goal.lower_expr-returns-in_ok-put-in-Number-clause-code
lower_expr-returns-in_ok-put-in-Number-clause-code t c = arm_number c.args.names.now _ _ _ _ _ _ _ (tree_is _ _ _ _ c.in-Number.is c.e.view_is) (search rules) c.in_ok-put-in-Number.ensures

pub lower_expr-returns-in_ok-put-in-Character-clause-code : goal.lower_expr-returns-in_ok-put-in-Character-clause-code
lower_expr-returns-in_ok-put-in-Character-clause-code t c = arm_character c.args.names.now _ _ _ _ _ _ _ (tree_is _ _ _ _ c.in-Character.is c.e.view_is) (search rules) c.in_ok-put-in-Character.ensures

pub lower_expr-returns-in_ok-put-in-Truth-clause-code : goal.lower_expr-returns-in_ok-put-in-Truth-clause-code
lower_expr-returns-in_ok-put-in-Truth-clause-code t c = arm_truth c.args.names.now _ _ _ _ _ _ _ (tree_is _ _ _ _ c.in-Truth.is c.e.view_is) (search rules) c.in_ok-put-in-Truth.ensures

pub lower_expr-returns-in_ok-put-in-Cin-clause-code : goal.lower_expr-returns-in_ok-put-in-Cin-clause-code
lower_expr-returns-in_ok-put-in-Cin-clause-code t c = arm_cin c.args.names.now _ _ _ _ _ (tree_is _ _ _ _ c.in-Cin.is c.e.view_is) c.in_ok-put-in-Cin.ensures

pub lower_expr-returns-in_ok-told-in-Postfix-clause-code : goal.lower_expr-returns-in_ok-told-in-Postfix-clause-code
lower_expr-returns-in_ok-told-in-Postfix-clause-code t c =
    arm_postfix c.args.names.now c.lower_parts.result _ _ _ _ _ c.deref-in-Postfix.result.now _ _ _ _ _ _ (tree_is _ _ _ _ c.in-Postfix.is c.e.view_is) c.deref.ensures c.deref-in-Postfix.ensures.value c.here-start.ensures.count c.in_ok-told-in-Postfix.ensures.code c.in_ok-told-in-Postfix.ensures.tells c.lower_parts.ensures

pub lower_expr-returns-in_ok-told-in-Postfix-clause-tells : goal.lower_expr-returns-in_ok-told-in-Postfix-clause-tells
lower_expr-returns-in_ok-told-in-Postfix-clause-tells t c =
    told_postfix c.args.names.now c.lower_parts.result _ _ _ _ _ c.deref-in-Postfix.result.now _ _ _ _ _ _ (tree_is _ _ _ _ c.in-Postfix.is c.e.view_is) c.deref.ensures c.deref-in-Postfix.ensures.value c.here-start.ensures.count c.in_ok-told-in-Postfix.ensures.code c.in_ok-told-in-Postfix.ensures.tells c.lower_parts.ensures

pub lower_index-returns-in_ok-restart-in-None : goal.lower_index-returns-in_ok-restart-in-None
lower_index-returns-in_ok-restart-in-None t c = arm_no_element c.args.out.now.marks c.args.names.now _ _ _ (meant (context_in c.args.names.now c.args.out.now) c.args.index.now) _ _ _ _ (omega arith) c.requires.inside c.in-None.is c.nothing.ensures c.in_ok-restart-in-None.ensures

pub lower_index-returns-in_ok-element-in-None-condition : goal.lower_index-returns-in_ok-element-in-None-condition
lower_index-returns-in_ok-element-in-None-condition t c = arm_element c.args.out.now.marks c.args.names.now (OPS_FOR_SIZE * expr_size c.args.index.now) _ c.args.line _ c.in-Some.length c.element_size-size.result (meant (context_in c.args.names.now c.args.out.now) c.args.index.now) c.args.told _ _ _ _ _ c.element_size-size.ensures (omega arith) c.requires.inside c.in-Some.is (sym c.in-None-condition.is ∙ c.condition.ensures) c.in_ok-element-in-None-condition.ensures.tells c.in_ok-_index-in-None-condition.ensures.code c.in_ok-put-in-None-condition.ensures c.in_ok-element-in-None-condition.ensures.code

pub lower_index-returns-in_ok-put-in-Some-condition : goal.lower_index-returns-in_ok-put-in-Some-condition
lower_index-returns-in_ok-put-in-Some-condition t c =
    arm_condition_element c.args.out.now.marks c.args.names.now (OPS_FOR_SIZE * expr_size c.args.index.now) _ c.args.line c.args.start c.in-Some.length c.in-Some-condition.first (meant (context_in c.args.names.now c.args.out.now) c.args.index.now) c.args.told _ _ _ _ _ (omega arith) c.requires.inside c.in-Some.is (sym c.in-Some-condition.is ∙ c.condition.ensures) refl c.cut.ensures
    (value_in c.args.names.now _ c.args.line c.args.index.now c.args.out.now _ _ _ c.cut.ensures.rest c.in_ok-_index-in-Some-condition.ensures.code)
    c.in_ok-put-in-Some-condition.ensures

pub lower_parts-lower_part-requires : goal.lower_parts-lower_part-requires
lower_parts-lower_part-requires t c =
    let r = c.loop-part.invariant.room in
    let fit = parts_fit c.args.parts.now c.loop-part.part-index c.part-item.result c.loop-part-test.true c.part-item.is in
    let w = grows_settled c.loop-part.invariant in
    let h = c.requires.settled in
    (search rules, (omega (arith, w, h), (c.loop-part.invariant.past, omega (arith, r, fit))))

pub lower_parts-loop-part-preserved : goal.lower_parts-loop-part-preserved
lower_parts-loop-part-preserved t c = parts_step c.args.names.now c.args.parts.now c.loop-part.part-index c.part-item.result c.args.line c.args.start _ _ _ _ _ _ c.loop-part-test.true c.part-item.is c.loop-part.invariant c.in_ok-told.ensures

pub lower_right-returns-in_ok-put-in-Either-4 : goal.lower_right-returns-in_ok-put-in-Either-4
lower_right-returns-in_ok-put-in-Either-4 t c =
    let e = value_of (meant (context_in c.args.names.now c.args.out.now) c.args.right.now) in
    let line = c.args.line in
    right_as c.args.out.now.marks c.args.joining joining.Either _ line e _ _ c.in-Either.is (adds_more (omega arith) (
    adds_fork line 1 (OPS_FOR_SIZE * expr_size c.args.right.now + 1) _ _ (one_stable (op.Push (pos 1)) line) (value_truth_stable line c.args.out.now.marks e) _ _ _ _ _ c.in_ok-put-in-Either.ensures c.in_ok-put-in-Either-2.ensures c.in_ok-put-in-Either-3.ensures
    (adds_both (expr_stable line c.args.out.now.marks e)
    (value_in c.args.names.now _ line c.args.right.now c.args.out.now _ _ _ (rest_behind c.args.out.now (rest_behind c.args.out.now c.in_ok-put-in-Either.ensures.rest c.in_ok-put-in-Either-2.ensures) c.in_ok-put-in-Either-3.ensures) c.in_ok-_told-in-Either.ensures.code)
    c.in_ok-put-in-Either-4.ensures)
    _ _ _ c.here-choose.ensures.count c.here-leave.ensures.count c.close_fork.ensures))

pub lower_right-returns-in_ok-put-in-Each-4 : goal.lower_right-returns-in_ok-put-in-Each-4
lower_right-returns-in_ok-put-in-Each-4 t c =
    let e = value_of (meant (context_in c.args.names.now c.args.out.now) c.args.right.now) in
    let line = c.args.line in
    right_as c.args.out.now.marks c.args.joining joining.Each _ line e _ _ c.in-Each.is (adds_more (omega arith) (
    adds_fork line (OPS_FOR_SIZE * expr_size c.args.right.now + 1) 1 _ _ (value_truth_stable line c.args.out.now.marks e) (one_stable (op.Push (pos 0)) line) _ _ _ _ _ c.in_ok-put-in-Each.ensures
    (adds_both (expr_stable line c.args.out.now.marks e)
    (value_in c.args.names.now _ line c.args.right.now c.args.out.now _ _ _ c.in_ok-put-in-Each.ensures.rest c.in_ok-_told-in-Each.ensures.code)
    c.in_ok-put-in-Each-2.ensures)
    c.in_ok-put-in-Each-3.ensures c.in_ok-put-in-Each-4.ensures
    _ _ _ c.here-choose-in-Each.ensures.count c.here-leave-in-Each.ensures.count c.close_fork-in-Each.ensures))

pub lower_right-returns-in_ok-put-in-By : goal.lower_right-returns-in_ok-put-in-By
lower_right-returns-in_ok-put-in-By t c =
    let e = value_of (meant (context_in c.args.names.now c.args.out.now) c.args.right.now) in
    right_as c.args.out.now.marks c.args.joining (joining.By c.in-By.op c.in-By.field-1) _ c.args.line e _ _ c.in-By.is (adds_more (omega arith) (adds_both (expr_stable c.args.line c.args.out.now.marks e) c.in_ok-_told-in-By.ensures.code c.in_ok-put-in-By.ensures))

pub lower_unary-returns-in_ok-put-in-Minus-clause-code : goal.lower_unary-returns-in_ok-put-in-Minus-clause-code
lower_unary-returns-in_ok-put-in-Minus-clause-code t c = arm_minus c.args.out.now.marks c.args.op (OPS_FOR_SIZE * expr_size c.args.operand.now) _ c.args.line (meant (context_in c.args.names.now c.args.out.now) c.args.operand.now) _ _ _ c.in-Minus.is (omega arith) c.in_ok-_told-in-Minus.ensures.code c.in_ok-put-in-Minus.ensures

pub lower_unary-returns-in_ok-put-in-Not-clause-code : goal.lower_unary-returns-in_ok-put-in-Not-clause-code
lower_unary-returns-in_ok-put-in-Not-clause-code t c = arm_not c.args.out.now.marks c.args.op (OPS_FOR_SIZE * expr_size c.args.operand.now) _ c.args.line (meant (context_in c.args.names.now c.args.out.now) c.args.operand.now) _ _ _ c.in-Not.is (omega arith) c.in_ok-_told-in-Not.ensures.code c.in_ok-put-in-Not.ensures

pub lower_expr-lower_links-requires : goal.lower_expr-lower_links-requires
lower_expr-lower_links-requires t c =
    let z = chain_size c.args.e.now _ c.deref-in-Chain.result.now _ _ c.deref-in-Chain-2.result.now (tree_is _ _ _ _ c.in-Chain.is c.e.view_is) c.deref-in-Chain.ensures c.deref-in-Chain-2.ensures.value in
    let r = c.in_ok-told-in-Chain.ensures.code.room in
    let l = c.in_ok-told-in-Chain.ensures.code.kept.longer in
    let w = adds_settled c.in_ok-told-in-Chain.ensures.code in
    let h = c.here-start-in-Chain.ensures.settled in
    (search rules, (omega (arith, w, h), (omega (arith, l), omega (arith, z, r))))

pub lower_expr-returns-in_ok-told-in-Chain-clause-code : goal.lower_expr-returns-in_ok-told-in-Chain-clause-code
lower_expr-returns-in_ok-told-in-Chain-clause-code t c =
    arm_chain c.args.names.now c.lower_links.result _ _ _ _ _ c.deref-in-Chain-2.result.now _ _ _ _ _ _ (tree_is _ _ _ _ c.in-Chain.is c.e.view_is) c.deref-in-Chain.ensures c.deref-in-Chain-2.ensures.value c.here-start-in-Chain.ensures.count c.in_ok-told-in-Chain.ensures.code c.in_ok-told-in-Chain.ensures.tells c.lower_links.ensures

pub lower_expr-returns-in_ok-told-in-Chain-clause-tells : goal.lower_expr-returns-in_ok-told-in-Chain-clause-tells
lower_expr-returns-in_ok-told-in-Chain-clause-tells t c =
    told_chain c.args.names.now c.lower_links.result _ _ _ _ _ c.deref-in-Chain-2.result.now _ _ _ _ _ _ (tree_is _ _ _ _ c.in-Chain.is c.e.view_is) c.deref-in-Chain.ensures c.deref-in-Chain-2.ensures.value c.here-start-in-Chain.ensures.count c.in_ok-told-in-Chain.ensures.code c.in_ok-told-in-Chain.ensures.tells c.lower_links.ensures

pub lower_link-lower_right-requires : goal.lower_link-lower_right-requires
lower_link-lower_right-requires t c =
    let q = (c.in_ok-put_load.ensures.code c.args.names.now).room in
    let z = ap link_size c.link.view_is in
    (search rules, omega (arith, q, z))

pub lower_link-returns : goal.lower_link-returns
lower_link-returns t c = arm_link c.args.names.now c.args.link.now c.link.inside.sign c.link.inside.op c.link.inside.right c.args.line c.args.start c.args.left _ c.value.result c.joined_by-joining.result _ _ _ c.link.view_is c.joined_by-joining.ensures (cc) c.in_ok-put_load.ensures.tells (c.in_ok-put_load.ensures.code c.args.names.now) c.in_ok-lower_right.ensures

pub lower_links-lower_link-requires : goal.lower_links-lower_link-requires
lower_links-lower_link-requires t c =
    let r = c.loop-link.invariant.room in
    let fit = links_fit c.args.links.now c.loop-link.link-index c.link-item.result c.loop-link-test.true c.link-item.is in
    let w = grows_settled c.loop-link.invariant in
    let h = c.requires.settled in
    (search rules, (omega (arith, w, h), (c.loop-link.invariant.past, omega (arith, r, fit))))

pub lower_links-loop-link-preserved : goal.lower_links-loop-link-preserved
lower_links-loop-link-preserved t c = links_step c.args.names.now c.args.links.now c.loop-link.link-index c.link-item.result c.args.line c.args.start _ _ _ _ _ _ c.loop-link-test.true c.link-item.is c.loop-link.invariant c.in_ok-told.ensures

pub lower_links-returns : goal.lower_links-returns
lower_links-returns t c = links_end c.args.names.now c.args.links.now c.loop-link.link-index c.args.line c.args.start _ _ _ _ c.loop-link-test.false c.loop-link.invariant

pub lower_value-put_load-requires : goal.lower_value-put_load-requires
lower_value-put_load-requires t c =
    let r = c.in_ok-told.ensures.code.room in
    let l = c.in_ok-told.ensures.code.kept.longer in
    let s = some_size c.args.e.now in
    let w = adds_settled c.in_ok-told.ensures.code in
    let h = c.here-start.ensures.settled in
    record { settled = omega (arith, w, h); inside = omega (arith, l); room = omega (arith, r, s) }

pub lower_value-returns-clause-code : goal.lower_value-returns-clause-code
lower_value-returns-clause-code t c =
    adds_more (let s = some_size c.args.e.now in omega arith) (arm_value c.args.names.now (OPS_FOR_SIZE * expr_size c.args.e.now - 2) c.args.line c.here-start.result c.args.e.now _ _ _ _ _ c.here-start.ensures.count c.in_ok-told.ensures.code c.in_ok-told.ensures.tells (c.in_ok-put_load.ensures.code c.args.names.now))

pub lower_part-returns-in-Call : goal.lower_part-returns-in-Call
lower_part-returns-in-Call t c = called_part c.args.out.now.marks c.lower_call.result (context_in c.args.names.now c.args.out.now) _ _ _ _ _ _ _ _ _ (part_is _ _ _ _ c.in-Call.is c.part.view_is) c.deref.ensures.value c.lower_call.ensures

pub lower_part-returns-in-Step : goal.lower_part-returns-in-Step
lower_part-returns-in-Step t c =
    stepped_part c.args.out.now.marks c.put_stepped.result (context_in c.args.names.now c.args.out.now) _ _ _ _ _ _ _ _ (part_is _ _ _ _ c.in-Step.is c.part.view_is) (grown_in c.put_stepped.result c.args.names.now 9 c.args.line _ _ _ _ _ _ c.put_stepped.ensures)

pub lower_arg-put_load-requires : goal.lower_arg-put_load-requires
lower_arg-put_load-requires t c =
    let r = c.in_ok-told.ensures.code.room in
    let l = c.in_ok-told.ensures.code.kept.longer in
    let s = some_size c.args.arg.now in
    let w = adds_settled c.in_ok-told.ensures.code in
    let h = c.here-start.ensures.settled in
    record { settled = omega (arith, w, h); inside = omega (arith, l); room = omega (arith, r, s) }

pub lower_arg-put_conversion-requires : goal.lower_arg-put_conversion-requires
lower_arg-put_conversion-requires t c =
    let r = c.in_ok-told.ensures.code.room in
    let q = (c.in_ok-put_load.ensures.code c.args.names.now).room in
    let s = some_size c.args.arg.now in
    omega (arith, r, q, s)

pub lower_arg-returns-in_ok-put_conversion : goal.lower_arg-returns-in_ok-put_conversion
lower_arg-returns-in_ok-put_conversion t c =
    adds_more (let s = some_size c.args.arg.now in omega arith) (arm_argument c.args.names.now (OPS_FOR_SIZE * expr_size c.args.arg.now - 2) c.args.line c.here-start.result c.args.param.now c.args.arg.now _ _ _ _ _ _ _ (search rules) c.of_base.ensures.shape c.here-start.ensures.count c.in_ok-told.ensures.code c.in_ok-told.ensures.tells (c.in_ok-put_load.ensures.code c.args.names.now) c.in_ok-put_conversion.ensures)

pub lower_args-loop-place-init : goal.lower_args-loop-place-init
lower_args-loop-place-init t c = args_begin c.args.names.now c.args.params.now c.args.line c.args.out.now

pub lower_args-lower_arg-requires : goal.lower_args-lower_arg-requires
lower_args-lower_arg-requires t c =
    let r = c.loop-place.invariant.room in
    let fit = args_fit c.args.args.now c.loop-place.place c.index-args-place.result c.loop-place-test.true c.index-args-place.is in
    (search rules, omega (arith, r, fit))

pub lower_assign-lower_written-requires : goal.lower_assign-lower_written-requires
lower_assign-lower_written-requires t c =
    let r = c.in_ok-told.ensures.code.room in
    let l = c.in_ok-told.ensures.code.kept.longer in
    let s = some_size c.args.place.now in
    let w = adds_settled c.in_ok-told.ensures.code in
    let h = c.here-start.ensures.settled in
    (search rules, (omega (arith, w, h), (omega (arith, l), omega (arith, r, s))))

pub lower_assign-returns-clause-code : goal.lower_assign-returns-clause-code
lower_assign-returns-clause-code t c =
    arm_assigned c.args.names.now c.lower_written.result c.args.op (OPS_FOR_SIZE * expr_size c.args.place.now - 2) (OPS_FOR_SIZE * expr_size c.args.value.now + 5) _ c.args.line c.here-start.result c.args.place.now c.args.value.now _ _ _ _ (let s = some_size c.args.place.now in omega arith) c.here-start.ensures.count c.in_ok-told.ensures.code c.in_ok-told.ensures.tells c.lower_written.ensures

pub lower_assign-returns-clause-tells : goal.lower_assign-returns-clause-tells
lower_assign-returns-clause-tells t c =
    told_assigned c.args.names.now c.lower_written.result c.args.op (OPS_FOR_SIZE * expr_size c.args.place.now - 2) (OPS_FOR_SIZE * expr_size c.args.value.now + 5) c.args.line c.here-start.result c.args.place.now c.args.value.now _ _ _ _ c.here-start.ensures.count c.in_ok-told.ensures.code c.in_ok-told.ensures.tells c.lower_written.ensures

pub lower_call-returns-in_ok-restart-in-Fail : goal.lower_call-returns-in_ok-restart-in-Fail
lower_call-returns-in_ok-restart-in-Fail t c = arm_called c.args.out.now.marks c.args.names.now _ c.args.line c.args.start _ c.args.told _ _ _ (omega arith) c.requires.inside c.in-Fail.is c.value.ensures c.in_ok-restart-in-Fail.ensures

pub lower_call-returns-in_ok-put_at_risk-in-Routine : goal.lower_call-returns-in_ok-put_at_risk-in-Routine
lower_call-returns-in_ok-put_at_risk-in-Routine t c =
    arm_routine c.args.out.now.marks c.args.names.now (OPS_FOR_SIZE * exprs_size (exprs_of c.args.args.now)) _ c.args.line c.args.start c.in-Routine.routine _ (args_meant (context_in c.args.names.now c.args.out.now) (exprs_of c.args.args.now)) c.args.told _ _ _ _ _ _ (omega arith) c.requires.inside c.in-Routine.is c.params.ensures c.standing_as.ensures c.cut.ensures
    (args_in_cut c.args.names.now _ c.args.line c.args.start _ _ _ _ _ c.cut.ensures c.in_ok-lower_args-in-Routine.ensures) c.in_ok-put-in-Routine.ensures
    (risk_in c.args.line (op.Call c.in-Routine.routine) c.args.out.now _ _ (rest_behind c.args.out.now (rest_then c.args.out.now _ _ c.cut.ensures.rest c.in_ok-lower_args-in-Routine.ensures.rest) c.in_ok-put-in-Routine.ensures) c.in_ok-put_at_risk-in-Routine.ensures)

pub lower_call-returns-in_ok-put_at_risk-in-Member : goal.lower_call-returns-in_ok-put_at_risk-in-Member
lower_call-returns-in_ok-put_at_risk-in-Member t c =
    arm_member_called c.args.out.now.marks c.args.names.now (OPS_FOR_SIZE * exprs_size (exprs_of c.args.args.now)) _ c.args.line c.args.start c.in-Member.routine _ (args_meant (context_in c.args.names.now c.args.out.now) (exprs_of c.args.args.now)) c.args.told _ _ _ _ _ (omega arith) c.requires.inside c.in-Member.is c.params-in-Member.ensures c.standing_as-in-Member.ensures c.in_ok-lower_args-in-Member.ensures c.in_ok-put-in-Member.ensures
    (risk_in c.args.line (op.CallOn c.in-Member.routine) c.args.out.now _ _ (rest_behind c.args.out.now c.in_ok-lower_args-in-Member.ensures.rest c.in_ok-put-in-Member.ensures) c.in_ok-put_at_risk-in-Member.ensures)

pub lower_call-returns-in_ok-put_live_call-in-LiveMember : goal.lower_call-returns-in_ok-put_live_call-in-LiveMember
lower_call-returns-in_ok-put_live_call-in-LiveMember t c =
    arm_live_called c.args.out.now.marks c.args.names.now (OPS_FOR_SIZE * exprs_size (exprs_of c.args.args.now)) _ c.args.line c.args.start c.in-LiveMember.routine _ (args_meant (context_in c.args.names.now c.args.out.now) (exprs_of c.args.args.now)) c.args.told _ _ _ _ (omega arith) c.requires.inside c.in-LiveMember.is c.params-in-LiveMember.ensures c.standing_as-in-LiveMember.ensures c.in_ok-lower_args-in-LiveMember.ensures
    (live_in c.args.line c.in-LiveMember.routine c.args.out.now _ _ c.in_ok-lower_args-in-LiveMember.ensures.rest c.in_ok-put_live_call-in-LiveMember.ensures)

pub lower_call-returns-in_ok-put_mutex_call-in-MutexMember : goal.lower_call-returns-in_ok-put_mutex_call-in-MutexMember
lower_call-returns-in_ok-put_mutex_call-in-MutexMember t c =
    arm_mutex_called c.args.out.now.marks c.args.names.now (OPS_FOR_SIZE * exprs_size (exprs_of c.args.args.now)) _ c.args.line c.args.start c.in-MutexMember.member c.in-MutexMember.routine _ (args_meant (context_in c.args.names.now c.args.out.now) (exprs_of c.args.args.now)) c.args.told _ _ _ _ (omega arith) c.requires.inside c.in-MutexMember.is c.params-in-MutexMember.ensures c.standing_as-in-MutexMember.ensures c.in_ok-lower_args-in-MutexMember.ensures
    (mutex_in c.args.line c.in-MutexMember.member c.in-MutexMember.routine c.args.out.now _ _ c.in_ok-lower_args-in-MutexMember.ensures.rest c.in_ok-put_mutex_call-in-MutexMember.ensures)

pub lower_call-returns-in-Variable : goal.lower_call-returns-in-Variable
lower_call-returns-in-Variable t c = not_called c.args.out.now.marks c.put_nothing-in-Variable.result c.args.names.now _ c.args.line c.args.start (standing.Variable c.in-Variable.field-0) _ c.args.told _ _ (omega arith) c.requires.inside c.in-Variable.is (λ o m h. ap (λ (x : Standing). call_by c.args.names.now x m (args_meant (context_in c.args.names.now c.args.out.now) (exprs_of c.args.args.now))) h) c.put_nothing-in-Variable.ensures.code c.put_nothing-in-Variable.ensures.tells

pub lower_call-returns-in-Field : goal.lower_call-returns-in-Field
lower_call-returns-in-Field t c = not_called c.args.out.now.marks c.put_nothing-in-Field.result c.args.names.now _ c.args.line c.args.start (standing.Field c.in-Field.field-0) _ c.args.told _ _ (omega arith) c.requires.inside c.in-Field.is (field_not_called c.args.names.now c.in-Field.field-0 (args_meant (context_in c.args.names.now c.args.out.now) (exprs_of c.args.args.now))) c.put_nothing-in-Field.ensures.code c.put_nothing-in-Field.ensures.tells

pub lower_call-returns-in-Place : goal.lower_call-returns-in-Place
lower_call-returns-in-Place t c = not_called c.args.out.now.marks c.put_nothing-in-Place.result c.args.names.now _ c.args.line c.args.start standing.Place _ c.args.told _ _ (omega arith) c.requires.inside c.in-Place.is (λ o m h. ap (λ (x : Standing). call_by c.args.names.now x m (args_meant (context_in c.args.names.now c.args.out.now) (exprs_of c.args.args.now))) h) c.put_nothing-in-Place.ensures.code c.put_nothing-in-Place.ensures.tells

pub lower_call-returns-in-Number : goal.lower_call-returns-in-Number
lower_call-returns-in-Number t c = not_called c.args.out.now.marks c.put_nothing-in-Number.result c.args.names.now _ c.args.line c.args.start standing.Number _ c.args.told _ _ (omega arith) c.requires.inside c.in-Number.is (λ o m h. ap (λ (x : Standing). call_by c.args.names.now x m (args_meant (context_in c.args.names.now c.args.out.now) (exprs_of c.args.args.now))) h) c.put_nothing-in-Number.ensures.code c.put_nothing-in-Number.ensures.tells

pub lower_call-returns-in-Value : goal.lower_call-returns-in-Value
lower_call-returns-in-Value t c = not_called c.args.out.now.marks c.put_nothing-in-Value.result c.args.names.now _ c.args.line c.args.start standing.Value _ c.args.told _ _ (omega arith) c.requires.inside c.in-Value.is (λ o m h. ap (λ (x : Standing). call_by c.args.names.now x m (args_meant (context_in c.args.names.now c.args.out.now) (exprs_of c.args.args.now))) h) c.put_nothing-in-Value.ensures.code c.put_nothing-in-Value.ensures.tells

pub lower_call-returns-in-Input : goal.lower_call-returns-in-Input
lower_call-returns-in-Input t c = not_called c.args.out.now.marks c.put_nothing-in-Input.result c.args.names.now _ c.args.line c.args.start standing.Input _ c.args.told _ _ (omega arith) c.requires.inside c.in-Input.is (λ o m h. ap (λ (x : Standing). call_by c.args.names.now x m (args_meant (context_in c.args.names.now c.args.out.now) (exprs_of c.args.args.now))) h) c.put_nothing-in-Input.ensures.code c.put_nothing-in-Input.ensures.tells

pub lower_call-returns-in-Nothing : goal.lower_call-returns-in-Nothing
lower_call-returns-in-Nothing t c = not_called c.args.out.now.marks c.put_nothing-in-Nothing.result c.args.names.now _ c.args.line c.args.start standing.Nothing _ c.args.told _ _ (omega arith) c.requires.inside c.in-Nothing.is (λ o m h. ap (λ (x : Standing). call_by c.args.names.now x m (args_meant (context_in c.args.names.now c.args.out.now) (exprs_of c.args.args.now))) h) c.put_nothing-in-Nothing.ensures.code c.put_nothing-in-Nothing.ensures.tells

pub lower_call-returns-in-Condition : goal.lower_call-returns-in-Condition
lower_call-returns-in-Condition t c = not_called c.args.out.now.marks c.put_nothing.result c.args.names.now _ c.args.line c.args.start (standing.Condition c.in-Condition.field-0) _ c.args.told _ _ (omega arith) c.requires.inside c.in-Condition.is (λ o m h. ap (λ (x : Standing). call_by c.args.names.now x m (args_meant (context_in c.args.names.now c.args.out.now) (exprs_of c.args.args.now))) h) c.put_nothing.ensures.code c.put_nothing.ensures.tells

pub lower_call-returns-in-CallOf : goal.lower_call-returns-in-CallOf
lower_call-returns-in-CallOf t c = arm_condition_called c.args.out.now.marks c.lower_condition_call.result c.args.names.now _ c.args.line c.args.start c.in-CallOf.call (args_meant (context_in c.args.names.now c.args.out.now) (exprs_of c.args.args.now)) c.args.told _ _ c.requires.inside c.in-CallOf.is c.lower_condition_call.ensures.code c.lower_condition_call.ensures.tells

pub lower_condition_call-returns-in_ok-put_wait-in-Wait-clause-code : goal.lower_condition_call-returns-in_ok-put_wait-in-Wait-clause-code
lower_condition_call-returns-in_ok-put_wait-in-Wait-clause-code t c =
    called_wait c.args.out.now.marks (OPS_FOR_SIZE * exprs_size (exprs_of c.args.args.now) + 1) _ c.args.line c.args.call (stored_by (args_meant (context_in c.args.names.now c.args.out.now) (exprs_of c.args.args.now))) _ _ _ c.in-Wait.is (omega arith) c.in_ok-lower_stored-in-Wait.ensures
    (wait_in c.args.line c.args.out.now _ _ c.in_ok-lower_stored-in-Wait.ensures.rest c.in_ok-put_wait-in-Wait.ensures)

pub lower_condition_call-returns-in_ok-put-in-Signal-clause-code : goal.lower_condition_call-returns-in_ok-put-in-Signal-clause-code
lower_condition_call-returns-in_ok-put-in-Signal-clause-code t c = called_one c.args.out.now.marks _ c.args.line c.args.call calls.Signal (stored_by (args_meant (context_in c.args.names.now c.args.out.now) (exprs_of c.args.args.now))) _ _ c.in-Signal.is (omega arith) c.in_ok-put-in-Signal.ensures

pub lower_condition_call-returns-in_ok-put-in-SignalBlock-clause-code : goal.lower_condition_call-returns-in_ok-put-in-SignalBlock-clause-code
lower_condition_call-returns-in_ok-put-in-SignalBlock-clause-code t c = called_one c.args.out.now.marks _ c.args.line c.args.call calls.SignalBlock (stored_by (args_meant (context_in c.args.names.now c.args.out.now) (exprs_of c.args.args.now))) _ _ c.in-SignalBlock.is (omega arith) c.in_ok-put-in-SignalBlock.ensures

pub lower_condition_call-returns-in_ok-put-in-Empty-clause-code : goal.lower_condition_call-returns-in_ok-put-in-Empty-clause-code
lower_condition_call-returns-in_ok-put-in-Empty-clause-code t c = called_one c.args.out.now.marks _ c.args.line c.args.call calls.Empty (stored_by (args_meant (context_in c.args.names.now c.args.out.now) (exprs_of c.args.args.now))) _ _ c.in-Empty.is (omega arith) c.in_ok-put-in-Empty.ensures

pub lower_condition_call-returns-in_ok-put-in-Front-clause-code : goal.lower_condition_call-returns-in_ok-put-in-Front-clause-code
lower_condition_call-returns-in_ok-put-in-Front-clause-code t c = called_one c.args.out.now.marks _ c.args.line c.args.call calls.Front (stored_by (args_meant (context_in c.args.names.now c.args.out.now) (exprs_of c.args.args.now))) _ _ c.in-Front.is (omega arith) c.in_ok-put-in-Front.ensures

pub lower_call-lower_condition_call-requires : goal.lower_call-lower_condition_call-requires
lower_call-lower_condition_call-requires t c = (search rules, c.requires.room)

pub lower_condition_call-lower_stored-requires : goal.lower_condition_call-lower_stored-requires
lower_condition_call-lower_stored-requires t c =
    let r = c.requires in
    (search rules, omega (arith, r))

pub lower_stored-lower_value-requires : goal.lower_stored-lower_value-requires
lower_stored-lower_value-requires t c =
    let r = c.requires in
    let fit = stored_fit c.in-Some.arg.now c.args.args.now c.in-Some.ensures.value in
    (search rules, omega (arith, r, fit))

pub lower_stored-returns-in_ok-_told-in-Some : goal.lower_stored-returns-in_ok-_told-in-Some
lower_stored-returns-in_ok-_told-in-Some t c = stored_first c.args.names.now c.in-Some.arg.now c.args.args.now c.args.line _ _ c.in-Some.ensures.value c.in_ok-_told-in-Some.ensures.code

pub lower_stored-returns-in-None : goal.lower_stored-returns-in-None
lower_stored-returns-in-None t c = on_ok_weaker c.put.result (stored_none c.args.names.now c.args.args.now c.args.line c.args.out.now c.put.new.out c.in-None.ensures.value) c.put.ensures

pub lower_to_place-returns-in_ok-put-in-None : goal.lower_to_place-returns-in_ok-put-in-None
lower_to_place-returns-in_ok-put-in-None t c =
    arm_keep c.args.out.now.marks (OPS_FOR_SIZE * expr_size c.args.value.now) c.args.line c.args.op _ (value_of (meant (context_in c.args.names.now c.args.out.now) c.args.value.now)) _ _ _ _ c.in-None.is c.in_ok-_value-in-None.ensures.code c.in_ok-put_conversion-in-None.ensures c.in_ok-put-in-None.ensures

pub lower_to_place-returns-in_ok-end_update-in-Some : goal.lower_to_place-returns-in_ok-end_update-in-Some
lower_to_place-returns-in_ok-end_update-in-Some t c =
    arm_keep_by c.args.out.now.marks (OPS_FOR_SIZE * expr_size c.args.value.now) c.args.line c.in-Some.op c.args.op _ (value_of (meant (context_in c.args.names.now c.args.out.now) c.args.value.now)) _ _ _ _ c.in-Some.is c.in_ok-begin_update-in-Some.ensures
    (value_in c.args.names.now _ c.args.line c.args.value.now c.args.out.now _ _ _ c.in_ok-begin_update-in-Some.ensures.rest c.in_ok-_value-in-Some.ensures.code)
    c.in_ok-end_update-in-Some.ensures

pub lower_to_variable-returns-in_ok-put-in-None : goal.lower_to_variable-returns-in_ok-put-in-None
lower_to_variable-returns-in_ok-put-in-None t c =
    arm_set c.args.out.now.marks (OPS_FOR_SIZE * expr_size c.args.value.now) c.args.cell c.args.line c.args.op _ (value_of (meant (context_in c.args.names.now c.args.out.now) c.args.value.now)) _ _ _ _ c.in-None.is c.in_ok-_value-in-None.ensures.code c.in_ok-put_conversion-in-None.ensures c.in_ok-put-in-None.ensures

pub lower_to_variable-returns-in_ok-put-in-Some-3 : goal.lower_to_variable-returns-in_ok-put-in-Some-3
lower_to_variable-returns-in_ok-put-in-Some-3 t c =
    arm_set_by c.args.out.now.marks (OPS_FOR_SIZE * expr_size c.args.value.now) c.args.cell c.args.line c.in-Some.op c.args.op _ (value_of (meant (context_in c.args.names.now c.args.out.now) c.args.value.now)) _ _ _ _ _ _ c.in-Some.is c.in_ok-put-in-Some.ensures
    (value_in c.args.names.now _ c.args.line c.args.value.now c.args.out.now _ _ _ c.in_ok-put-in-Some.ensures.rest c.in_ok-_value-in-Some.ensures.code)
    c.in_ok-put-in-Some-2.ensures c.in_ok-put_conversion-in-Some.ensures c.in_ok-put-in-Some-3.ensures

pub lower_unary-returns-in_ok-told-in-Increment-clause-code : goal.lower_unary-returns-in_ok-told-in-Increment-clause-code
lower_unary-returns-in_ok-told-in-Increment-clause-code t c =
    arm_bumped c.args.names.now c.put_bump.result c.args.op step.Increment (OPS_FOR_SIZE * expr_size c.args.operand.now - 2) _ c.args.line c.here-start.result c.args.operand.now _ _ _ _ (λ m. ap (λ (o : UnaryOp). unary_meant o m) (sym c.in-Increment.is)) (let s = some_size c.args.operand.now in omega arith) c.here-start.ensures.count c.in_ok-told-in-Increment.ensures.code c.in_ok-told-in-Increment.ensures.tells (grown_in c.put_bump.result c.args.names.now 6 c.args.line _ _ _ _ _ _ c.put_bump.ensures)

pub lower_unary-returns-in_ok-told-in-Increment-clause-tells : goal.lower_unary-returns-in_ok-told-in-Increment-clause-tells
lower_unary-returns-in_ok-told-in-Increment-clause-tells t c =
    told_bumped c.args.names.now c.put_bump.result c.args.op step.Increment (OPS_FOR_SIZE * expr_size c.args.operand.now - 2) c.args.line c.here-start.result c.args.operand.now _ _ _ _ (λ m. ap (λ (o : UnaryOp). unary_meant o m) (sym c.in-Increment.is)) c.here-start.ensures.count c.in_ok-told-in-Increment.ensures.code c.in_ok-told-in-Increment.ensures.tells (grown_in c.put_bump.result c.args.names.now 6 c.args.line _ _ _ _ _ _ c.put_bump.ensures)

pub lower_unary-returns-in_ok-told-in-Decrement-clause-code : goal.lower_unary-returns-in_ok-told-in-Decrement-clause-code
lower_unary-returns-in_ok-told-in-Decrement-clause-code t c =
    arm_bumped c.args.names.now c.put_bump-in-Decrement.result c.args.op step.Decrement (OPS_FOR_SIZE * expr_size c.args.operand.now - 2) _ c.args.line c.here-start-in-Decrement.result c.args.operand.now _ _ _ _ (λ m. ap (λ (o : UnaryOp). unary_meant o m) (sym c.in-Decrement.is)) (let s = some_size c.args.operand.now in omega arith) c.here-start-in-Decrement.ensures.count c.in_ok-told-in-Decrement.ensures.code c.in_ok-told-in-Decrement.ensures.tells (grown_in c.put_bump-in-Decrement.result c.args.names.now 6 c.args.line _ _ _ _ _ _ c.put_bump-in-Decrement.ensures)

pub lower_unary-returns-in_ok-told-in-Decrement-clause-tells : goal.lower_unary-returns-in_ok-told-in-Decrement-clause-tells
lower_unary-returns-in_ok-told-in-Decrement-clause-tells t c =
    told_bumped c.args.names.now c.put_bump-in-Decrement.result c.args.op step.Decrement (OPS_FOR_SIZE * expr_size c.args.operand.now - 2) c.args.line c.here-start-in-Decrement.result c.args.operand.now _ _ _ _ (λ m. ap (λ (o : UnaryOp). unary_meant o m) (sym c.in-Decrement.is)) c.here-start-in-Decrement.ensures.count c.in_ok-told-in-Decrement.ensures.code c.in_ok-told-in-Decrement.ensures.tells (grown_in c.put_bump-in-Decrement.result c.args.names.now 6 c.args.line _ _ _ _ _ _ c.put_bump-in-Decrement.ensures)

pub lower_written-returns-in_ok-lower_to_variable-in-Some : goal.lower_written-returns-in_ok-lower_to_variable-in-Some
lower_written-returns-in_ok-lower_to_variable-in-Some t c =
    arm_to_variable c.args.out.now.marks (OPS_FOR_SIZE * expr_size c.args.value.now + 5) c.args.line c.in-Some.cell c.args.start c.args.op _ (meant (context_in c.args.names.now c.args.out.now) c.args.value.now) c.args.told _ _ _ _ c.requires.inside (sym c.in-Some.is ∙ c.variable.ensures) c.combining.ensures c.standing_as.ensures c.cut.ensures
    (variable_in_cut c.args.names.now _ c.args.line _ c.args.start _ c.args.value.now _ _ _ _ c.cut.ensures c.in_ok-lower_to_variable-in-Some.ensures)

pub lower_written-returns-in_ok-lower_to_place-in-None : goal.lower_written-returns-in_ok-lower_to_place-in-None
lower_written-returns-in_ok-lower_to_place-in-None t c =
    arm_to_place c.args.out.now.marks (OPS_FOR_SIZE * expr_size c.args.value.now + 5) c.args.line c.args.start c.args.op _ (meant (context_in c.args.names.now c.args.out.now) c.args.value.now) c.args.told _ _ _ c.requires.inside (sym c.in-None.is ∙ c.variable.ensures) c.combining-in-None.ensures c.standing_as-in-None.ensures c.in_ok-lower_to_place-in-None.ensures

pub lower_args-loop-place-preserved : goal.lower_args-loop-place-preserved
lower_args-loop-place-preserved t c =
    let xs = c.args.args.now in
    let i = c.loop-place.place in
    let context : Context = context_in c.args.names.now c.args.out.now in
    elim c.if-place-params.branch [
      | lower_args-then-place-params+in_ok-lower_arg w ↦
          subst (λ (d : Draft). Adds (OPS_FOR_SIZE * exprs_size (exprs_of (take (i + 1) xs))) (ArgumentsCode c.args.line c.args.out.now.marks (args_by c.args.params.now (args_meant context (exprs_of (take (i + 1) xs))))) c.args.out.now d) (sym w.out-is)
          (args_step c.args.names.now c.args.params.now xs i c.index-args-place.result w.index-params-place.result c.args.line _ _ _ c.loop-place-test.true c.index-args-place.is (slice_get_read c.args.params.now (length c.args.params.now) i w.index-params-place.result refl w.if-place-params.true w.index-params-place.is) c.loop-place.invariant w.in_ok-lower_arg.ensures)
      | lower_args-else-place-params w ↦
          subst (λ (d : Draft). Adds (OPS_FOR_SIZE * exprs_size (exprs_of (take (i + 1) xs))) (ArgumentsCode c.args.line c.args.out.now.marks (args_by c.args.params.now (args_meant context (exprs_of (take (i + 1) xs))))) c.args.out.now d) (sym w.out-is)
          (args_skip c.args.names.now c.args.params.now xs i c.index-args-place.result c.args.line _ _ c.loop-place-test.true c.index-args-place.is w.if-place-params.false c.loop-place.invariant)
    ]
