use Rattle.std.proofs.Common.{◌≡◌, ◌∙◌, ap, arith}
use Rattle.uc_tree.specs.StatementSizes.{maybe_expr_size}
use Rattle.uc_resolve.specs.Resolve.{meant, value_of}
use Rattle.uc_tree.specs.declared.kinds.Place.{Place}
use Rattle.uc_code.specs.Drafts.{Draft}
use Rattle.uc_code.specs.OpenRows.{exit_room}
use Rattle.uc_code.proofs.Putting.{puts_more}
use Rattle.uc_lower_expr.specs.Contexts.{context_in}
use Rattle.uc_lower_stmt.proofs.Stating.{arm_handed, arm_ended, exit_few}
use Rattle.uc_lower_stmt.proofs.stmt.lower_return.Goals as goal

pub put_conversion-requires : goal.put_conversion-requires
put_conversion-requires c =
    let n = ap maybe_expr_size c.in-Some.is in
    let ar = c.in_ok-_told-in-Some.ensures.code.room in
    omega (arith, n, ar, c.requires)

pub put_exit-requires : goal.put_exit-requires
put_exit-requires c =
    let n = ap maybe_expr_size c.in-Some.is in
    let a = c.in_ok-_told-in-Some.ensures.code in
    let b = c.in_ok-put_conversion-in-Some.ensures in
    let ar = a.room in
    let br = b.room in
    let few = exit_few c.args.out.now.marks in
    let same : exit_room c.put_conversion.new.out.marks ≡ exit_room c.args.out.now.marks = ap (λ (d : Draft). exit_room d.marks) b.rest ∙ ap (λ (d : Draft). exit_room d.marks) a.rest in
    omega (arith, n, ar, br, few, same, c.requires)

pub put_exit-requires-in-None : goal.put_exit-requires-in-None
put_exit-requires-in-None c =
    let few = exit_few c.args.out.now.marks in
    omega (arith, few, c.requires)

pub returns-in_ok-put_exit-in-Some : goal.returns-in_ok-put_exit-in-Some
returns-in_ok-put_exit-in-Some c =
    let n = ap maybe_expr_size c.in-Some.is in
    let few = exit_few c.args.out.now.marks in
    puts_more (omega (arith, n, few)) (arm_handed c.args.names.now _ c.args.line c.place.result.routine _ c.in-Some.value _ _ _ _ _ c.in-Some.is (ap (λ (q : Place). q.routine) c.place.ensures) (c.result.ensures (value_of (meant (context_in c.args.names.now c.args.out.now) c.in-Some.value))).shape c.in_ok-_told-in-Some.ensures.code c.in_ok-put_conversion-in-Some.ensures c.in_ok-put_exit-in-Some.ensures)

pub returns-in_ok-put_exit-in-None : goal.returns-in_ok-put_exit-in-None
returns-in_ok-put_exit-in-None c =
    let few = exit_few c.args.out.now.marks in
    puts_more (omega (arith, few)) (arm_ended c.args.names.now c.args.line _ _ _ c.in-None.is c.in_ok-put_exit-in-None.ensures)
