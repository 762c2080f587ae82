use Rattle.std.proofs.Common.{arith}
use Rattle.uc_tree.specs.Expressions.{exprs_of}
use Rattle.uc_lower_stmt.proofs.RaisingLemmas.{built_raised}
use Rattle.uc_lower_stmt.proofs.raise.lower_built.Goals as goal

pub returns : goal.returns
returns c =
    built_raised c.args.names.now c.args.line c.args.event c.args.routine c.args.cell _ _ (exprs_of c.args.args.now) c.args.out.now c.put.new.out c.put-2.new.out c.lower_args.new.out c.put-3.new.out c.put_at_risk.new.out c.put_built.new.out c.params.ensures
    c.in_ok-put.ensures c.in_ok-put-2.ensures c.in_ok-lower_args.ensures c.in_ok-put-3.ensures c.in_ok-put_at_risk.ensures c.in_ok-put_built.ensures

pub put-requires-2 : goal.put-requires-2
put-requires-2 c = let a = c.in_ok-put.ensures.room in omega (arith, a, c.requires.room)

pub lower_args-requires : goal.lower_args-requires
lower_args-requires c =
    let a = c.in_ok-put.ensures.room in
    let b = c.in_ok-put-2.ensures.room in
    omega (arith, a, b, c.requires.room)

pub put-requires-3 : goal.put-requires-3
put-requires-3 c =
    let a = c.in_ok-put.ensures.room in
    let b = c.in_ok-put-2.ensures.room in
    let d = c.in_ok-lower_args.ensures.room in
    omega (arith, a, b, d, c.requires.room)

pub put_at_risk-requires : goal.put_at_risk-requires
put_at_risk-requires c =
    let a = c.in_ok-put.ensures.room in
    let b = c.in_ok-put-2.ensures.room in
    let d = c.in_ok-lower_args.ensures.room in
    let e = c.in_ok-put-3.ensures.room in
    omega (arith, a, b, d, e, c.requires.room)

pub put_built-requires-clause-room : goal.put_built-requires-clause-room
put_built-requires-clause-room c =
    let a = c.in_ok-put.ensures.room in
    let b = c.in_ok-put-2.ensures.room in
    let d = c.in_ok-lower_args.ensures.room in
    let e = c.in_ok-put-3.ensures.room in
    let f = c.in_ok-put_at_risk.ensures.room in
    omega (arith, a, b, d, e, f, c.requires.room)
