use Rattle.std.proofs.Common.{◌∙◌, arith}
use Rattle.uc_lower_stmt.specs.LowersStatement.{scope_of}
use Rattle.uc_lower_stmt.proofs.Printing.{arm_together, pieces_count, all_count}
use Rattle.uc_lower_stmt.proofs.print.lower_together.Goals as goal

pub put-requires : goal.put-requires
put-requires c = let r = c.in_ok-pieces.ensures.code.room in omega (arith, r)

pub put_pieces-requires : goal.put_pieces-requires
put_pieces-requires c =
    let r = c.in_ok-pieces.ensures.code.room in
    let q = c.in_ok-put.ensures.room in
    let n = pieces_count c.args.names.now (scope_of c.args.out.now) c.args.items.now c.deref.result.now (c.deref.ensures.value ∙ c.in_ok-pieces.ensures.ops) in
    let m = all_count c.args.items.now in
    omega (arith, r, q, n, m)

pub put-requires-2 : goal.put-requires-2
put-requires-2 c =
    let r = c.in_ok-pieces.ensures.code.room in
    let q = c.in_ok-put.ensures.room in
    let w = c.in_ok-put_pieces.ensures.room in
    let n = pieces_count c.args.names.now (scope_of c.args.out.now) c.args.items.now c.deref.result.now (c.deref.ensures.value ∙ c.in_ok-pieces.ensures.ops) in
    let m = all_count c.args.items.now in
    omega (arith, r, q, w, n, m)

pub returns : goal.returns
returns c = arm_together c.args.names.now c.args.items.now c.in_ok-pieces.pieces.items c.deref.result.now c.args.line _ _ _ _ _ c.in_ok-pieces.ensures.ops c.deref.ensures.value c.in_ok-pieces.ensures.code c.in_ok-put.ensures c.in_ok-put_pieces.ensures c.in_ok-put-2.ensures
