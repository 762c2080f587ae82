use Rattle.std.proofs.Common.{arith}
use Rattle.uc_code.proofs.Tabled.{filling_on}
use Rattle.uc_code.proofs.table.fill.Goals as goal

pub loop-place-preserved : goal.loop-place-preserved
loop-place-preserved c =
    filling_on c.args.row c.args.name _ _ _ _ c.loop-place.invariant c.requires.named (let t = c.loop-place-test.true in let e = c.len.ensures in omega arith) c.if-place-row.true _ _ c.first_free-place-in-loop-place.ensures
