use Rattle.std.proofs.Common.{sym, ◌∙◌}
use Rattle.uc_code.proofs.Tabled.{covering_is}
use Rattle.uc_code.proofs.table.covering.Goals as goal

pub returns-then-covers : goal.returns-then-covers
returns-then-covers c =
    sym (covering_is c.args.rows.now c.args.next _ c.loop-name.name c.loop-name-test.true c.loop-name.invariant.0 c.loop-name.invariant.1 (sym c.covers.ensures ∙ c.if-covers.true))
