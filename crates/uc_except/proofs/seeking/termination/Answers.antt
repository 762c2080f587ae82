use Rattle.std.proofs.Common.{arith, ◌≡◌, ◌∷◌, ◌-◌, ◌<◌, suc, length, ap, sym, ◌∙◌}
use Rattle.uc_except.specs.RowSearch.{caught}
use Rattle.uc_except.proofs.Levels.{oldest, caught_found, caught_step}
use Rattle.uc_except.proofs.seeking.termination.Goals as goal

pub returns-in-Some : goal.returns-in-Some
returns-in-Some c =
    let rows = c.args.code.now.rows in
    let acts = c.args.work.now.run ∷ c.args.work.now.callers in
    let k : suc (c.loop-left.left - 1) ≡ c.loop-left.left = let t = c.loop-left-test.true in omega arith in
    sym (caught_found rows c.args.event acts (c.loop-left.left - 1) c.in-Some.row (sym c.in-Some.ensures))
    ∙ (ap (λ n. caught rows c.args.event (oldest n acts)) k ∙ c.loop-left.invariant.1)

pub loop-left-preserved : goal.loop-left-preserved
loop-left-preserved c =
    let rows = c.args.code.now.rows in
    let acts = c.args.work.now.run ∷ c.args.work.now.callers in
    let i = c.loop-left.invariant.0 in
    let t = c.loop-left-test.true in
    let k : suc (c.loop-left.left - 1) ≡ c.loop-left.left = omega arith in
    let l : c.loop-left.left - 1 < length acts = omega arith in
    (omega arith, sym (caught_step rows c.args.event acts (c.loop-left.left - 1) l (sym c.in-None.ensures)) ∙ (ap (λ n. caught rows c.args.event (oldest n acts)) k ∙ c.loop-left.invariant.1))
