use Rattle.std.proofs.Common.{arith, ◌≡◌, ◌∷◌, ◌-◌, ◌+◌, ◌<◌, suc, Some, length, ap, sym, ◌∙◌}
use Rattle.uc_except.specs.RowSearch.{resumed_from}
use Rattle.uc_except.proofs.Levels.{oldest, resumed_found, resumed_past, resumed_further, resumed_nowhere}
use Rattle.uc_except.proofs.seeking.resumption.Goals as goal

pub returns-in-Some : goal.returns-in-Some
returns-in-Some c =
    let rows = c.args.code.now.rows in
    let acts = c.args.work.now.run ∷ c.args.work.now.callers in
    let k : suc (c.loop-left.left - 1) ≡ c.loop-left.left = let t = c.loop-left-test.true in omega arith in
    sym (resumed_found rows c.args.event acts (c.loop-left.left - 1) c.in-Some.row c.loop-left.rest (sym c.in-Some.ensures))
    ∙ (ap (λ n. resumed_from rows c.loop-left.rest c.args.event (oldest n acts)) k ∙ c.loop-left.invariant.1)

pub loop-left-preserved-in-None-handles_at : goal.loop-left-preserved-in-None-handles_at
loop-left-preserved-in-None-handles_at c =
    let rows = c.args.code.now.rows in
    let acts = c.args.work.now.run ∷ c.args.work.now.callers in
    let i = c.loop-left.invariant.0 in
    let t = c.loop-left-test.true in
    let k : suc (c.loop-left.left - 1) ≡ c.loop-left.left = omega arith in
    let l : c.loop-left.left - 1 < length acts = omega arith in
    (omega arith, sym (resumed_past rows c.args.event acts (c.loop-left.left - 1) l c.loop-left.rest (sym c.in-None.ensures) (sym c.in-None-handles_at.ensures)) ∙ (ap (λ n. resumed_from rows c.loop-left.rest c.args.event (oldest n acts)) k ∙ c.loop-left.invariant.1))

pub returns-then-level-visited : goal.returns-then-level-visited
returns-then-level-visited c =
    let rows = c.args.code.now.rows in
    let acts = c.args.work.now.run ∷ c.args.work.now.callers in
    let i = c.loop-left.invariant.0 in
    let t = c.loop-left-test.true in
    let k : suc (c.loop-left.left - 1) ≡ c.loop-left.left = omega arith in
    let l : c.loop-left.left - 1 < length acts = omega arith in
    sym (resumed_nowhere rows c.args.event acts (c.loop-left.left - 1) l c.loop-left.rest c.in-Some-handles_at.visited (sym c.in-None.ensures) (sym c.in-Some-handles_at.ensures) c.if-level-visited.true) ∙ (ap (λ n. resumed_from rows c.loop-left.rest c.args.event (oldest n acts)) k ∙ c.loop-left.invariant.1)

pub loop-left-preserved : goal.loop-left-preserved
loop-left-preserved c =
    let rows = c.args.code.now.rows in
    let acts = c.args.work.now.run ∷ c.args.work.now.callers in
    let v = c.in-Some-handles_at.visited in
    let i = c.loop-left.invariant.0 in
    let t = c.loop-left-test.true in
    let f = c.if-level-visited.false in
    let k : suc (c.loop-left.left - 1) ≡ c.loop-left.left = omega arith in
    let l : c.loop-left.left - 1 < length acts = omega arith in
    let z : suc v.level ≡ c.from-left-in-Some-handles_at.result + 1 = omega (arith, c.from-left-in-Some-handles_at.ensures) in (
      omega (arith, c.from-left-in-Some-handles_at.ensures),
      ap (λ n. resumed_from rows (Some v.rest) c.args.event (oldest n acts)) (sym z)
          ∙ (sym (resumed_further rows c.args.event acts (c.loop-left.left - 1) l c.loop-left.rest v (sym c.in-None.ensures) (sym c.in-Some-handles_at.ensures) f)
          ∙ (ap (λ n. resumed_from rows c.loop-left.rest c.args.event (oldest n acts)) k ∙ c.loop-left.invariant.1)),
    )
