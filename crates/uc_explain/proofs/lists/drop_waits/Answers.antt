use Rattle.std.proofs.Common.{◌≡◌, ◌<◌, ◌≤◌, ℕ, ℤ, true, false, length, ap, sym, ◌∙◌, arith, add-one}
use Rattle.uc_acts.specs.Queues.{takes}
use Rattle.uc_explain.proofs.WaitLemmas.{kept_from, kept_on, kept_less, kept_all}
use Rattle.uc_explain.proofs.lists.drop_waits.Goals as goal

pub loop-at-preserved-then-takes : goal.loop-at-preserved-then-takes
loop-at-preserved-then-takes c =
    let e = c.args.e.now in
    let cs = c.loop-at.conds in
    let ws = c.loop-at.waits in
    let i = c.loop-at.invariant in
    let same = i.same in
    let lt : c.loop-at.at < length ws.items = omega arith in
    let taken : takes e.kind e c.index.result.now.0 ≡ true = sym c.takes.ensures ∙ c.if-takes.true in
    let here = ap (λ (w : ℕ × ℤ). takes e.kind e w.0) (sym c.index.ensures) ∙ taken in
    record {
      same = omega arith;
      bound = omega arith;
      conds = c.remove-cond.ensures.capacity ∙ i.conds;
      waits = c.remove-wait.ensures.capacity ∙ i.waits;
      kept = ap (λ l. kept_from e c.loop-at.at l c.remove-wait.new.self.items) c.remove-cond.ensures.items ∙ ap (kept_from e c.loop-at.at _) c.remove-wait.ensures.items ∙ kept_less e c.loop-at.at cs.items ws.items c.index.result.now same lt here ∙ i.kept;
    }

pub loop-at-preserved : goal.loop-at-preserved
loop-at-preserved c =
    let e = c.args.e.now in
    let cs = c.loop-at.conds in
    let ws = c.loop-at.waits in
    let i = c.loop-at.invariant in
    let same = i.same in
    let lt : c.loop-at.at < length ws.items = omega arith in
    let left : takes e.kind e c.index.result.now.0 ≡ false = sym c.takes.ensures ∙ c.if-takes.false in
    let here = ap (λ (w : ℕ × ℤ). takes e.kind e w.0) (sym c.index.ensures) ∙ left in
    record {
      same = i.same;
      bound = i.bound;
      conds = i.conds;
      waits = i.waits;
      kept = ap (λ k. kept_from e k cs.items ws.items) (add-one c.loop-at.at) ∙ kept_on e c.loop-at.at cs.items ws.items c.index.result.now same lt here ∙ i.kept;
    }

pub returns-clause-rows : goal.returns-clause-rows
returns-clause-rows c =
    let i = c.loop-at.invariant in
    let le : length c.loop-at.waits.items ≤ c.loop-at.at = omega arith in
    sym (kept_all c.args.e.now c.loop-at.at c.loop-at.conds.items c.loop-at.waits.items i.same le) ∙ i.kept
