use Rattle.std.proofs.Common.{subst, sym}
use Rattle.uc_code.specs.Drafts.{Draft}
use Rattle.uc_lower_expr.specs.DraftGrowth.{Adds}
use Rattle.uc_lower_expr.specs.Parts.{FoundCode}
use Rattle.uc_lower_expr.proofs.Walks.{found_load, found_none}
use Rattle.uc_lower_expr.proofs.expr.put_element.Goals.{then-told+in_ok-put, else-told}
use Rattle.uc_lower_expr.proofs.expr.put_element.Goals as goal

pub returns-clause-code : goal.returns-clause-code
returns-clause-code c =
    let line = c.args.line in
    let number = c.args.told.numbered in
    elim c.if-told.branch [
      | then-told+in_ok-put w ↦ subst (λ (d : Draft). Adds 1 (FoundCode line number) c.args.out.now d) (sym w.out-is) (found_load line number _ _ w.if-told.true w.in_ok-put.ensures)
      | else-told w ↦ subst (λ (d : Draft). Adds 1 (FoundCode line number) c.args.out.now d) (sym w.out-is) (found_none line number _ w.if-told.false)
    ]
