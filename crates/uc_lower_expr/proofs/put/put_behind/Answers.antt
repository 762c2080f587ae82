use Rattle.std.proofs.Common.{List, ap, pos, subst}
use Rattle.uc_tree.specs.Source.{Literal}
use Rattle.uc_code.specs.declared.rows.CodeMark.{CodeMark}
use Rattle.uc_code.specs.Drafts.{Draft}
use Rattle.uc_lower_expr.specs.Meanings.{shape_as}
use Rattle.uc_lower_expr.specs.DraftGrowth.{Adds}
use Rattle.uc_lower_expr.specs.Parts.{SetByCode}
use Rattle.uc_lower_expr.proofs.Arms.{arm_behind}
use Rattle.uc_lower_expr.proofs.put.put_behind.Goals as goal

pub returns : goal.returns
returns c =
    arm_behind c.args.out.now.marks _ _ _ _ _ _ _ _ c.in_ok-put.ensures
    (subst (λ (ms : List CodeMark). Adds 5 (SetByCode c.args.line ms c.args.cell c.args.op (shape_as c.args.scalar) (Literal (pos 1))) c.put.new.out c.set_by_one.new.out) (ap (λ (d : Draft). d.marks) c.in_ok-put.ensures.rest) c.in_ok-set_by_one.ensures)
    c.in_ok-put-2.ensures
