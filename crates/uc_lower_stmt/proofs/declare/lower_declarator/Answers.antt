use Rattle.std.proofs.Common.{ap, sym, ◌∙◌, refl, arith}
use Rattle.uc_tree.specs.Capped.{capped}
use Rattle.uc_tree.specs.Cells.{declared_cells}
use Rattle.uc_tree.specs.Programs.{Program}
use Rattle.uc_resolve.specs.Resolve.{declared_type}
use Rattle.uc_tree.specs.Statements.{Declarator}
use Rattle.uc_lower_expr.specs.Meanings.{shape_as}
use Rattle.uc_lower_stmt.proofs.Declaring.{uncapped, arm_declared}
use Rattle.uc_lower_stmt.proofs.declare.lower_declarator.Goals as goal

pub declare_variable-requires-clause-cells : goal.declare_variable-requires-clause-cells
declare_variable-requires-clause-cells c = uncapped _ _ (c.cells_of_variable-cells.ensures ∙ ap (λ (p : Program). capped (declared_cells p c.args.base.now c.args.declarator.now)) c.sizes.ensures) (let r = c.requires.cells in omega arith)

pub returns : goal.returns
returns c =
    arm_declared c.args.names.now c.args.base.now c.args.declarator.now c.args.line c.cells-cell.result c.cells_of_variable-cells.result c.args.declarator.now.name (declared_type c.args.names.now c.args.base.now c.args.declarator.now) (shape_as c.of_base-scalar.result) c.declarator.inside.start c.args.out.now _ _ _
    c.cells-cell.ensures (uncapped _ _ (c.cells_of_variable-cells.ensures ∙ ap (λ (p : Program). capped (declared_cells p c.args.base.now c.args.declarator.now)) c.sizes.ensures) (omega arith)) (sym c.of_base-scalar.ensures.shape) (ap (λ (d : Declarator). d.start) c.declarator.view_is) refl refl
    c.in_ok-put.ensures c.in_ok-lower_start.ensures c.in_ok-declare_variable.ensures
