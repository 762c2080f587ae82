use Rattle.std.proofs.Common.{ap, ◌∙◌, arith}
use Rattle.uc_tree.specs.declared.kinds.Role.TheVariants as role
use Rattle.uc_tree.specs.Capped.{capped}
use Rattle.uc_tree.specs.Cells.{declared_cells}
use Rattle.uc_tree.specs.Programs.{Program}
use Rattle.uc_tree.specs.Source.{Variable}
use Rattle.uc_tree.specs.Statements.{Declarator}
use Rattle.uc_tree.specs.StatementSizes.{start_size}
use Rattle.uc_code.specs.Drafts.{Draft}
use Rattle.uc_code.specs.ObjectCalls.{InFrame}
use Rattle.uc_code.proofs.Putting.{marks_of}
use Rattle.uc_lower_expr.specs.Meanings.{making_of}
use Rattle.uc_lower_stmt.specs.Blocks.{started_args}
use Rattle.uc_lower_stmt.proofs.Declaring.{uncapped}
use Rattle.uc_lower_stmt.proofs.Openings.{arm_object, behind_call, behind_of}
use Rattle.uc_lower_stmt.proofs.block.lower_object.Goals as goal

pub lower_build-requires-clause-builds : goal.lower_build-requires-clause-builds
lower_build-requires-clause-builds c = behind_of c.args.names.now c.args.made role.Constructor _ _ _ c.args.out.now.marks _ c.requires.behind (ap (λ (d : Draft). d.marks) c.in_ok-put.ensures.rest)

pub lower_build-requires-clause-destroys : goal.lower_build-requires-clause-destroys
lower_build-requires-clause-destroys c = behind_of c.args.names.now c.args.made role.Destructor _ _ _ c.args.out.now.marks _ c.requires.behind (ap (λ (d : Draft). d.marks) c.in_ok-put.ensures.rest)

pub open-requires : goal.open-requires
open-requires c =
    let built = c.in_ok-lower_build.ensures (Variable c.cells-cell.result) (InFrame c.cells-cell.result) in
    behind_call c.args.names.now c.args.made _ _ c.clean_call-what.result c.args.out.now.marks _ c.clean_call-what.ensures.call c.requires.behind (marks_of built ∙ ap (λ (d : Draft). d.marks) c.in_ok-put.ensures.rest)

pub declare_variable-requires-clause-cells : goal.declare_variable-requires-clause-cells
declare_variable-requires-clause-cells c =
    uncapped _ _ (c.cells_of_variable-cells.ensures ∙ ap (λ (p : Program). capped (declared_cells p c.args.base.now c.args.declarator.now)) c.sizes.ensures) (omega arith)

pub declare_variable-requires-clause-room : goal.declare_variable-requires-clause-room
declare_variable-requires-clause-room c =
    let cells = uncapped _ _ (c.cells_of_variable-cells.ensures ∙ ap (λ (p : Program). capped (declared_cells p c.args.base.now c.args.declarator.now)) c.sizes.ensures) (omega arith) in
    let built = c.in_ok-lower_build.ensures (Variable c.cells-cell.result) (InFrame c.cells-cell.result) in
    let same = ap (λ (d : Draft). d.cells) c.in_ok-_row.ensures.ok ∙ (ap (λ (d : Draft). d.cells) built.rest ∙ ap (λ (d : Draft). d.cells) c.in_ok-put.ensures.rest) in
    omega (arith, cells, same, c.requires.cells)

pub returns : goal.returns
returns c =
    let same = c.declarator.view_is in
    arm_object c.args.names.now (making_of c.args.names.now c.args.made) c.args.base.now c.args.declarator.now c.args.line c.args.block c.cells-cell.result c.cells_of_variable-cells.result c.length_of-elements.result c.args_of-args.result.now c.clean_call-what.result c.args.out.now _ _ _ _
    c.cells-cell.ensures (uncapped _ _ (c.cells_of_variable-cells.ensures ∙ ap (λ (p : Program). capped (declared_cells p c.args.base.now c.args.declarator.now)) c.sizes.ensures) (omega arith)) c.length_of-elements.ensures
    (λ k. c.args_of-args.ensures.meant k ∙ ap (λ (d : Declarator). started_args k d.start) same) (let few = c.args_of-args.ensures.size in let e = ap (λ (d : Declarator). start_size d.start) same in omega (arith, few, e))
    c.in_ok-put.ensures c.in_ok-lower_build.ensures c.clean_call-what.ensures.cleans c.in_ok-_row.ensures.ok c.in_ok-_row.ensures.kept c.in_ok-declare_variable.ensures
