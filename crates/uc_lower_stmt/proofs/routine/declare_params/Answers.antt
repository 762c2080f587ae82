use Rattle.std.proofs.Common.{refl, ap, ◌∙◌, arith}
use Rattle.uc_tree.specs.Capped.{capped}
use Rattle.uc_tree.specs.Cells.{param_cells}
use Rattle.uc_tree.specs.Programs.{Program}
use Rattle.uc_code.specs.Drafts.{Draft}
use Rattle.uc_lower_stmt.proofs.Declaring.{uncapped}
use Rattle.uc_lower_stmt.proofs.RoutinesLemmas.{params_step, params_fit}
use Rattle.uc_lower_stmt.proofs.routine.declare_params.Goals as goal

pub overflow_cast-cells : goal.overflow_cast-cells
overflow_cast-cells c =
    let fit = params_fit c.args.names.now c.args.params.now c.loop-param.param-index c.param-item.result c.loop-param-test.true c.param-item.is in
    let few = c.requires in
    let own = uncapped _ _ (c.cells_of_param-cells.ensures ∙ ap (λ (p : Program). capped (param_cells p c.param-item.result)) c.sizes.ensures) (omega (arith, fit, few)) in
    omega (arith, fit, few, own)

pub declare-requires : goal.declare-requires
declare-requires c =
    let fit = params_fit c.args.names.now c.args.params.now c.loop-param.param-index c.param-item.result c.loop-param-test.true c.param-item.is in
    let few = c.requires in
    let cells = ap (λ (d : Draft). d.cells) c.loop-param.invariant in
    let own = uncapped _ _ (c.cells_of_param-cells.ensures ∙ ap (λ (p : Program). capped (param_cells p c.param-item.result)) c.sizes.ensures) (omega (arith, fit, few)) in
    omega (arith, fit, few, cells, own)

pub loop-param-preserved : goal.loop-param-preserved
loop-param-preserved c =
    let fit = params_fit c.args.names.now c.args.params.now c.loop-param.param-index c.param-item.result c.loop-param-test.true c.param-item.is in
    let few = c.requires in
    let own = uncapped _ _ (c.cells_of_param-cells.ensures ∙ ap (λ (p : Program). capped (param_cells p c.param-item.result)) c.sizes.ensures) (omega (arith, fit, few)) in
    params_step c.args.names.now c.args.params.now c.loop-param.param-index c.param-item.result c.in_ok-name.name c.in_ok-base.base c.param-item.result.by_ref c.cells_of_param-cells.result _ _ _ c.loop-param-test.true c.param-item.is c.loop-param.invariant
    c.in_ok-name.ensures c.in_ok-base.ensures refl own c.in_ok-declare.ensures.ok
