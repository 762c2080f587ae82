use Rattle.std.proofs.Common.{◌≡◌, length, ap, ◌∙◌, arith}
use Rattle.uc_tree.specs.Capped.{capped}
use Rattle.uc_tree.specs.Cells.{routine_cells}
use Rattle.uc_tree.specs.Programs.{Program, Sig}
use Rattle.uc_code.specs.Drafts.{Draft}
use Rattle.uc_lower_stmt.proofs.Declaring.{uncapped}
use Rattle.uc_lower_stmt.proofs.Opened.{stmts_few}
use Rattle.uc_lower_class.proofs.Builders.{arm_builder, begun_is}
use Rattle.uc_lower_class.proofs.builder.lower_builder.Goals as goal

pub returns-clause-code : goal.returns-clause-code
returns-clause-code c =
    let p = c.args.names.now in
    let r = c.args.routine.now in
    let xs : c.params_of-params.result.now ≡ r.sig.params = c.params_of-params.ensures ∙ ap (λ (s : Sig). s.params) c.sig_of-sig.ensures in
    let cells = uncapped (routine_cells p r) c.cells_of_routine-variables.result (c.cells_of_routine-variables.ensures ∙ ap (λ (q : Program). capped (routine_cells q r)) c.sizes.ensures) c.requires.cells in
    let begins = begun_is p r c.args.last c.args.class c.args.number c.cells_of_routine-variables.result c.args.texts c.args.sites c.params_of-params.result.now c.args.out.now c.begin_routine.new.self c.declare_params.new.out c.enter_body.new.self xs cells c.begin_routine.ensures c.in_ok-declare_params.ensures c.in_ok-enter_body.ensures.ok in
    (arm_builder p r c.role_of-role.result c.args.class c.args.last c.args.number c.args.texts c.args.sites c.here-entry.result c.hidden-cells.result (length c.params_of-params.result.now) c.args.out.now c.enter_body.new.self c.lower_body.new.out c.leave.new.self c.put.new.out c.set_routine.new.self
    c.requires.behind (c.role_of-role.ensures ∙ ap (λ (s : Sig). s.role) c.sig_of-sig.ensures) c.requires.role c.requires.main c.here-entry.ensures.count c.hidden-cells.ensures (ap length xs) begins c.in_ok-lower_body.ensures c.leave.ensures c.in_ok-put.ensures c.set_routine.ensures).code

pub returns-clause-written : goal.returns-clause-written
returns-clause-written c =
    let p = c.args.names.now in
    let r = c.args.routine.now in
    let xs : c.params_of-params.result.now ≡ r.sig.params = c.params_of-params.ensures ∙ ap (λ (s : Sig). s.params) c.sig_of-sig.ensures in
    let cells = uncapped (routine_cells p r) c.cells_of_routine-variables.result (c.cells_of_routine-variables.ensures ∙ ap (λ (q : Program). capped (routine_cells q r)) c.sizes.ensures) c.requires.cells in
    let begins = begun_is p r c.args.last c.args.class c.args.number c.cells_of_routine-variables.result c.args.texts c.args.sites c.params_of-params.result.now c.args.out.now c.begin_routine.new.self c.declare_params.new.out c.enter_body.new.self xs cells c.begin_routine.ensures c.in_ok-declare_params.ensures c.in_ok-enter_body.ensures.ok in
    (arm_builder p r c.role_of-role.result c.args.class c.args.last c.args.number c.args.texts c.args.sites c.here-entry.result c.hidden-cells.result (length c.params_of-params.result.now) c.args.out.now c.enter_body.new.self c.lower_body.new.out c.leave.new.self c.put.new.out c.set_routine.new.self
    c.requires.behind (c.role_of-role.ensures ∙ ap (λ (s : Sig). s.role) c.sig_of-sig.ensures) c.requires.role c.requires.main c.here-entry.ensures.count c.hidden-cells.ensures (ap length xs) begins c.in_ok-lower_body.ensures c.leave.ensures c.in_ok-put.ensures c.set_routine.ensures).written

pub returns-clause-texts : goal.returns-clause-texts
returns-clause-texts c =
    let p = c.args.names.now in
    let r = c.args.routine.now in
    let xs : c.params_of-params.result.now ≡ r.sig.params = c.params_of-params.ensures ∙ ap (λ (s : Sig). s.params) c.sig_of-sig.ensures in
    let cells = uncapped (routine_cells p r) c.cells_of_routine-variables.result (c.cells_of_routine-variables.ensures ∙ ap (λ (q : Program). capped (routine_cells q r)) c.sizes.ensures) c.requires.cells in
    let begins = begun_is p r c.args.last c.args.class c.args.number c.cells_of_routine-variables.result c.args.texts c.args.sites c.params_of-params.result.now c.args.out.now c.begin_routine.new.self c.declare_params.new.out c.enter_body.new.self xs cells c.begin_routine.ensures c.in_ok-declare_params.ensures c.in_ok-enter_body.ensures.ok in
    (arm_builder p r c.role_of-role.result c.args.class c.args.last c.args.number c.args.texts c.args.sites c.here-entry.result c.hidden-cells.result (length c.params_of-params.result.now) c.args.out.now c.enter_body.new.self c.lower_body.new.out c.leave.new.self c.put.new.out c.set_routine.new.self
    c.requires.behind (c.role_of-role.ensures ∙ ap (λ (s : Sig). s.role) c.sig_of-sig.ensures) c.requires.role c.requires.main c.here-entry.ensures.count c.hidden-cells.ensures (ap length xs) begins c.in_ok-lower_body.ensures c.leave.ensures c.in_ok-put.ensures c.set_routine.ensures).texts

pub returns-clause-sites : goal.returns-clause-sites
returns-clause-sites c =
    let p = c.args.names.now in
    let r = c.args.routine.now in
    let xs : c.params_of-params.result.now ≡ r.sig.params = c.params_of-params.ensures ∙ ap (λ (s : Sig). s.params) c.sig_of-sig.ensures in
    let cells = uncapped (routine_cells p r) c.cells_of_routine-variables.result (c.cells_of_routine-variables.ensures ∙ ap (λ (q : Program). capped (routine_cells q r)) c.sizes.ensures) c.requires.cells in
    let begins = begun_is p r c.args.last c.args.class c.args.number c.cells_of_routine-variables.result c.args.texts c.args.sites c.params_of-params.result.now c.args.out.now c.begin_routine.new.self c.declare_params.new.out c.enter_body.new.self xs cells c.begin_routine.ensures c.in_ok-declare_params.ensures c.in_ok-enter_body.ensures.ok in
    (arm_builder p r c.role_of-role.result c.args.class c.args.last c.args.number c.args.texts c.args.sites c.here-entry.result c.hidden-cells.result (length c.params_of-params.result.now) c.args.out.now c.enter_body.new.self c.lower_body.new.out c.leave.new.self c.put.new.out c.set_routine.new.self
    c.requires.behind (c.role_of-role.ensures ∙ ap (λ (s : Sig). s.role) c.sig_of-sig.ensures) c.requires.role c.requires.main c.here-entry.ensures.count c.hidden-cells.ensures (ap length xs) begins c.in_ok-lower_body.ensures c.leave.ensures c.in_ok-put.ensures c.set_routine.ensures).sites

pub overflow_cast-count : goal.overflow_cast-count
overflow_cast-count c =
    let n : length c.params_of-params.result.now ≡ length c.args.routine.now.sig.params = ap length (c.params_of-params.ensures ∙ ap (λ (s : Sig). s.params) c.sig_of-sig.ensures) in
    let few = c.requires.params in
    omega (arith, n, few)

pub lower_body-requires-clause-scopes : goal.lower_body-requires-clause-scopes
lower_body-requires-clause-scopes c =
    let z : c.enter_body.new.self.scopes ≡ 0 = ap (λ (d : Draft). d.scopes) c.in_ok-enter_body.ensures.ok ∙ ap (λ (d : Draft). d.scopes) c.in_ok-declare_params.ensures ∙ ap (λ (d : Draft). d.scopes) c.begin_routine.ensures in
    let few = stmts_few c.args.routine.now.body in
    let texts = c.requires.texts in
    omega (arith, z, few, texts)

pub returns-clause-count : goal.returns-clause-count
returns-clause-count c =
    let p = c.args.names.now in
    let r = c.args.routine.now in
    let xs : c.params_of-params.result.now ≡ r.sig.params = c.params_of-params.ensures ∙ ap (λ (s : Sig). s.params) c.sig_of-sig.ensures in
    let cells = uncapped (routine_cells p r) c.cells_of_routine-variables.result (c.cells_of_routine-variables.ensures ∙ ap (λ (q : Program). capped (routine_cells q r)) c.sizes.ensures) c.requires.cells in
    let begins = begun_is p r c.args.last c.args.class c.args.number c.cells_of_routine-variables.result c.args.texts c.args.sites c.params_of-params.result.now c.args.out.now c.begin_routine.new.self c.declare_params.new.out c.enter_body.new.self xs cells c.begin_routine.ensures c.in_ok-declare_params.ensures c.in_ok-enter_body.ensures.ok in
    (arm_builder p r c.role_of-role.result c.args.class c.args.last c.args.number c.args.texts c.args.sites c.here-entry.result c.hidden-cells.result (length c.params_of-params.result.now) c.args.out.now c.enter_body.new.self c.lower_body.new.out c.leave.new.self c.put.new.out c.set_routine.new.self
    c.requires.behind (c.role_of-role.ensures ∙ ap (λ (s : Sig). s.role) c.sig_of-sig.ensures) c.requires.role c.requires.main c.here-entry.ensures.count c.hidden-cells.ensures (ap length xs) begins c.in_ok-lower_body.ensures c.leave.ensures c.in_ok-put.ensures c.set_routine.ensures).count

pub returns-clause-rows : goal.returns-clause-rows
returns-clause-rows c =
    let p = c.args.names.now in
    let r = c.args.routine.now in
    let xs : c.params_of-params.result.now ≡ r.sig.params = c.params_of-params.ensures ∙ ap (λ (s : Sig). s.params) c.sig_of-sig.ensures in
    let cells = uncapped (routine_cells p r) c.cells_of_routine-variables.result (c.cells_of_routine-variables.ensures ∙ ap (λ (q : Program). capped (routine_cells q r)) c.sizes.ensures) c.requires.cells in
    let begins = begun_is p r c.args.last c.args.class c.args.number c.cells_of_routine-variables.result c.args.texts c.args.sites c.params_of-params.result.now c.args.out.now c.begin_routine.new.self c.declare_params.new.out c.enter_body.new.self xs cells c.begin_routine.ensures c.in_ok-declare_params.ensures c.in_ok-enter_body.ensures.ok in
    (arm_builder p r c.role_of-role.result c.args.class c.args.last c.args.number c.args.texts c.args.sites c.here-entry.result c.hidden-cells.result (length c.params_of-params.result.now) c.args.out.now c.enter_body.new.self c.lower_body.new.out c.leave.new.self c.put.new.out c.set_routine.new.self
    c.requires.behind (c.role_of-role.ensures ∙ ap (λ (s : Sig). s.role) c.sig_of-sig.ensures) c.requires.role c.requires.main c.here-entry.ensures.count c.hidden-cells.ensures (ap length xs) begins c.in_ok-lower_body.ensures c.leave.ensures c.in_ok-put.ensures c.set_routine.ensures).rows
