use Rattle.std.proofs.Common.{◌≡◌, ℕ, Option, length, ap, sym, ◌∙◌, arith}
use Rattle.uc_tree.specs.Capped.{capped}
use Rattle.uc_tree.specs.Cells.{routine_cells}
use Rattle.uc_tree.specs.Programs.{Program, Sig}
use Rattle.uc_resolve.specs.Resolve.{class_by}
use Rattle.uc_code.specs.Drafts.{Draft}
use Rattle.uc_lower_stmt.specs.Routines.{main_in}
use Rattle.uc_lower_stmt.proofs.Declaring.{uncapped}
use Rattle.uc_lower_stmt.proofs.Opened.{stmts_few}
use Rattle.uc_lower_stmt.proofs.RoutinesLemmas.{arm_routine, begun_is, plain_role, rows_routine}
use Rattle.uc_lower_stmt.proofs.routine.lower_routine.Goals as goal

pub lower_statements-requires-clause-main : goal.lower_statements-requires-clause-main
lower_statements-requires-clause-main c =
    let e : c.declare_params.new.out.place.class ≡ c.args.class = ap (λ (d : Draft). d.place.class) c.in_ok-declare_params.ensures ∙ ap (λ (d : Draft). d.place.class) c.begin_routine.ensures in
    c.requires.main ∙ ap (λ (o : Option ℕ). main_in c.args.names.now c.args.number (class_by c.args.names.now o) c.args.routine.now.sig) (sym e)

pub lower_statements-requires-clause-scopes : goal.lower_statements-requires-clause-scopes
lower_statements-requires-clause-scopes c =
    let z : c.declare_params.new.out.scopes ≡ 0 = ap (λ (d : Draft). d.scopes) c.in_ok-declare_params.ensures ∙ ap (λ (d : Draft). d.scopes) c.begin_routine.ensures in
    let few = stmts_few c.args.routine.now.body in
    let texts = c.requires.texts in
    omega (arith, z, few, texts)

pub lower_statements-requires-clause-outside : goal.lower_statements-requires-clause-outside
lower_statements-requires-clause-outside c = ap (λ (d : Draft). d.marks) c.in_ok-declare_params.ensures ∙ ap (λ (d : Draft). d.marks) c.begin_routine.ensures

pub lower_statements-requires-clause-room : goal.lower_statements-requires-clause-room
lower_statements-requires-clause-room c =
    let ops = ap (λ (d : Draft). length d.ops) c.in_ok-declare_params.ensures ∙ ap (λ (d : Draft). length d.ops) c.begin_routine.ensures in
    omega (arith, ops, c.requires.room)

pub overflow_cast-count : goal.overflow_cast-count
overflow_cast-count c =
    let xs : c.params_of-params.result.now ≡ c.args.routine.now.sig.params = c.params_of-params.ensures ∙ ap (λ (s : Sig). s.params) c.sig_of-sig.ensures in
    let n : length c.params_of-params.result.now ≡ length c.args.routine.now.sig.params = ap length xs in
    omega (arith, n, c.requires.few_params)

pub returns-clause-kept : goal.returns-clause-kept
returns-clause-kept c =
    let p = c.args.names.now in
    let r = c.args.routine.now in
    let xs : c.params_of-params.result.now ≡ r.sig.params = c.params_of-params.ensures ∙ ap (λ (s : Sig). s.params) c.sig_of-sig.ensures in
    let cells = uncapped (routine_cells p r) c.cells_of_routine-variables.result (c.cells_of_routine-variables.ensures ∙ ap (λ (q : Program). capped (routine_cells q r)) c.sizes.ensures) c.requires.cells in
    let begins = begun_is p r c.args.class c.args.number c.cells_of_routine-variables.result c.args.texts c.args.sites c.params_of-params.result.now c.args.out.now c.begin_routine.new.self c.declare_params.new.out xs cells c.begin_routine.ensures c.in_ok-declare_params.ensures in
    (arm_routine p r (plain_role r.sig.role c.requires.plain) c.args.class c.args.last c.args.number c.args.texts c.args.sites c.here-entry.result c.hidden-cells.result (length c.params_of-params.result.now) c.args.out.now c.declare_params.new.out c.lower_statements.new.out c.set_routine.new.self
    c.requires.behind c.here-entry.ensures.count c.hidden-cells.ensures (ap length xs) begins c.in_ok-lower_statements.ensures.code c.set_routine.ensures).kept

pub returns-clause-count : goal.returns-clause-count
returns-clause-count c =
    let p = c.args.names.now in
    let r = c.args.routine.now in
    let xs : c.params_of-params.result.now ≡ r.sig.params = c.params_of-params.ensures ∙ ap (λ (s : Sig). s.params) c.sig_of-sig.ensures in
    let cells = uncapped (routine_cells p r) c.cells_of_routine-variables.result (c.cells_of_routine-variables.ensures ∙ ap (λ (q : Program). capped (routine_cells q r)) c.sizes.ensures) c.requires.cells in
    let begins = begun_is p r c.args.class c.args.number c.cells_of_routine-variables.result c.args.texts c.args.sites c.params_of-params.result.now c.args.out.now c.begin_routine.new.self c.declare_params.new.out xs cells c.begin_routine.ensures c.in_ok-declare_params.ensures in
    (arm_routine p r (plain_role r.sig.role c.requires.plain) c.args.class c.args.last c.args.number c.args.texts c.args.sites c.here-entry.result c.hidden-cells.result (length c.params_of-params.result.now) c.args.out.now c.declare_params.new.out c.lower_statements.new.out c.set_routine.new.self
    c.requires.behind c.here-entry.ensures.count c.hidden-cells.ensures (ap length xs) begins c.in_ok-lower_statements.ensures.code c.set_routine.ensures).count

pub returns-clause-room : goal.returns-clause-room
returns-clause-room c =
    let p = c.args.names.now in
    let r = c.args.routine.now in
    let xs : c.params_of-params.result.now ≡ r.sig.params = c.params_of-params.ensures ∙ ap (λ (s : Sig). s.params) c.sig_of-sig.ensures in
    let cells = uncapped (routine_cells p r) c.cells_of_routine-variables.result (c.cells_of_routine-variables.ensures ∙ ap (λ (q : Program). capped (routine_cells q r)) c.sizes.ensures) c.requires.cells in
    let begins = begun_is p r c.args.class c.args.number c.cells_of_routine-variables.result c.args.texts c.args.sites c.params_of-params.result.now c.args.out.now c.begin_routine.new.self c.declare_params.new.out xs cells c.begin_routine.ensures c.in_ok-declare_params.ensures in
    (arm_routine p r (plain_role r.sig.role c.requires.plain) c.args.class c.args.last c.args.number c.args.texts c.args.sites c.here-entry.result c.hidden-cells.result (length c.params_of-params.result.now) c.args.out.now c.declare_params.new.out c.lower_statements.new.out c.set_routine.new.self
    c.requires.behind c.here-entry.ensures.count c.hidden-cells.ensures (ap length xs) begins c.in_ok-lower_statements.ensures.code c.set_routine.ensures).room

pub returns-clause-code : goal.returns-clause-code
returns-clause-code c =
    let p = c.args.names.now in
    let r = c.args.routine.now in
    let xs : c.params_of-params.result.now ≡ r.sig.params = c.params_of-params.ensures ∙ ap (λ (s : Sig). s.params) c.sig_of-sig.ensures in
    let cells = uncapped (routine_cells p r) c.cells_of_routine-variables.result (c.cells_of_routine-variables.ensures ∙ ap (λ (q : Program). capped (routine_cells q r)) c.sizes.ensures) c.requires.cells in
    let begins = begun_is p r c.args.class c.args.number c.cells_of_routine-variables.result c.args.texts c.args.sites c.params_of-params.result.now c.args.out.now c.begin_routine.new.self c.declare_params.new.out xs cells c.begin_routine.ensures c.in_ok-declare_params.ensures in
    (arm_routine p r (plain_role r.sig.role c.requires.plain) c.args.class c.args.last c.args.number c.args.texts c.args.sites c.here-entry.result c.hidden-cells.result (length c.params_of-params.result.now) c.args.out.now c.declare_params.new.out c.lower_statements.new.out c.set_routine.new.self
    c.requires.behind c.here-entry.ensures.count c.hidden-cells.ensures (ap length xs) begins c.in_ok-lower_statements.ensures.code c.set_routine.ensures).code

pub returns-clause-written : goal.returns-clause-written
returns-clause-written c =
    let p = c.args.names.now in
    let r = c.args.routine.now in
    let xs : c.params_of-params.result.now ≡ r.sig.params = c.params_of-params.ensures ∙ ap (λ (s : Sig). s.params) c.sig_of-sig.ensures in
    let cells = uncapped (routine_cells p r) c.cells_of_routine-variables.result (c.cells_of_routine-variables.ensures ∙ ap (λ (q : Program). capped (routine_cells q r)) c.sizes.ensures) c.requires.cells in
    let begins = begun_is p r c.args.class c.args.number c.cells_of_routine-variables.result c.args.texts c.args.sites c.params_of-params.result.now c.args.out.now c.begin_routine.new.self c.declare_params.new.out xs cells c.begin_routine.ensures c.in_ok-declare_params.ensures in
    (arm_routine p r (plain_role r.sig.role c.requires.plain) c.args.class c.args.last c.args.number c.args.texts c.args.sites c.here-entry.result c.hidden-cells.result (length c.params_of-params.result.now) c.args.out.now c.declare_params.new.out c.lower_statements.new.out c.set_routine.new.self
    c.requires.behind c.here-entry.ensures.count c.hidden-cells.ensures (ap length xs) begins c.in_ok-lower_statements.ensures.code c.set_routine.ensures).written

pub returns-clause-outside : goal.returns-clause-outside
returns-clause-outside c =
    let p = c.args.names.now in
    let r = c.args.routine.now in
    let xs : c.params_of-params.result.now ≡ r.sig.params = c.params_of-params.ensures ∙ ap (λ (s : Sig). s.params) c.sig_of-sig.ensures in
    let cells = uncapped (routine_cells p r) c.cells_of_routine-variables.result (c.cells_of_routine-variables.ensures ∙ ap (λ (q : Program). capped (routine_cells q r)) c.sizes.ensures) c.requires.cells in
    let begins = begun_is p r c.args.class c.args.number c.cells_of_routine-variables.result c.args.texts c.args.sites c.params_of-params.result.now c.args.out.now c.begin_routine.new.self c.declare_params.new.out xs cells c.begin_routine.ensures c.in_ok-declare_params.ensures in
    (arm_routine p r (plain_role r.sig.role c.requires.plain) c.args.class c.args.last c.args.number c.args.texts c.args.sites c.here-entry.result c.hidden-cells.result (length c.params_of-params.result.now) c.args.out.now c.declare_params.new.out c.lower_statements.new.out c.set_routine.new.self
    c.requires.behind c.here-entry.ensures.count c.hidden-cells.ensures (ap length xs) begins c.in_ok-lower_statements.ensures.code c.set_routine.ensures).outside

pub returns-clause-texts : goal.returns-clause-texts
returns-clause-texts c =
    let p = c.args.names.now in
    let r = c.args.routine.now in
    let xs : c.params_of-params.result.now ≡ r.sig.params = c.params_of-params.ensures ∙ ap (λ (s : Sig). s.params) c.sig_of-sig.ensures in
    let cells = uncapped (routine_cells p r) c.cells_of_routine-variables.result (c.cells_of_routine-variables.ensures ∙ ap (λ (q : Program). capped (routine_cells q r)) c.sizes.ensures) c.requires.cells in
    let begins = begun_is p r c.args.class c.args.number c.cells_of_routine-variables.result c.args.texts c.args.sites c.params_of-params.result.now c.args.out.now c.begin_routine.new.self c.declare_params.new.out xs cells c.begin_routine.ensures c.in_ok-declare_params.ensures in
    (arm_routine p r (plain_role r.sig.role c.requires.plain) c.args.class c.args.last c.args.number c.args.texts c.args.sites c.here-entry.result c.hidden-cells.result (length c.params_of-params.result.now) c.args.out.now c.declare_params.new.out c.lower_statements.new.out c.set_routine.new.self
    c.requires.behind c.here-entry.ensures.count c.hidden-cells.ensures (ap length xs) begins c.in_ok-lower_statements.ensures.code c.set_routine.ensures).texts

pub returns-clause-few_texts : goal.returns-clause-few_texts
returns-clause-few_texts c =
    let p = c.args.names.now in
    let r = c.args.routine.now in
    let xs : c.params_of-params.result.now ≡ r.sig.params = c.params_of-params.ensures ∙ ap (λ (s : Sig). s.params) c.sig_of-sig.ensures in
    let cells = uncapped (routine_cells p r) c.cells_of_routine-variables.result (c.cells_of_routine-variables.ensures ∙ ap (λ (q : Program). capped (routine_cells q r)) c.sizes.ensures) c.requires.cells in
    let begins = begun_is p r c.args.class c.args.number c.cells_of_routine-variables.result c.args.texts c.args.sites c.params_of-params.result.now c.args.out.now c.begin_routine.new.self c.declare_params.new.out xs cells c.begin_routine.ensures c.in_ok-declare_params.ensures in
    (arm_routine p r (plain_role r.sig.role c.requires.plain) c.args.class c.args.last c.args.number c.args.texts c.args.sites c.here-entry.result c.hidden-cells.result (length c.params_of-params.result.now) c.args.out.now c.declare_params.new.out c.lower_statements.new.out c.set_routine.new.self
    c.requires.behind c.here-entry.ensures.count c.hidden-cells.ensures (ap length xs) begins c.in_ok-lower_statements.ensures.code c.set_routine.ensures).few_texts

pub returns-clause-sites : goal.returns-clause-sites
returns-clause-sites c =
    let p = c.args.names.now in
    let r = c.args.routine.now in
    let xs : c.params_of-params.result.now ≡ r.sig.params = c.params_of-params.ensures ∙ ap (λ (s : Sig). s.params) c.sig_of-sig.ensures in
    let cells = uncapped (routine_cells p r) c.cells_of_routine-variables.result (c.cells_of_routine-variables.ensures ∙ ap (λ (q : Program). capped (routine_cells q r)) c.sizes.ensures) c.requires.cells in
    let begins = begun_is p r c.args.class c.args.number c.cells_of_routine-variables.result c.args.texts c.args.sites c.params_of-params.result.now c.args.out.now c.begin_routine.new.self c.declare_params.new.out xs cells c.begin_routine.ensures c.in_ok-declare_params.ensures in
    (arm_routine p r (plain_role r.sig.role c.requires.plain) c.args.class c.args.last c.args.number c.args.texts c.args.sites c.here-entry.result c.hidden-cells.result (length c.params_of-params.result.now) c.args.out.now c.declare_params.new.out c.lower_statements.new.out c.set_routine.new.self
    c.requires.behind c.here-entry.ensures.count c.hidden-cells.ensures (ap length xs) begins c.in_ok-lower_statements.ensures.code c.set_routine.ensures).sites

pub returns-clause-rows : goal.returns-clause-rows
returns-clause-rows c =
    rows_routine c.args.out.now c.declare_params.new.out c.lower_statements.new.out c.set_routine.new.self
    (ap (λ (d : Draft). d.rows) c.in_ok-declare_params.ensures ∙ ap (λ (d : Draft). d.rows) c.begin_routine.ensures)
    (ap (λ (d : Draft). d.ops) c.in_ok-declare_params.ensures ∙ ap (λ (d : Draft). d.ops) c.begin_routine.ensures)
    (ap (λ (d : Draft). d.rows) c.set_routine.ensures) (ap (λ (d : Draft). d.ops) c.set_routine.ensures) c.in_ok-lower_statements.ensures.rows
