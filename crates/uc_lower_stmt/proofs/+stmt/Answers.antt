use Rattle.std.proofs.Common.{◌≡◌, ◌+◌, ◌-◌, ℕ, List, ◌∷◌, Bor, None, length, subst, ap, sym, refl, rules, arith, ◌∙◌}
use Rattle.std.proofs.lemmas.Result.{on_ok_weaker}
use Rattle.uc_tree.specs.Expressions as tree
use Rattle.uc_tree.specs.Cells.{declared_cells, maybe_cells, stmt_cells}
use Rattle.uc_tree.specs.Scopes.{alone_scopes, maybe_scopes, stmt_scopes}
use Rattle.uc_tree.specs.Statements.{Break, Continue, If, OneStmt, Raise, RaiseAt, Resume, Suspend, Throw, Yield}
use Rattle.uc_tree.specs.StatementSizes.{maybe_stmt_size, stmt_size}
use Rattle.uc_tree.specs.StatementViews.{maybe_at}
use Rattle.uc_lower_stmt.specs.Control.{is_declaration}
use Rattle.uc_lower_stmt.proofs.Parting.{arm_no_other}
use Rattle.uc_code.specs.declared.rows.CodeMark.{CodeMark}
use Rattle.uc_code.specs.Drafts.{Draft}
use Rattle.uc_lower_stmt.proofs.Stating.{stmt_is, arm_empty, arm_evaluate, arm_migrate, arm_declare, arm_print, arm_print_together, arm_read, arm_block, arm_if, arm_while, arm_do, arm_for_stmt, arm_break, arm_continue, arm_return, exit_few, sizes_at_item}
use Rattle.uc_lower_stmt.proofs.EnablingLemmas.{arm_disable, arm_enable, arm_enabling, disable_asks, enable_asks, in_enabling, is_switched, marks_switched, objects_switched, room_done, taken_switched}
use Rattle.uc_lower_stmt.proofs.RaisingLemmas.{arm_raised_at, arm_resumed, arm_thrown}
use Rattle.uc_lower_stmt.proofs.Switches.{arm_resume, arm_suspend, arm_yield}
use Rattle.uc_lower_stmt.proofs.HandlingLemmas.{arm_catches, arm_resumes, handler_done, listed, more_laid, none_laid}
use Rattle.uc_lower_stmt.proofs.Fitting.{HandlersFit, behind_fits, handlers_bare, handlers_fit, rest_bare, rest_fits_in, rest_less, try_asks, try_fits}
use Rattle.uc_lower_stmt.proofs.Tried.{arm_tried, arm_try}
use Rattle.uc_resolve.specs.Resolve.{takes_resumptions}
use Rattle.std.proofs.lemmas.Option.{MatchOption-at_none}
use Rattle.uc_tree.specs.Statements.{handlers_of, stmts_of}
use Rattle.uc_code.specs.declared.op.Op.TheVariants as op
use Rattle.uc_lower_stmt.proofs.Scoping.{arm_alone_scoped}
use Rattle.uc_tree.specs.declared.limits.TheConstants.{FRAME_CELLS, PROGRAM_OPS, PROGRAM_SIZE}
use Rattle.uc_tree.specs.Exits.{for_declares}
use Rattle.uc_tree.specs.Sizes.{size_at}
use Rattle.uc_tree.specs.StatementForms.{stmt_at}
use Rattle.uc_code.specs.Layout.{routine_in}
use Rattle.uc_lower_stmt.specs.Control.{DeclaresObjects, maybe_at_size}
use Rattle.uc_lower_stmt.specs.Marked.{closing, objects_in, taken}
use Rattle.uc_lower_expr.proofs.Knowing.{made_class}
use Rattle.uc_lower_stmt.proofs.Openings.{all_behind}
use Rattle.uc_lower_stmt.proofs.Choosing.{arm_choice}
use Rattle.uc_lower_stmt.proofs.Fors.{arm_for, loop_room}
use Rattle.uc_lower_stmt.proofs.Laying.{lays_routine}
use Rattle.uc_lower_stmt.proofs.Listing.{arm_next, arm_next_objects, list_ended, list_start, list_step, marks_count, next_cells, next_fits, next_room, next_scopes, next_texts}
use Rattle.uc_lower_stmt.proofs.Turned.{arm_turns}
use Rattle.uc_lower_stmt.proofs.AcceptingLemmas.{accept_asks, accept_laid, arm_accept}
use Rattle.uc_lower_stmt.proofs.BranchFitting.{BranchesFit, branch_fits, branch_less, choice_fits, last_fits, leave_fits, others_fit}
use Rattle.uc_lower_stmt.proofs.Jumping.{length_chosen}
use Rattle.uc_lower_stmt.specs.Accepting.{branch_of}
use Rattle.uc_code.proofs.Patches.{length-patched}
use Rattle.uc_lower_stmt.proofs.BranchingLemmas.{branch_last, branch_next}
use Rattle.uc_lower_stmt.proofs.+stmt.Goals as goal

pub stmt::lower_stmts-loop-s-init : goal.stmt::lower_stmts-loop-s-init
stmt::lower_stmts-loop-s-init t c = list_start c.args.names.now c.args.line c.args.stmts.now c.args.out.now

pub stmt::lower_stmts-lower_next-requires : goal.stmt::lower_stmts-lower_next-requires
stmt::lower_stmts-lower_next-requires t c =
    let p = c.args.names.now in
    let l = c.args.line in
    let xs = c.args.stmts.now in
    let i = c.loop-s.s-index in
    let x = c.s-item.result in
    let old = c.args.out.now in
    let mid = c.loop-s.out in
    let less = c.loop-s-test.true in
    let is = c.s-item.is in
    let h = c.loop-s.invariant in
    let size = sizes_at_item xs i x less is in
    let same = lays_routine h in
    let inside = c.requires.inside in
    (omega (arith, size), (omega (arith, same, inside), (next_room p l xs i x old mid less is h PROGRAM_OPS c.requires.room, (next_cells p l xs i x old mid less is h FRAME_CELLS c.requires.cells, (next_scopes p l xs i x old mid less is h PROGRAM_SIZE c.requires.scopes, next_texts p l xs i x old mid less is h PROGRAM_SIZE c.requires.texts)))))

pub stmt::lower_stmts-loop-s-preserved : goal.stmt::lower_stmts-loop-s-preserved
stmt::lower_stmts-loop-s-preserved t c = list_step c.args.names.now c.args.line c.args.stmts.now c.loop-s.s-index c.s-item.result _ _ c.loop-s-test.true c.s-item.is c.loop-s.invariant _ c.in_ok-lower_next.ensures

pub stmt::lower_stmts-returns : goal.stmt::lower_stmts-returns
stmt::lower_stmts-returns t c = list_ended c.args.names.now c.args.line (length c.marks-depth.result.now) c.loop-s.s-index c.args.stmts.now _ _ _ (marks_count c.marks-depth.result.now _ _ refl c.marks-depth.ensures.marks) c.loop-s-test.false c.loop-s.invariant c.in_ok-close_scopes.ensures

pub stmt::lower_next-returns-in_ok-lower_objects-in-Some : goal.stmt::lower_next-returns-in_ok-lower_objects-in-Some
stmt::lower_next-returns-in_ok-lower_objects-in-Some t c =
    arm_next_objects c.args.names.now c.args.line c.s.inside.pos c.s.inside.form c.args.s.now c.in-Some.declared _ _ c.s.view_is (subst (λ o. DeclaresObjects c.args.names.now (stmt_at c.s.inside.pos c.s.inside.form) o) c.in-Some.is (c.declared_in.ensures c.s.inside.pos)) c.in_ok-lower_objects-in-Some.ensures

pub stmt::lower_next-returns-in_ok-lower_stmt-in-None : goal.stmt::lower_next-returns-in_ok-lower_stmt-in-None
stmt::lower_next-returns-in_ok-lower_stmt-in-None t c =
    arm_next c.args.names.now c.args.line c.args.s.now _ _ (subst (λ u. DeclaresObjects c.args.names.now u None) c.s.view_is (subst (λ o. DeclaresObjects c.args.names.now (stmt_at c.s.inside.pos c.s.inside.form) o) c.in-None.is (c.declared_in.ensures c.s.inside.pos))) c.in_ok-lower_stmt-in-None.ensures

pub stmt::lower_next-lower_objects-requires-clause-class : goal.stmt::lower_next-lower_objects-requires-clause-class
stmt::lower_next-lower_objects-requires-clause-class t c =
    let d = subst (λ o. DeclaresObjects c.args.names.now (stmt_at c.s.inside.pos c.s.inside.form) o) c.in-Some.is (c.declared_in.ensures c.s.inside.pos) in
    made_class c.args.names.now c.in-Some.declared.base.now c.in-Some.declared.made (next_fits c.args.names.now c.s.inside.pos c.s.inside.form c.args.s.now c.in-Some.declared c.s.view_is d).made

pub stmt::lower_next-lower_objects-requires-clause-behind : goal.stmt::lower_next-lower_objects-requires-clause-behind
stmt::lower_next-lower_objects-requires-clause-behind t c = all_behind c.args.names.now c.in-Some.declared.made c.args.out.now.marks c.requires.inside

pub stmt::lower_next-lower_objects-requires-clause-room : goal.stmt::lower_next-lower_objects-requires-clause-room
stmt::lower_next-lower_objects-requires-clause-room t c =
    let d = subst (λ o. DeclaresObjects c.args.names.now (stmt_at c.s.inside.pos c.s.inside.form) o) c.in-Some.is (c.declared_in.ensures c.s.inside.pos) in
    let size = (next_fits c.args.names.now c.s.inside.pos c.s.inside.form c.args.s.now c.in-Some.declared c.s.view_is d).size in
    omega (arith, size, c.requires.room)

pub stmt::lower_next-lower_objects-requires-clause-cells : goal.stmt::lower_next-lower_objects-requires-clause-cells
stmt::lower_next-lower_objects-requires-clause-cells t c =
    let d = subst (λ o. DeclaresObjects c.args.names.now (stmt_at c.s.inside.pos c.s.inside.form) o) c.in-Some.is (c.declared_in.ensures c.s.inside.pos) in
    let cells = (next_fits c.args.names.now c.s.inside.pos c.s.inside.form c.args.s.now c.in-Some.declared c.s.view_is d).cells in
    omega (arith, cells, c.requires.cells)

pub stmt::lower_stmt-put_exit-requires : goal.stmt::lower_stmt-put_exit-requires
stmt::lower_stmt-put_exit-requires t c =
    let is : Break c.s.inside.pos ≡ c.args.s.now = stmt_is _ _ _ _ c.in-Break.is c.s.view_is in
    let size = ap (λ s. size_at s (objects_in c.args.out.now.marks)) is in
    let few = exit_few c.args.out.now.marks in
    omega (arith, size, few, c.requires.room)

pub stmt::lower_stmt-put_exit-requires-in-Continue : goal.stmt::lower_stmt-put_exit-requires-in-Continue
stmt::lower_stmt-put_exit-requires-in-Continue t c =
    let is : Continue c.s.inside.pos ≡ c.args.s.now = stmt_is _ _ _ _ c.in-Continue.is c.s.view_is in
    let size = ap (λ s. size_at s (objects_in c.args.out.now.marks)) is in
    let few = exit_few c.args.out.now.marks in
    omega (arith, size, few, c.requires.room)

pub stmt::lower_stmt-returns-in-Empty : goal.stmt::lower_stmt-returns-in-Empty
stmt::lower_stmt-returns-in-Empty t c = arm_empty c.args.names.now c.args.s.now _ _ (stmt_is _ _ _ _ c.in-Empty.is c.s.view_is)

pub stmt::lower_stmt-put_yield-requires : goal.stmt::lower_stmt-put_yield-requires
stmt::lower_stmt-put_yield-requires t c =
    let is : Yield c.s.inside.pos ≡ c.args.s.now = stmt_is _ _ _ _ c.in-Yield.is c.s.view_is in
    let size = ap (λ s. size_at s (objects_in c.args.out.now.marks)) is in
    omega (arith, size, c.requires.room)

pub stmt::lower_stmt-returns-in-Yield : goal.stmt::lower_stmt-returns-in-Yield
stmt::lower_stmt-returns-in-Yield t c = on_ok_weaker c.put_yield.result (arm_yield c.args.names.now c.args.s.now c.s.inside.pos _ _ (stmt_is _ _ _ _ c.in-Yield.is c.s.view_is)) c.put_yield.ensures

pub stmt::lower_stmt-lower_try-requires : goal.stmt::lower_stmt-lower_try-requires
stmt::lower_stmt-lower_try-requires t c =
    let asks = try_asks c.args.names.now c.args.s.now c.s.inside.pos c.in-Try.brace c.deref-in-Try.result.now _ c.deref-in-Try-2.result.now _ c.args.out.now (stmt_is _ _ _ _ c.in-Try.is c.s.view_is) c.deref-in-Try.ensures.value c.deref-in-Try-2.ensures.value c.requires.room c.requires.cells c.requires.scopes c.requires.texts in
    let less = asks.less in
    (omega (arith, less), (c.requires.inside, (asks.room, (asks.cells, (asks.scopes, asks.texts)))))

pub stmt::lower_stmt-returns-in-Try : goal.stmt::lower_stmt-returns-in-Try
stmt::lower_stmt-returns-in-Try t c =
    on_ok_weaker c.lower_try.result (arm_tried c.args.names.now c.args.s.now c.s.inside.pos c.in-Try.brace c.deref-in-Try.result.now _ c.deref-in-Try-2.result.now _ c.args.out.now c.lower_try.new.out (stmt_is _ _ _ _ c.in-Try.is c.s.view_is) c.deref-in-Try.ensures.value c.deref-in-Try-2.ensures.value) c.lower_try.ensures

pub stmt::lower_stmt-lower_throw-requires : goal.stmt::lower_stmt-lower_throw-requires
stmt::lower_stmt-lower_throw-requires t c =
    let is : Throw c.s.inside.pos c.in-Throw.raised ≡ c.args.s.now = stmt_is _ _ _ _ c.in-Throw.is c.s.view_is in
    let size = ap (λ s. size_at s (objects_in c.args.out.now.marks)) is in
    omega (arith, size, c.requires.room)

pub stmt::lower_stmt-returns-in-Throw : goal.stmt::lower_stmt-returns-in-Throw
stmt::lower_stmt-returns-in-Throw t c = on_ok_weaker c.lower_throw.result (arm_thrown c.args.names.now c.args.s.now c.s.inside.pos c.in-Throw.raised _ _ (stmt_is _ _ _ _ c.in-Throw.is c.s.view_is)) c.lower_throw.ensures

pub stmt::lower_stmt-lower_raise-requires : goal.stmt::lower_stmt-lower_raise-requires
stmt::lower_stmt-lower_raise-requires t c =
    let is : Raise c.s.inside.pos c.in-Raise.raised ≡ c.args.s.now = stmt_is _ _ _ _ c.in-Raise.is c.s.view_is in
    let size = ap (λ s. size_at s (objects_in c.args.out.now.marks)) is in
    omega (arith, size, c.requires.room)

pub stmt::lower_stmt-returns-in-Raise : goal.stmt::lower_stmt-returns-in-Raise
stmt::lower_stmt-returns-in-Raise t c = on_ok_weaker c.lower_raise.result (arm_resumed c.args.names.now c.args.s.now c.s.inside.pos c.in-Raise.raised _ _ (stmt_is _ _ _ _ c.in-Raise.is c.s.view_is)) c.lower_raise.ensures

pub stmt::lower_stmt-lower_raise_at-requires : goal.stmt::lower_stmt-lower_raise_at-requires
stmt::lower_stmt-lower_raise_at-requires t c =
    let is : RaiseAt c.s.inside.pos c.in-RaiseAt.raised c.in-RaiseAt.target ≡ c.args.s.now = stmt_is _ _ _ _ c.in-RaiseAt.is c.s.view_is in
    let size = ap (λ s. size_at s (objects_in c.args.out.now.marks)) is in
    omega (arith, size, c.requires.room)

pub stmt::lower_stmt-returns-in-RaiseAt : goal.stmt::lower_stmt-returns-in-RaiseAt
stmt::lower_stmt-returns-in-RaiseAt t c = on_ok_weaker c.lower_raise_at.result (arm_raised_at c.args.names.now c.args.s.now c.s.inside.pos c.in-RaiseAt.raised c.in-RaiseAt.target _ _ (stmt_is _ _ _ _ c.in-RaiseAt.is c.s.view_is)) c.lower_raise_at.ensures

pub stmt::lower_stmt-lower_enabling-requires : goal.stmt::lower_stmt-lower_enabling-requires
stmt::lower_stmt-lower_enabling-requires t c =
    let asks = enable_asks c.args.names.now c.args.s.now c.s.inside.pos c.in-Enable.events.items c.deref-in-Enable-2.result.now _ c.args.out.now (stmt_is _ _ _ _ c.in-Enable.is c.s.view_is) c.deref-in-Enable-2.ensures c.requires.room c.requires.cells c.requires.scopes c.requires.texts in
    let less = asks.less in
    (omega (arith, less), (c.requires.inside, (asks.room, (asks.cells, (asks.scopes, asks.texts)))))

pub stmt::lower_stmt-returns-in-Enable : goal.stmt::lower_stmt-returns-in-Enable
stmt::lower_stmt-returns-in-Enable t c =
    on_ok_weaker c.lower_enabling.result (arm_enable c.args.names.now c.args.s.now c.s.inside.pos _ c.deref-in-Enable.result.now c.in-Enable.events.items _ _ c.args.out.now c.lower_enabling.new.out (stmt_is _ _ _ _ c.in-Enable.is c.s.view_is) c.deref-in-Enable.ensures.value c.deref-in-Enable-2.ensures refl) c.lower_enabling.ensures

pub stmt::lower_stmt-lower_enabling-requires-in-Disable : goal.stmt::lower_stmt-lower_enabling-requires-in-Disable
stmt::lower_stmt-lower_enabling-requires-in-Disable t c =
    let asks = disable_asks c.args.names.now c.args.s.now c.s.inside.pos c.in-Disable.events.items c.deref-in-Disable-2.result.now _ c.args.out.now (stmt_is _ _ _ _ c.in-Disable.is c.s.view_is) c.deref-in-Disable-2.ensures c.requires.room c.requires.cells c.requires.scopes c.requires.texts in
    let less = asks.less in
    (omega (arith, less), (c.requires.inside, (asks.room, (asks.cells, (asks.scopes, asks.texts)))))

pub stmt::lower_stmt-returns-in-Disable : goal.stmt::lower_stmt-returns-in-Disable
stmt::lower_stmt-returns-in-Disable t c =
    on_ok_weaker c.lower_enabling-in-Disable.result (arm_disable c.args.names.now c.args.s.now c.s.inside.pos _ c.deref-in-Disable.result.now c.in-Disable.events.items _ _ c.args.out.now c.lower_enabling-in-Disable.new.out (stmt_is _ _ _ _ c.in-Disable.is c.s.view_is) c.deref-in-Disable.ensures.value c.deref-in-Disable-2.ensures refl) c.lower_enabling-in-Disable.ensures

pub stmt::lower_stmt-put_switch-requires : goal.stmt::lower_stmt-put_switch-requires
stmt::lower_stmt-put_switch-requires t c =
    let is : Resume c.s.inside.pos ≡ c.args.s.now = stmt_is _ _ _ _ c.in-Resume.is c.s.view_is in
    let size = ap (λ s. size_at s (objects_in c.args.out.now.marks)) is in
    omega (arith, size, c.requires.room)

pub stmt::lower_stmt-returns-in-Resume : goal.stmt::lower_stmt-returns-in-Resume
stmt::lower_stmt-returns-in-Resume t c = on_ok_weaker c.put_switch.result (arm_resume c.args.names.now c.args.s.now c.s.inside.pos _ _ (stmt_is _ _ _ _ c.in-Resume.is c.s.view_is)) c.put_switch.ensures

pub stmt::lower_stmt-put_switch-requires-in-Suspend : goal.stmt::lower_stmt-put_switch-requires-in-Suspend
stmt::lower_stmt-put_switch-requires-in-Suspend t c =
    let is : Suspend c.s.inside.pos ≡ c.args.s.now = stmt_is _ _ _ _ c.in-Suspend.is c.s.view_is in
    let size = ap (λ s. size_at s (objects_in c.args.out.now.marks)) is in
    omega (arith, size, c.requires.room)

pub stmt::lower_stmt-returns-in-Suspend : goal.stmt::lower_stmt-returns-in-Suspend
stmt::lower_stmt-returns-in-Suspend t c = on_ok_weaker c.put_switch-in-Suspend.result (arm_suspend c.args.names.now c.args.s.now c.s.inside.pos _ _ (stmt_is _ _ _ _ c.in-Suspend.is c.s.view_is)) c.put_switch-in-Suspend.ensures

pub stmt::lower_stmt-returns-in_ok-_told-in-Migrate : goal.stmt::lower_stmt-returns-in_ok-_told-in-Migrate
stmt::lower_stmt-returns-in_ok-_told-in-Migrate t c = on_ok_weaker c.put-in-Migrate.result (arm_migrate c.args.names.now c.args.s.now c.s.inside.pos c.in-Migrate.cluster _ _ _ (stmt_is _ _ _ _ c.in-Migrate.is c.s.view_is) c.in_ok-_told-in-Migrate.ensures.code) c.put-in-Migrate.ensures

pub stmt::lower_stmt-returns-in_ok-_told-in-Evaluate : goal.stmt::lower_stmt-returns-in_ok-_told-in-Evaluate
stmt::lower_stmt-returns-in_ok-_told-in-Evaluate t c = on_ok_weaker c.put.result (arm_evaluate c.args.names.now c.args.s.now c.s.inside.pos c.in-Evaluate.value _ _ _ (stmt_is _ _ _ _ c.in-Evaluate.is c.s.view_is) c.in_ok-_told-in-Evaluate.ensures.code) c.put.ensures

pub stmt::lower_stmt-returns-in-Declare : goal.stmt::lower_stmt-returns-in-Declare
stmt::lower_stmt-returns-in-Declare t c = on_ok_weaker c.lower_declaration.result (arm_declare c.args.names.now c.args.s.now c.s.inside.pos c.in-Declare.base c.deref-in-Declare.result.now c.in-Declare.declarators.items c.args.out.now c.lower_declaration.new.out (stmt_is _ _ _ _ c.in-Declare.is c.s.view_is) c.deref-in-Declare.ensures.value) c.lower_declaration.ensures

pub stmt::lower_stmt-returns-in-Print : goal.stmt::lower_stmt-returns-in-Print
stmt::lower_stmt-returns-in-Print t c = on_ok_weaker c.lower_items.result (arm_print c.args.names.now c.args.s.now c.s.inside.pos c.deref-in-Print.result.now c.in-Print.items.items _ _ (stmt_is _ _ _ _ c.in-Print.is c.s.view_is) c.deref-in-Print.ensures.value) c.lower_items.ensures

pub stmt::lower_stmt-returns-in-PrintTogether : goal.stmt::lower_stmt-returns-in-PrintTogether
stmt::lower_stmt-returns-in-PrintTogether t c = on_ok_weaker c.lower_together.result (arm_print_together c.args.names.now c.args.s.now c.s.inside.pos c.deref-in-PrintTogether.result.now c.in-PrintTogether.items.items _ _ (stmt_is _ _ _ _ c.in-PrintTogether.is c.s.view_is) c.deref-in-PrintTogether.ensures.value) c.lower_together.ensures

pub stmt::lower_stmt-returns-in-Read : goal.stmt::lower_stmt-returns-in-Read
stmt::lower_stmt-returns-in-Read t c = on_ok_weaker c.lower_targets.result (arm_read c.args.names.now c.args.s.now c.s.inside.pos c.deref-in-Read.result.now c.in-Read.places.items _ _ (stmt_is _ _ _ _ c.in-Read.is c.s.view_is) c.deref-in-Read.ensures.value) c.lower_targets.ensures

pub stmt::lower_stmt-returns-in_ok-lower_stmts-in-Block : goal.stmt::lower_stmt-returns-in_ok-lower_stmts-in-Block
stmt::lower_stmt-returns-in_ok-lower_stmts-in-Block t c = arm_block c.args.names.now c.args.s.now c.s.inside.pos c.deref.result.now c.in-Block.body.items _ _ _ _ _ (stmt_is _ _ _ _ c.in-Block.is c.s.view_is) c.deref.ensures.value c.open_scope-outside.ensures.outside c.open_scope-outside.ensures.opened c.in_ok-lower_stmts-in-Block.ensures c.leave_scope.ensures

pub stmt::lower_stmt-returns-in-If : goal.stmt::lower_stmt-returns-in-If
stmt::lower_stmt-returns-in-If t c = on_ok_weaker c.lower_if.result (arm_if c.args.names.now c.args.s.now c.s.inside.pos c.in-If.test _ _ _ c.args.out.now c.lower_if.new.out (stmt_is _ _ _ _ c.in-If.is c.s.view_is) c.deref-in-If.ensures) c.lower_if.ensures

pub stmt::lower_stmt-returns-in-While : goal.stmt::lower_stmt-returns-in-While
stmt::lower_stmt-returns-in-While t c =
    let test : Bor tree.Expr = record { ref_ptr = (0, 0); now = c.in-While.test } in
    on_ok_weaker c.lower_loop.result (arm_while c.args.names.now c.args.s.now c.s.inside.pos test _ _ _ c.args.out.now c.lower_loop.new.out (stmt_is _ _ _ _ c.in-While.is c.s.view_is) c.deref-in-While.ensures refl) c.lower_loop.ensures

pub stmt::lower_stmt-returns-in-Do : goal.stmt::lower_stmt-returns-in-Do
stmt::lower_stmt-returns-in-Do t c =
    let test : Bor tree.Expr = record { ref_ptr = (0, 0); now = c.in-Do.test } in
    on_ok_weaker c.lower_loop-in-Do.result (arm_do c.args.names.now c.args.s.now c.s.inside.pos test _ _ _ c.args.out.now c.lower_loop-in-Do.new.out (stmt_is _ _ _ _ c.in-Do.is c.s.view_is) c.deref-in-Do.ensures refl) c.lower_loop-in-Do.ensures

pub stmt::lower_stmt-returns-in-For : goal.stmt::lower_stmt-returns-in-For
stmt::lower_stmt-returns-in-For t c = on_ok_weaker c.lower_for.result (arm_for_stmt c.args.names.now c.args.s.now c.s.inside.pos c.in-For.start c.in-For.test c.in-For.step _ _ c.args.out.now c.lower_for.new.out (stmt_is _ _ _ _ c.in-For.is c.s.view_is) c.deref-in-For.ensures) c.lower_for.ensures

pub stmt::lower_stmt-returns-in-Break : goal.stmt::lower_stmt-returns-in-Break
stmt::lower_stmt-returns-in-Break t c = on_ok_weaker c.put_exit.result (arm_break c.args.names.now c.args.s.now c.s.inside.pos c.args.out.now c.put_exit.new.out (stmt_is _ _ _ _ c.in-Break.is c.s.view_is)) c.put_exit.ensures

pub stmt::lower_stmt-returns-in-Continue : goal.stmt::lower_stmt-returns-in-Continue
stmt::lower_stmt-returns-in-Continue t c = on_ok_weaker c.put_exit-in-Continue.result (arm_continue c.args.names.now c.args.s.now c.s.inside.pos c.args.out.now c.put_exit-in-Continue.new.out (stmt_is _ _ _ _ c.in-Continue.is c.s.view_is)) c.put_exit-in-Continue.ensures

pub stmt::lower_stmt-returns-in-Return : goal.stmt::lower_stmt-returns-in-Return
stmt::lower_stmt-returns-in-Return t c = on_ok_weaker c.lower_return.result (arm_return c.args.names.now c.args.s.now c.s.inside.pos c.in-Return.value c.args.out.now c.lower_return.new.out (stmt_is _ _ _ _ c.in-Return.is c.s.view_is)) c.lower_return.ensures

pub stmt::lower_if-lower_alone-requires : goal.stmt::lower_if-lower_alone-requires
stmt::lower_if-lower_alone-requires t c =
    let a = c.in_ok-_told.ensures.code in
    let b = c.in_ok-put.ensures in
    let ar = a.room in
    let br = b.room in
    let ms : c.put.new.out.marks ≡ c.args.out.now.marks = ap (λ (d : Draft). d.marks) b.rest ∙ ap (λ (d : Draft). d.marks) a.rest in
    let inside = ap routine_in ms in
    let objects = ap closing ms in
    let size = ap (λ (l : List CodeMark). size_at c.args.chosen.now (objects_in l)) ms in
    let cells = ap (λ (d : Draft). d.cells) b.rest ∙ ap (λ (d : Draft). d.cells) a.rest in
    let scopes = ap (λ (d : Draft). d.scopes) b.rest ∙ ap (λ (d : Draft). d.scopes) a.rest in
    let texts = ap (λ (d : Draft). d.texts) b.rest ∙ ap (λ (d : Draft). d.texts) a.rest in
    (search rules, (omega (arith, inside, c.requires.inside), (omega (arith, ar, br, objects, size, c.requires.room), (omega (arith, cells, c.requires.cells), (omega (arith, scopes, c.requires.scopes), omega (arith, texts, c.requires.texts))))))

pub stmt::lower_if-lower_maybe-requires : goal.stmt::lower_if-lower_maybe-requires
stmt::lower_if-lower_maybe-requires t c =
    let a = c.in_ok-_told.ensures.code in
    let b = c.in_ok-put.ensures in
    let h = c.in_ok-lower_alone.ensures in
    let k = c.in_ok-put-2.ensures in
    let ar = a.room in
    let br = b.room in
    let hr = h.room in
    let kr = k.room in
    let hc = h.cells in
    let hs = h.opened in
    let ht = h.texts in
    let ms : c.put.new.out.marks ≡ c.args.out.now.marks = ap (λ (d : Draft). d.marks) b.rest ∙ ap (λ (d : Draft). d.marks) a.rest in
    let ns : c.put-2.new.out.marks ≡ c.args.out.now.marks = ap (λ (d : Draft). d.marks) k.rest ∙ ap (λ (d : Draft). d.marks) h.rest ∙ ms in
    let inside = ap routine_in ns in
    let objects = ap closing ns in
    let size = ap (λ (l : List CodeMark). size_at c.args.chosen.now (objects_in l)) ms in
    let other = ap (λ (l : List CodeMark). maybe_at_size (maybe_at c.args.other.now) (objects_in l)) ns in
    let cells = ap (λ (d : Draft). d.cells) b.rest ∙ ap (λ (d : Draft). d.cells) a.rest in
    let scopes = ap (λ (d : Draft). d.scopes) b.rest ∙ ap (λ (d : Draft). d.scopes) a.rest in
    let texts = ap (λ (d : Draft). d.texts) b.rest ∙ ap (λ (d : Draft). d.texts) a.rest in
    let cells_then = ap (λ (d : Draft). d.cells) k.rest in
    let scopes_then = ap (λ (d : Draft). d.scopes) k.rest in
    let texts_then = ap (λ (d : Draft). d.texts) k.rest in
    (search rules, (omega (arith, inside, c.requires.inside), (omega (arith, ar, br, hr, kr, objects, size, other, c.requires.room), (omega (arith, cells, hc, cells_then, c.requires.cells), (omega (arith, scopes, hs, scopes_then, c.requires.scopes), omega (arith, texts, ht, texts_then, c.requires.texts))))))

pub stmt::lower_if-returns : goal.stmt::lower_if-returns
stmt::lower_if-returns t c =
    arm_choice c.args.names.now c.args.line c.args.test.now c.args.chosen.now _ _ _ _ _ _ _ _ _ _ c.in_ok-_told.ensures.code c.here-choose.ensures.count c.in_ok-put.ensures c.in_ok-lower_alone.ensures c.here-leave.ensures.count c.in_ok-put-2.ensures c.in_ok-lower_maybe.ensures c.close_fork.ensures

pub stmt::lower_loop-lower_alone-requires : goal.stmt::lower_loop-lower_alone-requires
stmt::lower_loop-lower_alone-requires t c =
    let a = c.in_ok-begin_loop.ensures in
    let ar = a.room in
    let en = c.in_ok-enter_loop.ensures.ok in
    let inside = ap (λ (d : Draft). routine_in d.marks) en ∙ ap (λ (d : Draft). routine_in d.marks) a.rest in
    let objects = ap (λ (d : Draft). closing d.marks) en ∙ ap (λ (d : Draft). closing d.marks) a.rest in
    let size = ap (λ (d : Draft). size_at c.args.body.now (objects_in d.marks)) en ∙ ap (λ (d : Draft). size_at c.args.body.now (objects_in d.marks)) a.rest in
    let cells = ap (λ (d : Draft). d.cells) en ∙ ap (λ (d : Draft). d.cells) a.rest in
    let scopes = ap (λ (d : Draft). d.scopes) en ∙ ap (λ (d : Draft). d.scopes) a.rest in
    let texts = ap (λ (d : Draft). d.texts) en ∙ ap (λ (d : Draft). d.texts) a.rest in
    let ops = ap (λ (d : Draft). length d.ops) en in
    (search rules, (omega (arith, inside, c.requires.inside), (omega (arith, ar, ops, objects, size, c.requires.room), (omega (arith, cells, c.requires.cells), (omega (arith, scopes, c.requires.scopes), omega (arith, texts, c.requires.texts))))))

pub stmt::lower_loop-lower_step-requires : goal.stmt::lower_loop-lower_step-requires
stmt::lower_loop-lower_step-requires t c =
    let a = c.in_ok-begin_loop.ensures in
    let en = c.in_ok-enter_loop.ensures.ok in
    let ar = a.room in
    let hr = c.in_ok-lower_alone.ensures.room in
    let size = ap (λ (d : Draft). size_at c.args.body.now (objects_in d.marks)) en ∙ ap (λ (d : Draft). size_at c.args.body.now (objects_in d.marks)) a.rest in
    let ops = ap (λ (d : Draft). length d.ops) en in
    let left = ap (λ (d : Draft). length d.ops) c.leave.ensures in
    omega (arith, ar, hr, size, ops, left, c.requires.room)

pub stmt::lower_loop-lower_back-requires : goal.stmt::lower_loop-lower_back-requires
stmt::lower_loop-lower_back-requires t c =
    let a = c.in_ok-begin_loop.ensures in
    let en = c.in_ok-enter_loop.ensures.ok in
    let ar = a.room in
    let hr = c.in_ok-lower_alone.ensures.room in
    let kr = c.in_ok-lower_step.ensures.room in
    let size = ap (λ (d : Draft). size_at c.args.body.now (objects_in d.marks)) en ∙ ap (λ (d : Draft). size_at c.args.body.now (objects_in d.marks)) a.rest in
    let ops = ap (λ (d : Draft). length d.ops) en in
    let left = ap (λ (d : Draft). length d.ops) c.leave.ensures in
    omega (arith, ar, hr, kr, size, ops, left, c.requires.room)

pub stmt::lower_loop-returns : goal.stmt::lower_loop-returns
stmt::lower_loop-returns t c =
    arm_turns c.args.names.now c.args.line c.args.turning c.args.step.now c.args.body.now _ _ _ _ _ _ _ _ _ _ _ c.in_ok-begin_loop.ensures c.here-start.ensures.count c.in_ok-enter_loop.ensures.ok c.in_ok-lower_alone.ensures c.leave.ensures c.here-step_at.ensures.count c.in_ok-lower_step.ensures c.here-test_at.ensures.count c.in_ok-lower_back.ensures c.end_loop.ensures

pub stmt::lower_for-lower_loop-requires : goal.stmt::lower_for-lower_loop-requires
stmt::lower_for-lower_loop-requires t c =
    let h = c.in_ok-lower_start.ensures in
    let hr = h.room in
    let hc = h.cells in
    let hs = h.opened in
    let ht = h.texts in
    let begun : c.open_scope-outside.new.self ≡ _ = c.open_scope-outside.ensures.opened in
    let room = ap taken begun in
    let marks = ap (λ (d : Draft). d.marks) begun in
    let objects = ap (λ (d : Draft). objects_in d.marks) begun in
    let inside : routine_in c.open_scope-outside.new.self.marks ≡ routine_in c.args.out.now.marks = ap (λ (d : Draft). routine_in d.marks) begun in
    let same = lays_routine h in
    let cells = ap (λ (d : Draft). d.cells) begun in
    let scopes = ap (λ (d : Draft). d.scopes) begun in
    let texts = ap (λ (d : Draft). d.texts) begun in
    let size = c.turning_of.ensures.size in
    let less = loop_room c.args.names.now c.args.line c.args.start.now c.args.body.now _ _ h in
    let grow : size_at c.args.body.now (objects_in c.open_scope-outside.new.self.marks + for_declares c.args.start.now) ≡ size_at c.args.body.now (objects_in c.args.out.now.marks + for_declares c.args.start.now) = ap (λ (k : ℕ). size_at c.args.body.now (k + for_declares c.args.start.now)) objects in
    (search rules, (omega (arith, inside, same, c.requires.inside), (omega (arith, hr, room, size, less, grow, c.requires.room), (omega (arith, hc, cells), (omega (arith, hs, scopes), omega (arith, ht, texts))))))

pub stmt::lower_for-close_scopes-requires : goal.stmt::lower_for-close_scopes-requires
stmt::lower_for-close_scopes-requires t c =
    let h = c.in_ok-lower_start.ensures in
    let hr = h.room in
    let begun : c.open_scope-outside.new.self ≡ _ = c.open_scope-outside.ensures.opened in
    let room = ap taken begun in
    let objects = ap (λ (d : Draft). objects_in d.marks) begun in
    let size = c.turning_of.ensures.size in
    let less = loop_room c.args.names.now c.args.line c.args.start.now c.args.body.now _ _ h in
    let grow : size_at c.args.body.now (objects_in c.open_scope-outside.new.self.marks + for_declares c.args.start.now) ≡ size_at c.args.body.now (objects_in c.args.out.now.marks + for_declares c.args.start.now) = ap (λ (k : ℕ). size_at c.args.body.now (k + for_declares c.args.start.now)) objects in
    let lr = c.in_ok-lower_loop.ensures.room in
    let same = ap (λ (d : Draft). closing d.marks) c.in_ok-lower_loop.ensures.rest in
    omega (arith, hr, room, size, less, grow, lr, same, c.requires.room)

pub stmt::lower_for-returns : goal.stmt::lower_for-returns
stmt::lower_for-returns t c =
    arm_for c.args.names.now c.args.line (length c.marks-depth.result.now) c.args.start.now c.args.test.now c.args.step.now c.args.body.now c.turning_of.result _ _ _ _ _ _ _ c.open_scope-outside.ensures.outside c.open_scope-outside.ensures.opened (marks_count c.marks-depth.result.now _ _ refl c.marks-depth.ensures.marks) c.in_ok-lower_start.ensures (c.turning_of.ensures.order c.args.names.now) (c.turning_of.ensures.test c.args.names.now) c.turning_of.ensures.size c.in_ok-lower_loop.ensures c.in_ok-close_scopes.ensures c.leave_scope.ensures

pub stmt::lower_maybe-returns-in-None : goal.stmt::lower_maybe-returns-in-None
stmt::lower_maybe-returns-in-None t c = arm_no_other c.args.names.now _ _ (ap maybe_at c.in-None.is)

pub stmt::lower_maybe-lower_alone-requires : goal.stmt::lower_maybe-lower_alone-requires
stmt::lower_maybe-lower_alone-requires t c =
    let e : maybe_at c.args.other.now ≡ OneStmt c.deref.result.now = ap maybe_at c.in-Some.is ∙ ap OneStmt (sym c.deref.ensures) in
    let all = ap (λ m. maybe_at_size m (objects_in c.args.out.now.marks)) e in
    let size = ap maybe_stmt_size e in
    let cells = ap (λ m. maybe_cells m (declared_cells c.args.names.now)) e in
    let scopes = ap maybe_scopes e in
    let r = c.requires.room in
    let k = c.requires.cells in
    let q = c.requires.scopes in
    let w = c.requires.texts in
    (search rules, (c.requires.inside, (omega (arith, all, r), (omega (arith, cells, k), (omega (arith, scopes, q), omega (arith, size, w))))))

pub stmt::lower_stmt-lower_if-requires : goal.stmt::lower_stmt-lower_if-requires
stmt::lower_stmt-lower_if-requires t c =
    let is : If c.s.inside.pos c.in-If.test _ _ ≡ c.args.s.now = stmt_is _ _ _ _ c.in-If.is c.s.view_is in
    let d = c.deref-in-If.ensures in
    let all = ap (λ s. size_at s (objects_in c.args.out.now.marks)) is in
    let all_chosen = ap (λ s. size_at s (objects_in c.args.out.now.marks)) d in
    let size = ap stmt_size is in
    let size_chosen = ap stmt_size d in
    let cells = ap (λ s. stmt_cells s (declared_cells c.args.names.now)) is in
    let cells_chosen = ap (λ s. stmt_cells s (declared_cells c.args.names.now)) d in
    let scopes = ap stmt_scopes is in
    let scopes_chosen = ap stmt_scopes d in
    let alone_chosen = ap alone_scopes d in
    let r = c.requires.room in
    let k = c.requires.cells in
    let q = c.requires.scopes in
    let w = c.requires.texts in
    (search rules, (c.requires.inside, (omega (arith, all, all_chosen, r), (omega (arith, cells, cells_chosen, k), (omega (arith, scopes, scopes_chosen, alone_chosen, q), omega (arith, size, size_chosen, w))))))

pub stmt::lower_alone-returns-in_ok-lower_stmt : goal.stmt::lower_alone-returns-in_ok-lower_stmt
stmt::lower_alone-returns-in_ok-lower_stmt t c =
    arm_alone_scoped c.args.names.now c.args.s.now _ c.args.out.now _ _ _ (ap is_declaration (sym c.s.view_is) ∙ sym (c.is_declaration.ensures c.s.inside.pos) ∙ c.if-is_declaration.true) c.open_scope-outside.ensures.outside c.open_scope-outside.ensures.opened c.in_ok-lower_stmt.ensures c.leave_scope.ensures

pub guard::lower_body-returns-in_ok-put-in-Catch : goal.guard::lower_body-returns-in_ok-put-in-Catch
guard::lower_body-returns-in_ok-put-in-Catch t c =
    arm_catches c.args.names.now c.args.pad c.args.line (takes_resumptions c.args.kind) (stmts_of c.args.body.now) c.args.out.now c.lower_stmts.new.out c.put.new.out (ap takes_resumptions c.in-Catch.is) c.in_ok-lower_stmts-in-Catch.ensures c.in_ok-put-in-Catch.ensures

pub guard::lower_body-returns-in_ok-put-in-CatchResume : goal.guard::lower_body-returns-in_ok-put-in-CatchResume
guard::lower_body-returns-in_ok-put-in-CatchResume t c =
    arm_resumes c.args.names.now c.args.pad c.args.line (takes_resumptions c.args.kind) (stmts_of c.args.body.now) c.args.out.now c.open.new.self c.lower_stmts-in-CatchResume.new.out c.close.new.self c.put-in-CatchResume.new.out (ap takes_resumptions c.in-CatchResume.is)
    c.in_ok-_row-in-CatchResume.ensures.ok c.in_ok-_row-in-CatchResume.ensures.kept c.in_ok-lower_stmts-in-CatchResume.ensures c.close.ensures.closed c.close.ensures.kept c.in_ok-put-in-CatchResume.ensures

pub guard::lower_handler-returns : goal.guard::lower_handler-returns
guard::lower_handler-returns t c =
    handler_done c.args.names.now c.args.row c.args.pad c.handler.inside.brace.line c.handler.inside.pos c.handler.inside.kind c.handler.inside.event c.handler.inside.param c.handler.inside.brace c.deref.result.now _ c.args.handler.now c.in_ok-outside.outside c.handled-handled.result c.args.out.now c.enter_handler.new.out c.lower_body.new.out c.leave_scope.new.self c.set_handled.new.self
    c.handler.view_is c.deref.ensures.value refl c.in_ok-outside.ensures.outside c.handled-handled.ensures c.in_ok-outside.ensures.entered c.in_ok-lower_body.ensures c.leave_scope.ensures c.set_handled.ensures

pub guard::lower_handlers-lower_handlers-requires : goal.guard::lower_handlers-lower_handlers-requires
guard::lower_handlers-lower_handlers-requires t c =
    let p = c.args.names.now in
    let h = c.in-Some.handler.now in
    let hs = c.in-Some.rest.now in
    let xs = c.args.handlers.now in
    let is : xs ≡ h ∷ hs = c.in-Some.ensures.cases.0 in
    let long = c.in-Some.ensures.cases.1 in
    let less = rest_less h hs xs is in
    let w = c.in_ok-lower_handler-in-Some.ensures in
    let g : HandlersFit p (handlers_of xs) c.args.out.now = record { inside = c.requires.inside; entry = c.requires.entry; room = c.requires.room; cells = c.requires.cells; scopes = c.requires.scopes; texts = c.requires.texts } in
    let f = rest_fits_in p _ c.args.pad h hs xs _ _ is g w in
    let bare = rest_bare p _ c.args.first c.args.pad (length hs) h _ _ (omega arith) (λ k l. c.requires.bare k (omega (arith, long, l))) w in
    let rows = c.requires.rows in
    (omega (arith, less), (bare, (omega (arith, long, rows), (f.entry, (f.inside, (f.room, (f.cells, (f.scopes, f.texts))))))))

pub guard::lower_handlers-returns-in-None : goal.guard::lower_handlers-returns-in-None
guard::lower_handlers-returns-in-None t c = none_laid c.args.names.now c.args.first c.args.pad c.args.handlers.now c.args.out.now (MatchOption-at_none _ _ c.in-None.is c.split_first.ensures.cases)

pub guard::lower_handlers-returns-in_ok-lower_handlers-in-Some : goal.guard::lower_handlers-returns-in_ok-lower_handlers-in-Some
guard::lower_handlers-returns-in_ok-lower_handlers-in-Some t c =
    more_laid c.args.names.now c.args.first c.args.pad _ c.in-Some.handler.now c.in-Some.rest.now c.args.handlers.now _ _ _ c.in-Some.ensures.cases.0 (omega arith) c.in_ok-lower_handler-in-Some.ensures c.in_ok-lower_handlers-in-Some.ensures

pub guard::lower_try-lower_stmts-requires : goal.guard::lower_try-lower_stmts-requires
guard::lower_try-lower_stmts-requires t c =
    let f = try_fits c.args.names.now c.args.line (length c.args.handlers.now) (stmts_of c.args.body.now) (handlers_of c.args.handlers.now) _ _ c.args.out.now c.put.new.out c.put-2.new.out c.open_guards.new.out c.open_scope-outside.new.self c.requires.inside c.requires.room c.requires.cells c.requires.scopes c.requires.texts c.in_ok-put.ensures c.in_ok-put-2.ensures c.in_ok-open_guards.ensures c.open_scope-outside.ensures.opened in
    let room = f.room in
    let cells = f.cells in
    let scopes = f.scopes in
    let texts = f.texts in
    (omega arith, (f.inside, (omega (arith, room), (omega (arith, cells), (omega (arith, scopes), omega (arith, texts))))))

pub guard::lower_try-put-requires-3 : goal.guard::lower_try-put-requires-3
guard::lower_try-put-requires-3 t c =
    let f = try_fits c.args.names.now c.args.line (length c.args.handlers.now) (stmts_of c.args.body.now) (handlers_of c.args.handlers.now) _ _ c.args.out.now c.put.new.out c.put-2.new.out c.open_guards.new.out c.open_scope-outside.new.self c.requires.inside c.requires.room c.requires.cells c.requires.scopes c.requires.texts c.in_ok-put.ensures c.in_ok-put-2.ensures c.in_ok-open_guards.ensures c.open_scope-outside.ensures.opened in
    let g = behind_fits c.args.names.now c.args.line c.args.brace (length c.args.handlers.now) (stmts_of c.args.body.now) (handlers_of c.args.handlers.now) c.open_scope-outside.result (op.Jump 0) c.put-2.new.out c.open_guards.new.out c.open_scope-outside.new.self c.lower_stmts.new.out c.leave_scope.new.self c.close_guards.new.out c.close_guards.new.out f c.in_ok-open_guards.ensures c.open_scope-outside.ensures.opened c.in_ok-lower_stmts.ensures c.leave_scope.ensures c.close_guards.ensures in
    let room = g.room in
    omega (arith, room)

pub guard::lower_try-lower_handlers-requires : goal.guard::lower_try-lower_handlers-requires
guard::lower_try-lower_handlers-requires t c =
    let p = c.args.names.now in
    let f = try_fits p c.args.line (length c.args.handlers.now) (stmts_of c.args.body.now) (handlers_of c.args.handlers.now) _ _ c.args.out.now c.put.new.out c.put-2.new.out c.open_guards.new.out c.open_scope-outside.new.self c.requires.inside c.requires.room c.requires.cells c.requires.scopes c.requires.texts c.in_ok-put.ensures c.in_ok-put-2.ensures c.in_ok-open_guards.ensures c.open_scope-outside.ensures.opened in
    let g = handlers_fit p c.args.line c.args.brace (length c.args.handlers.now) (stmts_of c.args.body.now) (handlers_of c.args.handlers.now) c.open_scope-outside.result _ c.put-2.new.out c.open_guards.new.out c.open_scope-outside.new.self c.lower_stmts.new.out c.leave_scope.new.self c.close_guards.new.out c.put-3.new.out f c.in_ok-open_guards.ensures c.open_scope-outside.ensures.opened c.in_ok-lower_stmts.ensures c.leave_scope.ensures c.close_guards.ensures c.in_ok-put-3.ensures in
    let more = c.in_ok-open_guards.ensures.rows.more in
    let is : c.in-Ok.rows ≡ c.row_count.result = search rules in
    let all : c.in-Ok.rows ≡ length c.open_guards.new.out.rows = omega (arith, is) in
    let first : c.in-Ok.rows - length c.args.handlers.now ≡ length c.put-2.new.out.rows = omega (arith, more, all) in
    let bare = handlers_bare p c.args.line c.args.brace (length c.args.handlers.now) (stmts_of c.args.body.now) (handlers_of c.args.handlers.now) c.open_scope-outside.result _ c.put-2.new.out c.open_guards.new.out c.open_scope-outside.new.self c.lower_stmts.new.out c.leave_scope.new.self c.close_guards.new.out c.put-3.new.out f c.in_ok-open_guards.ensures c.open_scope-outside.ensures.opened c.in_ok-lower_stmts.ensures c.leave_scope.ensures c.close_guards.ensures (c.in-Ok.rows - length c.args.handlers.now) first c.in_ok-put-3.ensures in
    (omega arith, (bare, (omega (arith, more, all), (g.entry, (g.inside, (g.room, (g.cells, (g.scopes, g.texts))))))))

pub guard::lower_try-returns : goal.guard::lower_try-returns
guard::lower_try-returns t c =
    let more = c.in_ok-open_guards.ensures.rows.more in
    let is : c.in-Ok.rows ≡ c.row_count.result = search rules in
    let all : c.in-Ok.rows ≡ length c.open_guards.new.out.rows = omega (arith, is) in
    let first : c.in-Ok.rows - length c.args.handlers.now ≡ length c.put-2.new.out.rows = omega (arith, more, all) in
    arm_try c.args.names.now c.args.line c.args.brace c.here-start.result (c.in-Ok.rows - length c.args.handlers.now) c.here.result (length c.args.handlers.now) (stmts_of c.args.body.now) (handlers_of c.args.handlers.now) c.open_scope-outside.result c.args.out.now c.put.new.out c.put-2.new.out c.open_guards.new.out c.open_scope-outside.new.self c.lower_stmts.new.out c.leave_scope.new.self c.close_guards.new.out c.put-3.new.out c.lower_handlers.new.out c.patch.new.self
    c.here-start.ensures.count first (sym (listed c.args.handlers.now)) c.in_ok-put.ensures c.in_ok-put-2.ensures c.in_ok-open_guards.ensures c.open_scope-outside.ensures.outside c.open_scope-outside.ensures.opened c.in_ok-lower_stmts.ensures c.leave_scope.ensures c.close_guards.ensures c.in_ok-put-3.ensures c.in_ok-lower_handlers.ensures c.here.ensures.count c.patch.ensures

pub enabling::lower_enabling-lower_alone-requires : goal.enabling::lower_enabling-lower_alone-requires
enabling::lower_enabling-lower_alone-requires t c =
    let h1 = c.in_ok-cell.ensures.ok in
    let h2 = c.in_ok-_row.ensures.ok in
    let h3 = c.in_ok-put_enabling.ensures in
    let is = is_switched c.args.how c.args.line _ _ c.args.out.now _ _ _ h1 h2 h3 in
    let inside = ap routine_in (marks_switched c.args.how c.args.line _ _ c.args.out.now _ _ _ h1 h2 h3) in
    let room = taken_switched c.args.how c.args.line _ _ c.args.out.now _ _ _ h1 h2 h3 in
    let size = ap (size_at c.args.body.now) (objects_switched c.args.how c.args.line _ _ c.args.out.now _ _ _ h1 h2 h3) in
    let cells = ap (λ (d : Draft). d.cells) is in
    let scopes = ap (λ (d : Draft). d.scopes) is in
    let texts = ap (λ (d : Draft). d.texts) is in
    (search rules, (omega (arith, inside, c.requires.inside), (omega (arith, room, size, c.requires.room), (omega (arith, cells, c.requires.cells), (omega (arith, scopes, c.requires.scopes), omega (arith, texts, c.requires.texts))))))

pub enabling::lower_enabling-close_scope-requires : goal.enabling::lower_enabling-close_scope-requires
enabling::lower_enabling-close_scope-requires t c =
    let room = room_done c.args.names.now c.args.how c.args.line _ _ c.args.events.now c.args.body.now c.args.out.now _ _ _ _ c.lower_alone.new.out c.mask_of-events.ensures c.in_ok-cell.ensures.cell c.in_ok-cell.ensures.ok c.in_ok-_row.ensures.ok c.in_ok-_row.ensures.kept c.in_ok-put_enabling.ensures c.in_ok-lower_alone.ensures in
    record {
      scope = in_enabling c.args.names.now c.args.how c.args.line _ _ c.args.events.now c.args.body.now c.args.out.now _ _ _ _ c.lower_alone.new.out c.mask_of-events.ensures c.in_ok-cell.ensures.cell c.in_ok-cell.ensures.ok c.in_ok-_row.ensures.ok c.in_ok-_row.ensures.kept c.in_ok-put_enabling.ensures c.in_ok-lower_alone.ensures;
      other = refl;
      room = omega (arith, room, c.requires.room);
    }

pub enabling::lower_enabling-returns : goal.enabling::lower_enabling-returns
enabling::lower_enabling-returns t c =
    arm_enabling c.args.names.now c.args.how c.args.line _ _ c.args.events.now c.args.body.now c.args.out.now _ _ _ _ _ c.mask_of-events.ensures c.in_ok-cell.ensures.cell c.in_ok-cell.ensures.ok c.in_ok-_row.ensures.ok c.in_ok-_row.ensures.kept c.in_ok-put_enabling.ensures c.in_ok-lower_alone.ensures c.in_ok-close_scope.ensures

pub stmt::lower_stmt-lower_accept-requires : goal.stmt::lower_stmt-lower_accept-requires
stmt::lower_stmt-lower_accept-requires t c =
    let asks = accept_asks c.args.names.now c.args.s.now c.s.inside.pos c.deref-in-Accept.result.now _ (maybe_at c.in-Accept.other) c.args.out.now (stmt_is _ _ _ _ c.in-Accept.is c.s.view_is) c.deref-in-Accept.ensures.value c.requires.room c.requires.cells c.requires.scopes c.requires.texts in
    let less = asks.less in
    (omega (arith, less), (c.requires.inside, (asks.room, (asks.cells, (asks.scopes, asks.texts)))))

pub stmt::lower_stmt-returns-in-Accept : goal.stmt::lower_stmt-returns-in-Accept
stmt::lower_stmt-returns-in-Accept t c =
    on_ok_weaker c.lower_accept.result (arm_accept c.args.names.now c.args.s.now c.s.inside.pos c.deref-in-Accept.result.now _ (maybe_at c.in-Accept.other) c.args.out.now c.lower_accept.new.out (stmt_is _ _ _ _ c.in-Accept.is c.s.view_is) c.deref-in-Accept.ensures.value) c.lower_accept.ensures

pub accept::lower_branches-lower_maybe-requires : goal.accept::lower_branches-lower_maybe-requires
accept::lower_branches-lower_maybe-requires t c =
    let r = c.requires in
    let b = r.before in
    let j = r.jumps in
    let none = MatchOption-at_none _ _ c.in-None.is c.split_first.ensures.cases in
    let f : BranchesFit c.args.names.now c.args.clauses.now (maybe_at c.args.other.now) c.args.out.now = record { inside = r.inside; entry = omega (arith, b, j); room = r.room; cells = r.cells; scopes = r.scopes; texts = r.texts } in
    let m = last_fits c.args.names.now c.args.clauses.now (maybe_at c.args.other.now) c.args.else_at _ c.args.out.now c.patch.new.self none f c.patch.ensures in
    (omega arith, (m.inside, (m.room, (m.cells, (m.scopes, m.texts)))))

pub accept::lower_branches-returns-in_ok-lower_maybe-in-None : goal.accept::lower_branches-returns-in_ok-lower_maybe-in-None
accept::lower_branches-returns-in_ok-lower_maybe-in-None t c =
    branch_last c.args.names.now c.args.line c.args.else_at c.args.first _ c.args.clauses.now (maybe_at c.args.other.now) c.args.out.now c.patch.new.self c.lower_maybe.new.out (MatchOption-at_none _ _ c.in-None.is c.split_first.ensures.cases) c.here.ensures.count c.patch.ensures c.in_ok-lower_maybe-in-None.ensures

pub accept::lower_branches-lower_alone-requires : goal.accept::lower_branches-lower_alone-requires
accept::lower_branches-lower_alone-requires t c =
    let r = c.requires in
    let b = r.before in
    let j = r.jumps in
    let f : BranchesFit c.args.names.now c.args.clauses.now (maybe_at c.args.other.now) c.args.out.now = record { inside = r.inside; entry = omega (arith, b, j); room = r.room; cells = r.cells; scopes = r.scopes; texts = r.texts } in
    let a = branch_fits c.args.names.now c.clause.inside.body c.in-Some.clause.now c.args.clauses.now c.in-Some.rest.now (maybe_at c.args.other.now) c.args.first _ c.args.out.now c.patch-in-Some.new.self (ap branch_of c.clause.view_is) c.in-Some.ensures.cases.0 f c.patch-in-Some.ensures in
    let less = branch_less c.clause.inside.body c.in-Some.clause.now c.in-Some.rest.now c.args.clauses.now (ap branch_of c.clause.view_is) c.in-Some.ensures.cases.0 in
    (omega (arith, less), (a.inside, (a.room, (a.cells, (a.scopes, a.texts)))))

pub accept::lower_branches-put-requires : goal.accept::lower_branches-put-requires
accept::lower_branches-put-requires t c =
    let r = c.requires in
    let b = r.before in
    let j = r.jumps in
    let f : BranchesFit c.args.names.now c.args.clauses.now (maybe_at c.args.other.now) c.args.out.now = record { inside = r.inside; entry = omega (arith, b, j); room = r.room; cells = r.cells; scopes = r.scopes; texts = r.texts } in
    leave_fits c.args.names.now c.clause.inside.body c.in-Some.clause.now c.args.clauses.now c.in-Some.rest.now (maybe_at c.args.other.now) c.args.first _ c.args.out.now c.patch-in-Some.new.self c.lower_alone.new.out (ap branch_of c.clause.view_is) c.in-Some.ensures.cases.0 f c.patch-in-Some.ensures c.in_ok-lower_alone-in-Some.ensures

pub accept::lower_branches-lower_branches-requires : goal.accept::lower_branches-lower_branches-requires
accept::lower_branches-lower_branches-requires t c =
    let r = c.requires in
    let b = r.before in
    let j = r.jumps in
    let f : BranchesFit c.args.names.now c.args.clauses.now (maybe_at c.args.other.now) c.args.out.now = record { inside = r.inside; entry = omega (arith, b, j); room = r.room; cells = r.cells; scopes = r.scopes; texts = r.texts } in
    let o = others_fit c.args.names.now c.clause.inside.body c.in-Some.clause.now c.args.clauses.now c.in-Some.rest.now (maybe_at c.args.other.now) c.args.first _ c.args.out.now c.patch-in-Some.new.self c.lower_alone.new.out c.put.new.out (ap branch_of c.clause.view_is) c.in-Some.ensures.cases.0 f c.patch-in-Some.ensures c.in_ok-lower_alone-in-Some.ensures c.in_ok-put-in-Some.ensures in
    let less = branch_less c.clause.inside.body c.in-Some.clause.now c.in-Some.rest.now c.args.clauses.now (ap branch_of c.clause.view_is) c.in-Some.ensures.cases.0 in
    let count = ap length c.in-Some.ensures.cases.0 in
    let same = ap (λ (d : Draft). length d.ops) c.patch-in-Some.ensures in
    let long = length-patched c.args.out.now.ops c.args.first (op.Jump c.here-in-Some.result) in
    let l = c.in_ok-lower_alone-in-Some.ensures.kept.longer in
    let m = c.in_ok-put-in-Some.ensures.kept.longer in
    (omega (arith, less), (o.inside, (omega (arith, b), (omega (arith, count, j, same, long, l, m), (o.room, (o.cells, (o.scopes, o.texts)))))))

pub accept::lower_branches-patch-requires-in-Some-2 : goal.accept::lower_branches-patch-requires-in-Some-2
accept::lower_branches-patch-requires-in-Some-2 t c =
    let place = c.here-leave.ensures.count in
    let end = c.in_ok-put-in-Some.ensures.code.end in
    let b = c.in_ok-lower_branches-in-Some.ensures in
    let l = b.branches.kept.longer in
    let long = length_chosen c.args.else_at (c.args.first + 1) b.otherwise b.places c.put.new.out.ops in
    omega (arith, place, end, l, long)

pub accept::lower_branches-returns-in_ok-lower_branches-in-Some : goal.accept::lower_branches-returns-in_ok-lower_branches-in-Some
accept::lower_branches-returns-in_ok-lower_branches-in-Some t c =
    branch_next c.args.names.now c.args.line c.args.else_at c.args.first _ c.here-leave.result _ c.clause.inside.body c.in-Some.clause.now c.args.clauses.now c.in-Some.rest.now (maybe_at c.args.other.now) c.args.out.now c.patch-in-Some.new.self _ _ _ _ (ap branch_of c.clause.view_is) c.in-Some.ensures.cases.0 c.requires.before c.requires.jumps c.here-in-Some.ensures.count
    c.patch-in-Some.ensures c.in_ok-lower_alone-in-Some.ensures c.here-leave.ensures.count c.in_ok-put-in-Some.ensures c.in_ok-lower_branches-in-Some.ensures c.here-in-Some-2.ensures.count c.patch-in-Some-2.ensures

pub accept::lower_accept-lower_branches-requires : goal.accept::lower_accept-lower_branches-requires
accept::lower_accept-lower_branches-requires t c =
    let r = c.requires in
    let place = c.in_ok-choose.ensures.place in
    let f = choice_fits c.args.names.now c.args.line c.args.clauses.now (maybe_at c.args.other.now) c.args.out.now c.lower_choice.new.out (omega (arith, place)) r.inside r.room r.cells r.scopes r.texts c.in_ok-choose.ensures.code in
    (omega arith, (f.inside, (omega arith, (omega (arith, place), (f.room, (f.cells, (f.scopes, f.texts)))))))

pub accept::lower_accept-patch-requires : goal.accept::lower_accept-patch-requires
accept::lower_accept-patch-requires t c =
    let place = c.in_ok-choose.ensures.place in
    let b = c.in_ok-lower_branches.ensures in
    let l = b.branches.kept.longer in
    let long = length_chosen (c.in_ok-choose.choose + 1) (c.in_ok-choose.choose + 2) b.otherwise b.places c.lower_choice.new.out.ops in
    omega (arith, place, l, long)

pub accept::lower_accept-returns : goal.accept::lower_accept-returns
accept::lower_accept-returns t c =
    accept_laid c.args.names.now c.args.line c.in_ok-choose.choose _ _ _ c.args.clauses.now (maybe_at c.args.other.now) c.args.out.now c.lower_choice.new.out c.lower_branches.new.out c.patch.new.self c.in_ok-choose.ensures.code c.in_ok-choose.ensures.place refl c.in_ok-lower_branches.ensures refl c.here.ensures.count c.patch.ensures
