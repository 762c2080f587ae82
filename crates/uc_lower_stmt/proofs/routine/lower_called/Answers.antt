use Rattle.std.proofs.Common.{◌≡◌, length, ap, ◌∙◌, arith}
use Rattle.uc_tree.specs.Programs.{Sig}
use Rattle.uc_tree.specs.Statements.{stmts_of}
use Rattle.uc_tree.specs.Cells.{declared_cells, stmts_cells}
use Rattle.uc_tree.specs.Scopes.{stmts_scopes}
use Rattle.uc_tree.specs.StatementSizes.{stmts_size}
use Rattle.uc_code.specs.Drafts.{Draft}
use Rattle.uc_code.specs.Layout.{routine_in}
use Rattle.uc_lower_stmt.specs.Marked.{closing, objects_in}
use Rattle.uc_lower_stmt.specs.LowersStatement.{sizes_at}
use Rattle.uc_lower_stmt.proofs.RoutinesLemmas.{called_lowered, called_rows}
use Rattle.uc_lower_stmt.proofs.routine.lower_called.Goals as goal

pub lower_stmts-requires-clause-cells : goal.lower_stmts-requires-clause-cells
lower_stmts-requires-clause-cells c =
    let e = ap (λ (d : Draft). d.cells) c.in_ok-enter_body.ensures.ok in
    let b = ap (λ ss. stmts_cells ss (declared_cells c.args.names.now)) c.body_of.ensures in
    omega (arith, e, b, c.requires.cells)

pub lower_stmts-requires-clause-scopes : goal.lower_stmts-requires-clause-scopes
lower_stmts-requires-clause-scopes c =
    let e = ap (λ (d : Draft). d.scopes) c.in_ok-enter_body.ensures.ok in
    let b = ap stmts_scopes c.body_of.ensures in
    omega (arith, e, b, c.requires.scopes)

pub lower_stmts-requires-clause-texts : goal.lower_stmts-requires-clause-texts
lower_stmts-requires-clause-texts c =
    let e = ap (λ (d : Draft). d.texts) c.in_ok-enter_body.ensures.ok in
    let b = ap stmts_size c.body_of.ensures in
    omega (arith, e, b, c.requires.texts)

pub lower_stmts-requires-clause-inside : goal.lower_stmts-requires-clause-inside
lower_stmts-requires-clause-inside c =
    let e : routine_in c.enter_body.new.self.marks ≡ c.args.last = ap (λ (d : Draft). routine_in d.marks) c.in_ok-enter_body.ensures.ok in
    omega (arith, e, c.requires.written)

pub lower_stmts-requires-clause-room : goal.lower_stmts-requires-clause-room
lower_stmts-requires-clause-room c =
    let none : objects_in c.enter_body.new.self.marks ≡ objects_in c.args.out.now.marks = ap (λ (d : Draft). objects_in d.marks) c.in_ok-enter_body.ensures.ok in
    let zero : objects_in c.args.out.now.marks ≡ 0 = ap objects_in c.requires.outside in
    let size = ap (sizes_at (stmts_of c.body_of.result.now)) (none ∙ zero) in
    let body = ap (λ ss. sizes_at ss 0) c.body_of.ensures in
    let ops = ap (λ (d : Draft). length d.ops) c.in_ok-enter_body.ensures.ok in
    let ends : closing c.enter_body.new.self.marks ≡ closing c.args.out.now.marks = ap (λ (d : Draft). closing d.marks) c.in_ok-enter_body.ensures.ok in
    let none_end : closing c.args.out.now.marks ≡ 0 = ap closing c.requires.outside in
    omega (arith, none, zero, size, body, ops, ends, none_end, c.requires.room)

pub put_end-requires : goal.put_end-requires
put_end-requires c =
    let none : objects_in c.enter_body.new.self.marks ≡ objects_in c.args.out.now.marks = ap (λ (d : Draft). objects_in d.marks) c.in_ok-enter_body.ensures.ok in
    let zero : objects_in c.args.out.now.marks ≡ 0 = ap objects_in c.requires.outside in
    let size = ap (sizes_at (stmts_of c.body_of.result.now)) (none ∙ zero) in
    let body = ap (λ ss. sizes_at ss 0) c.body_of.ensures in
    let ops = ap (λ (d : Draft). length d.ops) c.in_ok-enter_body.ensures.ok in
    let same = ap (λ (d : Draft). length d.ops) c.leave.ensures in
    omega (arith, size, body, ops, same, c.in_ok-lower_stmts.ensures.room, c.requires.room)

pub returns-clause-code : goal.returns-clause-code
returns-clause-code c =
    called_lowered c.args.names.now c.args.routine.now c.result_of.result.now c.args.last c.line_of-line.result (stmts_of c.body_of.result.now) c.args.out.now c.enter_body.new.self c.lower_stmts.new.out c.leave.new.self c.put_end.new.out
    c.requires.outside c.line_of-line.ensures c.body_of.ensures (c.result_of.ensures ∙ ap (λ (s : Sig). s.ret) c.sig_of.ensures) c.in_ok-enter_body.ensures.ok c.in_ok-lower_stmts.ensures c.leave.ensures c.in_ok-put_end.ensures

pub returns-clause-rows : goal.returns-clause-rows
returns-clause-rows c =
    called_rows c.args.names.now c.result_of.result.now c.args.last c.line_of-line.result (stmts_of c.body_of.result.now) c.args.out.now c.enter_body.new.self c.lower_stmts.new.out c.leave.new.self c.put_end.new.out
    c.in_ok-enter_body.ensures.ok c.in_ok-lower_stmts.ensures c.leave.ensures c.in_ok-put_end.ensures
