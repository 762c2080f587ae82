use Rattle.std.proofs.Common.{◌≡◌, length, ap, subst, ◌∙◌, arith}
use Rattle.uc_tree.specs.Statements.{stmts_of}
use Rattle.uc_tree.specs.Cells.{declared_cells, stmts_cells}
use Rattle.uc_tree.specs.Scopes.{stmts_scopes}
use Rattle.uc_tree.specs.StatementSizes.{stmts_size}
use Rattle.uc_code.specs.declared.op.Op.{Op}
use Rattle.uc_code.specs.Drafts.{Draft}
use Rattle.uc_code.specs.Layout.{routine_in}
use Rattle.uc_code.proofs.Sweeping.{closed_ops}
use Rattle.uc_lower_expr.specs.DraftGrowth.{Adds, OpCode}
use Rattle.uc_lower_stmt.specs.Marked.{closing, objects_in}
use Rattle.uc_lower_stmt.specs.LowersStatement.{sizes_at}
use Rattle.uc_lower_stmt.proofs.RoutinesLemmas.{main_lowered, main_rows}
use Rattle.uc_lower_stmt.proofs.routine.lower_main.Goals as goal

pub lower_stmts-requires-clause-cells : goal.lower_stmts-requires-clause-cells
lower_stmts-requires-clause-cells c =
    let e = ap (λ (d : Draft). d.cells) c.in_ok-_row.ensures.ok in
    let b = ap (λ ss. stmts_cells ss (declared_cells c.args.names.now)) c.body_of.ensures in
    omega (arith, e, b, c.requires.cells)

pub lower_stmts-requires-clause-scopes : goal.lower_stmts-requires-clause-scopes
lower_stmts-requires-clause-scopes c =
    let e = ap (λ (d : Draft). d.scopes) c.in_ok-_row.ensures.ok in
    let b = ap stmts_scopes c.body_of.ensures in
    omega (arith, e, b, c.requires.scopes)

pub lower_stmts-requires-clause-texts : goal.lower_stmts-requires-clause-texts
lower_stmts-requires-clause-texts c =
    let e = ap (λ (d : Draft). d.texts) c.in_ok-_row.ensures.ok in
    let b = ap stmts_size c.body_of.ensures in
    omega (arith, e, b, c.requires.texts)

pub lower_stmts-requires-clause-inside : goal.lower_stmts-requires-clause-inside
lower_stmts-requires-clause-inside c =
    let e : routine_in c.open.new.self.marks ≡ c.args.last = ap (λ (d : Draft). routine_in d.marks) c.in_ok-_row.ensures.ok in
    omega (arith, e, c.requires.written)

pub lower_stmts-requires-clause-room : goal.lower_stmts-requires-clause-room
lower_stmts-requires-clause-room c =
    let none : objects_in c.open.new.self.marks ≡ objects_in c.args.out.now.marks = ap (λ (d : Draft). objects_in d.marks) c.in_ok-_row.ensures.ok in
    let zero : objects_in c.args.out.now.marks ≡ 0 = ap objects_in c.requires.outside in
    let size = ap (sizes_at (stmts_of c.body_of.result.now)) (none ∙ zero) in
    let body = ap (λ ss. sizes_at ss 0) c.body_of.ensures in
    let ops = ap (λ (d : Draft). length d.ops) c.in_ok-_row.ensures.ok in
    let ends : closing c.open.new.self.marks ≡ closing c.args.out.now.marks = ap (λ (d : Draft). closing d.marks) c.in_ok-_row.ensures.ok in
    let none_end : closing c.args.out.now.marks ≡ 0 = ap closing c.requires.outside in
    omega (arith, none, zero, size, body, ops, ends, none_end, c.requires.room)

pub put-requires : goal.put-requires
put-requires c =
    let none : objects_in c.open.new.self.marks ≡ objects_in c.args.out.now.marks = ap (λ (d : Draft). objects_in d.marks) c.in_ok-_row.ensures.ok in
    let zero : objects_in c.args.out.now.marks ≡ 0 = ap objects_in c.requires.outside in
    let size = ap (sizes_at (stmts_of c.body_of.result.now)) (none ∙ zero) in
    let body = ap (λ ss. sizes_at ss 0) c.body_of.ensures in
    let ops = ap (λ (d : Draft). length d.ops) c.in_ok-_row.ensures.ok in
    let same = ap length (closed_ops 1 c.lower_stmts.new.out c.close.new.self c.close.ensures.closed) in
    omega (arith, size, body, ops, same, c.in_ok-lower_stmts.ensures.room, c.requires.room)

pub put-requires-2 : goal.put-requires-2
put-requires-2 c =
    let none : objects_in c.open.new.self.marks ≡ objects_in c.args.out.now.marks = ap (λ (d : Draft). objects_in d.marks) c.in_ok-_row.ensures.ok in
    let zero : objects_in c.args.out.now.marks ≡ 0 = ap objects_in c.requires.outside in
    let size = ap (sizes_at (stmts_of c.body_of.result.now)) (none ∙ zero) in
    let body = ap (λ ss. sizes_at ss 0) c.body_of.ensures in
    let ops = ap (λ (d : Draft). length d.ops) c.in_ok-_row.ensures.ok in
    let same = ap length (closed_ops 1 c.lower_stmts.new.out c.close.new.self c.close.ensures.closed) in
    omega (arith, size, body, ops, same, c.in_ok-lower_stmts.ensures.room, c.in_ok-put.ensures.room, c.requires.room)

pub returns-clause-code : goal.returns-clause-code
returns-clause-code c =
    main_lowered c.args.names.now c.args.routine.now c.args.main c.args.last c.line_of-line.result (stmts_of c.body_of.result.now) c.args.out.now c.open.new.self c.lower_stmts.new.out c.close.new.self c.put.new.out c.put-2.new.out
    c.requires.outside c.line_of-line.ensures c.body_of.ensures c.in_ok-_row.ensures.ok c.in_ok-_row.ensures.kept c.in_ok-lower_stmts.ensures c.close.ensures.closed c.close.ensures.kept c.close.ensures.handler
    (subst (λ (o : Op). Adds 1 (OpCode c.line_of-line.result o) c.close.new.self c.put.new.out) c.end.ensures c.in_ok-put.ensures) (subst (λ (o : Op). Adds 1 (OpCode c.line_of-line.result o) c.put.new.out c.put-2.new.out) c.left.ensures c.in_ok-put-2.ensures)

pub returns-clause-rows : goal.returns-clause-rows
returns-clause-rows c =
    main_rows c.args.names.now c.args.routine.now c.args.main c.args.last c.line_of-line.result (stmts_of c.body_of.result.now) c.args.out.now c.open.new.self c.lower_stmts.new.out c.close.new.self c.put.new.out c.put-2.new.out
    c.requires.outside c.line_of-line.ensures c.body_of.ensures c.in_ok-_row.ensures.ok c.in_ok-_row.ensures.kept c.in_ok-lower_stmts.ensures c.close.ensures.closed c.close.ensures.kept c.close.ensures.handler
    (subst (λ (o : Op). Adds 1 (OpCode c.line_of-line.result o) c.close.new.self c.put.new.out) c.end.ensures c.in_ok-put.ensures) (subst (λ (o : Op). Adds 1 (OpCode c.line_of-line.result o) c.put.new.out c.put-2.new.out) c.left.ensures c.in_ok-put-2.ensures)
