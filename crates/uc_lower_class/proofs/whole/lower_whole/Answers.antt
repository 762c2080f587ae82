use Rattle.std.proofs.Common.{◌≡◌, ◌+◌, length, ap, ◌∙◌, arith}
use Rattle.uc_tree.specs.Statements.{stmts_of}
use Rattle.uc_tree.specs.Cells.{declared_cells, stmts_cells}
use Rattle.uc_tree.specs.Scopes.{stmts_scopes}
use Rattle.uc_tree.specs.StatementSizes.{stmts_size}
use Rattle.uc_code.specs.Drafts.{Draft}
use Rattle.uc_code.specs.Layout.{routine_in}
use Rattle.uc_code.proofs.Sweeping.{closed_ops}
use Rattle.uc_lower_stmt.specs.Marked.{closing, objects_in}
use Rattle.uc_lower_stmt.specs.LowersStatement.{sizes_at}
use Rattle.uc_lower_class.proofs.Wholes.{whole_laid}
use Rattle.uc_lower_class.proofs.whole.lower_whole.Goals as goal

pub lower_stmts-requires-clause-inside : goal.lower_stmts-requires-clause-inside
lower_stmts-requires-clause-inside c =
    let e : routine_in c.open.new.self.marks ≡ routine_in c.args.out.now.marks =
    ap (λ (d : Draft). routine_in d.marks) c.in_ok-_row.ensures.ok ∙ ap (λ (d : Draft). routine_in d.marks) c.in_ok-put-2.ensures.rest ∙ ap (λ (d : Draft). routine_in d.marks) c.in_ok-put.ensures.rest in
    omega (arith, e, c.requires.inside)

pub lower_stmts-requires-clause-room : goal.lower_stmts-requires-clause-room
lower_stmts-requires-clause-room c =
    let zero : objects_in c.open.new.self.marks ≡ 0 = ap (λ (d : Draft). objects_in d.marks) c.in_ok-_row.ensures.ok in
    let size = ap (sizes_at (stmts_of c.body_of.result.now)) zero in
    let body = ap (λ ss. sizes_at ss 0) c.body_of.ensures in
    let ops = ap (λ (d : Draft). length d.ops) c.in_ok-_row.ensures.ok in
    let ends : closing c.open.new.self.marks ≡ 0 = ap (λ (d : Draft). closing d.marks) c.in_ok-_row.ensures.ok in
    omega (arith, zero, size, body, ops, ends, c.in_ok-put.ensures.room, c.in_ok-put-2.ensures.room, c.requires.room)

pub lower_stmts-requires-clause-cells : goal.lower_stmts-requires-clause-cells
lower_stmts-requires-clause-cells c =
    let e : c.open.new.self.cells ≡ c.args.out.now.cells = ap (λ (d : Draft). d.cells) c.in_ok-_row.ensures.ok ∙ ap (λ (d : Draft). d.cells) c.in_ok-put-2.ensures.rest ∙ ap (λ (d : Draft). d.cells) c.in_ok-put.ensures.rest in
    let b = ap (λ ss. stmts_cells ss (declared_cells c.args.names.now)) c.body_of.ensures in
    omega (arith, e, b, c.requires.cells)

pub lower_stmts-requires-clause-scopes : goal.lower_stmts-requires-clause-scopes
lower_stmts-requires-clause-scopes c =
    let e : c.open.new.self.scopes ≡ c.args.out.now.scopes = ap (λ (d : Draft). d.scopes) c.in_ok-_row.ensures.ok ∙ ap (λ (d : Draft). d.scopes) c.in_ok-put-2.ensures.rest ∙ ap (λ (d : Draft). d.scopes) c.in_ok-put.ensures.rest in
    let b = ap stmts_scopes c.body_of.ensures in
    omega (arith, e, b, c.requires.scopes)

pub lower_stmts-requires-clause-texts : goal.lower_stmts-requires-clause-texts
lower_stmts-requires-clause-texts c =
    let e : c.open.new.self.texts ≡ c.args.out.now.texts = ap (λ (d : Draft). d.texts) c.in_ok-_row.ensures.ok ∙ ap (λ (d : Draft). d.texts) c.in_ok-put-2.ensures.rest ∙ ap (λ (d : Draft). d.texts) c.in_ok-put.ensures.rest in
    let b = ap stmts_size c.body_of.ensures in
    omega (arith, e, b, c.requires.texts)

pub put-requires-3 : goal.put-requires-3
put-requires-3 c =
    let zero : objects_in c.open.new.self.marks ≡ 0 = ap (λ (d : Draft). objects_in d.marks) c.in_ok-_row.ensures.ok in
    let size = ap (sizes_at (stmts_of c.body_of.result.now)) zero in
    let body = ap (λ ss. sizes_at ss 0) c.body_of.ensures in
    let ops = ap (λ (d : Draft). length d.ops) c.in_ok-_row.ensures.ok in
    let same = ap length (closed_ops 1 c.lower_stmts.new.out c.close.new.self c.close.ensures.closed) in
    omega (arith, size, body, ops, same, c.in_ok-put.ensures.room, c.in_ok-put-2.ensures.room, c.in_ok-lower_stmts.ensures.room, c.requires.room)

pub put_at_risk-requires : goal.put_at_risk-requires
put_at_risk-requires c =
    let zero : objects_in c.open.new.self.marks ≡ 0 = ap (λ (d : Draft). objects_in d.marks) c.in_ok-_row.ensures.ok in
    let size = ap (sizes_at (stmts_of c.body_of.result.now)) zero in
    let body = ap (λ ss. sizes_at ss 0) c.body_of.ensures in
    let ops = ap (λ (d : Draft). length d.ops) c.in_ok-_row.ensures.ok in
    let same = ap length (closed_ops 1 c.lower_stmts.new.out c.close.new.self c.close.ensures.closed) in
    omega (arith, size, body, ops, same, c.in_ok-put.ensures.room, c.in_ok-put-2.ensures.room, c.in_ok-lower_stmts.ensures.room, c.in_ok-put-3.ensures.room, c.requires.room)

pub patch-requires : goal.patch-requires
patch-requires c =
    let ops = ap (λ (d : Draft). length d.ops) c.in_ok-_row.ensures.ok in
    let same = ap length (closed_ops 1 c.lower_stmts.new.out c.close.new.self c.close.ensures.closed) in
    omega (arith, ops, same, c.here-start.ensures.count, c.in_ok-put.ensures.code.end, c.in_ok-put-2.ensures.code.end, c.in_ok-lower_stmts.ensures.kept.longer, c.in_ok-put-3.ensures.kept.longer, c.in_ok-put_at_risk.ensures.kept.longer)

pub returns : goal.returns
returns c =
    whole_laid c.args.names.now c.args.routine.now c.line_of-line.result c.here-start.result (c.here-end.result + 2) (stmts_of c.body_of.result.now) c.args.out.now c.put.new.out c.put-2.new.out c.open.new.self c.lower_stmts.new.out c.close.new.self c.put-3.new.out c.put_at_risk.new.out c.patch.new.self
    c.line_of-line.ensures c.body_of.ensures c.here-start.ensures.count c.in_ok-put.ensures c.in_ok-put-2.ensures c.in_ok-_row.ensures.ok c.in_ok-_row.ensures.kept c.in_ok-lower_stmts.ensures
    c.close.ensures.closed c.close.ensures.kept c.close.ensures.handler (ap (λ k. k + 2) c.here-end.ensures.count) c.in_ok-put-3.ensures c.in_ok-put_at_risk.ensures c.patch.ensures
