-- A child is smaller than the statement that holds it.
use Rattle.std.specs.Prelude.{◌+◌, ◌≤◌, List, [], ◌∷◌, Some, None}
use Rattle.std.proofs.Common.{arith}
use denote.Param.Weighed.{most}
use Rattle.uc_tree.specs.declared.pos.Pos.{Pos}
use Rattle.uc_tree.specs.declared.stmt.StmtForm.{StmtForm}
use Rattle.uc_tree.specs.declared.stmt.StmtForm.TheVariants as form
use Rattle.uc_tree.specs.declared.stmt.Clause.TheDeep.{deep-StmtForm}
use Rattle.uc_tree.specs.Statements.{Stmt, Handler, Clause, stmts_of, handlers_of, clauses_of}
use Rattle.uc_tree.specs.StatementSizes.{stmt_size, stmts_size, handler_size, handlers_size, clause_size, clauses_size}
use Rattle.uc_tree.specs.StatementForms.{stmt_at}

pub most_stmts : (ss : List Stmt) → most (λ s. stmt_size s + 1) ss ≤ stmts_size (stmts_of ss) + 1
most_stmts [] = omega arith
most_stmts (s ∷ ss) = omega (arith, most_stmts ss)

pub most_handlers : (hs : List Handler) → most (λ h. handler_size h + 1) hs ≤ handlers_size (handlers_of hs) + 1
most_handlers [] = omega arith
most_handlers (h ∷ hs) = omega (arith, most_handlers hs)

pub most_clauses : (cs : List Clause) → most (λ c. clause_size c + 1) cs ≤ clauses_size (clauses_of cs) + 1
most_clauses [] = omega arith
most_clauses (c ∷ cs) = omega (arith, most_clauses cs)

pub stmt_falls : (p : Pos) (f : StmtForm) → deep-StmtForm f ≤ stmt_size (stmt_at p f)
stmt_falls p (form.Block body) = omega (arith, most_stmts body.items)
stmt_falls p form.Empty = omega arith
stmt_falls p (form.Evaluate value) = omega arith
stmt_falls p (form.Declare base declarators) = omega arith
stmt_falls p (form.If test chosen None) = omega arith
stmt_falls p (form.If test chosen (Some other)) = omega arith
stmt_falls p (form.While test body) = omega arith
stmt_falls p (form.Do body test) = omega arith
stmt_falls p (form.For start test step body) = omega arith
stmt_falls p form.Break = omega arith
stmt_falls p form.Continue = omega arith
stmt_falls p (form.Return value) = omega arith
stmt_falls p (form.Try brace body hs) = omega (arith, most_stmts body.items, most_handlers hs.items)
stmt_falls p (form.Throw raised) = omega arith
stmt_falls p (form.Raise raised) = omega arith
stmt_falls p (form.RaiseAt raised target) = omega arith
stmt_falls p (form.Enable events body) = omega arith
stmt_falls p (form.Disable events body) = omega arith
stmt_falls p (form.Accept cs None) = omega (arith, most_clauses cs.items)
stmt_falls p (form.Accept cs (Some other)) = omega (arith, most_clauses cs.items)
stmt_falls p (form.Print items) = omega arith
stmt_falls p (form.PrintTogether items) = omega arith
stmt_falls p (form.Read places) = omega arith
stmt_falls p form.Resume = omega arith
stmt_falls p form.Suspend = omega arith
stmt_falls p form.Yield = omega arith
stmt_falls p (form.Migrate cluster) = omega arith
