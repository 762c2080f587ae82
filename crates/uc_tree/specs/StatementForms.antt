-- The tree of a statement's form.
use Rattle.uc_tree.specs.declared.pos.Pos.{Pos}
use Rattle.uc_tree.specs.declared.stmt.StmtForm.{StmtForm}
use Rattle.uc_tree.specs.declared.stmt.StmtForm.TheVariants as form
use Rattle.uc_tree.specs.Expressions.{exprs_of}
use Rattle.uc_tree.specs.Statements.{Stmt, Block, Empty, Evaluate, Declare, If, While, Do, For, Break, Continue, Return, Try, Throw, Raise, RaiseAt, Enable, Disable, Accept, Print, PrintTogether, Read, Resume, Suspend, Yield, Migrate, stmts_of, handlers_of, clauses_of}
use Rattle.uc_tree.specs.StatementViews.{maybe_at}

abbrev pub stmt_at : Pos → StmtForm → Stmt
stmt_at p (form.Block body) = Block p (stmts_of body.items)
stmt_at p form.Empty = Empty p
stmt_at p (form.Evaluate value) = Evaluate p value
stmt_at p (form.Declare base declarators) = Declare p base declarators.items
stmt_at p (form.If test chosen other) = If p test chosen.value (maybe_at other)
stmt_at p (form.While test body) = While p test body.value
stmt_at p (form.Do body test) = Do p body.value test
stmt_at p (form.For start test step body) = For p start test step body.value
stmt_at p form.Break = Break p
stmt_at p form.Continue = Continue p
stmt_at p (form.Return value) = Return p value
stmt_at p (form.Try brace body hs) = Try p brace (stmts_of body.items) (handlers_of hs.items)
stmt_at p (form.Throw raised) = Throw p raised
stmt_at p (form.Raise raised) = Raise p raised
stmt_at p (form.RaiseAt raised target) = RaiseAt p raised target
stmt_at p (form.Enable events body) = Enable p events.items body.value
stmt_at p (form.Disable events body) = Disable p events.items body.value
stmt_at p (form.Accept cs other) = Accept p (clauses_of cs.items) (maybe_at other)
stmt_at p (form.Print items) = Print p items.items
stmt_at p (form.PrintTogether items) = PrintTogether p items.items
stmt_at p (form.Read places) = Read p (exprs_of places.items)
stmt_at p form.Resume = Resume p
stmt_at p form.Suspend = Suspend p
stmt_at p form.Yield = Yield p
stmt_at p (form.Migrate cluster) = Migrate p cluster
