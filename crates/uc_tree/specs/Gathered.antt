-- What the statements of a body give, in textual order: first a statement's own, then that of the statements in it.
use Rattle.std.specs.Prelude.{List, [], ◌++◌}
use Rattle.uc_tree.specs.Statements.{Stmt, Block, Empty, Evaluate, Declare, If, While, Do, For, Break, Continue, Return, Try, Throw, Raise, RaiseAt, Enable, Disable, Accept, Print, PrintTogether, Read, Resume, Suspend, Yield, Migrate, Stmts, NoStmts, MoreStmts, MaybeStmt, NoStmt, OneStmt, Handler, Handles, Handlers, NoHandlers, MoreHandlers, Clause, Accepts, Clauses, NoClauses, MoreClauses}

module _ {A : Type 0} (own : Stmt → List A) where
  abbrev mutual
    pub gathered : Stmt → List A
    gathered (Block pos body) = own (Block pos body) ++ gathered_all body
    gathered (Empty pos) = own (Empty pos)
    gathered (Evaluate pos value) = own (Evaluate pos value)
    gathered (Declare pos base ds) = own (Declare pos base ds)
    gathered (If pos test chosen other) = own (If pos test chosen other) ++ gathered chosen ++ gathered_maybe other
    gathered (While pos test body) = own (While pos test body) ++ gathered body
    gathered (Do pos body test) = own (Do pos body test) ++ gathered body
    gathered (For pos start test step body) = own (For pos start test step body) ++ gathered body
    gathered (Break pos) = own (Break pos)
    gathered (Continue pos) = own (Continue pos)
    gathered (Return pos value) = own (Return pos value)
    gathered (Try pos brace body hs) = own (Try pos brace body hs) ++ gathered_all body ++ gathered_handlers hs
    gathered (Throw pos raised) = own (Throw pos raised)
    gathered (Raise pos raised) = own (Raise pos raised)
    gathered (RaiseAt pos raised target) = own (RaiseAt pos raised target)
    gathered (Enable pos events body) = own (Enable pos events body) ++ gathered body
    gathered (Disable pos events body) = own (Disable pos events body) ++ gathered body
    gathered (Accept pos cs other) = own (Accept pos cs other) ++ gathered_clauses cs ++ gathered_maybe other
    gathered (Print pos items) = own (Print pos items)
    gathered (PrintTogether pos items) = own (PrintTogether pos items)
    gathered (Read pos places) = own (Read pos places)
    gathered (Resume pos) = own (Resume pos)
    gathered (Suspend pos) = own (Suspend pos)
    gathered (Yield pos) = own (Yield pos)
    gathered (Migrate pos cluster) = own (Migrate pos cluster)

    pub gathered_all : Stmts → List A
    gathered_all NoStmts = []
    gathered_all (MoreStmts first rest) = gathered first ++ gathered_all rest

    pub gathered_maybe : MaybeStmt → List A
    gathered_maybe NoStmt = []
    gathered_maybe (OneStmt body) = gathered body

    pub gathered_handler : Handler → List A
    gathered_handler (Handles pos kind event param brace body) = gathered_all body

    pub gathered_handlers : Handlers → List A
    gathered_handlers NoHandlers = []
    gathered_handlers (MoreHandlers first rest) = gathered_handler first ++ gathered_handlers rest

    pub gathered_clause : Clause → List A
    gathered_clause (Accepts pos guard members body) = gathered body

    pub gathered_clauses : Clauses → List A
    gathered_clauses NoClauses = []
    gathered_clauses (MoreClauses first rest) = gathered_clause first ++ gathered_clauses rest
