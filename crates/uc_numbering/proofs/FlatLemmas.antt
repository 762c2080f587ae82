-- What is gathered of a body is what its statements give, one after another.
use Rattle.std.proofs.Common.{◌≡◌, List, [], ◌∷◌, ◌++◌, refl, ap, sym, ◌∙◌, append_assoc, append-nil}
use Rattle.uc_tree.specs.Statements.{Stmt, Block, Empty, Evaluate, Declare, If, While, Do, For, Break, Continue, Return, Try, Throw, Raise, RaiseAt, Enable, Disable, Accept, Print, PrintTogether, Read, Resume, Suspend, Yield, Migrate, Stmts, NoStmts, MoreStmts, MaybeStmt, NoStmt, OneStmt, Handler, Handles, Handlers, NoHandlers, MoreHandlers, Clause, Accepts, Clauses, NoClauses, MoreClauses}
use Rattle.uc_tree.specs.Gathered.{gathered, gathered_all, gathered_maybe, gathered_handler, gathered_handlers, gathered_clause, gathered_clauses}
use Rattle.uc_numbering.specs.Flat.{itself, flat}

flat_append : {A : Type 0} (own : Stmt → List A) (xs ys : List Stmt) → flat own (xs ++ ys) ≡ flat own xs ++ flat own ys
flat_append own [] ys = refl
flat_append own (x ∷ xs) ys = ap (λ l. own x ++ l) (flat_append own xs ys) ∙ sym (append_assoc (own x) (flat own xs) (flat own ys))

-- a statement, and what one or two lists of statements in it give

flat_one : {A : Type 0} (own : Stmt → List A) (s : Stmt) (xs : List Stmt) (g : List A) → flat own xs ≡ g → flat own (itself s ++ xs) ≡ own s ++ g
flat_one own s xs g e = ap (λ l. own s ++ l) e

flat_none : {A : Type 0} (own : Stmt → List A) (s : Stmt) → flat own (itself s) ≡ own s
flat_none own s = append-nil (own s)

flat_both : {A : Type 0} (own : Stmt → List A) (xs ys : List Stmt) (g h : List A) → flat own xs ≡ g → flat own ys ≡ h → flat own (xs ++ ys) ≡ g ++ h
flat_both own xs ys g h e f = flat_append own xs ys ∙ ap (λ l. l ++ flat own ys) e ∙ ap (λ l. g ++ l) f

flat_two : {A : Type 0} (own : Stmt → List A) (s : Stmt) (xs ys : List Stmt) (g h : List A) → flat own xs ≡ g → flat own ys ≡ h → flat own (itself s ++ xs ++ ys) ≡ own s ++ g ++ h
flat_two own s xs ys g h e f = flat_both own (itself s ++ xs) ys (own s ++ g) h (flat_one own s xs g e) f

mutual
  pub flat_stmt : {A : Type 0} (own : Stmt → List A) (s : Stmt) → flat own (gathered itself s) ≡ gathered own s
  flat_stmt own (Block pos body) = flat_one own (Block pos body) (gathered_all itself body) (gathered_all own body) (flat_all own body)
  flat_stmt own (If pos test chosen other) = flat_two own (If pos test chosen other) (gathered itself chosen) (gathered_maybe itself other) (gathered own chosen) (gathered_maybe own other) (flat_stmt own chosen) (flat_maybe own other)
  flat_stmt own (While pos test body) = flat_one own (While pos test body) (gathered itself body) (gathered own body) (flat_stmt own body)
  flat_stmt own (Do pos body test) = flat_one own (Do pos body test) (gathered itself body) (gathered own body) (flat_stmt own body)
  flat_stmt own (For pos start test step body) = flat_one own (For pos start test step body) (gathered itself body) (gathered own body) (flat_stmt own body)
  flat_stmt own (Try pos brace body hs) = flat_two own (Try pos brace body hs) (gathered_all itself body) (gathered_handlers itself hs) (gathered_all own body) (gathered_handlers own hs) (flat_all own body) (flat_handlers own hs)
  flat_stmt own (Enable pos events body) = flat_one own (Enable pos events body) (gathered itself body) (gathered own body) (flat_stmt own body)
  flat_stmt own (Disable pos events body) = flat_one own (Disable pos events body) (gathered itself body) (gathered own body) (flat_stmt own body)
  flat_stmt own (Accept pos cs other) = flat_two own (Accept pos cs other) (gathered_clauses itself cs) (gathered_maybe itself other) (gathered_clauses own cs) (gathered_maybe own other) (flat_clauses own cs) (flat_maybe own other)
  flat_stmt own (Empty pos) = flat_none own (Empty pos)
  flat_stmt own (Evaluate pos value) = flat_none own (Evaluate pos value)
  flat_stmt own (Declare pos base ds) = flat_none own (Declare pos base ds)
  flat_stmt own (Break pos) = flat_none own (Break pos)
  flat_stmt own (Continue pos) = flat_none own (Continue pos)
  flat_stmt own (Return pos value) = flat_none own (Return pos value)
  flat_stmt own (Throw pos raised) = flat_none own (Throw pos raised)
  flat_stmt own (Raise pos raised) = flat_none own (Raise pos raised)
  flat_stmt own (RaiseAt pos raised target) = flat_none own (RaiseAt pos raised target)
  flat_stmt own (Print pos items) = flat_none own (Print pos items)
  flat_stmt own (PrintTogether pos items) = flat_none own (PrintTogether pos items)
  flat_stmt own (Read pos places) = flat_none own (Read pos places)
  flat_stmt own (Resume pos) = flat_none own (Resume pos)
  flat_stmt own (Suspend pos) = flat_none own (Suspend pos)
  flat_stmt own (Yield pos) = flat_none own (Yield pos)
  flat_stmt own (Migrate pos cluster) = flat_none own (Migrate pos cluster)

  pub flat_all : {A : Type 0} (own : Stmt → List A) (ss : Stmts) → flat own (gathered_all itself ss) ≡ gathered_all own ss
  flat_all own NoStmts = refl
  flat_all own (MoreStmts first rest) = flat_both own (gathered itself first) (gathered_all itself rest) (gathered own first) (gathered_all own rest) (flat_stmt own first) (flat_all own rest)

  pub flat_maybe : {A : Type 0} (own : Stmt → List A) (m : MaybeStmt) → flat own (gathered_maybe itself m) ≡ gathered_maybe own m
  flat_maybe own NoStmt = refl
  flat_maybe own (OneStmt body) = flat_stmt own body

  pub flat_handler : {A : Type 0} (own : Stmt → List A) (h : Handler) → flat own (gathered_handler itself h) ≡ gathered_handler own h
  flat_handler own (Handles pos kind event param brace body) = flat_all own body

  pub flat_handlers : {A : Type 0} (own : Stmt → List A) (hs : Handlers) → flat own (gathered_handlers itself hs) ≡ gathered_handlers own hs
  flat_handlers own NoHandlers = refl
  flat_handlers own (MoreHandlers first rest) = flat_both own (gathered_handler itself first) (gathered_handlers itself rest) (gathered_handler own first) (gathered_handlers own rest) (flat_handler own first) (flat_handlers own rest)

  pub flat_clause : {A : Type 0} (own : Stmt → List A) (c : Clause) → flat own (gathered_clause itself c) ≡ gathered_clause own c
  flat_clause own (Accepts pos guard members body) = flat_stmt own body

  pub flat_clauses : {A : Type 0} (own : Stmt → List A) (cs : Clauses) → flat own (gathered_clauses itself cs) ≡ gathered_clauses own cs
  flat_clauses own NoClauses = refl
  flat_clauses own (MoreClauses first rest) = flat_both own (gathered_clause itself first) (gathered_clauses itself rest) (gathered_clause own first) (gathered_clauses own rest) (flat_clause own first) (flat_clauses own rest)
