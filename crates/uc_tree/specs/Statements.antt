-- Statements without pointers.
-- `pos` is the place of the first token, `brace` that of the `{` of a body.
use Rattle.std.specs.Prelude.{ℕ, List, [], ◌∷◌, Bool, Option, Some, None}
use Rattle.uc_tree.specs.declared.pos.Pos.{Pos}
use Rattle.uc_tree.specs.declared.kinds.Base.{Base}
use Rattle.uc_tree.specs.declared.kinds.HandlerKind.{HandlerKind}
use Rattle.uc_tree.specs.declared.kinds.EventName.{EventName}
use Rattle.uc_tree.specs.declared.kinds.MemberName.{MemberName}
use Rattle.uc_tree.specs.Expressions.{Expr, Exprs}

-- how a declared variable starts: with no value, `= value`, or `(args)` or `{args}`
pub data Start : Type 0 where
  NoStart : Start
  StartValue : (value : Expr) → Start
  StartArgs : (args : Exprs) → Start

-- a variable or a field
pub record Declarator : Type 0 where
  pub pos : Pos
  pub by_ref : Bool
  pub name : List ℕ
  pub len : Option Expr
  pub start : Start

-- an event that is raised, with its arguments
pub record Raised : Type 0 where
  pub pos : Pos
  pub name : List ℕ
  pub args : Exprs

-- a printed item, whose place is that of its `<<`
pub data OutItem : Type 0 where
  Endl : (sign : Pos) → OutItem
  Literal : (sign : Pos) (text : List ℕ) → OutItem
  Printed : (sign : Pos) (value : Expr) → OutItem

-- what a `for` begins with
pub data ForStart : Type 0 where
  NoFor : ForStart
  ForDeclare : (pos : Pos) (base : Base) (declarators : List Declarator) → ForStart
  ForEvaluate : (value : Expr) → ForStart

-- one variant for each form of the grammar
mutual
  pub data Stmt : Type 0 where
    Block : (pos : Pos) (body : Stmts) → Stmt
    Empty : (pos : Pos) → Stmt
    Evaluate : (pos : Pos) (value : Expr) → Stmt
    Declare : (pos : Pos) (base : Base) (declarators : List Declarator) → Stmt
    If : (pos : Pos) (test : Expr) (chosen : Stmt) (other : MaybeStmt) → Stmt
    While : (pos : Pos) (test : Expr) (body : Stmt) → Stmt
    Do : (pos : Pos) (body : Stmt) (test : Expr) → Stmt
    For : (pos : Pos) (start : ForStart) (test : Option Expr) (step : Option Expr) (body : Stmt) → Stmt
    Break : (pos : Pos) → Stmt
    Continue : (pos : Pos) → Stmt
    Return : (pos : Pos) (value : Option Expr) → Stmt
    Try : (pos : Pos) (brace : Pos) (body : Stmts) (handlers : Handlers) → Stmt
    -- `_Throw`: the event, or again the one that is handled
    Throw : (pos : Pos) (raised : Option Raised) → Stmt
    -- `_Resume`: the event, or again the one that is handled
    Raise : (pos : Pos) (raised : Option Raised) → Stmt
    -- `_Resume` with `_At`
    RaiseAt : (pos : Pos) (raised : Raised) (target : Expr) → Stmt
    Enable : (pos : Pos) (events : List EventName) (body : Stmt) → Stmt
    Disable : (pos : Pos) (events : List EventName) (body : Stmt) → Stmt
    Accept : (pos : Pos) (clauses : Clauses) (other : MaybeStmt) → Stmt
    Print : (pos : Pos) (items : List OutItem) → Stmt
    -- `osacquire`: the items are printed together
    PrintTogether : (pos : Pos) (items : List OutItem) → Stmt
    Read : (pos : Pos) (places : Exprs) → Stmt
    Resume : (pos : Pos) → Stmt
    Suspend : (pos : Pos) → Stmt
    Yield : (pos : Pos) → Stmt
    Migrate : (pos : Pos) (cluster : Expr) → Stmt

  pub data Stmts : Type 0 where
    NoStmts : Stmts
    MoreStmts : (first : Stmt) (rest : Stmts) → Stmts

  -- the statement of an `else` or an `_Else`, where there is one
  pub data MaybeStmt : Type 0 where
    NoStmt : MaybeStmt
    OneStmt : (body : Stmt) → MaybeStmt

  -- a handler of one event, or of any where none is named
  pub data Handler : Type 0 where
    Handles : (pos : Pos) (kind : HandlerKind) (event : Option (List ℕ)) (param : Option (List ℕ)) (brace : Pos) (body : Stmts) → Handler

  pub data Handlers : Type 0 where
    NoHandlers : Handlers
    MoreHandlers : (first : Handler) (rest : Handlers) → Handlers

  -- a clause of an accept statement
  pub data Clause : Type 0 where
    Accepts : (pos : Pos) (guard : Option Expr) (members : List MemberName) (body : Stmt) → Clause

  pub data Clauses : Type 0 where
    NoClauses : Clauses
    MoreClauses : (first : Clause) (rest : Clauses) → Clauses

-- the lists that trees hold, of lists and back

abbrev pub stmts_of : List Stmt → Stmts
stmts_of [] = NoStmts
stmts_of (s ∷ ss) = MoreStmts s (stmts_of ss)

abbrev pub stmt_list : Stmts → List Stmt
stmt_list NoStmts = []
stmt_list (MoreStmts s ss) = s ∷ stmt_list ss

abbrev pub handlers_of : List Handler → Handlers
handlers_of [] = NoHandlers
handlers_of (h ∷ hs) = MoreHandlers h (handlers_of hs)

abbrev pub handler_list : Handlers → List Handler
handler_list NoHandlers = []
handler_list (MoreHandlers h hs) = h ∷ handler_list hs

abbrev pub clauses_of : List Clause → Clauses
clauses_of [] = NoClauses
clauses_of (c ∷ cs) = MoreClauses c (clauses_of cs)

abbrev pub clause_list : Clauses → List Clause
clause_list NoClauses = []
clause_list (MoreClauses c cs) = c ∷ clause_list cs

abbrev pub maybe_stmt_of : Option Stmt → MaybeStmt
maybe_stmt_of None = NoStmt
maybe_stmt_of (Some s) = OneStmt s

-- the place of a statement's first token
abbrev pub stmt_pos : Stmt → Pos
stmt_pos (Block pos body) = pos
stmt_pos (Empty pos) = pos
stmt_pos (Evaluate pos value) = pos
stmt_pos (Declare pos base declarators) = pos
stmt_pos (If pos test chosen other) = pos
stmt_pos (While pos test body) = pos
stmt_pos (Do pos body test) = pos
stmt_pos (For pos start test step body) = pos
stmt_pos (Break pos) = pos
stmt_pos (Continue pos) = pos
stmt_pos (Return pos value) = pos
stmt_pos (Try pos brace body hs) = pos
stmt_pos (Throw pos raised) = pos
stmt_pos (Raise pos raised) = pos
stmt_pos (RaiseAt pos raised target) = pos
stmt_pos (Enable pos events body) = pos
stmt_pos (Disable pos events body) = pos
stmt_pos (Accept pos cs other) = pos
stmt_pos (Print pos items) = pos
stmt_pos (PrintTogether pos items) = pos
stmt_pos (Read pos places) = pos
stmt_pos (Resume pos) = pos
stmt_pos (Suspend pos) = pos
stmt_pos (Yield pos) = pos
stmt_pos (Migrate pos cluster) = pos
