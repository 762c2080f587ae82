-- The walk of the rules through routines: all that is looked at, with what a rule asks of it. The parts of an expression or a
-- declarator come before it, else the order is that of the text.
use Rattle.std.specs.Prelude.{ℕ, ◌+◌, List, [], ◌∷◌, ◌++◌, Bool, true, Option, Some, None, if◌then◌else◌}
use Rattle.uc_tree.specs.declared.pos.Pos.{Pos}
use Rattle.uc_tree.specs.declared.kinds.Base.{Base}
use Rattle.uc_tree.specs.declared.kinds.EventName.{EventName}
use Rattle.uc_tree.specs.declared.kinds.Param.{Param}
use Rattle.uc_tree.specs.declared.ops.UnaryOp.{UnaryOp}
use Rattle.uc_tree.specs.declared.ops.UnaryOp.TheVariants as unary
use Rattle.uc_tree.specs.Expressions as expr
use Rattle.uc_tree.specs.Expressions.{Expr, Exprs, NoExprs, MoreExprs, Part, Parts, NoParts, MoreParts, Link, Linked, Links, NoLinks, MoreLinks, expr_pos}
use Rattle.uc_tree.specs.Statements as stmt
use Rattle.uc_tree.specs.Statements.{Start, NoStart, StartValue, StartArgs, Raised, Declarator, OutItem, ForStart, NoFor, ForDeclare, ForEvaluate, Stmt, Stmts, NoStmts, MoreStmts, MaybeStmt, NoStmt, OneStmt, Handler, Handles, Handlers, NoHandlers, MoreHandlers, Clause, Accepts, Clauses, NoClauses, MoreClauses}
use Rattle.uc_tree.specs.declared.kinds.Access.{Access}
use Rattle.uc_tree.specs.Programs.{Sig, Init, Member, Class, Constant, Item, Program}
use Rattle.uc_rules.specs.declared.rules.Sort.{Sort}
use Rattle.uc_rules.specs.declared.rules.Sort.TheVariants as sort
use Rattle.uc_rules.specs.declared.rules.Entity.{Entity}
use Rattle.uc_rules.specs.declared.rules.Entity.TheVariants.{Input}
use Rattle.uc_rules.specs.declared.rules.FieldPlace.{FieldPlace}
use Rattle.uc_rules.specs.declared.rules.Expected.{Expected}
use Rattle.uc_rules.specs.declared.rules.Target.{Target}
use Rattle.uc_rules.specs.declared.rules.Target.TheVariants as target
use Rattle.uc_rules.specs.Sorts.{sort_of}
use Rattle.uc_rules.specs.Scopes.{Env, opened, block_env, with_joins, declared, with_around, in_loop, in_handler, with_caught, env_after, for_declared, event_sort}
use Rattle.uc_rules.specs.Entities.{entity_of, part_entity, link_entity, count, call_follows, call_target, is_input, expected}

-- what is looked at, with its place and what its parts stand for
pub data Visit : Type 0 where
  -- a name that is used in an expression
  AtUse : (env : Env) (pos : Pos) (name : List ℕ) → Visit
  -- `cin` that is not before a `.`
  AtCin : (pos : Pos) → Visit
  -- an operator of one operand, and of two
  AtOperand : (pos : Pos) (w : Option Entity) → Visit
  AtOperands : (sign : Pos) (w v : Option Entity) → Visit
  -- `++` and `--`
  AtChange : (sign : Pos) (w : Option Entity) → Visit
  AtAssign : (sign : Pos) (w v : Option Entity) → Visit
  -- a member behind a `.`, and whether it is called
  AtMember : (env : Env) (sign : Pos) (called : Bool) (name : List ℕ) (w : Option Entity) → Visit
  AtIndex : (sign : Pos) (w v : Option Entity) → Visit
  -- an argument, and what is asked of it
  AtArgument : (pos : Pos) (x : Expected) (w : Option Entity) → Visit
  -- a call with so many arguments
  AtCall : (env : Env) (sign : Pos) (n : ℕ) (w : Option Entity) → Visit
  -- a base that is used
  AtBase : (env : Env) (pos : Pos) (b : Base) → Visit
  -- an expression that is a statement, a condition, a returned value
  AtStatement : (pos : Pos) (w : Option Entity) → Visit
  AtCondition : (pos : Pos) (w : Option Entity) → Visit
  AtReturn : (env : Env) (pos : Pos) (value : Option (Option Entity)) → Visit
  -- a variable in a block, and what a single value that it starts with stands for
  AtVariable : (env : Env) (b : Base) (d : Declarator) → Visit
  AtPrinted : (sign : Pos) (w : Option Entity) → Visit
  -- the items under an `osacquire`
  AtTogether : (items : List OutItem) → Visit
  AtRead : (pos : Pos) (w : Option Entity) → Visit
  -- `break` and `continue`
  AtLoopExit : (env : Env) (pos : Pos) → Visit
  -- the name of an event, in a raise or in a list
  AtEvent : (env : Env) (pos : Pos) (name : List ℕ) → Visit
  -- a raise with so many arguments
  AtRaise : (env : Env) (pos : Pos) (name : List ℕ) (n : ℕ) → Visit
  -- a raise of the event that is handled
  AtAgain : (env : Env) (pos : Pos) → Visit
  -- the object after `_At`, and that of `migrate`
  AtRaiseTarget : (pos : Pos) (w : Option Entity) → Visit
  AtMigrate : (pos : Pos) (w : Option Entity) → Visit
  -- a handler's parameter or block, which is declared in an environment
  AtCaught : (env : Env) (pos : Pos) (name : Option (List ℕ)) → Visit
  AtHandlers : (env : Env) (hs : Handlers) → Visit
  AtAccept : (env : Env) (pos : Pos) (cs : Clauses) → Visit
  -- `resume` and `suspend`
  AtSwitch : (env : Env) (pos : Pos) → Visit
  -- the argument of an initialiser, and what is asked of it
  AtBound : (env : Env) (e : Expr) (x : Expected) → Visit
  -- an initialiser, behind others, with the last field that they name
  AtInit : (env : Env) (init : Init) (last : Option FieldPlace) → Visit
  -- a routine with its initialisers
  AtInits : (env : Env) (sig : Sig) (inits : List Init) → Visit
  AtSig : (env : Env) (sig : Sig) → Visit
  AtParam : (env : Env) (param : Param) → Visit
  AtField : (env : Env) (class : Class) (access : Access) (b : Base) (d : Declarator) (field : FieldPlace) → Visit
  -- a member that is a routine or a prototype, by its place
  AtRoutine : (env : Env) (class : Class) (proto : Bool) (sig : Sig) (member : ℕ) → Visit
  AtMark : (env : Env) (class : Class) (m : Member) → Visit
  -- a class by its place
  AtClass : (env : Env) (class : Class) (place : ℕ) → Visit
  AtConstant : (env : Env) (constant : Constant) → Visit
  -- an item by its place
  AtItem : (program : Program) (item : Item) (place : ℕ) → Visit
  AtProgram : (program : Program) → Visit

abbrev pub unary_visit : Pos → UnaryOp → Option Entity → Visit
unary_visit p unary.Minus w = AtOperand p w
unary_visit p unary.Plus w = AtOperand p w
unary_visit p unary.Not w = AtOperand p w
unary_visit p unary.Increment w = AtChange p w
unary_visit p unary.Decrement w = AtChange p w

-- the visits in expressions
module _ (env : Env) where
  abbrev pub root_entity : Expr → Parts → Option Entity
  root_entity root parts = if is_input root parts then Some Input else entity_of env root

  abbrev mutual
    pub visits : Expr → List Visit
    visits (expr.Number p n) = []
    visits (expr.Character p byte) = []
    visits (expr.Truth p b) = []
    visits (expr.Name p name) = AtUse env p name ∷ []
    visits (expr.Cin p) = AtCin p ∷ []
    visits (expr.Postfix p root parts) = (if is_input root parts then [] else visits root) ++ parts_visits parts (root_entity root parts)
    visits (expr.Unary p op operand) = visits operand ++ unary_visit p op (entity_of env operand) ∷ []
    visits (expr.Chain p first rest) = visits first ++ chain_visits rest (entity_of env first)
    visits (expr.Assign p sign op place value) = visits place ++ (visits value ++ AtAssign sign (entity_of env place) (entity_of env value) ∷ [])

    pub part_visits : Part → Bool → Option Entity → List Visit
    part_visits (expr.Field sign name) called w = AtMember env sign called name w ∷ []
    part_visits (expr.Index sign index) called w = visits index ++ AtIndex sign w (entity_of env index) ∷ []
    part_visits (expr.Call sign args) called w = args_visits args (call_target w) 0 ++ AtCall env sign (count args) w ∷ []
    part_visits (expr.Step sign op) called w = AtChange sign w ∷ []

    pub parts_visits : Parts → Option Entity → List Visit
    parts_visits NoParts w = []
    parts_visits (MoreParts first rest) w = part_visits first (call_follows rest) w ++ parts_visits rest (part_entity env first (call_follows rest) w)

    pub link_visits : Link → Option Entity → List Visit
    link_visits (Linked sign op right) left = visits right ++ AtOperands sign left (entity_of env right) ∷ []

    pub chain_visits : Links → Option Entity → List Visit
    chain_visits NoLinks left = []
    chain_visits (MoreLinks first rest) left = link_visits first left ++ chain_visits rest (link_entity env first left)

    -- the arguments for a target from its place i on
    pub args_visits : Exprs → Target → ℕ → List Visit
    args_visits NoExprs t i = []
    args_visits (MoreExprs e es) t i = (visits e ++ AtArgument (expr_pos e) (expected env.program t i) (entity_of env e) ∷ []) ++ args_visits es t (i + 1)

  -- one argument
  abbrev pub arg_visits : Expr → Expected → List Visit
  arg_visits e x = visits e ++ AtArgument (expr_pos e) x (entity_of env e) ∷ []

-- the visits in parts of statements

abbrev pub maybe_visits : Env → Option Expr → List Visit
maybe_visits env None = []
maybe_visits env (Some e) = visits env e

abbrev pub condition_visits : Env → Expr → List Visit
condition_visits env e = visits env e ++ AtCondition (expr_pos e) (entity_of env e) ∷ []

abbrev pub maybe_condition_visits : Env → Option Expr → List Visit
maybe_condition_visits env None = []
maybe_condition_visits env (Some e) = condition_visits env e

-- an expression whose value is not used
abbrev pub statement_visits : Env → Expr → List Visit
statement_visits env e = visits env e ++ AtStatement (expr_pos e) (entity_of env e) ∷ []

abbrev pub maybe_statement_visits : Env → Option Expr → List Visit
maybe_statement_visits env None = []
maybe_statement_visits env (Some e) = statement_visits env e

abbrev pub return_visits : Env → Pos → Option Expr → List Visit
return_visits env p None = AtReturn env p None ∷ []
return_visits env p (Some e) = visits env e ++ AtReturn env p (Some (entity_of env e)) ∷ []

-- the values that a variable starts with
abbrev pub start_values : Start → Exprs
start_values NoStart = NoExprs
start_values (StartValue e) = MoreExprs e NoExprs
start_values (StartArgs es) = es

-- to what the values go that a variable of this sort starts with
abbrev pub single_target : Sort → Target
single_target sort.Void = target.Scalar
single_target sort.Int = target.Scalar
single_target sort.Char = target.Scalar
single_target sort.Bool = target.Scalar
single_target sort.Condition = target.Nothing
single_target sort.Cluster = target.Nothing
single_target sort.Processor = target.Reference sort.Cluster
single_target (sort.Object class k) = target.Constructor class

abbrev pub start_target : Option Expr → Sort → Target
start_target (Some len) s = target.Scalar
start_target None s = single_target s

abbrev pub variable_target : Option Expr → Option Sort → Target
variable_target len None = target.Unknown
variable_target len (Some s) = start_target len s

abbrev pub variable_visits : Env → Base → Declarator → List Visit
variable_visits env b d = maybe_visits env d.len ++ (args_visits env (start_values d.start) (variable_target d.len (sort_of env.program b)) 0 ++ AtVariable env b d ∷ [])

-- a variable is seen from the end of its declarator on
abbrev pub variables_visits : Env → Base → List Declarator → List Visit
variables_visits env b [] = []
variables_visits env b (d ∷ ds) = variable_visits env b d ++ variables_visits (declared env b d) b ds

abbrev pub declaration_visits : Env → Pos → Base → List Declarator → List Visit
declaration_visits env p b ds = AtBase env p b ∷ variables_visits env b ds

abbrev pub for_visits : Env → ForStart → List Visit
for_visits env NoFor = []
for_visits env (ForDeclare p b ds) = declaration_visits env p b ds
for_visits env (ForEvaluate e) = statement_visits env e

abbrev pub out_visits : Env → OutItem → List Visit
out_visits env (stmt.Printed sign e) = visits env e ++ AtPrinted sign (entity_of env e) ∷ []
out_visits env _ = []

abbrev pub outs_visits : Env → List OutItem → List Visit
outs_visits env [] = []
outs_visits env (o ∷ os) = out_visits env o ++ outs_visits env os

abbrev pub read_visits : Env → Expr → List Visit
read_visits env e = visits env e ++ AtRead (expr_pos e) (entity_of env e) ∷ []

abbrev pub reads_visits : Env → Exprs → List Visit
reads_visits env NoExprs = []
reads_visits env (MoreExprs e es) = read_visits env e ++ reads_visits env es

-- to what the arguments of an event go
abbrev pub class_target : Sort → Target
class_target (sort.Object class k) = target.Constructor class
class_target _ = target.Unknown

abbrev pub event_class_target : Option Sort → Target
event_class_target None = target.Unknown
event_class_target (Some s) = class_target s

abbrev pub event_target : Env → List ℕ → Target
event_target env name = event_class_target (event_sort env.program name)

abbrev pub raised_visits : Env → Pos → Raised → List Visit
raised_visits env p r = AtEvent env r.pos r.name ∷ (args_visits env r.args (event_target env r.name) 0 ++ AtRaise env p r.name (count r.args) ∷ [])

abbrev pub raise_visits : Env → Pos → Option Raised → List Visit
raise_visits env p None = AtAgain env p ∷ []
raise_visits env p (Some r) = raised_visits env p r

abbrev pub events_visits : Env → List EventName → List Visit
events_visits env [] = []
events_visits env (x ∷ xs) = AtEvent env x.pos x.name ∷ events_visits env xs

abbrev pub looped : Env → Env
looped env = with_around env (in_loop env.around)

abbrev pub joined : Env → Env
joined env = with_around env (with_joins true env.around)

-- the environment of a handler's block, before its parameter is declared
abbrev pub handling : Env → Env
handling env = opened (with_around env (in_handler env.around))

-- the visits in statements. A statement that stands in another one has a scope of its own; a `for` is one scope with its
-- declaration and its statement, and a handler with its parameter and its block.
abbrev mutual
  pub stmt_visits : Stmt → Env → List Visit
  stmt_visits (stmt.Block p body) env = stmts_visits body (block_env env)
  stmt_visits (stmt.Empty p) env = []
  stmt_visits (stmt.Evaluate p e) env = statement_visits env e
  stmt_visits (stmt.Declare p b ds) env = declaration_visits env p b ds
  stmt_visits (stmt.If p test chosen other) env = condition_visits env test ++ (stmt_visits chosen (opened env) ++ maybe_stmt_visits other env)
  stmt_visits (stmt.While p test body) env = condition_visits env test ++ stmt_visits body (opened (looped env))
  stmt_visits (stmt.Do p body test) env = stmt_visits body (opened (looped env)) ++ condition_visits env test
  stmt_visits (stmt.For p start test step body) env = for_visits (opened env) start ++ (maybe_condition_visits (for_declared (opened env) start) test ++ (maybe_statement_visits (for_declared (opened env) start) step ++ stmt_visits body (joined (looped (for_declared (opened env) start)))))
  stmt_visits (stmt.Break p) env = AtLoopExit env p ∷ []
  stmt_visits (stmt.Continue p) env = AtLoopExit env p ∷ []
  stmt_visits (stmt.Return p value) env = return_visits env p value
  stmt_visits (stmt.Try p brace body hs) env = stmts_visits body (opened env) ++ (AtHandlers env hs ∷ handlers_visits hs env)
  stmt_visits (stmt.Throw p raised) env = raise_visits env p raised
  stmt_visits (stmt.Raise p raised) env = raise_visits env p raised
  stmt_visits (stmt.RaiseAt p raised target) env = raised_visits env p raised ++ (visits env target ++ AtRaiseTarget (expr_pos target) (entity_of env target) ∷ [])
  stmt_visits (stmt.Enable p events body) env = events_visits env events ++ stmt_visits body (opened env)
  stmt_visits (stmt.Disable p events body) env = events_visits env events ++ stmt_visits body (opened env)
  stmt_visits (stmt.Accept p cs other) env = AtAccept env p cs ∷ (clauses_visits cs env ++ maybe_stmt_visits other env)
  stmt_visits (stmt.Print p items) env = outs_visits env items
  stmt_visits (stmt.PrintTogether p items) env = outs_visits env items ++ AtTogether items ∷ []
  stmt_visits (stmt.Read p es) env = reads_visits env es
  stmt_visits (stmt.Resume p) env = AtSwitch env p ∷ []
  stmt_visits (stmt.Suspend p) env = AtSwitch env p ∷ []
  stmt_visits (stmt.Yield p) env = []
  stmt_visits (stmt.Migrate p e) env = visits env e ++ AtMigrate (expr_pos e) (entity_of env e) ∷ []

  pub stmts_visits : Stmts → Env → List Visit
  stmts_visits NoStmts env = []
  stmts_visits (MoreStmts first rest) env = stmt_visits first env ++ stmts_visits rest (env_after env first)

  pub maybe_stmt_visits : MaybeStmt → Env → List Visit
  maybe_stmt_visits NoStmt env = []
  maybe_stmt_visits (OneStmt body) env = stmt_visits body (opened env)

  pub handler_visits : Handler → Env → List Visit
  handler_visits (Handles p kind event param brace body) env = AtCaught (handling env) p param ∷ stmts_visits body (with_caught (handling env) event param)

  pub handlers_visits : Handlers → Env → List Visit
  handlers_visits NoHandlers env = []
  handlers_visits (MoreHandlers first rest) env = handler_visits first env ++ handlers_visits rest env

  pub clause_visits : Clause → Env → List Visit
  clause_visits (Accepts p guard members body) env = maybe_condition_visits env guard ++ stmt_visits body (opened env)

  pub clauses_visits : Clauses → Env → List Visit
  clauses_visits NoClauses env = []
  clauses_visits (MoreClauses first rest) env = clause_visits first env ++ clauses_visits rest env
