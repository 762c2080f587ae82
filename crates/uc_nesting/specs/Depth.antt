-- How many statements and expressions lie on the longest way from the root of a tree to a leaf.
use Rattle.std.specs.Prelude.{ℕ, ◌+◌, max, List, [], ◌∷◌, Option, Some, None}
use Rattle.uc_tree.specs.Expressions.{Expr, Number, Character, Truth, Name, Cin, Postfix, Unary, Chain, Assign, Exprs, NoExprs, MoreExprs, Part, Field, Index, Call, Step, Parts, NoParts, MoreParts, Link, Linked, Links, NoLinks, MoreLinks}
use Rattle.uc_tree.specs.Statements.{Start, NoStart, StartValue, StartArgs, Declarator, Raised, OutItem, Endl, Literal, Printed, ForStart, NoFor, ForDeclare, ForEvaluate, Stmt, Block, Empty, Evaluate, Declare, If, While, Do, For, Break, Continue, Return, Try, Throw, Raise, RaiseAt, Enable, Disable, Accept, Print, PrintTogether, Read, Resume, Suspend, Yield, Migrate, Stmts, NoStmts, MoreStmts, MaybeStmt, NoStmt, OneStmt, Handles, Handlers, NoHandlers, MoreHandlers, Accepts, Clauses, NoClauses, MoreClauses}
use Rattle.uc_tree.specs.Programs.{Init, Routine, MemberForm, FieldsMember, RoutineMember, ProtoMember, Member, Item, ClassItem, RoutineItem, ConstItem, ProtoItem, ForwardItem, UsingItem, Program}

abbrev mutual
  pub expr_depth : Expr → ℕ
  expr_depth (Number pos value) = 1
  expr_depth (Character pos byte) = 1
  expr_depth (Truth pos value) = 1
  expr_depth (Name pos name) = 1
  expr_depth (Cin pos) = 1
  expr_depth (Postfix pos root parts) = max (expr_depth root) (parts_depth parts) + 1
  expr_depth (Unary pos op operand) = expr_depth operand + 1
  expr_depth (Chain pos first rest) = max (expr_depth first) (links_depth rest) + 1
  expr_depth (Assign pos sign op place value) = max (expr_depth place) (expr_depth value) + 1

  pub exprs_depth : Exprs → ℕ
  exprs_depth NoExprs = 0
  exprs_depth (MoreExprs first rest) = max (expr_depth first) (exprs_depth rest)

  pub part_depth : Part → ℕ
  part_depth (Field sign name) = 0
  part_depth (Index sign index) = expr_depth index
  part_depth (Call sign args) = exprs_depth args
  part_depth (Step sign op) = 0

  pub parts_depth : Parts → ℕ
  parts_depth NoParts = 0
  parts_depth (MoreParts first rest) = max (part_depth first) (parts_depth rest)

  pub link_depth : Link → ℕ
  link_depth (Linked sign op right) = expr_depth right

  pub links_depth : Links → ℕ
  links_depth NoLinks = 0
  links_depth (MoreLinks first rest) = max (link_depth first) (links_depth rest)

abbrev pub maybe_expr_depth : Option Expr → ℕ
maybe_expr_depth None = 0
maybe_expr_depth (Some e) = expr_depth e

abbrev pub start_depth : Start → ℕ
start_depth NoStart = 0
start_depth (StartValue value) = expr_depth value
start_depth (StartArgs args) = exprs_depth args

abbrev pub declarators_depth : List Declarator → ℕ
declarators_depth [] = 0
declarators_depth (d ∷ ds) = max (max (maybe_expr_depth d.len) (start_depth d.start)) (declarators_depth ds)

abbrev pub maybe_raised_depth : Option Raised → ℕ
maybe_raised_depth None = 0
maybe_raised_depth (Some r) = exprs_depth r.args

abbrev pub out_item_depth : OutItem → ℕ
out_item_depth (Endl sign) = 0
out_item_depth (Literal sign text) = 0
out_item_depth (Printed sign value) = expr_depth value

abbrev pub out_items_depth : List OutItem → ℕ
out_items_depth [] = 0
out_items_depth (o ∷ os) = max (out_item_depth o) (out_items_depth os)

abbrev pub for_start_depth : ForStart → ℕ
for_start_depth NoFor = 0
for_start_depth (ForDeclare pos base declarators) = declarators_depth declarators
for_start_depth (ForEvaluate value) = expr_depth value

abbrev mutual
  pub stmt_depth : Stmt → ℕ
  stmt_depth (Block pos body) = block_depth body + 1
  stmt_depth (Empty pos) = 1
  stmt_depth (Evaluate pos value) = expr_depth value + 1
  stmt_depth (Declare pos base declarators) = declarators_depth declarators + 1
  stmt_depth (If pos test chosen other) = max (expr_depth test) (max (stmt_depth chosen) (maybe_stmt_depth other)) + 1
  stmt_depth (While pos test body) = max (expr_depth test) (stmt_depth body) + 1
  stmt_depth (Do pos body test) = max (stmt_depth body) (expr_depth test) + 1
  stmt_depth (For pos start test step body) = max (for_start_depth start) (max (maybe_expr_depth test) (max (maybe_expr_depth step) (stmt_depth body))) + 1
  stmt_depth (Break pos) = 1
  stmt_depth (Continue pos) = 1
  stmt_depth (Return pos value) = maybe_expr_depth value + 1
  stmt_depth (Try pos brace body hs) = max (block_depth body) (handlers_depth hs) + 1
  stmt_depth (Throw pos raised) = maybe_raised_depth raised + 1
  stmt_depth (Raise pos raised) = maybe_raised_depth raised + 1
  stmt_depth (RaiseAt pos raised target) = max (exprs_depth raised.args) (expr_depth target) + 1
  stmt_depth (Enable pos events body) = stmt_depth body + 1
  stmt_depth (Disable pos events body) = stmt_depth body + 1
  stmt_depth (Accept pos cs other) = max (clauses_depth cs) (maybe_stmt_depth other) + 1
  stmt_depth (Print pos items) = out_items_depth items + 1
  stmt_depth (PrintTogether pos items) = out_items_depth items + 1
  stmt_depth (Read pos places) = exprs_depth places + 1
  stmt_depth (Resume pos) = 1
  stmt_depth (Suspend pos) = 1
  stmt_depth (Yield pos) = 1
  stmt_depth (Migrate pos cluster) = expr_depth cluster + 1

  pub block_depth : Stmts → ℕ
  block_depth NoStmts = 0
  block_depth (MoreStmts first rest) = max (stmt_depth first) (block_depth rest)

  pub maybe_stmt_depth : MaybeStmt → ℕ
  maybe_stmt_depth NoStmt = 0
  maybe_stmt_depth (OneStmt body) = stmt_depth body

  pub handlers_depth : Handlers → ℕ
  handlers_depth NoHandlers = 0
  handlers_depth (MoreHandlers (Handles pos kind event param brace body) rest) = max (block_depth body) (handlers_depth rest)

  pub clauses_depth : Clauses → ℕ
  clauses_depth NoClauses = 0
  clauses_depth (MoreClauses (Accepts pos guard members body) rest) = max (max (maybe_expr_depth guard) (stmt_depth body)) (clauses_depth rest)

abbrev pub inits_depth : List Init → ℕ
inits_depth [] = 0
inits_depth (i ∷ is) = max (exprs_depth i.args) (inits_depth is)

abbrev pub routine_depth : Routine → ℕ
routine_depth r = max (inits_depth r.inits) (block_depth r.body)

abbrev pub form_depth : MemberForm → ℕ
form_depth (FieldsMember at base declarators) = declarators_depth declarators
form_depth (RoutineMember r) = routine_depth r
form_depth (ProtoMember s) = 0

abbrev pub members_depth : List Member → ℕ
members_depth [] = 0
members_depth (m ∷ ms) = max (form_depth m.form) (members_depth ms)

abbrev pub item_depth : Item → ℕ
item_depth (ClassItem c) = members_depth c.members
item_depth (RoutineItem r) = routine_depth r
item_depth (ConstItem c) = expr_depth c.value
item_depth (ProtoItem s) = 0
item_depth (ForwardItem f) = 0
item_depth (UsingItem pos) = 0

abbrev pub items_depth : List Item → ℕ
items_depth [] = 0
items_depth (i ∷ is) = max (item_depth i) (items_depth is)

unfoldable pub depth : Program → ℕ
depth p = items_depth p.items
