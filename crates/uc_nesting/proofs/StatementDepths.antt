-- Why statements and programs of few levels are not deep.
use Rattle.std.proofs.Common.{◌+◌, ◌*◌, ◌≤◌, List, [], ◌∷◌, Option, Some, None, arith}
use Rattle.std.specs.Prelude.{max}
use Rattle.uc_tree.specs.Expressions.{Expr, Exprs, NoExprs, MoreExprs}
use Rattle.uc_tree.specs.Statements.{Start, NoStart, StartValue, StartArgs, Declarator, Raised, OutItem, Endl, Literal, Printed, ForStart, NoFor, ForDeclare, ForEvaluate, Stmt, Block, Empty, Evaluate, Declare, If, While, Do, For, Break, Continue, Return, Try, Throw, Raise, RaiseAt, Enable, Disable, Accept, Print, PrintTogether, Read, Resume, Suspend, Yield, Migrate, Stmts, NoStmts, MoreStmts, MaybeStmt, NoStmt, OneStmt, Handlers, NoHandlers, MoreHandlers, Handles, Clauses, NoClauses, MoreClauses, Accepts}
use Rattle.uc_tree.specs.Programs.{Init, Routine, MemberForm, FieldsMember, RoutineMember, ProtoMember, Member, Item, ClassItem, RoutineItem, ConstItem, ProtoItem, ForwardItem, UsingItem, Program}
use Rattle.uc_nesting.specs.ExpressionNesting.{postfix, sum, expr_nesting, args_nesting, nesting_at}
use Rattle.uc_nesting.specs.StatementNesting.{maybe_expr_nesting, length_nesting, start_nesting, declarator_nesting, declarators_nesting, maybe_raised_nesting, out_item_nesting, out_items_nesting, for_start_nesting, places_nesting, stmt_nesting, block_nesting, maybe_stmt_nesting, handlers_nesting, clauses_nesting}
use Rattle.uc_nesting.specs.Nesting.{inits_nesting, routine_nesting, form_nesting, members_nesting, item_nesting, items_nesting, nesting}
use Rattle.uc_nesting.specs.Depth.{expr_depth, exprs_depth, maybe_expr_depth, start_depth, declarators_depth, maybe_raised_depth, out_item_depth, out_items_depth, for_start_depth, stmt_depth, block_depth, maybe_stmt_depth, handlers_depth, clauses_depth, inits_depth, routine_depth, form_depth, members_depth, item_depth, items_depth, depth}
use Rattle.uc_nesting.proofs.DepthLemmas.{deeper_of, in_place, whole, shallow, shallow_args}

exprs : (e : Expr) → expr_depth e ≤ 11 * expr_nesting e + 11
exprs e = whole e (shallow e)

maybe : (e : Option Expr) → maybe_expr_depth e ≤ 11 * maybe_expr_nesting e + 11
maybe None = omega arith
maybe (Some e) = exprs e

lengths : (e : Option Expr) → maybe_expr_depth e ≤ 11 * length_nesting e + 11
lengths None = omega arith
lengths (Some e) = omega (arith, exprs e)

starts : (s : Start) → start_depth s ≤ 11 * start_nesting s + 11
starts NoStart = omega arith
starts (StartValue value) = exprs value
starts (StartArgs args) = omega (arith, shallow_args args)

declared : (ds : List Declarator) → declarators_depth ds ≤ 11 * declarators_nesting ds + 11
declared [] = omega arith
declared (d ∷ ds) = deeper_of 11 (declarator_nesting d) (declarators_nesting ds) (max (maybe_expr_depth d.len) (start_depth d.start)) (declarators_depth ds) (deeper_of 11 (length_nesting d.len) (start_nesting d.start) (maybe_expr_depth d.len) (start_depth d.start) (lengths d.len) (starts d.start)) (declared ds)

raised : (r : Option Raised) → maybe_raised_depth r ≤ 11 * maybe_raised_nesting r + 11
raised None = omega arith
raised (Some r) = omega (arith, shallow_args r.args)

item : (o : OutItem) → out_item_depth o ≤ 11 * out_item_nesting o + 11
item (Endl sign) = omega arith
item (Literal sign text) = omega arith
item (Printed sign value) = omega (arith, in_place sum value (shallow value))

items : (os : List OutItem) → out_items_depth os ≤ 11 * out_items_nesting os + 11
items [] = omega arith
items (o ∷ os) = deeper_of 11 (out_item_nesting o) (out_items_nesting os) (out_item_depth o) (out_items_depth os) (item o) (items os)

places : (es : Exprs) → exprs_depth es ≤ 11 * places_nesting es + 11
places NoExprs = omega arith
places (MoreExprs first rest) = deeper_of 11 (nesting_at postfix first) (places_nesting rest) (expr_depth first) (exprs_depth rest) (omega (arith, in_place postfix first (shallow first))) (places rest)

begins : (s : ForStart) → for_start_depth s ≤ 11 * for_start_nesting s + 11
begins NoFor = omega arith
begins (ForDeclare pos base declarators) = declared declarators
begins (ForEvaluate value) = exprs value

-- a statement that is a level inside of another
under : (s : Stmt) → stmt_depth s ≤ 11 * stmt_nesting s + 12 → stmt_depth s ≤ 11 * (stmt_nesting s + 1) + 11
under s h = omega (arith, h)

mutual
  stmt : (s : Stmt) → stmt_depth s ≤ 11 * stmt_nesting s + 12
  stmt (Block pos body) = omega (arith, block body)
  stmt (Empty pos) = omega arith
  stmt (Evaluate pos value) = omega (arith, exprs value)
  stmt (Declare pos base declarators) = omega (arith, declared declarators)
  stmt (If pos test chosen other) =
      let bodies = deeper_of 11 (stmt_nesting chosen + 1) (maybe_stmt_nesting other) (stmt_depth chosen) (maybe_stmt_depth other) (under chosen (stmt chosen)) (other_stmt other) in
      omega (arith, deeper_of 11 (expr_nesting test) (max (stmt_nesting chosen + 1) (maybe_stmt_nesting other)) (expr_depth test) (max (stmt_depth chosen) (maybe_stmt_depth other)) (exprs test) bodies)
  stmt (While pos test body) = omega (arith, deeper_of 11 (expr_nesting test) (stmt_nesting body + 1) (expr_depth test) (stmt_depth body) (exprs test) (under body (stmt body)))
  stmt (Do pos body test) = omega (arith, deeper_of 11 (stmt_nesting body + 1) (expr_nesting test) (stmt_depth body) (expr_depth test) (under body (stmt body)) (exprs test))
  stmt (For pos start test step body) =
      let third = deeper_of 11 (maybe_expr_nesting step) (stmt_nesting body + 1) (maybe_expr_depth step) (stmt_depth body) (maybe step) (under body (stmt body)) in
      let second = deeper_of 11 (maybe_expr_nesting test) (max (maybe_expr_nesting step) (stmt_nesting body + 1)) (maybe_expr_depth test) (max (maybe_expr_depth step) (stmt_depth body)) (maybe test) third in
      omega (arith, deeper_of 11 (for_start_nesting start) (max (maybe_expr_nesting test) (max (maybe_expr_nesting step) (stmt_nesting body + 1))) (for_start_depth start) (max (maybe_expr_depth test) (max (maybe_expr_depth step) (stmt_depth body))) (begins start) second)
  stmt (Break pos) = omega arith
  stmt (Continue pos) = omega arith
  stmt (Return pos value) = omega (arith, maybe value)
  stmt (Try pos brace body hs) = omega (arith, deeper_of 0 (block_nesting body) (handlers_nesting hs) (block_depth body) (handlers_depth hs) (omega (arith, block body)) (omega (arith, handlers hs)))
  stmt (Throw pos r) = omega (arith, raised r)
  stmt (Raise pos r) = omega (arith, raised r)
  stmt (RaiseAt pos r target) = omega (arith, deeper_of 11 (args_nesting r.args) (nesting_at postfix target) (exprs_depth r.args) (expr_depth target) (omega (arith, shallow_args r.args)) (omega (arith, in_place postfix target (shallow target))))
  stmt (Enable pos events body) = omega (arith, stmt body)
  stmt (Disable pos events body) = omega (arith, stmt body)
  stmt (Accept pos cs other) = omega (arith, deeper_of 11 (clauses_nesting cs) (maybe_stmt_nesting other) (clauses_depth cs) (maybe_stmt_depth other) (clauses cs) (other_stmt other))
  stmt (Print pos os) = omega (arith, items os)
  stmt (PrintTogether pos os) = omega (arith, items os)
  stmt (Read pos es) = omega (arith, places es)
  stmt (Resume pos) = omega arith
  stmt (Suspend pos) = omega arith
  stmt (Yield pos) = omega arith
  stmt (Migrate pos cluster) = omega (arith, in_place postfix cluster (shallow cluster))

  other_stmt : (s : MaybeStmt) → maybe_stmt_depth s ≤ 11 * maybe_stmt_nesting s + 11
  other_stmt NoStmt = omega arith
  other_stmt (OneStmt s) = omega (arith, stmt s)

  block : (ss : Stmts) → block_depth ss ≤ 11 * block_nesting ss
  block NoStmts = omega arith
  block (MoreStmts first rest) = omega (arith, deeper_of 0 (stmt_nesting first + 2) (block_nesting rest) (stmt_depth first) (block_depth rest) (omega (arith, stmt first)) (omega (arith, block rest)))

  handlers : (hs : Handlers) → handlers_depth hs ≤ 11 * handlers_nesting hs
  handlers NoHandlers = omega arith
  handlers (MoreHandlers (Handles pos kind event param brace body) rest) = omega (arith, deeper_of 0 (block_nesting body) (handlers_nesting rest) (block_depth body) (handlers_depth rest) (omega (arith, block body)) (omega (arith, handlers rest)))

  clauses : (cs : Clauses) → clauses_depth cs ≤ 11 * clauses_nesting cs + 11
  clauses NoClauses = omega arith
  clauses (MoreClauses (Accepts pos guard members body) rest) =
      let one = deeper_of 11 (maybe_expr_nesting guard) (stmt_nesting body + 1) (maybe_expr_depth guard) (stmt_depth body) (maybe guard) (omega (arith, stmt body)) in
      deeper_of 11 (max (maybe_expr_nesting guard) (stmt_nesting body + 1)) (clauses_nesting rest) (max (maybe_expr_depth guard) (stmt_depth body)) (clauses_depth rest) one (clauses rest)

inits : (is : List Init) → inits_depth is ≤ 11 * inits_nesting is + 11
inits [] = omega arith
inits (i ∷ is) = deeper_of 11 (args_nesting i.args) (inits_nesting is) (exprs_depth i.args) (inits_depth is) (omega (arith, shallow_args i.args)) (inits is)

routine : (r : Routine) → routine_depth r ≤ 11 * routine_nesting r + 11
routine r = deeper_of 11 (inits_nesting r.inits) (block_nesting r.body) (inits_depth r.inits) (block_depth r.body) (inits r.inits) (omega (arith, block r.body))

form : (f : MemberForm) → form_depth f ≤ 11 * form_nesting f + 11
form (FieldsMember at base declarators) = declared declarators
form (RoutineMember r) = routine r
form (ProtoMember s) = omega arith

members : (ms : List Member) → members_depth ms ≤ 11 * members_nesting ms + 11
members [] = omega arith
members (m ∷ ms) = deeper_of 11 (form_nesting m.form + 1) (members_nesting ms) (form_depth m.form) (members_depth ms) (omega (arith, form m.form)) (members ms)

part : (i : Item) → item_depth i ≤ 11 * item_nesting i + 11
part (ClassItem c) = members c.members
part (RoutineItem r) = routine r
part (ConstItem c) = exprs c.value
part (ProtoItem s) = omega arith
part (ForwardItem f) = omega arith
part (UsingItem pos) = omega arith

parts : (is : List Item) → items_depth is ≤ 11 * items_nesting is + 11
parts [] = omega arith
parts (i ∷ is) = deeper_of 11 (item_nesting i) (items_nesting is) (item_depth i) (items_depth is) (part i) (parts is)

pub program_shallow : (p : Program) → depth p ≤ 11 * nesting p + 11
unfolding depth nesting
program_shallow p = parts p.items
