-- What a program's statements and routines stand for, and the source that it is. Every tree stands for something; what breaks a rule
-- of the language stands for a default.
use Rattle.std.specs.Prelude.{ℕ, suc, ◌+◌, ◌^◌, bit_or, pos, List, [], ◌∷◌, ◌++◌, length, unwrap_or, Bool, true, false, ◌&&◌, ◌||◌, Option, Some, None, is_some, nat_eq, if◌then◌else◌}
use Rattle.uc_tree.specs.declared.kinds.Base.{Base}
use Rattle.uc_tree.specs.declared.kinds.Base.TheVariants as base
use Rattle.uc_tree.specs.declared.kinds.Kind.{Kind}
use Rattle.uc_tree.specs.declared.kinds.Kind.TheVariants as kind
use Rattle.uc_tree.specs.declared.kinds.EventName.{EventName}
use Rattle.uc_tree.specs.declared.kinds.Ty.{Ty}
use Rattle.uc_tree.specs.declared.kinds.LocalVariable.{LocalVariable}
use Rattle.uc_tree.specs.declared.kinds.Role.{Role}
use Rattle.uc_tree.specs.declared.kinds.Role.TheVariants as role
use Rattle.uc_tree.specs.declared.kinds.Param.{Param}
use Rattle.uc_tree.specs.declared.kinds.HandlerKind.{HandlerKind}
use Rattle.uc_tree.specs.declared.kinds.HandlerKind.TheVariants as handler_kind
use Rattle.uc_tree.specs.Names.{same_name}
use Rattle.uc_tree.specs.Constants.{constants_of, value_of_name, elements}
use Rattle.uc_tree.specs.Expressions as expr
use Rattle.uc_tree.specs.Statements as stmt
use Rattle.uc_tree.specs.Programs as whole
use Rattle.uc_tree.specs.Cells.{classes_of, class_cells, declared_cells, param_cells, params_cells, stmt_cells, stmts_cells, routine_cells, leading_cells, seen_in}
use Rattle.uc_tree.specs.Gathered.{gathered, gathered_all}
use Rattle.uc_tree.specs.Numbering.{is_event, is_mutex, is_plain, main_name, member_number, event_number, Defined, routines_of, own_texts, own_sites, sites_of, texts_of}
use Rattle.uc_tree.specs.Objects.{has_execution, is_task, is_constructor, class_at, number_at, member_from, place_of, Making, APlain, AMutex, ACluster, AProcessor, making, ClassField, fields_of, shape_of, class_shape, written_at, Unwritten, unwritten_of, unwritten_number, event_place}
use Rattle.uc_tree.specs.ProgramMain.{is_void, main_number}
use Rattle.uc_tree.specs.declared.kinds.ValueForm.{ValueForm}
use Rattle.uc_tree.specs.declared.kinds.ValueForm.TheVariants as value_form
use Rattle.uc_tree.specs.Source.{Shape, Binding, Order, TestFirst, BodyFirst, NoTest, Expr, Literal, Variable, Element, Load, Assign, NoExprs, OfObject, Counted, CallOn, CallUnwritten, EndOn, Bind, MakeOn, NewCluster, NewProcessor, EndCluster, EndProcessor, Item, Show, ShowText, Target, Declared, CleanUp, Destroys, DestroysAll, Unwinds, Forgets, Leaves, Ends, Frees, Stmt, Skip, Block, Whole, Evaluate, Declare, Print, PrintTogether, Read, If, Loop, Break, Continue, Return, Owes, Fill, OfEvents, OfTasks, Resume, Suspend, SetUp, Enliven, TakeDown, Yield, Migrate, Accept, Clauses, NoClauses, Otherwise, MoreClauses, ALL_EVENTS, Raised, Plainly, BuiltAt, AgainFrom, Throw, Raise, Try, RaiseAt, Enable, Disable, Handlers, NoHandlers, MoreHandlers, Stmts, Nil, Then, Scoped, Built, Purpose, TaskMain, CoroutineMain, Procedure, Function, Builder, Routine, Class, Source}
use Rattle.uc_tree.specs.Hidden.{KEPT_CELLS, hidden_in, hidden_in_all}
pub use Rattle.uc_resolve.specs.Standings.{scalar, int_type, bool_type, converted, Standing, Meant, no_meaning, value_meant, value_by, value_of, later_or, known_named, has_number, known_by, known_meant, value_or_zero, is_here, is_named, routine_from, params_in, result_in, params_of, result_of, routine_meant_by, constant_meant_by, item_meant, NumberedField, field_named, field_length, field_type, Whose, object_of_whose, field_place, field_held, field_standing, field_by_ref, field_by, condition_meant, field_or_condition, field_found, is_path, method_standing, method_by, method_meant, member_by, member_in, member_meant, meant_or, own_meant, name_meant, combined, binary_meant, variable_in, written_by, updated_by, updated, unary_meant, assign_meant, condition_call, call_of_condition, object_member, class_or_event, place_member, part_by, field_meant, arg_meant, args_by, stored_by, condition_called, call_by, call_meant, one_of, place_or_number, element_in, element_by, element_meant, stepped_by, stepped, step_meant, Context, meant, part_meant, args_meant, parts_meant, link_meant, chain_meant, value_in_scope, ConditionCall, Waits, Signals, SignalsBlocking, AsksEmpty, AsksFront, AtVariable, AtField, AtPlace, AsNumber, AsValue, AsInput, AsFail, AsRoutine, AsMember, AsLiveMember, AsMutexMember, AsCondition, AsCallOf, AsEvent, AsNothing, Own, Of}

-- what statements stand for

-- where a statement stands: the place of its class, its routine, the names in scope, from the outermost on, the first of the cells in
-- which the innermost handler keeps its event, the first cell of a variable and the first hidden one that nothing before it has,
-- and how many text literals and accept statements of the program stand before it
pub record Scope : Type 0 where
  pub class : Option ℕ
  pub routine : ℕ
  pub names : List LocalVariable
  pub handled : ℕ
  pub cells : ℕ
  pub hidden : ℕ
  pub texts : ℕ
  pub sites : ℕ

-- the form of a printed value, and of a value that is read: a `char` is a character
abbrev pub form_of : Base → ValueForm
form_of base.Char = value_form.Character
form_of _ = value_form.Number

-- `endl` prints the byte 10
abbrev pub newline : Expr
newline = Literal (pos 10)

-- printed items, behind so many text literals
abbrev pub items_meant : Context → ℕ → List stmt.OutItem → List Item
items_meant c texts [] = []
items_meant c texts (stmt.Endl sign ∷ os) = Show value_form.Character newline ∷ items_meant c texts os
items_meant c texts (stmt.Literal sign text ∷ os) = ShowText texts ∷ items_meant c (texts + 1) os
items_meant c texts (stmt.Printed sign e ∷ os) = Show (form_of (meant c e).ty.base) (value_in_scope c e) ∷ items_meant c texts os

abbrev pub target_meant : Context → expr.Expr → Target
target_meant c e = record { form = form_of (meant c e).ty.base; place = (meant c e).expr }

abbrev pub targets_meant : Context → expr.Exprs → List Target
targets_meant c expr.NoExprs = []
targets_meant c (expr.MoreExprs e es) = target_meant c e ∷ targets_meant c es

-- the value that a variable starts with, as a scalar of this shape
abbrev pub first_value : Context → Shape → expr.Exprs → Option Expr
first_value c s expr.NoExprs = None
first_value c s (expr.MoreExprs e es) = Some (converted s (value_in_scope c e))

abbrev pub start_meant : Context → Shape → stmt.Start → Option Expr
start_meant c s stmt.NoStart = None
start_meant c s (stmt.StartValue e) = Some (converted s (value_in_scope c e))
start_meant c s (stmt.StartArgs es) = first_value c s es

-- objects

-- what builds or destroys the object of a class at a place; what nobody wrote has no parameters
abbrev pub called_by : whole.Program → ℕ → Role → Expr → List Meant → Option ℕ → Expr
called_by p i wanted place args None = OfObject (CallUnwritten (unwritten_number p i wanted) place)
called_by p i wanted place args (Some r) = OfObject (CallOn r place (args_by (params_of p r) args))

-- what makes and builds a mutex object, and binds its place to its number; what destroys one
abbrev pub made_by : whole.Program → ℕ → Expr → List Meant → Option ℕ → Expr
made_by p i place args None = OfObject (MakeOn (number_at p i) (unwritten_number p i role.Constructor) false place NoExprs)
made_by p i place args (Some r) = OfObject (MakeOn (number_at p i) r true place (args_by (params_of p r) args))

abbrev pub ended_by : whole.Program → ℕ → Expr → Option ℕ → Expr
ended_by p i object None = OfObject (EndOn (unwritten_number p i role.Destructor) false object)
ended_by p i object (Some r) = OfObject (EndOn r true object)

-- the cluster of a new processor
abbrev pub cluster_in : List Meant → Expr
cluster_in [] = Literal (pos 0)
cluster_in (m ∷ ms) = m.expr

abbrev pub constructed : whole.Program → Making → Expr → List Meant → Expr
constructed p (APlain i) place args = called_by p i role.Constructor place args (written_at p i role.Constructor)
constructed p (AMutex i) place args = made_by p i place args (written_at p i role.Constructor)
constructed p ACluster place args = OfObject (Bind place (OfObject NewCluster))
constructed p AProcessor place args = OfObject (Bind place (OfObject (NewProcessor (cluster_in args))))

abbrev pub destroyed : whole.Program → Making → Expr → Expr
destroyed p (APlain i) place = called_by p i role.Destructor place [] (written_at p i role.Destructor)
destroyed p (AMutex i) place = ended_by p i (Load place) (written_at p i role.Destructor)
destroyed p ACluster place = OfObject (EndCluster (Load place))
destroyed p AProcessor place = OfObject (EndProcessor (Load place))

abbrev pub made_shape : whole.Program → Making → Shape
made_shape p (APlain i) = class_shape p i
made_shape p _ = Binding

-- the element of an array of n objects, at this place, that is counted
abbrev pub counted_element : whole.Program → Making → ℕ → Expr → Expr
counted_element p m n place = Element n (made_shape p m) place (OfObject Counted)

-- the object at a place is built in a statement of this line, and so are the elements of an array, without arguments
abbrev pub build : whole.Program → ℕ → Making → Option ℕ → Expr → List Meant → Stmt
build p line m None place args = Evaluate line (constructed p m place args)
build p line m (Some n) place args = Fill line n (constructed p m (counted_element p m n place) []) (destroyed p m (counted_element p m n place))

-- it is destroyed, and so are they
abbrev pub clean_up : whole.Program → Making → Option ℕ → Expr → CleanUp
clean_up p m None place = Destroys (destroyed p m place)
clean_up p m (Some n) place = DestroysAll n (destroyed p m (counted_element p m n place))

-- events

-- the constructor of the event of this name, by its number, where one is written; the first of these routines has the number r
abbrev pub event_constructor_from : List Defined → ℕ → List ℕ → Option ℕ
event_constructor_from [] r name = None
event_constructor_from (d ∷ ds) r name =
    if nat_eq d.number 0 && (is_constructor d.routine.sig.role && same_name d.routine.sig.name name) then Some r else event_constructor_from ds (suc r) name

abbrev pub event_constructor : whole.Program → List ℕ → Option ℕ
event_constructor p name = event_constructor_from (routines_of p) 0 name

abbrev pub number_of_event : whole.Program → List ℕ → ℕ
number_of_event p name = unwrap_or (event_number p name) 0

-- the events of these names, by their numbers as bits
abbrev pub events_named : whole.Program → List EventName → ℕ
events_named p [] = 0
events_named p (e ∷ es) = bit_or (2 ^ number_of_event p e.name) (events_named p es)

-- those of `_Enable` and `_Disable`, which without a list are all there may be
abbrev pub events_meant : whole.Program → List EventName → ℕ
events_meant p [] = ALL_EVENTS
events_meant p (e ∷ es) = events_named p (e ∷ es)

abbrev pub takes_resumptions : HandlerKind → Bool
takes_resumptions handler_kind.Catch = false
takes_resumptions handler_kind.CatchResume = true

-- the event of a handler, or every one
abbrev pub event_of_handler : whole.Program → Option (List ℕ) → Option ℕ
event_of_handler p None = None
event_of_handler p (Some name) = Some (number_of_event p name)

-- what statements of a program stand for
module _ (p : whole.Program) where
  abbrev pub context_at : Scope → Context
  context_at s = record { program = p; class = s.class; routine = s.routine; names = s.names }

  abbrev pub length_of : stmt.Declarator → Option expr.Expr → Option ℕ
  length_of d None = None
  length_of d (Some e) = Some (elements (value_of_name (constants_of p.items)) d)

  abbrev pub declared_type : Base → stmt.Declarator → Ty
  declared_type b d = record { base = b; by_ref = d.by_ref; len = length_of d d.len }

  -- a local is in scope from the end of its declarator on
  abbrev pub declared_known : Scope → Base → stmt.Declarator → LocalVariable
  declared_known s b d = record { name = d.name; ty = declared_type b d; cell = s.cells }

  abbrev pub with_declared : Scope → Base → stmt.Declarator → Scope
  with_declared s b d = record s { names = s.names ++ declared_known s b d ∷ []; cells = s.cells + declared_cells p b d }

  abbrev pub declared_meant : Scope → Base → stmt.Declarator → Declared
  declared_meant s b d = record { cell = s.cells; cells = declared_cells p b d; value = start_meant (context_at s) (shape_of b) d.start }

  abbrev pub all_declared : Scope → Base → List stmt.Declarator → List Declared
  all_declared s b [] = []
  all_declared s b (d ∷ ds) = declared_meant s b d ∷ all_declared (with_declared s b d) b ds

  abbrev pub with_all : Scope → Base → List stmt.Declarator → Scope
  with_all s b [] = s
  with_all s b (d ∷ ds) = with_all (with_declared s b d) b ds

  -- the arguments of the constructor of a declared object
  abbrev pub start_args : Scope → stmt.Start → List Meant
  start_args s stmt.NoStart = []
  start_args s (stmt.StartValue e) = []
  start_args s (stmt.StartArgs es) = args_meant (context_at s) es

  -- an object is declared in this line: its cells start at 0, it is built, and from then on it is in scope in what follows; so are
  -- the elements of an array
  abbrev pub object_scoped : Making → ℕ → Base → stmt.Declarator → Scope → Stmts → Stmts
  object_scoped m line b d s rest =
      Then (Declare line (record { cell = s.cells; cells = declared_cells p b d; value = None } ∷ [])) (Then (build p line m (length_of d d.len) (Variable s.cells) (start_args s d.start)) (Scoped (clean_up p m (length_of d d.len) (Variable s.cells)) rest))

  abbrev pub objects_scoped : Making → ℕ → Base → List stmt.Declarator → Scope → Stmts → Stmts
  objects_scoped m line b [] s rest = rest
  objects_scoped m line b (d ∷ ds) s rest =
      object_scoped m line b d s (objects_scoped m line b ds (with_declared s b d) rest)

  -- a declaration, by whether it is one of objects, and what follows it
  abbrev pub declared_then : Option Making → ℕ → Base → List stmt.Declarator → Scope → Stmts → Stmts
  declared_then None line b ds s rest = Then (Declare line (all_declared s b ds)) rest
  declared_then (Some m) line b ds s rest = objects_scoped m line b ds s rest

  -- a declaration that is itself the statement of another; objects are destroyed behind it, in its line
  abbrev pub declared_alone : Option Making → ℕ → Base → List stmt.Declarator → Scope → Stmt
  declared_alone None line b ds s = Declare line (all_declared s b ds)
  declared_alone (Some m) line b ds s = Block line (objects_scoped m line b ds s Nil)

  -- a declaration alone leaves names behind it
  abbrev pub names_behind : stmt.Stmt → Scope → List LocalVariable
  names_behind (stmt.Declare place b ds) s = (with_all s b ds).names
  names_behind _ s = s.names

  -- the scope behind a statement, and behind statements: what stands before is counted for all statements alike
  abbrev pub scope_after : stmt.Stmt → Scope → Scope
  scope_after t s = record s {
    names = names_behind t s;
    cells = s.cells + stmt_cells t (declared_cells p);
    hidden = s.hidden + hidden_in t;
    texts = s.texts + length (gathered own_texts t);
    sites = s.sites + length (gathered (own_sites None 0) t);
  }

  abbrev pub scope_behind : stmt.Stmts → Scope → Scope
  scope_behind stmt.NoStmts s = s
  scope_behind (stmt.MoreStmts first rest) s = scope_behind rest (scope_after first s)

  -- behind a statement of another one, of which no name is left
  abbrev pub scope_past : stmt.Stmt → Scope → Scope
  scope_past t s = record (scope_after t s) { names = s.names }

  -- behind the statements of a block of which no name is left
  abbrev pub scope_past_all : stmt.Stmts → Scope → Scope
  scope_past_all ts s = record s {
    cells = s.cells + stmts_cells ts (declared_cells p);
    hidden = s.hidden + hidden_in_all ts;
    texts = s.texts + length (gathered_all own_texts ts);
    sites = s.sites + length (gathered_all (own_sites None 0) ts);
  }

  -- in an accept statement, and behind its clauses
  abbrev pub within_accept : Scope → Scope
  within_accept s = record s { sites = s.sites + 1 }

  abbrev pub scope_past_clause : stmt.Clause → Scope → Scope
  scope_past_clause (stmt.Accepts place guard members body) s = scope_past body s

  abbrev pub scope_past_clauses : stmt.Clauses → Scope → Scope
  scope_past_clauses stmt.NoClauses s = s
  scope_past_clauses (stmt.MoreClauses first rest) s = scope_past_clauses rest (scope_past_clause first s)

  -- in a statement for which a hidden cell keeps the enabled events
  abbrev pub within_events : Scope → Scope
  within_events s = record s { hidden = s.hidden + 1 }

  -- an event with fields that are 0, or built by its constructor in the hidden cells of the statement
  abbrev pub built_event : Scope → ℕ → Option ℕ → List Meant → Raised
  built_event s event None args = Plainly event
  built_event s event (Some r) args = BuiltAt event s.hidden (OfObject (CallOn r (Variable s.hidden) (args_by (params_of p r) args)))

  -- what a statement raises: an event, or again the one that is handled
  abbrev pub raised_meant : Scope → Option stmt.Raised → Raised
  raised_meant s None = AgainFrom s.handled
  raised_meant s (Some r) = built_event s (number_of_event p r.name) (event_constructor p r.name) (args_meant (context_at s) r.args)

  -- a handler's parameter stands for the fields of the event, behind its number
  abbrev pub with_event : Option (List ℕ) → Option (List ℕ) → Scope → Scope
  with_event None event s = s
  with_event (Some name) None s = s
  with_event (Some name) (Some event) s = record s { names = s.names ++ record { name = name; ty = scalar (base.Named event); cell = s.hidden + 1 } ∷ [] }

  -- where the body of a handler stands, and what stands behind the handler
  abbrev pub in_handler : stmt.Handler → Scope → Scope
  in_handler (stmt.Handles place kind event param brace body) s = record (with_event param event s) { handled = s.hidden; hidden = s.hidden + KEPT_CELLS }

  abbrev pub scope_past_handler : stmt.Handler → Scope → Scope
  scope_past_handler (stmt.Handles place kind event param brace body) s = scope_past_all body (record s { hidden = s.hidden + KEPT_CELLS })

  -- a value that is handed over is kept as the result of its routine
  abbrev pub return_meant : Scope → Option expr.Expr → Option Expr
  return_meant s None = None
  return_meant s (Some e) = Some (converted (shape_of (result_of p s.routine)) (value_in_scope (context_at s) e))

  -- what a `for` begins with, and what follows; the scope that it opens
  abbrev pub start_then : ℕ → stmt.ForStart → Scope → Stmts → Stmts
  start_then line stmt.NoFor s rest = Then (Skip line) rest
  start_then line (stmt.ForDeclare place b ds) s rest = declared_then (making p b) line b ds s rest
  start_then line (stmt.ForEvaluate e) s rest = Then (Evaluate line (meant (context_at s) e).expr) rest

  abbrev pub for_scope : stmt.ForStart → Scope → Scope
  for_scope stmt.NoFor s = s
  for_scope (stmt.ForDeclare place b ds) s = with_all s b ds
  for_scope (stmt.ForEvaluate e) s = s

  -- a `for` without a test goes on
  abbrev pub order_of : Option expr.Expr → Order
  order_of None = NoTest
  order_of (Some e) = TestFirst

  abbrev pub test_of : Scope → Option expr.Expr → Expr
  test_of s None = Literal (pos 1)
  test_of s (Some e) = value_in_scope (context_at s) e

  abbrev pub step_of : Scope → Option expr.Expr → Option Expr
  step_of s None = None
  step_of s (Some e) = Some (meant (context_at s) e).expr

  -- a statement, which stands for this, and what follows it in its block
  abbrev pub stmt_then : stmt.Stmt → Scope → Stmt → Stmts → Stmts
  stmt_then (stmt.Declare place b ds) s t rest = declared_then (making p b) place.line b ds s rest
  stmt_then _ s t rest = Then t rest

  abbrev mutual
    pub stmt_meant : stmt.Stmt → Scope → Stmt
    stmt_meant (stmt.Block place body) s = Block place.line (stmts_meant body s)
    stmt_meant (stmt.Empty place) s = Skip place.line
    stmt_meant (stmt.Evaluate place e) s = Evaluate place.line (meant (context_at s) e).expr
    stmt_meant (stmt.Declare place b ds) s = declared_alone (making p b) place.line b ds s
    stmt_meant (stmt.Print place items) s = Print place.line (items_meant (context_at s) s.texts items)
    stmt_meant (stmt.PrintTogether place items) s = PrintTogether place.line (items_meant (context_at s) s.texts items)
    stmt_meant (stmt.Read place es) s = Read place.line (targets_meant (context_at s) es)
    stmt_meant (stmt.If place test chosen other) s = If place.line (value_in_scope (context_at s) test) (stmt_meant chosen s) (maybe_meant other (scope_past chosen s))
    stmt_meant (stmt.While place test body) s = Loop place.line TestFirst (value_in_scope (context_at s) test) None (stmt_meant body s)
    stmt_meant (stmt.Do place body test) s = Loop place.line BodyFirst (value_in_scope (context_at s) test) None (stmt_meant body s)
    -- the scope of a `for` is a block
    stmt_meant (stmt.For place start test step body) s =
        Block place.line (start_then place.line start s (Then (Loop place.line (order_of test) (test_of (for_scope start s) test) (step_of (for_scope start s) step) (stmt_meant body (for_scope start s))) Nil))
    stmt_meant (stmt.Break place) s = Break place.line
    stmt_meant (stmt.Continue place) s = Continue place.line
    stmt_meant (stmt.Return place value) s = Return place.line (return_meant s value)
    stmt_meant (stmt.Throw place raised) s = OfEvents (Throw place.line (raised_meant s raised))
    stmt_meant (stmt.Raise place raised) s = OfEvents (Raise place.line (raised_meant s raised))
    -- the guarded block is a block of its own
    stmt_meant (stmt.Try place brace body hs) s =
        OfEvents (Try place.line (Then (Block brace.line (stmts_meant body s)) Nil) (handlers_meant hs (scope_past_all body s)))
    stmt_meant (stmt.Resume place) s = OfTasks (Resume place.line)
    stmt_meant (stmt.Suspend place) s = OfTasks (Suspend place.line)
    stmt_meant (stmt.RaiseAt place raised target) s = OfEvents (RaiseAt place.line (raised_meant s (Some raised)) (meant (context_at s) target).expr)
    stmt_meant (stmt.Enable place events body) s = OfEvents (Enable place.line (events_meant p events) s.hidden (stmt_meant body (within_events s)))
    stmt_meant (stmt.Disable place events body) s = OfEvents (Disable place.line (events_meant p events) s.hidden (stmt_meant body (within_events s)))
    stmt_meant (stmt.Yield place) s = OfTasks (Yield place.line)
    stmt_meant (stmt.Migrate place cluster) s = OfTasks (Migrate place.line (meant (context_at s) cluster).expr)
    stmt_meant (stmt.Accept place cs other) s = OfTasks (Accept place.line s.sites (clauses_meant cs (within_accept s) (else_meant other (scope_past_clauses cs (within_accept s)))))

    -- the clauses of an accept statement, and what stands behind them
    pub clauses_meant : stmt.Clauses → Scope → Clauses → Clauses
    clauses_meant stmt.NoClauses s other = other
    clauses_meant (stmt.MoreClauses first rest) s other = clause_then first s (clauses_meant rest (scope_past_clause first s) other)

    pub clause_then : stmt.Clause → Scope → Clauses → Clauses
    clause_then (stmt.Accepts place guard members body) s rest = MoreClauses (test_of s guard) (stmt_meant body s) rest

    pub else_meant : stmt.MaybeStmt → Scope → Clauses
    else_meant stmt.NoStmt s = NoClauses
    else_meant (stmt.OneStmt body) s = Otherwise (stmt_meant body s)

    pub handlers_meant : stmt.Handlers → Scope → Handlers
    handlers_meant stmt.NoHandlers s = NoHandlers
    handlers_meant (stmt.MoreHandlers first rest) s = handler_then first s (handlers_meant rest (scope_past_handler first s))

    pub handler_then : stmt.Handler → Scope → Handlers → Handlers
    handler_then (stmt.Handles place kind event param brace body) s rest =
        MoreHandlers (takes_resumptions kind) (event_of_handler p event) s.hidden brace.line (stmts_meant body (in_handler (stmt.Handles place kind event param brace body) s)) rest

    pub maybe_meant : stmt.MaybeStmt → Scope → Stmt
    maybe_meant stmt.NoStmt s = Skip 0
    maybe_meant (stmt.OneStmt body) s = stmt_meant body s

    pub stmts_meant : stmt.Stmts → Scope → Stmts
    stmts_meant stmt.NoStmts s = Nil
    stmts_meant (stmt.MoreStmts first rest) s = stmt_then first s (stmt_meant first s) (stmts_meant rest (scope_after first s))

  -- parameters are in scope, and have the first cells
  abbrev pub param_known : ℕ → Param → LocalVariable
  param_known cell x = record { name = x.name; ty = record { base = x.base; by_ref = x.by_ref; len = None }; cell = cell }

  abbrev pub params_known : ℕ → List Param → List LocalVariable
  params_known cell [] = []
  params_known cell (x ∷ xs) = param_known cell x ∷ params_known (cell + param_cells p x) xs

  -- a routine of the class with this place begins with its parameters, behind the text literals and the accept statements of the
  -- routines before it; its hidden cells lie behind its variables
  abbrev pub routine_scope : whole.Routine → Option ℕ → ℕ → ℕ → ℕ → Scope
  routine_scope r class number texts sites = record {
    class = class;
    routine = number;
    names = params_known 0 r.sig.params;
    handled = 0;
    cells = params_cells p r.sig.params;
    hidden = routine_cells p r;
    texts = texts;
    sites = sites;
  }

  -- the place of a routine's class; the class of a constructor that has no number is an event
  abbrev pub place_by : Defined → Option ℕ
  place_by d = if nat_eq d.number 0 && is_constructor d.routine.sig.role then event_place p (base.Named d.routine.sig.name) else place_of p d.number

  -- fields, which are built and destroyed in no statement, and so in the line of what calls the constructor or the destructor

  abbrev pub init_named : List whole.Init → List ℕ → Option whole.Init
  init_named [] name = None
  init_named (x ∷ xs) name = if same_name x.name name then Some x else init_named xs name

  abbrev pub init_args : Scope → Option whole.Init → List Meant
  init_args s None = []
  init_args s (Some x) = args_meant (context_at s) x.args

  -- a reference is bound to its argument, a scalar has the value of its; without one they stay as they are
  abbrev pub field_start : Bool → Shape → Expr → Meant → Expr
  field_start true s place m = OfObject (Bind place m.expr)
  field_start false s place m = Assign place (converted s (value_of m))

  abbrev pub field_started : ClassField → Expr → List Meant → Stmts → Stmts
  field_started f place [] rest = rest
  field_started f place (m ∷ ms) rest = Then (Evaluate 0 (field_start f.declarator.by_ref (shape_of f.base) place m)) rest

  -- a reference names no object of its own
  abbrev pub field_making : ClassField → Option Making
  field_making f = if f.declarator.by_ref then None else making p f.base

  -- an object is built, and from then on a part of the one under construction
  abbrev pub field_built : Option Making → ClassField → Option ℕ → Expr → List Meant → Stmts → Stmts
  field_built None f len place args rest = field_started f place args rest
  field_built (Some m) f len place args rest = Then (build p 0 m len place args) (Built (clean_up p m len place) rest)

  abbrev pub field_left : Option Making → Option ℕ → Expr → Stmts → Stmts
  field_left None len place rest = rest
  field_left (Some m) len place rest = Scoped (clean_up p m len place) rest

  -- in an object of the class c with the place i: fields from this number on
  module _ (c : whole.Class) (i : ℕ) where
    abbrev pub length_in_class : ClassField → Option ℕ
    length_in_class f = field_length (seen_in (constants_of p.items) c) f.declarator f.declarator.len

    -- they are built in order, with their initialisers, before other statements
    abbrev pub fields_built : List whole.Init → Scope → List ClassField → ℕ → Stmts → Stmts
    fields_built inits s [] number rest = rest
    fields_built inits s (f ∷ fs) number rest =
        field_built (field_making f) f (length_in_class f) (field_place (class_shape p i) number Own) (init_args s (init_named inits f.declarator.name)) (fields_built inits s fs (suc number) rest)

    -- they are in scope in other statements, and so destroyed behind them, the last one first
    abbrev pub fields_left : List ClassField → ℕ → Stmts → Stmts
    fields_left [] number rest = rest
    fields_left (f ∷ fs) number rest =
        field_left (field_making f) (length_in_class f) (field_place (class_shape p i) number Own) (fields_left fs (suc number) rest)

  -- coroutines: one of the class with the place i has an execution from the start of its building to the end of its destruction, and
  -- is live between the end of the one and the start of the other

  -- the number of its main
  abbrev pub main_at : ℕ → ℕ
  main_at i = unwrap_or (member_from (routines_of p) 0 (number_at p i) main_name) 0

  -- an event that ends a constructor unwinds what the body has started, before the fields are destroyed
  abbrev pub set_up : Bool → ℕ → Stmts → Stmts
  set_up false i rest = rest
  set_up true i rest = Then (OfTasks (SetUp (main_at i))) (Built Forgets rest)

  abbrev pub started_in : Bool → Stmts → Stmts
  started_in false body = body
  started_in true body = Built Unwinds body

  abbrev pub enlivened : Bool → Stmts
  enlivened false = Nil
  enlivened true = Then (OfTasks Enliven) Nil

  -- its destruction unwinds it first
  abbrev pub taken_down : Bool → Stmts → Stmts
  taken_down false body = body
  taken_down true body = Then (OfTasks TakeDown) body

  abbrev pub forgotten : Bool → Stmts → Stmts
  forgotten false rest = rest
  forgotten true rest = Scoped Forgets rest

  -- mutex objects: one is free once it is built, and a task begins then; its destruction ends it
  abbrev pub freed : Kind → ℕ → Stmts → Stmts
  freed kind.Monitor i rest = Scoped (Frees None) rest
  freed kind.Cormonitor i rest = Scoped (Frees None) rest
  freed kind.Task i rest = Scoped (Frees (Some (main_at i))) rest
  freed _ i rest = rest

  abbrev pub ending : Bool → Stmts → Stmts
  ending false rest = rest
  ending true rest = Scoped Ends rest

  -- the statements of a constructor and of a destructor, with these of its body
  abbrev pub construction : Option whole.Class → ℕ → List whole.Init → Scope → Stmts → Stmts
  construction None i inits s body = body
  construction (Some c) i inits s body =
      freed c.kind i (set_up (has_execution c.kind) i (fields_built c i inits s (fields_of c.members) (leading_cells c.kind) (started_in (has_execution c.kind) body)))

  abbrev pub destruction : Option whole.Class → ℕ → Stmts → Stmts
  destruction None i body = body
  destruction (Some c) i body =
      ending (is_mutex c.kind) (forgotten (has_execution c.kind) (fields_left c i (fields_of c.members) (leading_cells c.kind) (taken_down (has_execution c.kind) body)))

  -- what follows the body of a constructor
  abbrev pub construction_ends : Option whole.Class → ℕ → Stmts
  construction_ends None i = Nil
  construction_ends (Some c) i = enlivened (has_execution c.kind)

  -- the class of a place
  abbrev pub class_by : Option ℕ → Option whole.Class
  class_by None = None
  class_by (Some i) = class_at p i

  abbrev pub place_or_zero : Option ℕ → ℕ
  place_or_zero None = 0
  place_or_zero (Some i) = i

  abbrev pub value_purpose : Base → Purpose
  value_purpose b = if is_void b then Procedure else Function

  abbrev pub role_purpose : Role → Base → Purpose
  role_purpose role.Plain b = value_purpose b
  role_purpose role.Constructor b = Builder
  role_purpose role.Destructor b = Builder

  -- whether a class has coroutines, tasks
  abbrev pub has_coroutines : Option whole.Class → Bool
  has_coroutines None = false
  has_coroutines (Some c) = has_execution c.kind

  abbrev pub has_tasks : Option whole.Class → Bool
  has_tasks None = false
  has_tasks (Some c) = is_task c.kind

  -- the main of a coroutine or a task is a member of its class
  abbrev pub is_main : whole.Sig → Bool
  is_main s = is_plain s.role && same_name s.name main_name

  -- whether a routine is a mutex member of its class, and no destructor
  abbrev pub has_number_in : Option whole.Class → whole.Sig → Bool
  has_number_in None s = false
  has_number_in (Some c) s = is_plain s.role && is_some (member_number c s.name)

  abbrev pub purpose_of : ℕ → Option whole.Class → whole.Routine → Purpose
  purpose_of number c r =
      if nat_eq number (main_number p) || (has_tasks c && is_main r.sig) then TaskMain
      else if has_coroutines c && is_main r.sig then CoroutineMain
      else if has_number_in c r.sig then Builder
      else role_purpose r.sig.role r.sig.ret

  -- a routine with a value owes it at the end of its body
  abbrev pub owing : ℕ → Purpose → Stmts
  owing line Function = Then (Owes line) Nil
  owing line _ = Nil

  -- whatever leaves the body of a mutex member leaves its object; the body is a block
  abbrev pub plain_body : Bool → whole.Routine → Stmts → Stmts
  plain_body false r body = body
  plain_body true r body = Scoped Leaves (Then (Block r.brace.line body) (owing r.brace.line (value_purpose r.sig.ret)))

  -- the body of a constructor and of a destructor is a block that is left as a whole, behind the construction of the fields and before their destruction
  abbrev pub body_by : Role → whole.Routine → Scope → Stmts
  body_by role.Plain r s = plain_body (has_number_in (class_by s.class) r.sig) r (stmts_meant r.body s)
  body_by role.Constructor r s =
      construction (class_by s.class) (place_or_zero s.class) r.inits s (Then (Whole r.brace.line (stmts_meant r.body s)) (construction_ends (class_by s.class) (place_or_zero s.class)))
  body_by role.Destructor r s =
      destruction (class_by s.class) (place_or_zero s.class) (Then (Whole r.brace.line (stmts_meant r.body s)) Nil)

  abbrev pub routine_meant : whole.Routine → Scope → Routine
  routine_meant r s = record {
    line = r.brace.line;
    cells = routine_cells p r + hidden_in_all r.body;
    params = length r.sig.params;
    purpose = purpose_of s.routine (class_by s.class) r;
    written = true;
    body = body_by r.sig.role r s;
  }

  -- routines from this number on
  abbrev pub routines_meant : List Defined → ℕ → ℕ → ℕ → List Routine
  routines_meant [] number texts sites = []
  routines_meant (d ∷ ds) number texts sites =
      routine_meant d.routine (routine_scope d.routine (place_by d) number texts sites) ∷ routines_meant ds (number + 1) (texts + length (gathered_all own_texts d.routine.body)) (sites + length (gathered_all (own_sites d.class d.number) d.routine.body))

  -- constructors and destructors that nobody wrote: they have no parameters, no initialisers and no body

  abbrev pub nowhere : Scope
  nowhere = record { class = None; routine = 0; names = []; handled = 0; cells = 0; hidden = 0; texts = 0; sites = 0 }

  abbrev pub unwritten_body : Role → ℕ → Stmts
  unwritten_body role.Plain i = Nil
  unwritten_body role.Constructor i = construction (class_at p i) i [] nowhere (construction_ends (class_at p i) i)
  unwritten_body role.Destructor i = destruction (class_at p i) i Nil

  abbrev pub unwritten_meant : Unwritten → Routine
  unwritten_meant u = record {
    line = 0;
    cells = 0;
    params = 0;
    purpose = Builder;
    written = false;
    body = unwritten_body u.role u.class;
  }

  abbrev pub all_unwritten : List Unwritten → List Routine
  all_unwritten [] = []
  all_unwritten (u ∷ us) = unwritten_meant u ∷ all_unwritten us

  -- the classes among these, the first of which has this place among the classes of the program
  abbrev pub classes_meant : ℕ → List whole.Class → List Class
  classes_meant place [] = []
  classes_meant place (c ∷ cs) = if is_event c.kind then classes_meant (place + 1) cs else record { cells = class_cells p place } ∷ classes_meant (place + 1) cs

  -- uMain, which has no fields, and the classes of the program
  abbrev pub all_classes : List Class
  all_classes = record { cells = 0 } ∷ classes_meant 0 (classes_of p.items)

  -- the source that a program is
  abbrev pub source_of : Source
  source_of = record {
    routines = routines_meant (routines_of p) 0 0 0 ++ all_unwritten (unwritten_of p);
    main = main_number p;
    classes = all_classes;
    sites = sites_of p;
    texts = texts_of p;
  }
