-- `Cells`: the cells of classes and of frames.
use Rattle.std.specs.Prelude.{ℕ, ◌+◌, ℤ, List, [], ◌∷◌, ◌++◌, Bool, true, false, Option, Some, None, if◌then◌else◌, map}
use Rattle.std.specs.List.{list_any}
use Rattle.uc_tree.specs.declared.kinds.Base.{Base}
use Rattle.uc_tree.specs.declared.kinds.Base.TheVariants as base
use Rattle.uc_tree.specs.declared.kinds.Kind.{Kind}
use Rattle.uc_tree.specs.declared.kinds.Kind.TheVariants as kind
use Rattle.uc_tree.specs.declared.kinds.Param.{Param}
use Rattle.uc_tree.specs.declared.rows.FieldClass.{FieldClass}
use Rattle.uc_tree.specs.declared.rows.FieldLayout.{FieldLayout}
use Rattle.uc_tree.specs.Names.{same_name}
use Rattle.uc_tree.specs.Constants.{constants_of, value_of_name, elements}
use Rattle.uc_tree.specs.Rows.{ClassLayout, cells_of, held_cells, element_cells}
use Rattle.uc_tree.specs.Statements.{Declarator, ForStart, NoFor, ForDeclare, ForEvaluate, Stmt, Block, Empty, Evaluate, Declare, If, While, Do, For, Break, Continue, Return, Try, Throw, Raise, RaiseAt, Enable, Disable, Accept, Print, PrintTogether, Read, Resume, Suspend, Yield, Migrate, Stmts, NoStmts, MoreStmts, MaybeStmt, NoStmt, OneStmt, Handler, Handles, Handlers, NoHandlers, MoreHandlers, Clause, Accepts, Clauses, NoClauses, MoreClauses}
use Rattle.uc_tree.specs.Programs.{Routine, MemberForm, FieldsMember, RoutineMember, ProtoMember, Member, Class, Constant, Item, ClassItem, RoutineItem, ConstItem, ProtoItem, ForwardItem, UsingItem, Program}

-- the classes of a program in textual order, events included
abbrev pub classes_of : List Item → List Class
classes_of [] = []
classes_of (ClassItem class ∷ is) = class ∷ classes_of is
classes_of (RoutineItem routine ∷ is) = classes_of is
classes_of (ConstItem constant ∷ is) = classes_of is
classes_of (ProtoItem sig ∷ is) = classes_of is
classes_of (ForwardItem forward ∷ is) = classes_of is
classes_of (UsingItem pos ∷ is) = classes_of is

-- an object of a class of this kind; an event has none
abbrev pub object_of_kind : ℕ → Kind → Option FieldClass
object_of_kind i kind.Class = Some (record { class = i; plain = true })
object_of_kind i kind.Coroutine = Some (record { class = i; plain = true })
object_of_kind i kind.Monitor = Some (record { class = i; plain = false })
object_of_kind i kind.Cormonitor = Some (record { class = i; plain = false })
object_of_kind i kind.Task = Some (record { class = i; plain = false })
object_of_kind i kind.Event = None

-- of two classes with one name the first is meant; the first of the list has the number i
abbrev pub object_named : List Class → ℕ → List ℕ → Option FieldClass
object_named [] i name = None
object_named (c ∷ cs) i name = if same_name c.name name then object_of_kind i c.kind else object_named cs (i + 1) name

-- a base that is `void`, an event or undeclared counts as one that is no object
abbrev pub object_of : List Class → Base → Option FieldClass
object_of cs base.Void = None
object_of cs base.Int = None
object_of cs base.Char = None
object_of cs base.Bool = None
object_of cs base.Condition = None
object_of cs base.Cluster = None
object_of cs base.Processor = None
object_of cs (base.Named name) = object_named cs 0 name

-- what a declarator holds; `named` gives the values of names in its length
abbrev pub held_by : List Class → (List ℕ → Option ℤ) → Base → Declarator → FieldLayout
held_by cs named b d = record { count = elements named d; object = if d.by_ref then None else object_of cs b }

-- a member of a class hides a constant of its name in the lengths of the class

abbrev pub declares_name : List ℕ → List Declarator → Bool
declares_name name ds = list_any (λ d. same_name d.name name) ds

abbrev pub member_form_named : List ℕ → MemberForm → Bool
member_form_named name (FieldsMember at b ds) = declares_name name ds
member_form_named name (RoutineMember routine) = same_name routine.sig.name name
member_form_named name (ProtoMember sig) = same_name sig.name name

abbrev pub has_member : Class → List ℕ → Bool
has_member c name = list_any (λ m. member_form_named name m.form) c.members

abbrev pub seen_in : List Constant → Class → List ℕ → Option ℤ
seen_in constants c name = if has_member c name then None else value_of_name constants name

abbrev pub member_held : List Class → (List ℕ → Option ℤ) → MemberForm → List FieldLayout
member_held cs named (FieldsMember at b ds) = map (held_by cs named b) ds
member_held cs named (RoutineMember routine) = []
member_held cs named (ProtoMember sig) = []

abbrev pub members_held : List Class → (List ℕ → Option ℤ) → List Member → List FieldLayout
members_held cs named [] = []
members_held cs named (m ∷ ms) = member_held cs named m.form ++ members_held cs named ms

-- a coroutine or cormonitor has a cell before its fields, at which its execution is found
abbrev pub leading_cells : Kind → ℕ
leading_cells kind.Class = 0
leading_cells kind.Coroutine = 1
leading_cells kind.Monitor = 0
leading_cells kind.Cormonitor = 1
leading_cells kind.Task = 0
leading_cells kind.Event = 0

abbrev pub row_of : List Class → List Constant → Class → ClassLayout
row_of cs constants c = record { leading = leading_cells c.kind; held = members_held cs (seen_in constants c) c.members }

-- what the classes of a program hold
abbrev pub rows_of : Program → List ClassLayout
rows_of p = map (row_of (classes_of p.items) (constants_of p.items)) (classes_of p.items)

-- the cells of the class with this place among the classes of a program
abbrev pub class_cells : Program → ℕ → ℕ
class_cells p = cells_of (rows_of p)

-- the cells of a routine: of its parameters and of all locals of all its blocks. A handler's parameter has none.

-- how a local or a parameter is counted: by the classes of the program and the values of its constants
abbrev pub declared_cells : Program → Base → Declarator → ℕ
declared_cells p b d = held_cells (class_cells p) (held_by (classes_of p.items) (value_of_name (constants_of p.items)) b d)

abbrev pub param_cells : Program → Param → ℕ
param_cells p x = if x.by_ref then 1 else element_cells (class_cells p) (object_of (classes_of p.items) x.base)

abbrev pub params_cells : Program → List Param → ℕ
params_cells p [] = 0
params_cells p (x ∷ xs) = param_cells p x + params_cells p xs

abbrev pub declarators_cells : (Declarator → ℕ) → List Declarator → ℕ
declarators_cells cells [] = 0
declarators_cells cells (d ∷ ds) = cells d + declarators_cells cells ds

abbrev pub for_cells : ForStart → (Base → Declarator → ℕ) → ℕ
for_cells NoFor cells = 0
for_cells (ForDeclare pos b ds) cells = declarators_cells (cells b) ds
for_cells (ForEvaluate value) cells = 0

abbrev mutual
  pub stmt_cells : Stmt → (Base → Declarator → ℕ) → ℕ
  stmt_cells (Block pos body) cells = stmts_cells body cells
  stmt_cells (Empty pos) cells = 0
  stmt_cells (Evaluate pos value) cells = 0
  stmt_cells (Declare pos b ds) cells = declarators_cells (cells b) ds
  stmt_cells (If pos test chosen other) cells = stmt_cells chosen cells + maybe_cells other cells
  stmt_cells (While pos test body) cells = stmt_cells body cells
  stmt_cells (Do pos body test) cells = stmt_cells body cells
  stmt_cells (For pos start test step body) cells = for_cells start cells + stmt_cells body cells
  stmt_cells (Break pos) cells = 0
  stmt_cells (Continue pos) cells = 0
  stmt_cells (Return pos value) cells = 0
  stmt_cells (Try pos brace body hs) cells = stmts_cells body cells + handlers_cells hs cells
  stmt_cells (Throw pos raised) cells = 0
  stmt_cells (Raise pos raised) cells = 0
  stmt_cells (RaiseAt pos raised target) cells = 0
  stmt_cells (Enable pos events body) cells = stmt_cells body cells
  stmt_cells (Disable pos events body) cells = stmt_cells body cells
  stmt_cells (Accept pos cs other) cells = clauses_cells cs cells + maybe_cells other cells
  stmt_cells (Print pos items) cells = 0
  stmt_cells (PrintTogether pos items) cells = 0
  stmt_cells (Read pos places) cells = 0
  stmt_cells (Resume pos) cells = 0
  stmt_cells (Suspend pos) cells = 0
  stmt_cells (Yield pos) cells = 0
  stmt_cells (Migrate pos cluster) cells = 0

  pub stmts_cells : Stmts → (Base → Declarator → ℕ) → ℕ
  stmts_cells NoStmts cells = 0
  stmts_cells (MoreStmts first rest) cells = stmt_cells first cells + stmts_cells rest cells

  pub maybe_cells : MaybeStmt → (Base → Declarator → ℕ) → ℕ
  maybe_cells NoStmt cells = 0
  maybe_cells (OneStmt body) cells = stmt_cells body cells

  pub handler_cells : Handler → (Base → Declarator → ℕ) → ℕ
  handler_cells (Handles pos kind event param brace body) cells = stmts_cells body cells

  pub handlers_cells : Handlers → (Base → Declarator → ℕ) → ℕ
  handlers_cells NoHandlers cells = 0
  handlers_cells (MoreHandlers first rest) cells = handler_cells first cells + handlers_cells rest cells

  pub clause_cells : Clause → (Base → Declarator → ℕ) → ℕ
  clause_cells (Accepts pos guard members body) cells = stmt_cells body cells

  pub clauses_cells : Clauses → (Base → Declarator → ℕ) → ℕ
  clauses_cells NoClauses cells = 0
  clauses_cells (MoreClauses first rest) cells = clause_cells first cells + clauses_cells rest cells

abbrev pub routine_cells : Program → Routine → ℕ
routine_cells p r = params_cells p r.sig.params + stmts_cells r.body (declared_cells p)
