-- The fields of a class, as its constructor builds them and its destructor leaves them.
use Rattle.std.specs.Prelude.{◌≡◌, ℕ, ◌+◌, ◌*◌, ◌<◌, Bool, List, [], ◌∷◌, length, Option, Some, None, true, false, option_map, slice_get, if◌then◌else◌}
use Rattle.uc_tree.specs.declared.limits.TheConstants.{OPS_FOR_SIZE}
use Rattle.uc_tree.specs.declared.kinds.Role.{Role}
use Rattle.uc_tree.specs.Expressions as tree
use Rattle.uc_tree.specs.ExpressionSizes.{exprs_size}
use Rattle.uc_tree.specs.Programs.{Class, Init, Program}
use Rattle.uc_tree.specs.Cells.{leading_cells}
use Rattle.uc_tree.specs.Numbering.{is_mutex}
use Rattle.uc_tree.specs.Objects.{ClassField, has_execution, class_at, class_made, class_shape, fields_of, making}
use Rattle.uc_tree.specs.Source.{Expr, Shape, Stmts}
use Rattle.uc_resolve.specs.Resolve.{Meant, Own, Scope, converted, ending, value_of, field_built, field_making, field_left, field_place, field_started, fields_built, fields_left, forgotten, length_in_class, set_up, started_in, taken_down}
use Rattle.uc_code.specs.declared.rows.CodeMark.{CodeMark}
use Rattle.uc_code.specs.declared.rows.ObjectSpot.TheVariants as spot
use Rattle.uc_code.specs.declared.op.Op.{Op}
use Rattle.uc_code.specs.declared.op.Op.TheVariants as op
use Rattle.uc_code.specs.Layout.{Laid}
use Rattle.uc_code.specs.OpenRows.{clean_room}
use Rattle.uc_code.specs.CodeShapes.{Both, One}
use Rattle.uc_code.specs.Lowered.{ExprAt}
use Rattle.uc_lower_expr.specs.declared.fields.Field.{Field}
use Rattle.uc_lower_expr.specs.Members.{routine_for}
use Rattle.uc_lower_stmt.specs.Blocks.{AllStandBehind}
use Rattle.uc_lower_class.specs.declared.parts.ObjectPart.{ObjectPart}
use Rattle.uc_lower_class.specs.Inits.{init_exprs}

-- the part that a field is
abbrev pub part_in : Field → Option ObjectPart
part_in v = if v.by_ref then None else option_map (λ m. record { made = m; spot = spot.This v.cell; length = v.told.elements }) v.made

-- at most so many ops build a part besides its arguments, and end what follows it
abbrev pub part_room : Option ℕ → ℕ
part_room None = 14
part_room (Some n) = 48

-- the same of a field, by the length that its declarator has
abbrev pub room_by : Option tree.Expr → ℕ
room_by None = 14
room_by (Some e) = 48

abbrev pub fields_room : List Init → List ClassField → ℕ
fields_room inits [] = 0
fields_room inits (f ∷ fs) = room_by f.declarator.len + OPS_FOR_SIZE * exprs_size (init_exprs inits f.declarator.name) + fields_room inits fs

-- what builds and destroys it, and nobody wrote, stands further on than the routine of these marks, where the field is a part
abbrev pub PartBehind : Program → List CodeMark → Option ObjectPart → Type 0
PartBehind p ms None = Unit {0}
PartBehind p ms (Some part) = AllStandBehind p part.made ms

-- the class of the objects of a field, by its place; a reference names no object of its own
abbrev pub field_class : Program → ClassField → Option ℕ
field_class p f = if f.declarator.by_ref then None else class_made (making p f.base)

-- so it is for each field of the class with the place i, for a routine of this number
pub record FieldsBehind (p : Program) (i number : ℕ) : Type 0 where
  pub each : (c : Class) (place : ℕ) (f : ClassField) (j : ℕ) → class_at p i ≡ Some c → slice_get (fields_of c.members) place ≡ Some f → field_class p f ≡ Some j → (wanted : Role) → (routine_for p j wanted).written ≡ false → number < (routine_for p j wanted).number

-- a field of the class c with the place i is built with these arguments, before other statements; and it is in scope in them
abbrev pub field_then : Program → Class → ℕ → ℕ → ClassField → List Meant → Stmts → Stmts
field_then p c i number f args rest = field_built p (field_making p f) f (length_in_class p c i f) (field_place (class_shape p i) number Own) args rest

abbrev pub left_then : Program → Class → ℕ → ℕ → ClassField → Stmts → Stmts
left_then p c i number f rest = field_left p (field_making p f) (length_in_class p c i f) (field_place (class_shape p i) number Own) rest

abbrev pub started_then : Program → ℕ → ℕ → ClassField → List Meant → Stmts → Stmts
started_then p i number f args rest = field_started p f (field_place (class_shape p i) number Own) args rest

-- what a reference is bound to, and the value that a scalar keeps; the op that binds or writes it, and the code that does so to the
-- field that begins at this cell
abbrev pub held_by : Bool → Shape → Meant → Expr
held_by by_ref s m = if by_ref then m.expr else converted s (value_of m)

abbrev pub keep_op : Bool → Op
keep_op by_ref = if by_ref then op.Bind else op.Keep

abbrev pub StartedCode : List CodeMark → ℕ → Bool → Expr → Laid → ℕ → ℕ → Type 0
StartedCode ms cell by_ref e code = Both (Both (One code (op.This cell) 0) (Both (ExprAt code 0 ms e) (One code (keep_op by_ref) 0))) (One code op.Discard 0)

-- how many ops end the scope of a field, and one of the object at hand
abbrev pub field_close : ℕ
field_close = 2 * clean_room + 2

abbrev pub own_close : ℕ
own_close = 4

-- mutex objects: how many scopes stand round all of a constructor, and of a destructor
abbrev pub mutex_count : Bool → ℕ
mutex_count true = 1
mutex_count false = 0

-- coroutines: how many ops set up an execution, begin with what its body starts, and make it live; and in a destructor how many objects
-- are in scope more, and how many ops unwind it

abbrev pub set_up_room : Bool → ℕ
set_up_room true = 4
set_up_room false = 0

abbrev pub start_room : Bool → ℕ
start_room true = 3
start_room false = 0

abbrev pub enliven_room : Bool → ℕ
enliven_room true = 1
enliven_room false = 0

abbrev pub forget_count : Bool → ℕ
forget_count true = 1
forget_count false = 0

abbrev pub take_down_room : Bool → ℕ
take_down_room true = 1
take_down_room false = 0

-- all of the fields of the class with the place i, and the execution of its objects
abbrev pub all_built : Program → ℕ → List Init → Scope → Option Class → Stmts → Stmts
all_built p i inits s None rest = rest
all_built p i inits s (Some c) rest =
    set_up p (has_execution c.kind) i (fields_built p c i inits s (fields_of c.members) (leading_cells c.kind) (started_in p (has_execution c.kind) rest))

abbrev pub all_left : Program → ℕ → Option Class → Stmts → Stmts
all_left p i None rest = rest
all_left p i (Some c) rest =
    ending p (is_mutex c.kind) (forgotten p (has_execution c.kind) (fields_left p c i (fields_of c.members) (leading_cells c.kind) (taken_down p (has_execution c.kind) rest)))

abbrev pub all_room : List Init → Option Class → ℕ
all_room inits None = 0
all_room inits (Some c) = set_up_room (has_execution c.kind) + (fields_room inits (fields_of c.members) + start_room (has_execution c.kind))

abbrev pub live_room : Option Class → ℕ
live_room None = 0
live_room (Some c) = enliven_room (has_execution c.kind)

abbrev pub left_count : Option Class → ℕ
left_count None = 0
left_count (Some c) = mutex_count (is_mutex c.kind) + (forget_count (has_execution c.kind) + length (fields_of c.members))

abbrev pub left_room : Option Class → ℕ
left_room None = 0
left_room (Some c) = own_close * mutex_count (is_mutex c.kind) + (own_close * forget_count (has_execution c.kind) + (field_close * length (fields_of c.members) + take_down_room (has_execution c.kind)))
