-- The code that builds objects and ends their scopes.
use Rattle.std.specs.Prelude.{◌≡◌, ℕ, ◌+◌, ◌≤◌, List, [], ◌∷◌, Bool, true, false, Option, Some, None, length}
use Rattle.uc_tree.specs.declared.kinds.Role.TheVariants as role
use Rattle.uc_tree.specs.Programs.{Program}
use Rattle.uc_tree.specs.Cells.{class_cells}
use Rattle.uc_tree.specs.Objects.{number_at}
use Rattle.uc_code.specs.declared.op.Op.{Op}
use Rattle.uc_code.specs.declared.op.Op.TheVariants as op
use Rattle.uc_code.specs.declared.rows.Array.{Array}
use Rattle.uc_code.specs.declared.rows.Manner.{Manner}
use Rattle.uc_code.specs.declared.rows.Manner.TheVariants as manner
use Rattle.uc_code.specs.declared.rows.CodeMark.{CodeMark}
use Rattle.uc_code.specs.declared.rows.CodeMark.TheVariants as mark
use Rattle.uc_code.specs.declared.rows.ObjectCall.{ObjectCall}
use Rattle.uc_code.specs.declared.rows.Resource.TheVariants as resource
use Rattle.uc_code.specs.declared.rows.Cleaning.{Cleaning}
use Rattle.uc_code.specs.declared.rows.Cleaning.TheVariants as cleaning
use Rattle.uc_code.specs.declared.rows.ObjectSpot.{ObjectSpot}
use Rattle.uc_code.specs.Drafts.{Draft}
use Rattle.uc_code.specs.Layout.{Laid, laid_in}
use Rattle.uc_code.specs.OpenRows.{CleansBehind, clean_room}
use Rattle.uc_code.specs.Emits.{clean_length}
use Rattle.uc_code.specs.RowCounts.{cleaning_rows}
use Rattle.uc_code.specs.CodeShapes.{OpAt, Nothing, One, Both, Risk, HandlerAt, clean_up, OverElements, Kept}
use Rattle.uc_code.specs.Lowered.{CallBuilt, CallDone, CleanAt, PadAt}
use Rattle.uc_lower_expr.specs.declared.making.Made.{Made}
use Rattle.uc_lower_expr.specs.declared.making.Made.TheVariants as made
use Rattle.uc_lower_expr.specs.declared.numbering.ClassRoutine.{ClassRoutine}
use Rattle.uc_lower_expr.specs.Meanings.{is_mutex_at}
use Rattle.uc_lower_expr.specs.Members.{made_routine}
use Rattle.uc_lower_stmt.specs.RowFit.{RowsFit}

abbrev pub call_by : ClassRoutine → Manner → ObjectSpot → Option Array → ObjectCall
call_by r m spot array = record { spot = spot; array = array; routine = r.number; written = r.written; manner = m }

-- how an object of the class with the place i is built, and destroyed, by whether it is a mutex object
abbrev pub object_built : Program → ℕ → Bool → Manner
object_built p i true = manner.Makes (number_at p i)
object_built p i false = manner.Plain

abbrev pub object_ended : Bool → Manner
object_ended true = manner.Ends
object_ended false = manner.Plain

-- how what is made is
abbrev pub built_by : Program → Made → Manner
built_by p (made.Object i) = object_built p i (is_mutex_at p i)
built_by p made.Cluster = manner.Opens resource.Cluster
built_by p made.Processor = manner.Opens resource.Processor

abbrev pub ended_by : Program → Made → Manner
ended_by p (made.Object i) = object_ended (is_mutex_at p i)
ended_by p made.Cluster = manner.Closes resource.Cluster
ended_by p made.Processor = manner.Closes resource.Processor

-- the cells of an element of an array; what is no plain object is there by its number
abbrev pub object_cells : Program → ℕ → Bool → ℕ
object_cells p i true = 1
object_cells p i false = class_cells p i

abbrev pub element_cells : Program → Made → ℕ
element_cells p (made.Object i) = object_cells p i (is_mutex_at p i)
element_cells p made.Cluster = 1
element_cells p made.Processor = 1

-- an array of so many
abbrev pub array_by : Program → Made → Option ℕ → Option Array
array_by p m None = None
array_by p m (Some n) = Some (record { length = n; size = element_cells p m })

-- the calls that build and destroy it, which begins in a spot, or each element of an array
abbrev pub builder_of : Program → Made → ObjectSpot → Option Array → ObjectCall
builder_of p m spot array = call_by (made_routine p role.Constructor m) (built_by p m) spot array

abbrev pub destroyer_of : Program → Made → ObjectSpot → Option Array → ObjectCall
destroyer_of p m spot array = call_by (made_routine p role.Destructor m) (ended_by p m) spot array

-- the turns that build an array: at most so many ops; what builds an object, arguments apart, or an array
abbrev pub fill_room : ℕ
fill_room = 24

abbrev pub build_room : Option ℕ → ℕ
build_room None = 6
build_room (Some n) = fill_room

-- an array has a row, by its turns
abbrev pub build_rows : Option ℕ → ℕ
build_rows None = 0
build_rows (Some n) = 1

abbrev pub FillCode : ℕ → List CodeMark → ObjectCall → ObjectCall → ℕ → Laid → ℕ → ℕ → Type 0
FillCode line ms builder destroyer n code = OverElements code line ms 0 n (op.Fill n) op.Sweep (CallBuilt code line builder) (CallDone code line destroyer)

-- the innermost mark is the scope of an object with this clean-up, in a block of this line; it is a part of an object under construction
pub record InScope (what : Cleaning) (line : ℕ) (ms : List CodeMark) : Type 0 where
  pub row : ℕ
  pub outer : List CodeMark
  pub is : ms ≡ mark.Clean what line row ∷ outer
  pub behind : CleansBehind outer what

pub record InPart (ms : List CodeMark) : Type 0 where
  pub row : ℕ
  pub outer : List CodeMark
  pub is : ms ≡ mark.Part row ∷ outer

-- behind the statements in the scope of an object, up to z: its clean-up, and a pad for unwinding
pub record ScopeEnds (code : Laid) (line : ℕ) (ms : List CodeMark) (what : Cleaning) (row a z : ℕ) : Type 0 where
  pub clean_end : ℕ
  pub clean : CleanAt code line what ms a clean_end
  pub leave : OpAt code clean_end (op.Jump z) line
  pub unwinds : PadAt code line what ms (clean_end + 1) z
  pub handler : HandlerAt code row (clean_up (clean_end + 1))

-- behind what follows a part of an object under construction: its clean-up, for unwinding alone
pub record PartEnds (code : Laid) (line : ℕ) (ms : List CodeMark) (what : Cleaning) (row a z : ℕ) : Type 0 where
  pub leave : OpAt code a (op.Jump z) line
  pub unwinds : Both (CleanAt code line what ms) (Risk code ms op.Unwind line) (a + 1) z
  pub handler : HandlerAt code row (clean_up (a + 1))

-- a draft in which the scope of the innermost mark, of an object, has ended, by at most n ops
pub record ClosesScope (n : ℕ) (what : Cleaning) (line : ℕ) (old new : Draft) : Type 0 where
  pub rest : new ≡ record old { ops = new.ops; rows = new.rows; settled = new.settled; marks = new.marks }
  pub kept : Kept (laid_in old) (laid_in new)
  pub rows : RowsFit 0 (cleaning_rows what + cleaning_rows what) old new
  pub room : length new.ops ≤ length old.ops + n
  pub scope : (row : ℕ) (ms : List CodeMark) → old.marks ≡ mark.Clean what line row ∷ ms → ScopeEnds (laid_in new) line ms what row (length old.ops) (length new.ops)
  pub marks : (row : ℕ) (ms : List CodeMark) → old.marks ≡ mark.Clean what line row ∷ ms → new.marks ≡ ms

-- the same of a part of an object under construction
pub record ClosesPart (what : Cleaning) (line : ℕ) (old new : Draft) : Type 0 where
  pub rest : new ≡ record old { ops = new.ops; rows = new.rows; settled = new.settled; marks = new.marks }
  pub kept : Kept (laid_in old) (laid_in new)
  pub rows : RowsFit 0 (cleaning_rows what) old new
  pub room : length new.ops ≤ length old.ops + (clean_length what + 2)
  pub part : (row : ℕ) (ms : List CodeMark) → old.marks ≡ mark.Part row ∷ ms → PartEnds (laid_in new) line ms what row (length old.ops) (length new.ops)
  pub marks : (row : ℕ) (ms : List CodeMark) → old.marks ≡ mark.Part row ∷ ms → new.marks ≡ ms

-- a mutex object is made, and its place bound to it; nothing is done for others
abbrev pub MadeCode : ℕ → Manner → ℕ → Laid → ℕ → ℕ → Type 0
MadeCode line manner.Plain r code = Nothing
MadeCode line (manner.Makes c) r code = Both (One code (op.Make c r) line) (One code (op.BindMade c r) line)
MadeCode line manner.Ends r code = Nothing
MadeCode line (manner.Opens of) r code = Nothing
MadeCode line (manner.Closes of) r code = Nothing

-- what is given up where it is unwound: the building of a mutex object
abbrev pub frees : Cleaning → Bool
frees (cleaning.Call what) = false
frees cleaning.TakeDown = false
frees cleaning.Forget = false
frees cleaning.Leave = false
frees cleaning.End = false
frees (cleaning.Free main) = true
frees (cleaning.Restore cell) = false

-- what leaves a mutex call
abbrev pub leaves : Cleaning → Bool
leaves (cleaning.Call what) = false
leaves cleaning.TakeDown = false
leaves cleaning.Forget = false
leaves cleaning.Leave = true
leaves cleaning.End = false
leaves (cleaning.Free main) = false
leaves (cleaning.Restore cell) = false

-- the op of a clean-up that ends the building of a mutex object, where a task begins with its main
abbrev pub free_op : Option ℕ → Op
free_op None = op.Made
free_op (Some r) = op.Spawn r

-- how many ops a clean-up takes at most
abbrev pub most_clean : Cleaning → ℕ
most_clean (cleaning.Call what) = clean_room
most_clean cleaning.TakeDown = 1
most_clean cleaning.Forget = 1
most_clean cleaning.Leave = clean_room
most_clean cleaning.End = 1
most_clean (cleaning.Free main) = 1
most_clean (cleaning.Restore cell) = 1

-- the marks of a mutex call, outside of its scope: those of a routine alone, so that a return ends it
pub record InCall (ms : List CodeMark) : Type 0 where
  pub routine : ℕ
  pub is : ms ≡ mark.Body routine ∷ []

-- its pad, and its end
abbrev pub arrival_room : ℕ
arrival_room = 13

abbrev pub call_room : ℕ
call_room = arrival_room + 6
