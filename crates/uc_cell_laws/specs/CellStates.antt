-- Tasks in which each frame is one of a routine, and its own cells hold no object or the one that is at home there, of the class of the cell; so do those of each
-- mutex object, by the class of which it was made. The first cell of a coroutine names no execution of which that is the own. The to-do lists of all activations that use a frame are code of its routine, before operands of which it is
-- known where they lie, and what a constructor or a destructor has at hand is an own part, of its class, of a variable or of a mutex object.
use Rattle.std.specs.Prelude.{◌≡◌, ℕ, suc, ◌≤◌, ◌<◌, ◌⊎◌, Bool, true, false, List, [], ◌∷◌, ◌++◌, length, slice_index_or, drop, Option, None, Some}
use Rattle.uc_entry.specs.declared.request.Answer.{Answer}
use Rattle.uc_entry.specs.declared.request.Answer.TheVariants as answer
use Rattle.uc_entry.specs.declared.request.Request.{Request}
use Rattle.uc_entry.specs.declared.request.Request.TheVariants as ask
use Rattle.uc_machine.specs.declared.exec.Exec.{Exec}
use Rattle.uc_machine.specs.declared.exec.Home.TheVariants as home
use Rattle.uc_machine.specs.declared.exec.Owner.{Owner}
use Rattle.uc_machine.specs.declared.exec.Owner.TheVariants.{Frame, Fields}
use Rattle.uc_machine.specs.Executions.{Execution, at_depth, exec_eq}
use Rattle.uc_machine.specs.Pieces as piece
use Rattle.uc_machine.specs.Pieces.{Link, Value, Number, Place, Running, Object, Nothing, LAST_ADDRESS, address, nought, top, below, Todo, Active, State, Env, Members, Step, Goes, Ticks, Asks}
use Rattle.uc_machine.specs.Quiet.{home_at}
use Rattle.uc_machine.specs.Switches.{new_exec}
use Rattle.uc_answer_laws.specs.Suiting.{form_of_request}
use Rattle.uc_typing.specs.Typing.{Ty, Cell, Obj}
use Rattle.uc_state_laws.specs.Counted.{params}
use Rattle.uc_state_laws.specs.Marked.{operands}
use Rattle.uc_life_laws.specs.Belonging.{Belongs}
use Rattle.uc_life_laws.specs.HomedStates.{Inside}
use Rattle.uc_life_laws.specs.LifeStates.{MembersBy, EnvBy}
use Rattle.uc_cell_laws.specs.Sites.{Telling, IsNoMaker}
use Rattle.uc_cell_laws.specs.CellTodos.{IsOwnPart, Mark, Any, mark_of, asked_class, around, Holds, anys, Ok}

-- a value lies in no frame
abbrev pub is_unframed : Value → Bool
is_unframed (Number z) = true
is_unframed (Place (Frame n d) p) = false
is_unframed (Place (Fields o) p) = true
is_unframed (Running x) = true
is_unframed (Object o) = true
is_unframed Nothing = true

-- the cell at which something begins
abbrev pub first_cell : Value → ℕ
first_cell (Number z) = 0
first_cell (Place o p) = address p
first_cell (Running x) = 0
first_cell (Object o) = 0
first_cell Nothing = 0

module _ (g : Telling) where
  -- the cell of a mutex object of the class c is an own part of what a scope of a routine is of, in a frame
  abbrev pub IsOwnCell : ℕ → Owner → List Link → ℕ → Type 0
  IsOwnCell r o x c = (g.table.mutex c ≡ true) × IsOwnPart g.table g.owns g.source r o (Place o x) (Cell (Obj c))

  -- what the constructor or destructor q has at hand is an own part of what a scope of the routine r is of, in a frame, of its class
  abbrev pub OfClass : ℕ → Owner → ℕ → Value → Type 0
  OfClass r o q v = (c : ℕ) × ((g.table.routine q).this ≡ Some c) × IsOwnPart g.table g.owns g.source r o v (Obj c)

  -- something of a type is an own part of a mutex object, of the class of which that was made
  pub record IsObjectPart (v : Value) (a : Ty) : Type 0 where
    pub number : ℕ
    pub class : ℕ
    pub told : g.class number ≡ Some class
    pub mutex : g.table.mutex class ≡ true
    pub inside : Inside g.table g.owns (Object number) (Obj class) v a

  -- so is the cell of one of the class d
  abbrev pub IsOwnField : ℕ → List Link → ℕ → Type 0
  IsOwnField o x d = (c : ℕ) × (g.table.mutex d ≡ true) × (g.class o ≡ Some c) × (g.table.mutex c ≡ true) ×
      Inside g.table g.owns (Object o) (Obj c) (Place (Fields o) x) (Cell (Obj d))

  -- a coroutine is an own part of what a scope of a routine is of, in a frame; so is one of a mutex object
  abbrev pub IsOwnCoroutine : ℕ → Owner → Value → ℕ → Type 0
  IsOwnCoroutine r o v c = (g.table.executes c ≡ true) × IsOwnPart g.table g.owns g.source r o v (Obj c)

  abbrev pub IsCoroutineIn : ℕ → Value → ℕ → Type 0
  IsCoroutineIn o v d = (c : ℕ) × (g.table.executes d ≡ true) × (g.class o ≡ Some c) × (g.table.mutex c ≡ true) ×
      Inside g.table g.owns (Object o) (Obj c) v (Obj d)

  -- a value does not name the execution of which all that this owner holds is the own, where that is told
  abbrev pub IsAllowed : Owner → Value → Type 0
  IsAllowed o v = (m : Exec) → v ≡ Running m → g.naming ≡ true → Belongs g.few m (Place o []) → ⊥

  -- so it is of what is written to a place
  abbrev pub MayName : Value → Value → Type 0
  MayName (Number z) w = Unit {0}
  MayName (Place o p) w = IsAllowed o w
  MayName (Running x) w = Unit {0}
  MayName (Object o) w = IsAllowed (Fields o) w
  MayName Nothing w = Unit {0}

  -- a value is no object, or the one that is at home at a place, of this class
  abbrev pub IsFree : Value → ℕ → Value → Type 0
  IsFree place c v = (o : ℕ) → v ≡ Object o → (g.few.home o ≡ place) × (g.class o ≡ Some c)

  -- so is what each own cell of a routine holds, in its frame of a depth with these values, and each of a mutex object
  abbrev pub HomeCells : Exec → ℕ → ℕ → List Value → Type 0
  HomeCells n r d vs = (x : List Link) (c : ℕ) → IsOwnCell r (Frame n d) x c → address x < LAST_ADDRESS →
      IsFree (Place (Frame n d) x) c (slice_index_or vs (address x) nought)

  abbrev pub HomeFields : ℕ → List Value → Type 0
  HomeFields o vs = (x : List Link) (c : ℕ) → IsOwnField o x c → address x < LAST_ADDRESS →
      IsFree (Place (Fields o) x) c (slice_index_or vs (address x) nought)

  -- and the first cell of each own coroutine names none of which that is the own
  abbrev pub NameCells : Exec → ℕ → ℕ → List Value → Type 0
  NameCells n r d vs = (v : Value) (c : ℕ) → IsOwnCoroutine r (Frame n d) v c → first_cell v < LAST_ADDRESS →
      IsAllowed (Frame n d) (slice_index_or vs (first_cell v) nought)

  abbrev pub NameFields : ℕ → List Value → Type 0
  NameFields o vs = (v : Value) (c : ℕ) → IsCoroutineIn o v c → first_cell v < LAST_ADDRESS →
      IsAllowed (Fields o) (slice_index_or vs (first_cell v) nought)

  abbrev pub Cells : Exec → ℕ → ℕ → List Value → Type 0
  Cells n r d vs = HomeCells n r d vs × NameCells n r d vs

  abbrev pub FieldCells : ℕ → List Value → Type 0
  FieldCells o vs = HomeFields o vs × NameFields o vs

  abbrev pub HandCells : List (ℕ × Members) → Type 0
  HandCells [] = Unit {0}
  HandCells (p ∷ ps) = FieldCells p.0 p.1.values × HandCells ps

module _ (g : Telling) (n : Exec) where
  -- frames of routines of these numbers
  abbrev pub AllCells : List ℕ → List (List Value) → Type 0
  AllCells [] [] = Unit {0}
  AllCells (r ∷ rs) (vs ∷ fs) = Cells g n r (length fs) vs × AllCells rs fs
  AllCells _ _ = ⊥

  -- what the constructor or destructor q has at hand lies so in a mutex object, or in a frame below this level
  abbrev pub IsRooted : List ℕ → ℕ → ℕ → Value → Type 0
  IsRooted rs level q v = ((c : ℕ) × ((g.table.routine q).this ≡ Some c) × IsObjectPart g v (Obj c)) ⊎
      ((d : ℕ) × (r : ℕ) × (d < level) × (at_depth rs d ≡ Some r) × OfClass g r (Frame n d) q v)

  -- an activation of this level that is to find operands in front of its own of which this is known
  pub record IsOf (given : List Mark) (rs : List ℕ) (level : ℕ) (a : Active) : Type 0 where
    pub routine : ℕ
    pub frame : at_depth rs a.frame ≡ Some routine
    pub low : a.frame ≤ level
    pub this : g.special routine ≡ true → IsRooted rs level routine a.this
    pub marks : List Mark
    pub holds : Holds g routine (around n a) marks a.operands
    pub ok : Ok g routine (given ++ marks) a.control

  -- those that wait
  abbrev pub AllWait : List ℕ → List Active → Type 0
  AllWait rs [] = Unit {0}
  AllWait rs (a ∷ older) = IsOf (Any ∷ []) rs (length older) a × AllWait rs older

module _ (g : Telling) where
  -- an execution of this name that does not run, with a frame for each activation
  pub record CellEx (n : Exec) (x : Execution (List Todo) Value) : Type 0 where
    pub routines : List ℕ
    pub frames : length x.frames ≡ suc (length x.callers)
    pub cells : AllCells g n routines x.frames
    pub run : IsOf g n [] routines (length x.callers) x.run
    pub callers : AllWait g n routines x.callers

  -- what is at home in the mutex object of this number
  abbrev pub FieldsOf : ℕ → Option Members → Type 0
  FieldsOf o None = Unit {0}
  FieldsOf o (Some m) = FieldCells g o m.values

  abbrev pub CellMembers : ℕ → Option Members → Type 0
  CellMembers o m = MembersBy CellEx (home.Object o) m × FieldsOf o m

  -- a task, but for its running execution
  pub record CellEnv (e : Env) : Type 0 where
    pub rests : EnvBy CellEx e
    pub fields : HandCells g e.hand

  -- a task whose running activation is to find operands in front of its own of which this is known
  pub record CellRest (given : List Mark) (s : State) : Type 0 where
    pub routines : List ℕ
    pub frames : length s.env.frames ≡ suc (length s.callers)
    pub cells : AllCells g s.env.exec routines s.env.frames
    pub run : IsOf g s.env.exec given routines (length s.callers) s.run
    pub callers : AllWait g s.env.exec routines s.callers
    pub env : CellEnv s.env

  abbrev pub CellState : State → Type 0
  CellState s = CellRest [] s

  -- behind an end and a fault the activation does nothing
  pub record CellEnd (s : State) : Type 0 where
    pub env : CellEnv s.env

  -- one that has asked this is to find what comes with the answer: the object that was asked for is of the class of the constructor that comes next
  abbrev pub CellAsk : Request → State → Type 0
  CellAsk ask.End s = CellEnd s
  CellAsk (ask.Fault f) s = CellEnd s
  CellAsk (ask.Make m) s = CellRest (mark_of (asked_class g.table s.run.control) ∷ []) s
  CellAsk r s = CellRest (anys (operands (form_of_request r)) []) s

  -- which is so of what it is told
  abbrev pub TellsClass : Request → Answer → State → Type 0
  TellsClass (ask.Make m) (answer.Object o) s = g.class o ≡ asked_class g.table s.run.control
  TellsClass r a s = Unit {0}

  abbrev pub CellStep : Step → Type 0
  CellStep (Goes s) = CellState s
  CellStep (Ticks s) = CellState s
  CellStep (Asks r s) = CellAsk r s

  -- a value may be written to a place: what is an own cell there is its home, if it is an object, and of its class, and the first cell of an own coroutine there
  -- may hold it
  module _ (rs : List ℕ) where
    abbrev pub OwnerFits : Owner → ℕ → Value → Env → Type 0
    OwnerFits (Frame m d) cell w e = (exec_eq m e.exec ≡ true) × ((r : ℕ) → at_depth rs d ≡ Some r → (x : List Link) (c : ℕ) → IsOwnCell g r (Frame e.exec d) x c → address x < LAST_ADDRESS → address x ≡ cell → IsFree g (Place (Frame e.exec d) x) c w) ×
        ((r : ℕ) → at_depth rs d ≡ Some r → (v : Value) (c : ℕ) → IsOwnCoroutine g r (Frame e.exec d) v c → first_cell v < LAST_ADDRESS → first_cell v ≡ cell → IsAllowed g (Frame e.exec d) w)
    OwnerFits (Fields o) cell w e = ((x : List Link) (c : ℕ) → IsOwnField g o x c → address x < LAST_ADDRESS → address x ≡ cell → IsFree g (Place (Fields o) x) c w) ×
        ((v : Value) (c : ℕ) → IsCoroutineIn g o v c → first_cell v < LAST_ADDRESS → first_cell v ≡ cell → IsAllowed g (Fields o) w)

    abbrev pub Fits : Value → Value → Env → Type 0
    Fits (Place o p) w e = OwnerFits o (address p) w e
    Fits (Object o) w e = OwnerFits (Fields o) 0 w e
    Fits v w e = Unit {0}

  -- what a constructor or a destructor of a mutex class is called for is a mutex object
  abbrev pub FindsNumber : ℕ → State → Type 0
  FindsNumber q s = g.special q ≡ true → (c : ℕ) → (g.table.routine q).this ≡ Some c → g.table.mutex c ≡ true →
      (o : ℕ) × (top (drop (params g.source q) s.run.operands) ≡ Object o)

  -- so a step is to find it; what is called without an object is none of these; what is bound to a new object is its home; and a coroutine that is set up is
  -- not the own of its new execution
  abbrev pub FindsAt : List Todo → State → Type 0
  FindsAt (piece.BindMadeNow c r ∷ todo) s = (o : ℕ) → top s.run.operands ≡ Object o →
      g.few.home o ≡ top (drop (params g.source r) (below s.run.operands))
  FindsAt (piece.CallNow q ∷ todo) s = IsNoMaker g q
  FindsAt (piece.CallOnNow q ∷ todo) s = FindsNumber q s
  FindsAt (piece.CallUnwrittenNow q ∷ todo) s = FindsNumber q s
  FindsAt (piece.SetUpNow q ∷ todo) s = g.naming ≡ true → Belongs g.few (new_exec (home_at s.run.this s.env) s.env) s.run.this → ⊥
  FindsAt todo s = Unit {0}

  abbrev pub CellFinds : State → Type 0
  CellFinds s = FindsAt s.run.control s
