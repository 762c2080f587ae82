-- States whose operands, frames and activations are of the types that their to-do lists ask for, and what an answer brings to one.
use Rattle.std.specs.Prelude.{◌≡◌, ℕ, ◌<◌, ◌⊎◌, List, [], ◌∷◌, length, nat_eq, slice_get, Option, Some, None, Bool, true, false}
use Rattle.uc_tree.specs.Source.{OfObject, Get, GetOwn, Stmts, Scoped, Leaves, Ends, Frees, Source, Routine, Purpose, TaskMain, CoroutineMain, Procedure, Function, Builder}
use Rattle.uc_entry.specs.declared.request.Request.{Request}
use Rattle.uc_entry.specs.declared.request.Request.TheVariants as ask
use Rattle.uc_entry.specs.declared.request.Answer.{Answer}
use Rattle.uc_entry.specs.declared.request.Answer.TheVariants as answer
use Rattle.uc_machine.specs.declared.exec.Stage.{Stage}
use Rattle.uc_machine.specs.declared.exec.Stage.TheVariants.{Fresh, Started, Ended}
use Rattle.uc_machine.specs.declared.exec.Visited.{Visited}
use Rattle.uc_machine.specs.Executions.{Execution, at_depth, others}
use Rattle.uc_machine.specs.Raising.{within}
use Rattle.uc_machine.specs.Pieces.{Link, Slot, FieldAt, At, Value, Number, Place, Running, Object, Nothing, Todo, Active, State, Env, Members, Step, Goes, Ticks, Asks, loaded, further, top, variable_at, Eval, LoadNow}
use Rattle.uc_machine.specs.Answering.{child_main}
use Rattle.uc_typing.specs.Typing.{Ty, Num, Cell, Obj, Raw, Row, Clu, Pro, Name, Enters, Makes, Sig, Table, IsRoutine, InScope, FineStmts}
use Rattle.uc_typing.specs.Pieces.{Ok, Left, onto}

-- what a place that is not whole yet is a place of
abbrev pub whole : Ty → Ty
whole Num = Num
whole (Cell a) = Cell (whole a)
whole (Obj c) = Obj c
whole (Raw c) = Obj c
whole (Row n a) = Row n (whole a)
whole Clu = Clu
whole Pro = Pro

-- the fields of a mutex object are found from the object itself
abbrev pub IsRoot : Table → Ty → Type 0
IsRoot t (Obj c) = t.mutex c ≡ true
IsRoot t _ = ⊥

-- a path leads to what is of this type, where what stands at its variable is taken for it
abbrev pub Leads : Table → List Link → Ty → Type 0
Leads t [] a = IsRoot t a
Leads t (Slot k ∷ p) a = Unit {0}
Leads t (FieldAt s i ∷ p) a = (c : ℕ) × Leads t p (Obj c) × (s ≡ t.shape c) × (a ≡ whole (t.fields c i))
Leads t (At s i ∷ p) a = (n : ℕ) × Leads t p (Row n a) × (i < n)

-- a place of what is no object
abbrev pub IsAt : Table → Ty → Value → Type 0
IsAt t a (Number n) = ⊥
IsAt t a (Place o p) = Leads t p a
IsAt t a (Running e) = ⊥
IsAt t a (Object o) = ⊥
IsAt t a Nothing = ⊥

-- what is known by its number
abbrev pub IsNumbered : Value → Type 0
IsNumbered (Number n) = ⊥
IsNumbered (Place o p) = ⊥
IsNumbered (Running e) = ⊥
IsNumbered (Object o) = Unit {0}
IsNumbered Nothing = ⊥

-- an object: of a mutex class its number, else its place
abbrev pub IsObjectBy : Table → Bool → ℕ → Value → Type 0
IsObjectBy t true c v = IsNumbered v
IsObjectBy t false c v = IsAt t (Obj c) v

abbrev pub IsObject : Table → ℕ → Value → Type 0
IsObject t c v = IsObjectBy t (t.mutex c) c v

-- a value is of a type; of numbers nothing is claimed
abbrev pub Is : Table → Ty → Value → Type 0
Is t Num v = Unit {0}
Is t (Cell a) v = IsAt t (Cell (whole a)) v
Is t (Obj c) v = IsObject t c v
Is t (Raw c) v = IsObject t c v
Is t (Row n a) v = IsAt t (Row n (whole a)) v
Is t Clu v = IsNumbered v
Is t Pro v = IsNumbered v

abbrev pub Values : Table → List Ty → List Value → Type 0
Values t [] [] = Unit {0}
Values t [] (v ∷ vs) = ⊥
Values t (a ∷ more) [] = ⊥
Values t (a ∷ more) (v ∷ vs) = Is t a v × Values t more vs

-- the first cells of a frame hold the parameters
abbrev pub Bound : Table → List Ty → List Value → Type 0
Bound t [] vs = Unit {0}
Bound t (a ∷ more) [] = ⊥
Bound t (a ∷ more) (v ∷ vs) = Is t a v × Bound t more vs

-- each frame is one of a routine of this kind
abbrev pub Framed : Table → List Sig → List (List Value) → Type 0
Framed t [] [] = Unit {0}
Framed t [] (f ∷ fs) = ⊥
Framed t (g ∷ gs) [] = ⊥
Framed t (g ∷ gs) (f ∷ fs) = Bound t g.params f × Framed t gs fs

abbrev pub IsThis : Table → Option ℕ → Value → Type 0
IsThis t None v = Unit {0}
IsThis t (Some c) v = IsObject t c v

-- one of two
abbrev pub Either : Bool → Type 0 → Type 0 → Type 0
Either true A B = A
Either false A B = B

-- what is in scope when all of an activation is done, among these older ones: nothing; of a handler of resumptions what is in scope
-- behind its guarded block, in the activation of its routine, which waits and has the same frame
abbrev pub IsBase : Table → Sig → Option Visited → List Name → ℕ → List Active → Type 0
IsBase t g None base frame older = base ≡ []
IsBase t g (Some v) base frame [] = ⊥
IsBase t g (Some v) base frame (c ∷ older) =
    Either (nat_eq (length older) v.level)
    ((outer : List Name) × (c.frame ≡ frame) × Left t g outer base (within v.rest c.control) ×
    IsBase t g c.handles outer frame older)
    (IsBase t g (Some v) base frame older)

-- an activation is in order, before these older ones, that is to find these operands behind its own
pub record Active_is (t : Table) (gs : List Sig) (given : List Ty) (older : List Active) (a : Active) : Type 0 where
  pub sig : Sig
  pub own : List Ty
  pub scope : List Name
  pub base : List Name
  pub frame : at_depth gs a.frame ≡ Some sig
  pub values : Values t own a.operands
  pub this : IsThis t sig.this a.this
  pub ok : Ok t sig base scope a.control (onto given own)
  pub ends : IsBase t sig a.handles base a.frame older

-- those that wait, each for a number
abbrev pub Waits : Table → List Sig → List Active → Type 0
Waits t gs [] = Unit {0}
Waits t gs (c ∷ cs) = Active_is t gs (Num ∷ []) cs c × Waits t (others gs) cs

-- the executions that do not run, where they may be activated
pub record Rests (t : Table) (x : Execution (List Todo) Value) : Type 0 where
  pub sigs : List Sig
  pub frames : Framed t sigs x.frames
  pub run : Active_is t sigs [] x.callers x.run
  pub callers : Waits t (others sigs) x.callers

abbrev pub RestsBy : Table → Stage → Execution (List Todo) Value → Type 0
RestsBy t Fresh x = Rests t x
RestsBy t Started x = Rests t x
RestsBy t Ended x = Unit {0}

abbrev pub MaybeRests : Table → Option (Execution (List Todo) Value) → Type 0
MaybeRests t None = Unit {0}
MaybeRests t (Some x) = RestsBy t x.links.stage x

abbrev pub Parked : Table → List (ℕ × Option (Execution (List Todo) Value)) → Type 0
Parked t [] = Unit {0}
Parked t (p ∷ ps) = MaybeRests t p.1 × Parked t ps

abbrev pub Inhand : Table → List (ℕ × Members) → Type 0
Inhand t [] = Unit {0}
Inhand t (p ∷ ps) = Parked t p.1.parked × Inhand t ps

abbrev pub Idle : Table → Env → Type 0
Idle t e = Parked t e.house.parked × Inhand t e.hand

-- a state that is to be given these operands
pub record Typed (t : Table) (given : List Ty) (s : State) : Type 0 where
  pub sigs : List Sig
  pub frames : Framed t sigs s.env.frames
  pub run : Active_is t sigs given s.callers s.run
  pub callers : Waits t (others sigs) s.callers
  pub idle : Idle t s.env

-- the main of a task: its object is of a mutex class, or that of the program, which is not used
abbrev pub IsOfTask : Table → Option ℕ → Type 0
IsOfTask t None = Unit {0}
IsOfTask t (Some c) = t.mutex c ≡ true

abbrev pub IsTask : Table → ℕ → Type 0
IsTask t r = IsOfTask t (t.routine r).this × ((t.routine r).params ≡ []) × IsRoutine t r

-- a state that has asked is to be given what the answer tells, and what is spawned is a task; behind an end what others may go on with is
-- in order, and behind a fault there is nothing
abbrev pub Asked : Table → Source → Request → State → Type 0
Asked t source (ask.Make n) s = (c : ℕ) × (t.number c ≡ n) × (t.mutex c ≡ true) × Typed t (Raw c ∷ []) s
Asked t source (ask.Spawn o) s = IsTask t (child_main source s.run.control) × Typed t [] s
Asked t source (ask.Accept o site mask) s = Typed t (Num ∷ (Num ∷ [])) s
Asked t source (ask.Empty o n) s = Typed t (Num ∷ []) s
Asked t source (ask.Front o n) s = Typed t (Num ∷ []) s
Asked t source (ask.Poll mask) s = Typed t (Num ∷ (Num ∷ (Num ∷ []))) s
Asked t source (ask.Read form) s = Typed t (Num ∷ []) s
Asked t source ask.Fail s = Typed t (Num ∷ []) s
Asked t source ask.Cluster s = Typed t (Clu ∷ []) s
Asked t source (ask.Processor c) s = Typed t (Pro ∷ []) s
Asked t source ask.End s = Idle t s.env
Asked t source (ask.Fault n) s = Unit {0}
Asked t source _ s = Typed t [] s

-- what may be answered to a request
abbrev pub Suits : Request → Answer → Type 0
Suits (ask.Make n) (answer.Object o) = Unit {0}
Suits (ask.Accept o site mask) (answer.Clause k failed) = Unit {0}
Suits (ask.Empty o n) (answer.Number z) = Unit {0}
Suits (ask.Front o n) (answer.Number z) = Unit {0}
Suits (ask.Poll mask) (answer.Event n x y) = Unit {0}
Suits (ask.Poll mask) answer.Nothing = Unit {0}
Suits (ask.Read form) (answer.Value z failed) = Unit {0}
Suits ask.Fail (answer.Number z) = Unit {0}
Suits ask.Cluster (answer.Object o) = Unit {0}
Suits (ask.Processor c) (answer.Object o) = Unit {0}
Suits (ask.Made o) answer.Go = Unit {0}
Suits (ask.Spawn o) answer.Go = Unit {0}
Suits (ask.Call o m) answer.Go = Unit {0}
Suits (ask.Leave o failed) answer.Go = Unit {0}
Suits (ask.Wait o n z) answer.Go = Unit {0}
Suits (ask.Signal o n) answer.Go = Unit {0}
Suits (ask.SignalBlock o n) answer.Go = Unit {0}
Suits (ask.Raise o n x y) answer.Go = Unit {0}
Suits ask.Yield answer.Go = Unit {0}
Suits ask.Slice answer.Go = Unit {0}
Suits (ask.Print n items) answer.Go = Unit {0}
Suits (ask.ClusterEnd c) answer.Go = Unit {0}
Suits (ask.ProcessorEnd c) answer.Go = Unit {0}
Suits (ask.Migrate c) answer.Go = Unit {0}
Suits (ask.Gone o) answer.Go = Unit {0}
Suits _ _ = ⊥

abbrev pub After : Table → Source → Step → Type 0
After t source (Goes s) = Typed t [] s
After t source (Ticks s) = Typed t [] s
After t source (Asks q s) = Asked t source q s

-- what this step reads of a variable, by its name, is of its type: of a number that says nothing
abbrev pub ReadsVariable : Table → List Name → State → List Todo → Type 0
ReadsVariable t sc s (Eval (Get k) ∷ todo) =
    t.refers ≡ true → (a : Ty) → InScope sc k (Cell a) → Is t a (loaded (variable_at k s) s.env)
ReadsVariable t sc s _ = Unit {0}

-- so is what it reads at a place, and of a field of the object at hand
abbrev pub ReadsPlace : Table → Sig → State → List Todo → List Ty → Type 0
ReadsPlace t g s (LoadNow ∷ todo) (Cell a ∷ more) = t.refers ≡ true → Is t a (loaded (top s.run.operands) s.env)
ReadsPlace t g s (Eval (OfObject (GetOwn k i)) ∷ todo) own =
    t.refers ≡ true → (c : ℕ) (a : Ty) → g.this ≡ Some c → Cell a ≡ t.fields c i →
    Is t a (loaded (further (FieldAt k i) s.run.this) s.env)
ReadsPlace t g s _ own = Unit {0}

-- that is what lifetimes show of what variables, places and fields are bound to
abbrev pub Reads : Table → Sig → List Name → State → List Todo → List Ty → Type 0
Reads t g sc s todo own = ReadsVariable t sc s todo × ReadsPlace t g s todo own

-- a constructor and a destructor are left as a whole, and so is nothing else
abbrev pub IsSorted : Purpose → Bool → Type 0
IsSorted TaskMain w = w ≡ false
IsSorted CoroutineMain w = w ≡ false
IsSorted Procedure w = w ≡ false
IsSorted Function w = w ≡ false
IsSorted Builder w = Unit {0}

-- statements that let go of the object at hand when they are left
abbrev pub LetsGo : Stmts → Type 0
LetsGo (Scoped Leaves rest) = Unit {0}
LetsGo (Scoped Ends rest) = Unit {0}
LetsGo (Scoped (Frees r) rest) = Unit {0}
LetsGo _ = ⊥

-- the body of a routine is in order, and its end; what enters its object lets go of it
pub record Routine_is (t : Table) (g : Sig) (r : Routine) : Type 0 where
  pub body : FineStmts t g [] r.body
  pub params : r.params ≡ length g.params
  pub purpose : IsSorted r.purpose g.whole
  pub enters : (g.inward ≡ Enters) ⊎ (g.inward ≡ Makes) → LetsGo r.body

-- the first cell of what has an execution is no declared field
pub record Sound (t : Table) (source : Source) : Type 0 where
  pub count : length source.routines ≡ t.count
  pub leads : (c : ℕ) → t.executes c ≡ true → t.fields c 0 ≡ Num
  pub routines : (n : ℕ) (r : Routine) → slice_get source.routines n ≡ Some r → Routine_is t (t.routine n) r
