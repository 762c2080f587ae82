-- States in which all that an execution can come by is known: its operands, the parameters in its frames, and the objects of its activations.
use Rattle.std.specs.Prelude.{◌≡◌, ℕ, ◌⊎◌, Bool, true, List, [], ◌∷◌, Option, Some, None}
use Rattle.uc_tree.specs.Source.{Expr, ObjectExpr, OfObject, GetOwn, Source, This}
use Rattle.uc_entry.specs.declared.request.Request.{Request}
use Rattle.uc_entry.specs.declared.request.Request.TheVariants as ask
use Rattle.uc_machine.specs.declared.exec.Exec.{Exec}
use Rattle.uc_machine.specs.declared.exec.Home.TheVariants.{Task}
use Rattle.uc_machine.specs.declared.exec.Owner.TheVariants.{Frame}
use Rattle.uc_machine.specs.declared.exec.Stage.{Stage}
use Rattle.uc_machine.specs.declared.exec.Stage.TheVariants.{Fresh, Started, Ended}
use Rattle.uc_machine.specs.Executions.{Execution, at_depth, others, members_at}
use Rattle.uc_machine.specs.Pieces.{Link, FieldAt, Value, Place, Todo, Eval, LoadNow, Object, SetUpNow, SpawnNow, Active, State, Env, Members, Step, Goes, Ticks, Asks, further, loaded, top, object_in}
use Rattle.uc_machine.specs.Switches.{new_exec}
use Rattle.uc_machine.specs.Quiet.{home_at}
use Rattle.uc_machine.specs.Answering.{child_main}
use Rattle.uc_typing.specs.Typing.{Ty, Num, Cell, Obj, Raw, Clu, Pro, Name, Sig, Table, IsTarget, object_ty, Yields}
use Rattle.uc_typing.specs.Pieces.{Ok, onto}
use Rattle.uc_typing.specs.States.{IsBase, IsTask}
use Rattle.uc_life_laws.specs.Things.{Few, IsBinding, IsReference, IsResource, IsLoosePlace, Within, OwnFields, Variables, Base, Things, UnmadeBehind, LiesIn, Known, Held, IsFew}
use Rattle.uc_life_laws.specs.LifeStates.{EnvBy}

-- the object at hand, in a constructor or a destructor: it is there, but not whole
abbrev pub Making : Sig → Value → Value → Ty → Type 0
Making g this w a = (g.whole ≡ true) × ((c : ℕ) × (g.this ≡ Some c) × (w ≡ this) × (a ≡ Raw c))

-- so it is of these activations, with the kinds of their frames
abbrev pub InMaking : List Sig → List Active → Value → Ty → Type 0
InMaking gs [] w a = ⊥
InMaking gs (c ∷ older) w a = ((g : Sig) × (at_depth gs c.frame ≡ Some g) × Making g c.this w a) ⊎
    InMaking (others gs) older w a

-- what is not whole: what is being built and destroyed, and what lies in what older activations wait for
abbrev pub NotWhole : Table → Exec → List Sig → List Active → Value → Ty → Type 0
NotWhole t n gs cs w a = InMaking gs cs w a ⊎ UnmadeBehind t n cs w a

-- what an execution has at hand: all its things, and what is not whole
abbrev pub AtHand : Table → Few → Exec → List Sig → List Active → Value → Ty → Type 0
AtHand t few n gs cs w a = Things t few n cs w a ⊎ NotWhole t n gs cs w a

module _ (t : Table) (few : Few) (n : Exec) where
  -- operands
  abbrev pub KnownAll : (Value → Ty → Type 0) → List Ty → List Value → Type 0
  KnownAll K [] [] = Unit {0}
  KnownAll K [] (v ∷ vs) = ⊥
  KnownAll K (a ∷ more) [] = ⊥
  KnownAll K (a ∷ more) (v ∷ vs) = Known t few n K a v × KnownAll K more vs

  -- the first cells of a frame hold the parameters
  abbrev pub KnownParams : (Value → Ty → Type 0) → List Ty → List Value → Type 0
  KnownParams K [] vs = Unit {0}
  KnownParams K (a ∷ more) [] = ⊥
  KnownParams K (a ∷ more) (v ∷ vs) = Known t few n K a v × KnownParams K more vs

  -- each frame is one of a routine of this kind; its parameters are known to those that waited as it was called
  abbrev pub KnownFrames : List Sig → List (List Value) → List Active → Type 0
  KnownFrames [] [] [] = Unit {0}
  KnownFrames (g ∷ gs) (f ∷ fs) (c ∷ cs) = KnownParams (AtHand t few n gs cs) g.params f × KnownFrames gs fs cs
  KnownFrames _ _ _ = ⊥

  -- so is the object of an activation; that of a constructor or a destructor is not whole
  abbrev pub KnownThis : (Value → Ty → Type 0) → Sig → Option ℕ → Value → Type 0
  KnownThis K g None v = Unit {0}
  KnownThis K g (Some c) v = Known t few n K (object_ty g.whole c) v

  -- an activation is in order, before these older ones, that is to find these operands in front of its own
  pub record Knows (gs : List Sig) (given : List Ty) (older : List Active) (a : Active) : Type 0 where
    pub sig : Sig
    pub own : List Ty
    pub scope : List Name
    pub base : List Name
    pub frame : at_depth gs a.frame ≡ Some sig
    pub values : KnownAll (AtHand t few n gs (a ∷ older)) own a.operands
    pub this : KnownThis (AtHand t few n (others gs) older) sig sig.this a.this
    pub ok : Ok t sig base scope a.control (onto given own)
    pub ends : IsBase t sig a.handles base a.frame older

  -- those that wait, each for a number
  abbrev pub KnowsWaits : List Sig → List Active → Type 0
  KnowsWaits gs [] = Unit {0}
  KnowsWaits gs (c ∷ cs) = Knows gs (Num ∷ []) cs c × KnowsWaits (others gs) cs

-- Of each execution that does not run something may be claimed, by the kinds of its frames. Nothing is claimed here:
abbrev pub Anything : Exec → List Sig → Execution (List Todo) Value → Type 0
Anything n gs x = Unit {0}

module _ (t : Table) (few : Few) (Q : Exec → List Sig → Execution (List Todo) Value → Type 0) where
  -- an execution that does not run, where it may be activated; of which that is claimed by the same kinds
  pub record ClaimsEx (n : Exec) (x : Execution (List Todo) Value) : Type 0 where
    pub sigs : List Sig
    pub frames : KnownFrames t few n sigs x.frames (x.run ∷ x.callers)
    pub run : Knows t few n sigs [] x.callers x.run
    pub callers : KnowsWaits t few n (others sigs) x.callers
    pub claim : Q n sigs x

  abbrev pub ClaimsBy : Exec → Stage → Execution (List Todo) Value → Type 0
  ClaimsBy n Fresh x = ClaimsEx n x
  ClaimsBy n Started x = ClaimsEx n x
  ClaimsBy n Ended x = Unit {0}

  abbrev pub ClaimsSlot : Exec → Execution (List Todo) Value → Type 0
  ClaimsSlot n x = ClaimsBy n x.links.stage x

  abbrev pub ClaimsEnv : Env → Type 0
  ClaimsEnv e = EnvBy ClaimsSlot e

  -- a state that is to be given these operands
  pub record ClaimsState (given : List Ty) (s : State) : Type 0 where
    pub sigs : List Sig
    pub frames : KnownFrames t few s.env.exec sigs s.env.frames (s.run ∷ s.callers)
    pub run : Knows t few s.env.exec sigs given s.callers s.run
    pub callers : KnowsWaits t few s.env.exec (others sigs) s.callers
    pub env : ClaimsEnv s.env

abbrev pub KnowsEx : Table → Few → Exec → Execution (List Todo) Value → Type 0
KnowsEx t few = ClaimsEx t few Anything

abbrev pub KnowsBy : Table → Few → Exec → Stage → Execution (List Todo) Value → Type 0
KnowsBy t few = ClaimsBy t few Anything

abbrev pub KnowsSlot : Table → Few → Exec → Execution (List Todo) Value → Type 0
KnowsSlot t few = ClaimsSlot t few Anything

abbrev pub KnowsEnv : Table → Few → Env → Type 0
KnowsEnv t few = ClaimsEnv t few Anything

abbrev pub KnowsState : Table → Few → List Ty → State → Type 0
KnowsState t few = ClaimsState t few Anything

-- the execution with which a task begins
abbrev pub main_of : ℕ → Exec
main_of o = record { home = Task o; serial = 0 }

-- a task has its object, of this class, at hand as it begins
abbrev pub HasObject : Table → Few → Option ℕ → ℕ → Type 0
HasObject t few None o = Unit {0}
HasObject t few (Some c) o = Held t few (Base few (main_of o)) (Obj c) (Object o)

module _ (t : Table) (few : Few) where
  -- what a request names has such a number: the object of a call, which may be one to destroy it, that at which an event is raised, a cluster and
  -- a processor
  abbrev pub Names : Request → Type 0
  Names (ask.Call o m) = (c : ℕ) × (b : Bool) × (few.numbers (object_ty b c) o ≡ true)
  Names (ask.Raise o m x y) = (c : ℕ) × (few.numbers (Obj c) o ≡ true) × IsTarget t c
  Names (ask.ClusterEnd c) = few.numbers Clu c ≡ true
  Names (ask.Processor c) = few.numbers Clu c ≡ true
  Names (ask.ProcessorEnd q) = few.numbers Pro q ≡ true
  Names (ask.Migrate c) = few.numbers Clu c ≡ true
  Names r = Unit {0}

module _ (t : Table) (few : Few) (S : List Ty → State → Type 0) (E : Env → Type 0) (source : Source) where
  -- one that has asked is to be given what the answer tells, as S says; what is behind an end others go on with, as E says, and behind a fault nobody
  abbrev pub AskedBy : Request → State → Type 0
  AskedBy (ask.Make m) s = (c : ℕ) × (t.number c ≡ m) × (t.mutex c ≡ true) × S (Raw c ∷ []) s
  AskedBy (ask.Spawn o) s = IsTask t (child_main source s.run.control) ×
      HasObject t few (t.routine (child_main source s.run.control)).this o × S [] s
  AskedBy (ask.Accept o site mask) s = S (Num ∷ (Num ∷ [])) s
  AskedBy (ask.Empty o m) s = S (Num ∷ []) s
  AskedBy (ask.Front o m) s = S (Num ∷ []) s
  AskedBy (ask.Poll mask) s = S (Num ∷ (Num ∷ (Num ∷ []))) s
  AskedBy (ask.Read form) s = S (Num ∷ []) s
  AskedBy ask.Fail s = S (Num ∷ []) s
  AskedBy ask.Cluster s = S (Clu ∷ []) s
  AskedBy (ask.Processor c) s = S (Pro ∷ []) s
  AskedBy ask.End s = E s.env
  AskedBy (ask.Fault m) s = Unit {0}
  AskedBy r s = S [] s

  abbrev pub StepBy : Step → Type 0
  StepBy (Goes s) = S [] s
  StepBy (Ticks s) = S [] s
  StepBy (Asks r s) = Names t few r × AskedBy r s

abbrev pub KnowsAsked : Table → Few → Source → Request → State → Type 0
KnowsAsked t few = AskedBy t few (KnowsState t few) (KnowsEnv t few)

abbrev pub KnowsStep : Table → Few → Source → Step → Type 0
KnowsStep t few = StepBy t few (KnowsState t few) (KnowsEnv t few)

-- What a step is still to find, of a state in order.

-- places in frames of other executions and in mutex objects
abbrev pub IsOwn : Exec → Value → Type 0
IsOwn n (Place (Frame x d) p) = x ≡ n
IsOwn n v = ⊥

-- what the running execution has at hand
abbrev pub Here : Table → Few → List Sig → State → Value → Ty → Type 0
Here t few gs s w a = AtHand t few s.env.exec gs (s.run ∷ s.callers) w a

module _ (t : Table) (few : Few) (gs : List Sig) (s : State) where
  -- what is read at a place is known, where that is no reference, no cluster and no processor in what is whole, but one at a variable or an element of
  -- one, where it belongs to another execution or a mutex object, and where it lies in an object that is being built or destroyed
  pub record ReadsKnown (a : Ty) (v : Value) : Type 0 where
    pub untracked : (IsReference a → ⊥) → (IsResource a → ⊥) → Known t few s.env.exec (Here t few gs s) a (loaded v s.env)
    pub seated : IsResource a → IsLoosePlace s.env.exec v → Known t few s.env.exec (Here t few gs s) a (loaded v s.env)
    pub foreign : (IsOwn s.env.exec v → ⊥) → Known t few s.env.exec (Here t few gs s) a (loaded v s.env)
    pub field : (w : Value) (b : Ty) → OwnFields t few s.env.exec (s.run ∷ s.callers) w b →
        Within t w b v (Cell a) →
        Known t few s.env.exec (Here t few gs s) a (loaded v s.env)
    pub making : (w : Value) (c : ℕ) → Here t few gs s w (Raw c) → Within t w (Obj c) v (Cell a) →
        Known t few s.env.exec (Here t few gs s) a (loaded v s.env)

  -- what is read at a binding within a variable in scope is known
  abbrev pub VariablesKnown : Type 0
  VariablesKnown = (w : Value) (a : Ty) (d : ℕ) (p : List Link) (b : Ty) → IsBinding b → Variables t s.env.exec (s.run ∷ s.callers) w a →
      Within t w a (Place (Frame s.env.exec d) p) (Cell b) → Known t few s.env.exec (Here t few gs s) b (loaded (Place (Frame s.env.exec d) p) s.env)

module _ (t : Table) (few : Few) (gs : List Sig) (g : Sig) (sc : List Name) (s : State) where
  -- the object at hand has a number that one has which is whole, where one has it that is not
  abbrev pub IsStill : Type 0
  IsStill = (c : ℕ) → g.this ≡ Some c →
      (IsFew t few s.env.exec (Raw c) s.run.this → IsFew t few s.env.exec (Obj c) s.run.this) ×
      (IsFew t few s.env.exec (Obj c) s.run.this → IsFew t few s.env.exec (Raw c) s.run.this)

  abbrev pub FindsObject : ObjectExpr → Ty → Type 0
  FindsObject This a = IsStill
  FindsObject (GetOwn k i) a = ReadsKnown t few gs s a (further (FieldAt k i) s.run.this)
  FindsObject o a = Unit {0}

  abbrev pub FindsExpr : Expr → Ty → Type 0
  FindsExpr (OfObject o) a = FindsObject o a
  FindsExpr e a = Unit {0}

  abbrev pub Finds : List Todo → List Ty → Type 0
  Finds (Eval e ∷ todo) own = (a : Ty) → Yields t g sc e a → FindsExpr e a
  Finds (LoadNow ∷ todo) (Cell a ∷ more) = ReadsKnown t few gs s a (top s.run.operands)
  -- a new execution, whose home is in hand, has its coroutine at hand
  Finds (SetUpNow r ∷ todo) own = (m : Members) → members_at (home_at s.run.this s.env) s.env ≡ Some m →
      IsStill × ((c : ℕ) → g.this ≡ Some c →
      LiesIn t few (new_exec (home_at s.run.this s.env) s.env) (Base few (new_exec (home_at s.run.this s.env) s.env)) (Obj c) s.run.this)
  -- so has a new task
  Finds (SpawnNow r ∷ todo) own = HasObject t few (t.routine r).this (object_in s.run.this)
  Finds todo own = Unit {0}
