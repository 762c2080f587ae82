-- Executions whose marks are for what is their own, and of which none stands around an object that is being built or destroyed: what an
-- activation builds or destroys is at home where nothing is cleaned up outwards of it.
use Rattle.std.specs.Prelude.{ℕ, ◌⊎◌, List, [], ◌∷◌, Option}
use Rattle.uc_tree.specs.Source.{CleanUp, Ends, Frees, Scoped, Built}
use Rattle.uc_entry.specs.declared.request.Request.{Request}
use Rattle.uc_entry.specs.declared.request.Request.TheVariants as ask
use Rattle.uc_machine.specs.declared.exec.Exec.{Exec}
use Rattle.uc_machine.specs.declared.exec.Home.{Home}
use Rattle.uc_machine.specs.declared.exec.Owner.TheVariants.{Frame}
use Rattle.uc_machine.specs.Executions.{Execution}
use Rattle.uc_machine.specs.Pieces.{Value, Todo, Rest, GoneNow, GiveUpNow, Sort, sort, IsClean, IsPart, Active, State, Members, Step, Goes, Ticks, Asks, object_in}
use Rattle.uc_typing.specs.Typing.{Ty, Cell, Obj, Table}
use Rattle.uc_life_laws.specs.Things.{Few, Within, AtField, IsFor, InTodo, InStack, NoBase, Stands}
use Rattle.uc_life_laws.specs.LifeStates.{MembersBy, EnvBy}
use Rattle.uc_life_laws.specs.Belonging.{Belongs}

-- what an execution of this name has to clean up
abbrev pub Marked : Table → Exec → List Active → Value → Ty → Type 0
Marked t n cs w a = InStack (IsFor t) (AtField t) NoBase n cs w a

-- so what an activation with this frame and this object has, which has this to do before older ones
abbrev pub Outward : Table → Exec → ℕ → Value → List Active → List Todo → Value → Ty → Type 0
Outward t n f this older todo w a = InTodo (IsFor t (Frame n f) this) (AtField t (Frame n f) this) todo w a ⊎
    Marked t n older w a

module _ (t : Table) (few : Few) where
  -- an object is not at home in what these things are, nor in a mutex object that is
  abbrev pub Free : ℕ → (Value → Ty → Type 0) → Type 0
  Free o K = (c : ℕ) → Stands t few K (Cell (Obj c)) (few.home o) → ⊥

  module _ (n : Exec) (f : ℕ) (this : Value) (older : List Active) where
    -- the object at hand is at home in what is the execution's own, and where nothing is cleaned up by what is to do
    abbrev pub Lone : List Todo → Type 0
    Lone todo = Belongs few n (few.home (object_in this)) × Free (object_in this) (Outward t n f this older todo)

    -- the object at hand is the execution's own where a clean-up is for a field of it
    abbrev pub OwnFields : CleanUp → Type 0
    OwnFields c = (w : Value) (a : Ty) → AtField t (Frame n f) this c w a → Belongs few n this

    -- what such a clean-up is for stands in nothing that is cleaned up outwards of it, as far as mutex objects are at home there
    abbrev pub Sole : CleanUp → List Todo → Type 0
    Sole c todo = (w : Value) (a : Ty) → AtField t (Frame n f) this c w a → (v : Value) (d e : ℕ) →
        Within t w a v (Cell (Obj d)) → Stands t few (Outward t n f this older todo) (Cell (Obj e)) v → ⊥

    -- of a clean-up, before what is to do outwards of it: where the mutex object at hand is destroyed, where it is built, and of a field
    abbrev pub OfClean : CleanUp → List Todo → Type 0
    OfClean Ends todo = Lone todo
    OfClean (Frees r) todo = Lone todo
    OfClean c todo = OwnFields c × Sole c todo

    abbrev pub OfSort : Sort → List Todo → Type 0 → Type 0
    OfSort (IsClean c) todo rest = OfClean c todo × rest
    OfSort (IsPart c) todo rest = OfClean c todo × rest
    OfSort k todo rest = rest

    abbrev pub AllLone : List Todo → Type 0
    AllLone [] = Unit {0}
    AllLone (GoneNow ∷ todo) = Lone todo × AllLone todo
    AllLone (GiveUpNow ∷ todo) = Lone todo × AllLone todo
    AllLone (p ∷ todo) = OfSort (sort p) todo (AllLone todo)

  abbrev pub LoneStack : Exec → List Active → Type 0
  LoneStack n [] = Unit {0}
  LoneStack n (a ∷ older) = AllLone n a.frame a.this older a.control × LoneStack n older

  -- an execution of this name that does not run
  abbrev pub LoneEx : Exec → Execution (List Todo) Value → Type 0
  LoneEx n x = LoneStack n (x.run ∷ x.callers)

  abbrev pub LoneMembers : Home → Option Members → Type 0
  LoneMembers h m = MembersBy LoneEx h m

  pub record LoneState (s : State) : Type 0 where
    pub stack : LoneStack s.env.exec (s.run ∷ s.callers)
    pub env : EnvBy LoneEx s.env

  -- an object that goes is at home in what is the own of whoever runs, and there in nothing that is still to be cleaned up
  abbrev pub Freed : Request → State → Type 0
  Freed (ask.Gone o) s = Belongs few s.env.exec (few.home o) × Free o (Marked t s.env.exec (s.run ∷ s.callers))
  Freed r s = Unit {0}

  abbrev pub LoneStep : Step → Type 0
  LoneStep (Goes s) = LoneState s
  LoneStep (Ticks s) = LoneState s
  LoneStep (Asks r s) = LoneState s × Freed r s

  -- what is to hold where a mark is put: where a scope opens, and where a part of an object has been built
  abbrev pub PutsAt : List Todo → State → Type 0
  PutsAt (Rest (Scoped c rest) ∷ todo) s = OfClean s.env.exec s.run.frame s.run.this s.callers c todo
  PutsAt (Rest (Built c rest) ∷ todo) s = OfClean s.env.exec s.run.frame s.run.this s.callers c todo
  PutsAt todo s = Unit {0}

  abbrev pub Puts : State → Type 0
  Puts s = PutsAt s.run.control s
