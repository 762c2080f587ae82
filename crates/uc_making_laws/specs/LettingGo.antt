-- Activations of an object by whom it is to be let go of: each is told of the mutex object at hand by what those that wait have at hand, or by what is still
-- to let go of the object, as it is built or destroyed: in the activation itself, or in an older one.
use Rattle.std.specs.Prelude.{◌≡◌, ℕ, ◌<◌, ◌⊎◌, Bool, true, false, List, [], ◌∷◌, drop, Option, Some, None, slice_get, if◌then◌else◌}
use Rattle.uc_tree.specs.Source as src
use Rattle.uc_tree.specs.Source.{CleanUp, Ends, Frees, Stmts, Scoped, Handlers, NoHandlers, MoreHandlers, Source, Routine, routine_of}
use Rattle.uc_entry.specs.declared.request.Answer.{Answer}
use Rattle.uc_entry.specs.declared.request.Request.{Request}
use Rattle.uc_entry.specs.declared.request.Request.TheVariants as ask
use Rattle.uc_machine.specs.declared.exec.Exec.{Exec}
use Rattle.uc_machine.specs.declared.exec.Home.{Home}
use Rattle.uc_machine.specs.declared.exec.Stage.{Stage}
use Rattle.uc_machine.specs.declared.exec.Stage.TheVariants.{Fresh, Started, Ended}
use Rattle.uc_machine.specs.Executions.{Execution, members_at}
use Rattle.uc_machine.specs.Switches.{new_exec}
use Rattle.uc_machine.specs.Monitors.{this_object}
use Rattle.uc_machine.specs.Raising.{Found, event_in, seek}
use Rattle.uc_machine.specs.Pieces as piece
use Rattle.uc_machine.specs.Pieces.{Value, Todo, Active, State, Members, Step, Goes, Ticks, Asks, top, below}
use Rattle.uc_machine.specs.Quiet.{quiet, home_at, first_state, routine_todo}
use Rattle.uc_machine.specs.Answering.{answered}
use Rattle.uc_typing.specs.Typing.{Table}
use Rattle.uc_life_laws.specs.Things.{Few, Things}
use Rattle.uc_life_laws.specs.LifeStates.{EnvBy, MembersBy}
use Rattle.uc_life_laws.specs.Silent.{AllSilent}
use Rattle.uc_life_laws.specs.Knowing.{main_of}
use Rattle.uc_depth_laws.specs.Owing.{owed_waiting}
use Rattle.uc_apart_laws.specs.Clear.{HomeAt, IsNoHome}
use Rattle.uc_making_laws.specs.NoOthers.{NoThis}

-- a clean-up lets go of the mutex object at hand, as that is destroyed or built; and statements are in such a scope as a whole
abbrev pub of_object : CleanUp → Bool
of_object Ends = true
of_object (Frees r) = true
of_object c = false

abbrev pub opens_object : Stmts → Bool
opens_object (Scoped c rest) = of_object c
opens_object ss = false

-- a piece does, or begins with what will
abbrev pub lets_go : Todo → Bool
lets_go (piece.Rest ss) = opens_object ss
lets_go (piece.Clean c) = of_object c
lets_go piece.MadeNow = true
lets_go (piece.SpawnNow r) = true
lets_go piece.GoneNow = true
lets_go piece.GiveUpNow = true
lets_go p = false

-- the object is still to be let go of
abbrev pub is_letting : List Todo → Bool
is_letting [] = false
is_letting (p ∷ todo) = if lets_go p then true else is_letting todo

-- behind what lets go of it the activation only comes to its end
abbrev pub BehindBy : Bool → Type 0 → Type 0 → Type 0
BehindBy true silent rest = silent
BehindBy false silent rest = rest

abbrev pub SilentBehind : List Todo → Type 0
SilentBehind [] = Unit {0}
SilentBehind (p ∷ todo) = BehindBy (lets_go p) (AllSilent todo) (SilentBehind todo)

-- `C`: the activation is told of its object by older ones. It waits with this to do, for another; or it runs, and may have let go of the object
abbrev pub WaitsBy : Type 0 → List Todo → Type 0
WaitsBy C todo = SilentBehind todo × (C ⊎ (is_letting todo ≡ true))

abbrev pub RunsBy : Type 0 → List Todo → Type 0
RunsBy C todo = SilentBehind todo × (C ⊎ ((is_letting todo ≡ true) ⊎ AllSilent todo))

-- statements are in no such scope as a whole; nor are those of handlers, and those of one that is found
abbrev pub IsClosed : Stmts → Type 0
IsClosed ss = opens_object ss ≡ false

abbrev pub AllClosed : Handlers → Type 0
AllClosed NoHandlers = Unit {0}
AllClosed (MoreHandlers resumes event cell line body rest) = IsClosed body × AllClosed rest

abbrev pub FoundClosed : Option Found → Type 0
FoundClosed None = Unit {0}
FoundClosed (Some y) = IsClosed y.handler.body

-- what is asked of a statement, of statements that are left, and of a list that is unwound: within statements and in handlers none are in such a scope as
-- a whole, nor is a part of an object let go of so
abbrev pub OpensStmt : src.Stmt → Type 0
OpensStmt (src.Block line body) = IsClosed body
OpensStmt (src.Whole line body) = IsClosed body
OpensStmt (src.OfEvents (src.Try line body hs)) = IsClosed body
OpensStmt a = Unit {0}

abbrev pub OpensStmts : Stmts → Type 0
OpensStmts src.Nil = Unit {0}
OpensStmts (src.Then a rest) = IsClosed rest
OpensStmts (Scoped c rest) = IsClosed rest
OpensStmts (src.Built c rest) = IsClosed rest

abbrev pub LeavesAt : List Todo → Type 0
LeavesAt (piece.Part c ∷ todo) = of_object c ≡ false
LeavesAt (piece.Guard hs ∷ todo) = AllClosed hs
LeavesAt todo = Unit {0}

module _ (t : Table) (few : Few) where
  -- the place where a mutex object is at home stands in what these activations have at hand, or they have it itself as one that is not whole, or one of them
  -- is to let go of the object; object 0 is that of the program's main, which the main of task 0 has
  abbrev pub IsTold : Exec → List Active → ℕ → Type 0
  IsTold n older o = ((o ≡ 0) × (n ≡ main_of 0)) ⊎
      (((c : ℕ) × HomeAt t few o (Things t few n older) c) ⊎
      (0 < owed_waiting o older))

  abbrev pub Told : Exec → List Active → Value → Type 0
  Told n older (piece.Number z) = Unit {0}
  Told n older (piece.Place o p) = Unit {0}
  Told n older (piece.Running x) = Unit {0}
  Told n older (piece.Object o) = IsTold n older o
  Told n older piece.Nothing = Unit {0}

  -- activations that wait
  abbrev pub LetsStack : Exec → List Active → Type 0
  LetsStack n [] = Unit {0}
  LetsStack n (a ∷ older) = WaitsBy (Told n older a.this) a.control × LetsStack n older

  -- with the one that runs before them
  abbrev pub LetsFrom : Exec → Active → List Active → Type 0
  LetsFrom n a older = RunsBy (Told n older a.this) a.control × LetsStack n older

  -- an execution of this name that does not run; one that has ended never goes on
  abbrev pub LetsBy : Stage → Exec → Active → List Active → Type 0
  LetsBy Fresh n a older = LetsFrom n a older
  LetsBy Started n a older = LetsFrom n a older
  LetsBy Ended n a older = Unit {0}

  abbrev pub LetsEx : Exec → Execution (List Todo) Value → Type 0
  LetsEx n x = LetsBy x.links.stage n x.run x.callers

  abbrev pub LetsMembers : Home → Option Members → Type 0
  LetsMembers h m = MembersBy LetsEx h m

  pub record LetsState (s : State) : Type 0 where
    pub stack : LetsFrom s.env.exec s.run s.callers
    pub env : EnvBy LetsEx s.env

  -- what is spawned is told of its object; and who asks that an object goes only comes to its end
  abbrev pub LetsAsked : Request → State → Type 0
  LetsAsked (ask.Spawn o) s = IsTold (main_of o) [] o
  LetsAsked (ask.Gone o) s = AllSilent s.run.control
  LetsAsked r s = Unit {0}

  abbrev pub LetsStep : Step → Type 0
  LetsStep (Goes s) = LetsState s
  LetsStep (Ticks s) = LetsState s
  LetsStep (Asks r s) = LetsState s × LetsAsked r s

  -- what a step is to find: what is called, on an object, is told of it, or lets go of it; what is made or spawned is told of it
  abbrev pub CallTold : Source → ℕ → List Todo → State → Type 0
  CallTold source r todo s = (x : Routine) → slice_get source.routines r ≡ Some x →
      Told s.env.exec (record s.run { control = todo; operands = below (drop x.params s.run.operands) } ∷ s.callers) (top (drop x.params s.run.operands)) ⊎
      (is_letting (routine_todo x) ≡ true)

  abbrev pub LettingAt : Source → List Todo → State → Type 0
  LettingAt source (piece.CallOnNow r ∷ todo) s = CallTold source r todo s
  LettingAt source (piece.CallUnwrittenNow r ∷ todo) s = CallTold source r todo s
  LettingAt source (piece.SetUpNow r ∷ todo) s = (m : Members) → members_at (home_at s.run.this s.env) s.env ≡ Some m →
      Told (new_exec (home_at s.run.this s.env) s.env) [] s.run.this
  LettingAt source (piece.SpawnNow r ∷ todo) s = IsTold (main_of (this_object s)) [] (this_object s)
  LettingAt source (piece.Do a ∷ todo) s = OpensStmt a
  LettingAt source (piece.Rest ss ∷ todo) s = OpensStmts ss
  LettingAt source (piece.Unwind ∷ todo) s = LeavesAt todo
  LettingAt source (piece.RaiseNow ∷ todo) s = FoundClosed (seek None (event_in s.run.operands) (record s.run { control = todo } ∷ s.callers))
  LettingAt source todo s = Unit {0}

  -- so it is in a state in which it is so of all activations
  abbrev pub FindsTold : Source → State → Type 0
  FindsTold source s = LetsState s → LettingAt source s.run.control s

-- a task begins so whose object is told of by what it has of others; each quiet step keeps it where it finds that, of whatever source, and so does each
-- answer; and who asks that an object goes only comes to its end. So where the home of an object other than object 0 is in nothing that an execution has at hand, and of those that wait none is to let go of the
-- object, none of them is of it
pub record LawLetting : Type 0 where
  pub begins : (t : Table) (few : Few) (source : Source) (r o : ℕ) → IsTold t few (main_of o) [] o →
      LetsState t few (first_state (routine_of source r) o)
  pub steps : (t : Table) (few : Few) (source : Source) (s : State) → LetsState t few s →
      LettingAt t few source s.run.control s → LetsStep t few (quiet source s)
  pub told : (t : Table) (few : Few) (source : Source) (given : Answer) (s : State) →
      LetsState t few s → LetsState t few (answered source given s)
  pub none : (t : Table) (few : Few) (o : ℕ) (n : Exec) (cs : List Active) → LetsStack t few n cs → (o ≡ 0 → ⊥) →
      IsNoHome t few o (Things t few n cs) → owed_waiting o cs ≡ 0 → NoThis o cs
