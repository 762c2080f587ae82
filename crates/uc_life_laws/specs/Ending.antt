-- Who leaves the scope of a mutex object that is a variable, or a field of the object at hand, has no other mark around it: as the mark is reached,
-- up to where it enters the object, and as the destructor begins.
use Rattle.std.specs.Prelude.{◌≡◌, ℕ, Bool, true, false, List, [], ◌∷◌, drop, slice_get, Some}
use Rattle.uc_tree.specs.declared.limits.TheConstants.{DESTRUCTOR}
use Rattle.uc_tree.specs.Programs.{Program}
use Rattle.uc_tree.specs.Source.{Shape, Expr, OfObject, OwnField, EndOn, Load, Variable, CleanUp, Destroys, Ends, Frees, Stmts, Scoped, Routine, Source}
use Rattle.uc_machine.specs.Pieces.{Value, Todo, CallOnNow, CallUnwrittenNow, DropNow, Clean, Unwind, EnterNow, Within, Rest, State, Step, Goes, Ticks, Asks, at, top, further, FieldAt, loaded, variable_at, object_in}
use Rattle.uc_machine.specs.Quiet.{quiet}
use Rattle.uc_state_laws.specs.Layout.{Sized}
use Rattle.uc_state_laws.specs.RoomStacks.{StackState}
use Rattle.uc_state_laws.specs.RoomRuns.{Leads}
use Rattle.uc_typing.specs.Typing.{Table}
use Rattle.uc_life_laws.specs.Things.{Few}
use Rattle.uc_life_laws.specs.Belonging.{Belongs}
use Rattle.uc_life_laws.specs.Marks.{Marked, Free, LoneState, Puts}

-- where a mutex object is at home: at a variable, or at a field of the object at hand
pub data Spot : Type 0 where
  OfVariable : ℕ → Spot
  OfField : Shape → ℕ → Spot

abbrev pub naming : Spot → Expr
naming (OfVariable k) = Variable k
naming (OfField h i) = OfObject (OwnField h i)

abbrev pub place_at : Spot → State → Value
place_at (OfVariable k) s = variable_at k s
place_at (OfField h i) s = further (FieldAt h i) s.run.this

-- the clean-up of one, by a destructor that somebody wrote or by another
abbrev pub ends_at : Spot → ℕ → Bool → CleanUp
ends_at p r written = Destroys (OfObject (EndOn r written (Load (naming p))))

-- its scope is left next, by an unwinding or not; and what is to do behind the call of the destructor
abbrev pub leaving : Bool → CleanUp → List Todo → List Todo
leaving true c todo = Unwind ∷ (Clean c ∷ todo)
leaving false c todo = Clean c ∷ todo

abbrev pub behind : Bool → List Todo → List Todo
behind true todo = DropNow ∷ (Unwind ∷ todo)
behind false todo = DropNow ∷ todo

abbrev pub calling : Bool → ℕ → Todo
calling true r = CallOnNow r
calling false r = CallUnwrittenNow r

-- operands are dropped where an unwinding goes on
abbrev pub left_of : Bool → State → List Value
left_of true s = []
left_of false s = s.run.operands

-- it enters the object to which that place is bound
abbrev pub entering : Bool → Spot → ℕ → Bool → List Todo → State → State
entering unwinds p r written todo s =
    at (EnterNow DESTRUCTOR r ∷ (calling written r ∷ behind unwinds todo)) (loaded (place_at p s) s.env ∷ left_of unwinds s) s

module _ (t : Table) (few : Few) where
  -- an object is at home in what is the own of whoever runs, where nothing is cleaned up by what is then to do and by activations that wait
  abbrev pub LoneBefore : ℕ → List Todo → State → Type 0
  LoneBefore o todo s =
      Belongs few s.env.exec (few.home o) × Free t few o (Marked t s.env.exec (record s.run { control = todo } ∷ s.callers))

  -- a step to where a mark is put puts it so
  abbrev pub PutsThen : Step → Type 0
  PutsThen (Goes s) = Puts t few s
  PutsThen (Ticks s) = Unit {0}
  PutsThen (Asks r s) = Unit {0}

-- what begins by opening the scope in which it destroys or builds the mutex object at hand
abbrev pub OpensObject : Stmts → Type 0
OpensObject (Scoped Ends rest) = Unit {0}
OpensObject (Scoped (Frees r) rest) = Unit {0}
OpensObject ss = ⊥

-- the scope of an object opens behind the call of its constructor
abbrev pub opening : ℕ → CleanUp → Stmts → List Todo → List Todo
opening line c rest todo = DropNow ∷ (Within line ∷ (Rest (Scoped c rest) ∷ todo))

-- who leaves the scope of a mutex object comes by quiet steps and ticks alone to where it enters that to which the place is bound. Where activations
-- that use one frame stay behind one another, who leaves that of a variable has no mark around what is at home there, behind the call of the
-- destructor; nor has one who calls what builds it. Where marks are for what is the execution's own, so it is of a field
pub record LawLeft : Type 0 where
  pub leads : (source : Source) (s : State) (unwinds : Bool) (p : Spot) (r : ℕ) (written : Bool) (todo : List Todo) →
      s.run.control ≡ leaving unwinds (ends_at p r written) todo →
      Leads source s (entering unwinds p r written todo s)
  pub left : (p : Program) (t : Table) (few : Few) (s : State) → StackState (Sized p) s →
      (unwinds : Bool) (k r : ℕ) (written : Bool) (todo : List Todo) →
      s.run.control ≡ leaving unwinds (ends_at (OfVariable k) r written) todo →
      (o : ℕ) → few.home o ≡ variable_at k s → LoneBefore t few o (behind unwinds todo) s
  pub made : (p : Program) (t : Table) (few : Few) (s : State) → StackState (Sized p) s →
      (k q : ℕ) (ends written : Bool) (r line : ℕ) (rest : Stmts) (todo : List Todo) →
      s.run.control ≡ calling written r ∷ opening line (ends_at (OfVariable k) q ends) rest todo →
      (o : ℕ) → few.home o ≡ variable_at k s →
      LoneBefore t few o (opening line (ends_at (OfVariable k) q ends) rest todo) s
  pub field : (t : Table) (few : Few) (s : State) → LoneState t few s →
      (unwinds : Bool) (h : Shape) (i r c : ℕ) (written : Bool) (todo : List Todo) →
      (t.routine r).this ≡ Some c → (t.routine r).whole ≡ true →
      s.run.control ≡ leaving unwinds (ends_at (OfField h i) r written) todo →
      (o : ℕ) → few.home o ≡ further (FieldAt h i) s.run.this → LoneBefore t few o (behind unwinds todo) s

-- where what is called destroys or builds an object that is so, the mark with which it begins is put so
abbrev pub LawBegins : Type 0
LawBegins =
    (t : Table) (few : Few) (source : Source) (s : State) (written : Bool) (r : ℕ) (x : Routine) (todo : List Todo) →
    s.run.control ≡ calling written r ∷ todo → slice_get source.routines r ≡ Some x → OpensObject x.body →
    LoneBefore t few (object_in (top (drop x.params s.run.operands))) todo s →
    PutsThen t few (quiet source s)
