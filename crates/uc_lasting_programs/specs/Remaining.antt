-- What a step is still to find where all is known, but what a state in order tells; of the object at hand nothing is asked, and a task that is spawned has its
-- object, as the run tells it, and so has an execution that is made.
use Rattle.std.specs.Prelude.{◌≡◌, ◌⊎◌, ℕ, zero, suc, Bool, false, true, List, [], ◌∷◌, slice_index_or, Option}
use Rattle.uc_tree.specs.Source.{Expr, ObjectExpr, Variable, OfObject, GetOwn, Scoped}
use Rattle.uc_machine.specs.declared.exec.Exec.{Exec}
use Rattle.uc_machine.specs.declared.exec.Owner.{Owner}
use Rattle.uc_machine.specs.declared.exec.Owner.TheVariants.{Frame}
use Rattle.uc_machine.specs.Pieces.{Link, FieldAt, Value, Place, Rest, Todo, Eval, LoadNow, State, address, further, loaded, nought, top, variable_at}
use Rattle.uc_typing.specs.Typing.{Ty, Num, Cell, Obj, Raw, Row, Pro, Name, Sig, Table, CleansAt, Yields}
use Rattle.uc_typing.specs.States.{IsNumbered}
use Rattle.uc_life_laws.specs.Things.{Few, IsField, IsBinding, IsMutex, IsUnbound, Within, IsFew, IsMade, Known}
use Rattle.uc_life_laws.specs.HomedStates.{Owns, Inside}
use Rattle.uc_life_laws.specs.LifeStates.{BehindMark, Outwards, frame_at}
use Rattle.uc_life_laws.specs.Lives.{OutwardsOrMade}
use Rattle.uc_life_laws.specs.Knowing.{ReadsKnown}
use Rattle.uc_building_laws.specs.BuildingStates.{BuiltState}
use Rattle.uc_building_laws.specs.BuildingRuns.{IsByNumber}
use Rattle.uc_building_laws.specs.BuiltReads.{reads_bound}
use Rattle.uc_building_laws.specs.ScopedReads.{in_own, in_others}
use Rattle.uc_lasting_programs.specs.Lent.{reads_lent}
use Rattle.uc_lasting_programs.specs.Lying.{LiesLeft, IsSeen}
use Rattle.uc_lasting_programs.specs.OfOthers.{IsOfOthers}

module _ (t : Table) (few : Few) (gs : List Sig) (g : Sig) (sc : List Name) (s : State) where
  -- a binding is read in a variable in scope, of the running execution or of another one, or elsewhere: it is known, in the first case by what is in scope, in the
  -- second as far as it lies in what is at hand, and so it is in the third if it is of its type, with such a number
  abbrev pub BoundLeft : (own others : Bool) → Ty → Value → Type 0
  BoundLeft true others a v = Unit {0}
  BoundLeft false true a v = LiesLeft t few gs g s a (loaded v s.env)
  BoundLeft false false a v = ReadsKnown t few gs s a v ⊎ IsSeen t few gs g s a (loaded v s.env)

  -- what is read at a place is known: of a number nothing is asked, and of what is to be destroyed only that it is one with such a number
  abbrev pub ReadsLeft : Ty → Value → Type 0
  ReadsLeft Num v = Unit {0}
  ReadsLeft (Raw c) v = IsMade t few s.env.exec c (loaded v s.env)
  ReadsLeft a v = BoundLeft (in_own t s a v) (in_others t s a v) a v

-- what a reference of the object at hand is bound to that was lent to this is known as far as it lies in what is at hand
abbrev pub UnlessLent : (lent : Bool) → (lies left : Type 0) → Type 0
UnlessLent true lies left = lies
UnlessLent false lies left = left

module _ (t : Table) (owns : Owns) (few : Few) (class : ℕ → Option ℕ) (gs : List Sig) (g : Sig) (sc : List Name) (s : State) where
  -- numbers that were made
  abbrev pub was_made : ℕ → ℕ → Bool
  was_made c o = few.numbers (Raw c) o

  abbrev pub ObjectLeft : ObjectExpr → Ty → Type 0
  ObjectLeft (GetOwn k i) a = UnlessLent (reads_lent t owns few.home was_made class s g.this i s.run.this)
      (LiesLeft t few gs g s a (loaded (further (FieldAt k i) s.run.this) s.env)) (ReadsLeft t few gs g sc s a (further (FieldAt k i) s.run.this))
  ObjectLeft o a = Unit {0}

  abbrev pub ExprLeft : Expr → Ty → Type 0
  ExprLeft (OfObject o) a = ObjectLeft o a
  ExprLeft e a = Unit {0}

  abbrev pub FindsLeft : List Todo → List Ty → Type 0
  FindsLeft (Eval e ∷ todo) own = (a : Ty) → Yields t g sc e a → ExprLeft e a
  FindsLeft (LoadNow ∷ todo) (Cell a ∷ more) = ReadsLeft t few gs g sc s a (top s.run.operands)
  FindsLeft todo own = Unit {0}

-- a processor that is a variable, and an array of what is known by its number: mutex objects, clusters or processors
abbrev pub IsLeftCells : Table → Ty → Type 0
IsLeftCells t (Cell Pro) = Unit {0}
IsLeftCells t (Row n (Cell b)) = IsByNumber t b
IsLeftCells t a = ⊥

module _ (t : Table) (owns : Owns) (few : Few) (n : Exec) (K : Value → Ty → Type 0) (o : Owner) (vs : List Value) where
  -- a value is an object with such a number
  abbrev pub IsOne : Ty → Value → Type 0
  IsOne b v = IsNumbered v × IsFew t few n b v

  -- each binding within a thing is to a scalar's place or a plain object that is another's, or holds what is known, or is an own mutex object of the variable u
  -- of the type c, in which the thing lies, and holds one that has such a number
  abbrev pub HoldsLeft : Value → Ty → Value → Ty → Type 0
  HoldsLeft u c w a = (p : List Link) (b : Ty) → Within t w a (Place o p) (Cell b) → IsBinding b →
      IsOfOthers t n b (slice_index_or vs (address p) nought) ⊎
      (Known t few n K b (slice_index_or vs (address p) nought) ⊎
      (IsMutex t b × Inside t owns u c (Place o p) (Cell b) × IsOne b (slice_index_or vs (address p) nought)))

-- where the scope of an array of plain objects opens that is a variable, and where that of a plain object does, of the fields of which `heads` does not tell, that
-- holds what is left, if something is bound in it; and a processor that is a variable, and what elements are of an array of what is known by its number, has such
-- a number
abbrev pub OpensLeftAt : Table → Owns → (ℕ → ℕ → Bool) → Few → BehindMark → List Todo → State → Type 0
OpensLeftAt t owns heads few K (Rest (Scoped c rest) ∷ todo) s =
    ((k m i : ℕ) → CleansAt t (Row m (Obj i)) (Variable k) c → (IsUnbound t (Row m (Obj i)) → ⊥) →
    HoldsLeft t owns few s.env.exec (K (Outwards t few s.env.exec s.run.frame s.run.this s.callers c todo) s.env.exec s.run.frame s.run.this s.callers) (Frame s.env.exec s.run.frame) (frame_at s.run.frame s.env.frames) (variable_at k s) (Row m (Obj i)) (variable_at k s) (Row m (Obj i))) ×
    ((k i : ℕ) → CleansAt t (Obj i) (Variable k) c → (m : ℕ) → IsField t i m → heads i m ≡ false →
    (IsUnbound t (t.fields i m) → ⊥) →
    HoldsLeft t owns few s.env.exec (K (Outwards t few s.env.exec s.run.frame s.run.this s.callers c todo) s.env.exec s.run.frame s.run.this s.callers) (Frame s.env.exec s.run.frame) (frame_at s.run.frame s.env.frames) (variable_at k s) (Obj i) (further (FieldAt (t.shape i) m) (variable_at k s)) (t.fields i m)) ×
    ((k : ℕ) (a : Ty) → CleansAt t a (Variable k) c → IsLeftCells t a → (p : List Link) (b : Ty) →
    Within t (variable_at k s) a (Place (Frame s.env.exec s.run.frame) p) (Cell b) →
    IsFew t few s.env.exec b (slice_index_or (frame_at s.run.frame s.env.frames) (address p) nought))
OpensLeftAt t owns heads few K todo s = Unit {0}

-- a step finds what it is to find: in a state in which all is known by kinds by which variables in scope hold what is known, and so do objects that are built:
-- by some such kinds it finds what is left, but of what constructors have bound where they read it, and where a scope opens, what that is of holds what is known
pub record MeetsLeft (t : Table) (owns : Owns) (heads : ℕ → ℕ → Bool) (class : ℕ → Option ℕ) (few : Few) (s : State) : Type 0 where
  pub finds : BuiltState t heads few [] s → (x : BuiltState t heads few [] s) ×
      ((reads_bound t heads x.0.run.sig s ≡ false → FindsLeft t owns few class x.0.sigs x.0.run.sig x.0.run.scope s s.run.control x.0.run.own) ×
      OpensLeftAt t owns heads few (OutwardsOrMade x.0.sigs) s.run.control s)

-- but in the states in which a clean-up finds and reads the variable that it ends
abbrev pub LeftOutside : Table → Owns → (ℕ → ℕ → Bool) → (ℕ → Option ℕ) → Few → ℕ → State → Type 0
LeftOutside t owns heads class few zero s = MeetsLeft t owns heads class few s
LeftOutside t owns heads class few (suc n) s = Unit {0}
